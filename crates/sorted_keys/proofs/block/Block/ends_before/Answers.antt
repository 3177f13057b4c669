use Rattle.std.proofs.Common.{◌≡◌, ◌<◌, ◌-◌, ◌<ℤ◌, false, List, get_or, length, rules, subst}
use Rattle.std.specs.List.{list_any}
use Rattle.std.proofs.lemmas.Int.{ints}
use Rattle.sorted_keys.specs.declared.key.Key.{Key}
use Rattle.sorted_keys.specs.Keys.{is_key}
use Rattle.sorted_keys.proofs.BlockLemmas.{none-behind}
use Rattle.sorted_keys.proofs.block.Block.ends_before.Goals as goal

pub returns-in-Some : goal.returns-in-Some
returns-in-Some c earlier seq =
    let some : 0 < length c.self.inside.keys.items = search rules in
    let read : c.in-Some.last.now ≡ get_or c.self.inside.keys.items (length c.self.inside.keys.items - 1) c.in-Some.last.now = search rules in
    let before : c.in-Some.last.now.instant <ℤ c.args.instant = search (rules, ints) in
    subst (λ (l : List Key). list_any (is_key c.args.instant seq) l ≡ false) c.self.view_is
    (none-behind c.args.instant seq c.self.inside.keys.items c.in-Some.last.now some read c.self.invariant.1 before)
