-- The search goes backwards from the last key that is at or before the instant. The search covers all keys with the
-- wanted instant.
use Rattle.std.proofs.Common.{◌≡◌, ◌≢◌, ◌≤ℤ◌, ◌<ℤ◌, List, ap, sym, ◌∙◌, arith, w64, to_z, of_z}
use Rattle.std.specs.List.{list_any}
use Rattle.std.proofs.lemmas.Int.{ints}
use Rattle.sorted_keys.specs.declared.key.Key.{Key}
use Rattle.sorted_keys.specs.Keys.{is_key}
use Rattle.sorted_keys.proofs.BlockLemmas.{IsBehind, behind-holds, keys-before, no-key-earlier}
use Rattle.sorted_keys.proofs.block.Block.has.Goals as goal

pub loop-end-init : goal.loop-end-init
loop-end-init c =
    let t = to_z w64 (of_z w64 c.args.instant) in
    record {
      within = c.place_behind-end.ensures.within;
      not_later = c.place_behind-end.ensures.not_later;
      same = keys-before t c.args.seq c.self.inside.keys.items c.place_behind-end.result c.place_behind-end.ensures
          ∙ ap (λ (l : List Key). list_any (is_key t c.args.seq) l) c.self.view_is;
    }

pub returns-then-ends_before : goal.returns-then-ends_before
returns-then-ends_before c =
    let now : to_z w64 (of_z w64 c.args.instant) ≡ c.args.instant = omega (arith, ints) in
    rw now at (sym (c.ends_before.ensures c.if-ends_before.true c.args.seq))

pub returns-then-key-instant : goal.returns-then-key-instant
returns-then-key-instant c =
    let t = to_z w64 (of_z w64 c.args.instant) in
    let now : t ≡ c.args.instant = omega (arith, ints) in
    let behind : IsBehind c.self.inside.keys.items c.loop-end.end c.index-key.result.now = record { some = c.loop-end-test.true; within = c.loop-end.invariant.within; read = c.index-key.ensures } in
    let not_later = behind-holds (λ k. k.instant ≤ℤ t) c.self.inside.keys.items c.loop-end.end c.index-key.result.now behind c.loop-end.invariant.not_later in
    let other : c.index-key.result.now.instant ≢ t = λ e. c.if-key-instant.true (ap (of_z w64) (e ∙ now)) in
    let earlier : c.index-key.result.now.instant <ℤ t = grind (arith, ints) in
    let none = no-key-earlier t c.args.seq c.self.inside.keys.items c.loop-end.end c.index-key.result.now behind c.self.invariant.1 earlier in
    rw now at (sym none ∙ c.loop-end.invariant.same)
