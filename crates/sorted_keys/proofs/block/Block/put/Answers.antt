use Rattle.std.proofs.Common.{◌≡◌, List, arith, rules, ap, sym, subst, ◌∙◌, w64, to_z, of_z}
use Rattle.std.proofs.lemmas.Int.{ints}
use Rattle.sorted_keys.specs.declared.key.Key.{Key}
use Rattle.sorted_keys.specs.Keys.{put_key}
use Rattle.sorted_keys.specs.state.Keys.{KeysAreInOrder}
use Rattle.sorted_keys.proofs.BlockLemmas.{in_order-put, placed}
use Rattle.sorted_keys.proofs.block.Block.put.Goals as goal

put : (c : goal.After-insert_at) → c.insert_at.new.queue.items ≡ put_key c.self.inside.keys.items c.args.key
put c =
    let is : to_z w64 (of_z w64 c.args.key.instant) ≡ c.args.key.instant = search (rules, ints) in
    c.insert_at.ensures.items ∙ placed c.self.inside.keys.items c.place_behind-place.result c.args.key (rw is at c.place_behind-place.ensures)

pub invariant_of-self : goal.invariant_of-self
invariant_of-self c =
    let capacity = c.self.invariant.0 in
    let kept = c.insert_at.ensures.capacity in
    (omega arith, subst KeysAreInOrder (sym (put c)) (in_order-put c.self.inside.keys.items c.args.key c.self.invariant.1))

pub returns : goal.returns
returns c = put c ∙ ap (λ (l : List Key). put_key l c.args.key) c.self.view_is
