use Rattle.std.proofs.Common.{◌++◌, List, arith, ap, sym, subst, ◌∙◌}
use Rattle.std.proofs.lemmas.List.{append-nil}
use Rattle.sorted_keys.specs.declared.key.Key.{Key}
use Rattle.sorted_keys.specs.state.Keys.{KeysAreInOrder}
use Rattle.sorted_keys.proofs.BlockLemmas.{in_order-left, in_order-right}
use Rattle.sorted_keys.proofs.block.Block.split.Goals as goal

in_order : (c : goal.After-move_behind) → KeysAreInOrder (c.move_behind.new.keys.items ++ c.move_behind.new.others.items)
in_order c =
    let none = c.upper.view_is ∙ c.requires.empty in
    let all = c.move_behind.ensures.moves.all ∙ ap (λ (l : List Key). c.self.inside.keys.items ++ l) none ∙ append-nil c.self.inside.keys.items in
    subst KeysAreInOrder (sym all) c.self.invariant.1

pub invariant_of-self : goal.invariant_of-self
invariant_of-self c =
    let capacity = c.self.invariant.0 in
    let kept = c.move_behind.ensures.capacity in
    (omega arith, in_order-left c.move_behind.new.keys.items c.move_behind.new.others.items (in_order c))

pub invariant_of-upper : goal.invariant_of-upper
invariant_of-upper c =
    let capacity = c.upper.invariant.0 in
    let kept = c.move_behind.ensures.others_capacity in
    (omega arith, in_order-right c.move_behind.new.keys.items c.move_behind.new.others.items (in_order c))
