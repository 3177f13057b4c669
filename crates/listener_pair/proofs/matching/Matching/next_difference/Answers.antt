-- If no batch of the known part is left, the matching is idle.
use Rattle.std.proofs.Common.{◌≤◌, Option, Some, None, length, rules, ap, sym, ◌∙◌, arith}
use Rattle.std.specs.Prelude.{slice_get}
use Rattle.std.specs.Option.{option_to_list}
use Rattle.listener_pair.specs.Merged.{known, merged}
use Rattle.listener_pair.specs.Differences.{differences}
use Rattle.listener_pair.proofs.Standing.{idle-none, no-next}
use Rattle.listener_pair.proofs.matching.Matching.next_difference.Goals as goal

pub returns-in_default : goal.returns-in_default
returns-in_default c =
    let i = c.loop-side.invariant in
    let idle = no-next c.loop-side.self (sym c.next_side.ensures ∙ c.in_default.is) in
    record {
      given = λ xs ys given s.
          sym (ap (λ e. slice_get (differences (known e c.args.self.now.ended_b (merged xs ys))) given) (sym i.ended_a)
          ∙ ap (λ e. slice_get (differences (known c.loop-side.self.ended_a e (merged xs ys))) given) (sym i.ended_b)
          ∙ idle-none xs ys given c.loop-side.self (i.stands xs ys given s) idle);
      stands = search rules;
      idle = idle;
      ended = (i.ended_a, i.ended_b);
      less = search rules;
    }

at-most-one : {T : Type 0} (o : Option T) → length (option_to_list o) ≤ 1
at-most-one None = omega arith
at-most-one (Some x) = omega arith

-- a call that returns a difference uses up the next batch of a side
pub returns-then-is_some : goal.returns-then-is_some
returns-then-is_some c =
    let one = at-most-one c.step-difference.result in
    let step = c.step-difference.ensures.less in
    let so_far = c.loop-side.invariant.less in
    record {
      given = search rules;
      stands = search rules;
      idle = search rules;
      ended = search rules;
      less = omega arith;
    }
