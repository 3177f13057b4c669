-- The packets are delivered one after another.
use Rattle.std.proofs.Common.{◌≡◌, ℕ, ℤ, suc, ◌+◌, List, ◌++◌, sym, ap, ◌∙◌, arith}
use Rattle.soak_run.specs.Generator.{first_state, state_after}
use Rattle.soak_run.specs.Network.{all_copies, copies, draws_before}
use Rattle.soak_run.proofs.SoakLemmas.{copies-more, none-drawn}
use Rattle.soak_run.proofs.deliveries.copies_of_all.Goals as goal

pub loop-number-init : goal.loop-number-init
loop-number-init c = (none-drawn c.args.packets c.new-noise.result (c.new-noise.ensures ∙ ap first_state c.from.ensures), c.new-copies.ensures.items)

pub loop-number-preserved : goal.loop-number-preserved
loop-number-preserved c =
    let next : suc c.loop-number.number ≡ c.loop-number.number + 1 = omega arith in (
      (c.in_ok-deliver.ensures c.args.packets c.loop-number.invariant.0).drawn ∙ ap (λ (n : ℕ). state_after c.args.packets (draws_before c.args.packets n)) next,
      (c.in_ok-deliver.ensures c.args.packets c.loop-number.invariant.0).copied
          ∙ ap (λ (l : List (ℤ × ℕ)). l ++ copies c.args.packets c.loop-number.number) c.loop-number.invariant.1
          ∙ sym (copies-more c.args.packets c.loop-number.number)
          ∙ ap (λ (n : ℕ). all_copies c.args.packets n) next,
    )
