-- The packets with numbers less than `number` were delivered.
use Rattle.std.proofs.Common.{◌≡◌}
use Rattle.soak_run.specs.Generator.{state_after}
use Rattle.soak_run.specs.Network.{all_copies, draws_before}
use Rattle.soak_run.proofs.deliveries.copies_of_all.Given as goal

abbrev pub invariant-loop-number : goal.invariant-loop-number
invariant-loop-number l =
    (l.noise ≡ state_after l.packets (draws_before l.packets l.number)) × (l.copies.items ≡ all_copies l.packets l.number)
