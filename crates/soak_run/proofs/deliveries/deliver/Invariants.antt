-- `counter` copies of the packet were delivered.
use Rattle.std.proofs.Common.{◌≡◌, ℕ}
use Rattle.soak_run.specs.Generator.{state_after}
use Rattle.soak_run.specs.Network.{draws_before}
use Rattle.soak_run.proofs.SoakLemmas.{Delivering}
use Rattle.soak_run.proofs.deliveries.deliver.Given as goal

abbrev pub invariant-loop : goal.invariant-loop
invariant-loop l = (seed : ℕ) → l.fn.noise ≡ state_after seed (draws_before seed l.number) → Delivering seed l.number l.counter l.noise l.fn.copies.items l.copies.items
