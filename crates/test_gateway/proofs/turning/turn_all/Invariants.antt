use Rattle.std.proofs.Common.{◌≤◌}
use Rattle.test_gateway.proofs.turning.turn_all.Given as goal

abbrev pub invariant-loop-k : goal.invariant-loop-k
invariant-loop-k l = record { few : l.gateway.given.batches ≤ l.k }
