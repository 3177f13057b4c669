-- The items shown so far were counted, except for those that wait in the pipe.
use Rattle.std.proofs.Common.{length}
use Rattle.presenter_ring.specs.Pipes.{work}
use Rattle.soak_run.proofs.RoundLemmas.{HasCounted, left}
use Rattle.soak_run.proofs.run.hear.Given as goal

abbrev pub invariant-loop : goal.invariant-loop
invariant-loop g l = HasCounted (length l.fn.deliveries) l.initial.hearing l.hearing l.pipe l.counts

abbrev pub decreases-loop : goal.decreases-loop
decreases-loop g l = work (left l.hearing) l.pipe
