use Rattle.std.proofs.Common.{◌≡◌, ◌+◌, ◌≤◌, ◌^◌, None}
use Rattle.presenter_ring.specs.Pipes.{ended_with, given_to, work}
use Rattle.measured.proofs.rounds.drain.Given as goal

abbrev pub invariant-loop : goal.invariant-loop
invariant-loop g l = record {
  live : ended_with l.pipe ≡ None → g.R.Receiver.ended l.receiver ≡ None;
  room : given_to l.pipe + g.R.Receiver.left l.receiver ≤ 2 ^ 62;
}

abbrev pub decreases-loop : goal.decreases-loop
decreases-loop g l = work (g.R.Receiver.left l.receiver) l.pipe
