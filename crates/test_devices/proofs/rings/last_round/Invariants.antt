use Rattle.std.proofs.Common.{◌≡◌, ◌+◌, ◌≤◌, ◌^◌, None}
use Rattle.presenter_ring.specs.Pipes.{ended_with, given_to, work}
use Rattle.test_devices.proofs.rings.last_round.Given as goal

abbrev pub invariant-loop-last : goal.invariant-loop-last
invariant-loop-last g l = record {
  live : ended_with l.pipe ≡ None → g.R.Receiver.ended l.receiver ≡ None;
  room : given_to l.pipe + g.R.Receiver.left l.receiver ≤ 2 ^ 62;
}

abbrev pub decreases-loop-last : goal.decreases-loop-last
decreases-loop-last g l = work (g.R.Receiver.left l.receiver) l.pipe
