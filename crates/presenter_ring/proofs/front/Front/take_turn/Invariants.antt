use Rattle.std.proofs.Common.{◌≡◌, ◌+◌, length}
use Rattle.rtrb.specs.Ring.{sent, known_free}
use Rattle.presenter_ring.specs.state.Fronts.{HasFed}
use Rattle.presenter_ring.proofs.front.Front.take_turn.Given as goal

abbrev pub invariant-loop-turn : goal.invariant-loop-turn
invariant-loop-turn g l = record {
  fed : HasFed g.R.Receiver.gave g.R.Receiver.left g.R.Receiver.ended l.initial.receiver l.receiver l.initial.self l.self;
  pushed : length (sent l.self.producer) ≡ length (sent l.initial.self.producer) + l.turn;
  known : l.turn ≡ 0 → known_free l.self.producer ≡ known_free l.initial.self.producer;
}
