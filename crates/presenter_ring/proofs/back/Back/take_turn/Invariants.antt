use Rattle.std.proofs.Common.{◌≡◌, ◌+◌, length}
use Rattle.rtrb.specs.Ring.{received, known_items}
use Rattle.presenter_ring.specs.state.Backs.{HasPresented}
use Rattle.presenter_ring.proofs.back.Back.take_turn.Given as goal

abbrev pub invariant-loop : goal.invariant-loop
invariant-loop g l = record {
  presented : HasPresented g.P.Presenter.handed l.initial.presenter l.presenter l.initial.self l.self;
  popped : length (received l.self.consumer) ≡ length (received l.initial.self.consumer) + l.counter;
  known : l.counter ≡ 0 → known_items l.self.consumer ≡ known_items l.initial.self.consumer;
  quiet : g.P.Presenter.faults l.presenter ≡ g.P.Presenter.faults l.initial.presenter;
}
