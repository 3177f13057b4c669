use Rattle.std.proofs.Common.{List, Ok, ◌≡◌, ◌+◌, ◌≤◌, ◌^◌}
use Rattle.sample_schedule.specs.declared.shown.Shown.{Shown}
use Rattle.capture_io.specs.Source.{slot_of}
use Rattle.presenter_ring.specs.Pipes.{ended_with, given_to, work}
use Rattle.run_report.specs.Yield.{HandsOn}
use Rattle.capture_hearing.specs.Hearing.{Shows, ended_at, left_of}
use Rattle.listen_command.specs.state.Presenting.{GivesItems, Passes}
use Rattle.listen_command.proofs.rounds.present_all.Given as goal

abbrev pub invariant-loop : goal.invariant-loop
invariant-loop g l =
    record {
      passes : Passes
          (λ (items : List Shown). (l.receiver.shelf.ghost_name ≡ l.fn.receiver.shelf.ghost_name) × (l.receiver.hearing.ghost_name ≡ l.fn.receiver.hearing.ghost_name)
          × Shows (g.F.Shelf.state l.fn.receiver.shelf.now) (g.F.Shelf.state l.receiver.shelf.now) l.fn.receiver.hearing.now.source l.receiver.hearing.now.source l.fn.receiver.hearing.now.listener l.receiver.hearing.now.listener l.receiver.hearing.now.stage items)
          (λ (items : List Shown). (l.presenter.text.ghost_name ≡ l.fn.presenter.text.ghost_name) × (l.presenter.out.ghost_name ≡ l.fn.presenter.out.ghost_name) × (l.presenter.rack.ghost_name ≡ l.fn.presenter.rack.ghost_name)
          × (l.fn.presenter.result ≡ Ok tt → GivesItems (HandsOn g.D.Devices.handed l.fn.presenter.rack.now l.presenter.rack.now) (g.S.Sink.state l.fn.presenter.out.now) (g.S.Sink.state l.presenter.out.now) l.fn.presenter.text.now l.presenter.text.now l.presenter.result items))
          l.pipe;
      fine : l.presenter.result ≡ Ok tt;
      ends : ended_with l.pipe ≡ ended_at ((g.F.Shelf.state l.receiver.shelf.now).slots (slot_of l.receiver.hearing.now.source)) l.receiver.hearing.now.stage;
      room : given_to l.pipe + left_of l.receiver.hearing.now.stage l.receiver.hearing.now.source l.receiver.hearing.now.listener ≤ 2 ^ 62;
    }

abbrev pub decreases-loop : goal.decreases-loop
decreases-loop g l = work (left_of l.receiver.hearing.now.stage l.receiver.hearing.now.source l.receiver.hearing.now.listener) l.pipe
