use Rattle.std.proofs.Common.{◌≡◌, ◌+◌, ◌≤◌, ◌^◌, [], None}
use Rattle.capture_hearing.specs.Hearing.{left_of, pull_at}
use Rattle.gateway_command.proofs.TurningTo.{IsPutSoFar}
use Rattle.gateway_command.proofs.turning.turn_records.Given as goal

abbrev pub invariant-loop-hearing : goal.invariant-loop-hearing
invariant-loop-hearing g l =
    record {
      going : pull_at l.hearing.stage ≡ None;
      few : l.output.gateway.given.batches + left_of l.hearing.stage l.hearing.source l.hearing.listener ≤ 2 ^ 41;
      so_far : IsPutSoFar (g.F.Shelf.state l.fn.shelf) (g.F.Shelf.state l.shelf) l.fn.hearing.source l.hearing.source l.fn.hearing.listener l.hearing.listener l.hearing.stage l.fn.output l.output
          (g.S.Sink.state l.fn.out) (g.S.Sink.state l.out) l.fn.text l.text [];
    }

abbrev pub decreases-loop-hearing : goal.decreases-loop-hearing
decreases-loop-hearing g l = left_of l.hearing.stage l.hearing.source l.hearing.listener
