use Rattle.std.proofs.Common.{◌≡◌, [], None}
use Rattle.capture_hearing.specs.Hearing.{GoesOn, pull_at, reads_left}
use Rattle.capture_hearing.proofs.hearing.Hearing.next.Given as goal

abbrev pub invariant-loop-shown : goal.invariant-loop-shown
invariant-loop-shown g l =
    record {
      going : pull_at l.self.stage ≡ None;
      on : GoesOn (g.F.Shelf.state l.fn.shelf) (g.F.Shelf.state l.shelf) l.fn.self.source l.self.source l.fn.self.listener l.self.listener l.fn.self.stage l.self.stage [];
    }

abbrev pub decreases-loop-shown : goal.decreases-loop-shown
decreases-loop-shown g l = reads_left l.self.stage l.self.source
