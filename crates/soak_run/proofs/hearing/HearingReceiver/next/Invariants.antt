-- In the loop no item is shown: the items shown are those from before the call.
use Rattle.std.proofs.Common.{◌≡◌, ◌≤◌, List, None}
use Rattle.sample_schedule.specs.declared.shown.Shown.{Shown}
use Rattle.soak_run.specs.declared.hearing.Hearing.{Hearing}
use Rattle.soak_run.specs.state.Hearing.{left_of, pull_at, steps_left}
use Rattle.soak_run.specs.state.Showing.{HasShown}
use Rattle.soak_run.proofs.hearing.HearingReceiver.next.Given as goal

abbrev pub invariant-loop-shown : goal.invariant-loop-shown
invariant-loop-shown l = record {
  going : pull_at l.self.stage ≡ None;
  left : left_of l.self.deliveries.now l.self.listener ≤ left_of l.fn.self.deliveries.now l.fn.self.listener;
  shows : (begun : Hearing) (items : List Shown) → HasShown begun l.fn.self items → HasShown begun l.self items;
}

abbrev pub decreases-loop-shown : goal.decreases-loop-shown
decreases-loop-shown l = steps_left l.self.stage l.self.deliveries.now l.self.given
