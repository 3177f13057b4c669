use Rattle.std.proofs.Common.{◌≡◌, ◌+◌, ℕ, List, cond, length}
use Rattle.packet_journal.specs.Deliveries.{Delivery}
use Rattle.sample_schedule.specs.declared.entry.Entry.{Entry}
use Rattle.listener.specs.Gathering.{HasUnits, left}
use Rattle.listener.specs.Listening.{Judges}
use Rattle.listener.specs.state.Listening.{CanJudge}
use Rattle.listener.proofs.record_listener.next_shown.Given as goal

-- The judge and the queued items still belong to the same entries. Since the call began, some queued items were judged,
-- or the judge was closed.
abbrev pub invariant-loop-next : goal.invariant-loop-next
invariant-loop-next l =
    record {
      judges : (entries : List Entry) (given : ℕ) → Judges entries given l.fn.judge l.fn.units → Judges entries given l.judge l.units;
      units : (ds : List Delivery) → HasUnits ds l.fn.units → HasUnits ds l.units;
      plan : l.judge.plan ≡ l.fn.judge.plan;
      ready : CanJudge l.ended l.closed l.units l.judge;
    }

abbrev pub decreases-loop-next : goal.decreases-loop-next
decreases-loop-next l = length (left l.units) + cond l.judge.closed 0 1
