use Rattle.std.proofs.Common.{◌≤◌, ℕ, List, length}
use Rattle.sample_schedule.specs.declared.entry.Entry.{Entry}
use Rattle.schedule_judge.specs.Judge.{Keeps, StandsFor, work}
use Rattle.sample_schedule.specs.Verdicts.{Clock}
use Rattle.schedule_judge.proofs.judge.Judge.next_out.Given as goal

-- no item was returned yet
abbrev pub invariant-loop-shown : goal.invariant-loop-shown
invariant-loop-shown l = record {
  stands : (clock : Clock) (entries : List Entry) (given : ℕ) → StandsFor clock entries given l.fn.self → StandsFor clock entries given l.self;
  keeps : Keeps l.fn.self l.self;
  work : work l.self ≤ work l.fn.self;
}

abbrev pub decreases-loop-shown : goal.decreases-loop-shown
decreases-loop-shown l = length l.self.ahead
