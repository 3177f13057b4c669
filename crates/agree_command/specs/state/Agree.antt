-- Only private functions and proofs use these definitions. How `agree` ends.
use Rattle.std.specs.Prelude.{◌≡◌, ℕ, List, Result, IfOk, MatchResult}
use Rattle.avtp_base.specs.declared.failed.Failed.{Failed}
use Rattle.avtp_base.specs.States.{SinkState}
use Rattle.avtp_base.specs.Told.{Appends}
use Rattle.avtp_text.specs.Written.{AppendsPrefix, written}
use Rattle.run_report.specs.declared.status.Status.{Status}
use Rattle.run_report.specs.Outcome.{KeepsSink}
use Rattle.agree_command.specs.Agree.{agree_status, last_lines}
use Rattle.agree_command.specs.declared.comparing.Ended.{Ended}

-- A comparison has ended. If the result is `Ok`, the last lines of the run were printed, and the result is the status of
-- the run. If the result is `Err`, the sink failed, and only a prefix of the lines was printed.
pub record EndsWithLines (limit : ℕ) (ended : Ended) (out out' : SinkState) (waits waits' : List ℕ) (result : Result Status Failed) : Type 0 where
  pub status : IfOk result (λ s. s ≡ agree_status ended.counts.differ ended.a ended.b)
  pub written : let lines = last_lines limit ended.counts ended.a ended.b in MatchResult result (λ _. Appends (written out.held waits) (written out'.held waits') lines) (λ _. AppendsPrefix (written out.held waits) (written out'.held waits') lines)
  pub sink : KeepsSink out out' result
