-- Only private functions and proofs use these definitions. What `soak` prints and how it ends.
use Rattle.std.specs.Prelude.{◌≡◌, ◌⊎◌, ℕ, List, Result, IfOk}
use Rattle.avtp_base.specs.declared.failed.Failed.{Failed}
use Rattle.avtp_text.specs.Written.{written}
use Rattle.avtp_base.specs.States.{SinkState}
use Rattle.run_report.specs.declared.status.Status.{Status}
use Rattle.run_report.specs.Outcome.{Only, KeepsSink, TellsText}
use Rattle.run_report.specs.declared.status.Status.TheVariants as status

-- A run that neither reads nor writes a file prints this text, or memory runs out.
pub record Says (text : List ℕ) (out out' : SinkState) (waits waits' : List ℕ) (result : Result Status Failed) : Type 0 where
  pub tells : TellsText (Only status.Done text) (written out.held waits) (written out'.held waits') result
  pub own : IfOk result (λ s. (s ≡ status.Done) ⊎ (s ≡ status.Memory))
  pub sink : KeepsSink out out' result
