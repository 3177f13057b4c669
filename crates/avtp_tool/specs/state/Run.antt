-- Only private functions and proofs use these definitions. The outcome of a run of any command.
use Rattle.std.specs.Prelude.{Bool, Option, ◌≡◌, ◌≢◌, ◌⊎◌, ℕ, ◌≤◌, List, [], Result, Ok, IsErr, ◌^◌}
use Rattle.avtp_base.specs.declared.failed.FaultPlace.{FaultPlace}
use Rattle.avtp_base.specs.declared.failed.Failed.{Failed}
use Rattle.avtp_base.specs.Faults.{Rose}
use Rattle.avtp_base.specs.States.{SinkState}
use Rattle.avtp_base.specs.Told.{Keeps}
use Rattle.avtp_text.specs.Written.{Grows, written}
use Rattle.avtp_words.specs.Grammar.{files_of, IsCommandLine, IsOffence, output_of, Request, show, check, listen, talk, soak, agree, gateway}
use Rattle.talk_plan.specs.Plan.{IsPlan}
use Rattle.run_report.specs.declared.status.Status.{Status}
use Rattle.run_report.specs.declared.status.Status.TheVariants as status
use Rattle.run_report.specs.Runs.{Task}
use Rattle.avtp_base.specs.Files.{Files}
use Rattle.run_report.specs.RunReport.{Halts}
use Rattle.run_report.specs.Yield.{Yield}
use Rattle.listen_command.specs.Listen.{IsListening}
use Rattle.agree_command.specs.Agree.{IsAgreeing}
use Rattle.gateway_command.specs.Gateway.{IsTurning}
use Rattle.talk_command.specs.Talk.{talk_plan}
use Rattle.avtp_tool.specs.Run.{again_of, CanEndWith, is_listening, report_for}

-- The pending text was written, and the run ends with the status `result`. If the sink took everything, `result` is the
-- run's own status. If the sink did not take everything, `result` is `WriteFault`. The sink keeps what it held, and got
-- all of the text or a prefix of it.
pub record Finishes (out out' : SinkState) (waits waits' : List ℕ) (ended : Result Status Failed) (result : Status) : Type 0 where
  pub whole : result ≢ status.WriteFault → (ended ≡ Ok result) × (waits' ≡ [])
  pub kept : Keeps (written out.held waits) (written out'.held waits')
  pub grows : Grows out.held out'.held
  pub never_falls : out.faults ≤ out'.faults
  pub fault : result ≡ status.WriteFault → IsErr ended ⊎ ((ended ≡ Ok status.WriteFault) ⊎ Rose out.faults out'.faults)
  pub quiet : result ≢ status.WriteFault → out'.faults ≡ out.faults

-- what a run of the request over these files did, under one of the read faults that are possible
abbrev pub Outcome : Request → Files → (FaultPlace → Type 0) → Bool → List (List ℕ) → Status → Yield → Option (List ℕ) → Type 0
Outcome request files fault failed came ended yields made = Halts (CanEndWith request files fault) (report_for request files failed) came ended yields made

-- what a request asks a command to do
abbrev pub task_of : Request → Task
task_of request = record { reads = files_of request; output = output_of request; again = again_of request; listens = is_listening request; Comes = Outcome request }

-- the words are a command line, or one of them is wrong
abbrev pub IsAsked : List (List ℕ) → Type 0
IsAsked words = ((request : Request) × IsCommandLine words request) ⊎ ((position : ℕ) × IsOffence words position)

abbrev pub IsRequest : Request → Type 0
IsRequest (show limit file) = limit ≤ 2 ^ 40
IsRequest (check limit names) = limit ≤ 2 ^ 40
IsRequest (listen asked) = IsListening asked
IsRequest (talk asked) = IsPlan (talk_plan asked)
IsRequest (soak packets) = packets ≤ 1000000
IsRequest (agree asked) = IsAgreeing asked
IsRequest (gateway asked) = IsTurning asked
