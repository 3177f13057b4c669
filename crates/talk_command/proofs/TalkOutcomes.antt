-- The outcomes of `talk`.
use Rattle.std.proofs.Common.{◌≡◌, ℕ, ◌≤◌, List, [], length, Option, Some, refl, None, inl, inr}
use Rattle.std.proofs.lemmas.Bool.{le-leb, lt-leb, cases_lt}
use Rattle.talk_plan.specs.declared.fault.TalkFault.{TalkFault}
use Rattle.talk_plan.specs.declared.plan.TalkPlan.{TalkPlan}
use Rattle.talker.specs.Faults.{fault_of}
use Rattle.talk_plan.specs.Plan.{most_input}
use Rattle.avtp_words.specs.Grammar.{Talking}
use Rattle.avtp_text.specs.Talk.{talk_input_line}
use Rattle.avtp_text.specs.Notices.{limit_line, read_fault_line}
use Rattle.run_report.specs.declared.status.Status.{Status}
use Rattle.run_report.specs.Halt.{no_halt, not_opened}
use Rattle.run_report.specs.Yield.{Yield}
use Rattle.run_report.proofs.RunReports.{said}
use Rattle.run_report.specs.declared.status.Status.TheVariants as status
use Rattle.run_report.specs.RunReport.{Halts}
use Rattle.talk_command.specs.Talk.{CanTalkHalt, sent_line, talk_plan, talk_report}
use Rattle.talk_command.specs.state.Talk.{talk_came, talk_made, TalkedOutcome, TalkOutcome}

-- ---- an input

talks_by : (plan : TalkPlan) (bytes : List ℕ) (cause : Type 0) (f : Option TalkFault) → length bytes ≤ most_input → fault_of plan bytes ≡ f → (ended : Status) × (text : List ℕ) × TalkedOutcome plan bytes cause ended text
talks_by plan bytes cause None fits is = (status.Done, sent_line plan bytes, (fits, is, refl))
talks_by plan bytes cause (Some why) fits is = (status.TalkInput, talk_input_line why, (fits, (why, is, refl)))

-- some outcome is possible without a read fault
pub talked_here : (plan : TalkPlan) (bytes : List ℕ) (cause : Type 0) → (ended : Status) × (text : List ℕ) × TalkedOutcome plan bytes cause ended text
talked_here plan bytes cause =
    elim (cases_lt most_input (length bytes)) [
      | inl more ↦ (status.Limit, limit_line most_input, (more, refl))
      | inr fits ↦ talks_by plan bytes cause (fault_of plan bytes) fits refl
    ]

pub talk_here : (plan : TalkPlan) (told : Option (List ℕ)) (cause : Type 0) → (ended : Status) × (text : List ℕ) × TalkOutcome plan told cause ended text
talk_here plan None cause = (status.ReadFault, read_fault_line, (refl, refl))
talk_here plan (Some bytes) cause = talked_here plan bytes cause

-- ---- the read fault of a run

-- what a run of `talk` with this outcome did, under one of the read faults that are possible
abbrev pub TalkHalts : Talking → Option (List ℕ) → Type 0 → Status → Yield → Type 0
TalkHalts asked told cause ended yields = Halts (CanTalkHalt cause) (talk_report asked told) (talk_came asked ended) ended yields (talk_made (talk_plan asked) told ended)

talked_halts : (asked : Talking) (bytes : List ℕ) (cause : Type 0) (ended : Status) (yields : Yield) → yields.items ≡ [] → TalkedOutcome (talk_plan asked) bytes cause ended yields.text → TalkHalts asked (Some bytes) cause ended yields
talked_halts asked bytes cause status.Done yields none (fits, good, is) = (no_halt, tt, rw (said yields _ none is, le-leb (length bytes) most_input fits, good) refl)
talked_halts asked bytes cause status.TalkInput yields none (fits, (why, bad, is)) = (no_halt, tt, rw (said yields _ none is, le-leb (length bytes) most_input fits, bad) refl)
talked_halts asked bytes cause status.Limit yields none (more, is) = (no_halt, tt, rw (said yields _ none is, lt-leb (length bytes) most_input more) refl)
talked_halts asked bytes cause status.ReadFault yields none (fault, is) = (not_opened 0, fault, rw (said yields _ none is) refl)
talked_halts asked bytes cause status.Findings yields none talks = absurd talks
talked_halts asked bytes cause status.Words yields none talks = absurd talks
talked_halts asked bytes cause status.Refused yields none talks = absurd talks
talked_halts asked bytes cause status.WriteFault yields none talks = absurd talks
talked_halts asked bytes cause status.Memory yields none talks = absurd talks
talked_halts asked bytes cause status.DeviceFault yields none talks = absurd talks

pub talk_halts : (asked : Talking) (told : Option (List ℕ)) (cause : Type 0) (ended : Status) (yields : Yield) → yields.items ≡ [] → TalkOutcome (talk_plan asked) told cause ended yields.text → TalkHalts asked told cause ended yields
talk_halts asked None cause ended yields none (is, same) = (no_halt, tt, rw (is, said yields _ none same) refl)
talk_halts asked (Some bytes) cause ended yields none o = talked_halts asked bytes cause ended yields none o
