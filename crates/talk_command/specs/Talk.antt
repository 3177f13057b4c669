-- What `talk` prints and how it ends.
use Rattle.std.specs.Prelude.{⊤, false, option_map, ℕ, List, length, Some, None, Option, nat_le, if◌then◌else◌, [], ◌∷◌}
use Rattle.talk_plan.specs.declared.plan.TalkKind.{TalkKind}
use Rattle.talk_plan.specs.declared.plan.TalkKind.TheVariants.{Aaf, Am824, H264}
use Rattle.avtp_words.specs.declared.talk.Kind.{Kind}
use Rattle.talk_plan.specs.declared.plan.CrfPlan.{CrfPlan}
use Rattle.avtp_words.specs.declared.crf.Crf.{Crf}
use Rattle.talk_plan.specs.declared.plan.TalkPlan.{TalkPlan}
use Rattle.avtp_words.specs.Grammar.{Talking}
use Rattle.talker.specs.Frames.{clock_frames, stream_frames, capture}
use Rattle.avtp_text.specs.Talk.{talk_line, talk_input_line}
use Rattle.talk_plan.specs.declared.fault.TalkFault.{TalkFault}
use Rattle.talker.specs.Faults.{fault_of}
use Rattle.talk_plan.specs.Plan.{most_input}
use Rattle.avtp_text.specs.Notices.{limit_line}
use Rattle.avtp_words.specs.declared.talk.Kind.TheVariants as words
use Rattle.avtp_base.specs.declared.failed.FaultPlace.{FaultPlace}
use Rattle.avtp_base.specs.Files.{Files}
use Rattle.run_report.specs.declared.status.Status.{Status}
use Rattle.run_report.specs.Runs.{Task}
use Rattle.run_report.specs.Yield.{Yield, says}
use Rattle.run_report.specs.RunReport.{Halts, RunReport, ends_unread}
use Rattle.run_report.specs.Halt.{Halt, no_halt}
use Rattle.run_report.specs.declared.status.Status.TheVariants as status

-- the kind that the words ask for, in the talker's own type
abbrev pub talk_kind : Kind → TalkKind
talk_kind (words.Aaf format sparse) = Aaf format sparse
talk_kind words.Am824 = Am824
talk_kind (words.H264 last_stamp) = H264 last_stamp

-- the media clock that the words ask for, in the talker's own type
abbrev pub talk_clock : Crf → CrfPlan
talk_clock crf = record { id = crf.id; rate = crf.rate; pull = crf.pull; interval = crf.interval; points = crf.points }

-- the talker's plan that the words ask for
abbrev pub talk_plan : Talking → TalkPlan
talk_plan asked = record {
  kind = talk_kind asked.kind;
  rate = asked.rate;
  channels = asked.channels;
  count = asked.count;
  id = asked.id;
  start = asked.start;
  lead = asked.lead;
  restart = asked.restart;
  jump = asked.jump;
  crf = option_map talk_clock asked.crf;
}

-- the line that says how many packets the stream has, and how many packets its media clock has
abbrev pub sent_line : TalkPlan → List ℕ → List ℕ
sent_line plan input = talk_line (length (stream_frames plan input)) (length (clock_frames plan input))

-- ---- a run

-- What `talk` does for an input of these bytes, which are within the limit. The option is the input's fault, if any.
abbrev pub talk_by : Talking → List ℕ → Option TalkFault → RunReport
talk_by asked bytes None = record {
  came = asked.input ∷ asked.output ∷ [];
  ended = status.Done;
  yields = says (sent_line (talk_plan asked) bytes);
  made = Some (capture (talk_plan asked) bytes);
}
talk_by asked bytes (Some why) = record { came = asked.input ∷ []; ended = status.TalkInput; yields = says (talk_input_line why); made = None }

-- What `talk` does, given the bytes of its input, or `None` if the input is missing. After a read fault the result is
-- the same whether the input was opened or not.
abbrev pub talk_report : Talking → Option (List ℕ) → Halt → RunReport
talk_report asked (Some bytes) no_halt =
    if nat_le (length bytes) most_input then talk_by asked bytes (fault_of (talk_plan asked) bytes)
    else record { came = asked.input ∷ []; ended = status.Limit; yields = says (limit_line most_input); made = None }
talk_report asked told halt = ends_unread (asked.input ∷ [])

-- `fault` holds of some place
abbrev pub FailsSomewhere : (FaultPlace → Type 0) → Type 0
FailsSomewhere fault = (place : FaultPlace) × fault place

-- a read fault of the input of `talk`: it is possible only if `fault` holds
abbrev pub CanTalkHalt : Type 0 → Halt → Type 0
CanTalkHalt fault no_halt = ⊤
CanTalkHalt fault halt = fault

-- what a run of `talk` over these files did, under one of the read faults that are possible
abbrev pub TalkYields : Talking → Files → (FaultPlace → Type 0) → List (List ℕ) → Status → Yield → Option (List ℕ) → Type 0
TalkYields asked files fault came ended yields made = Halts (CanTalkHalt (FailsSomewhere fault)) (talk_report asked (files asked.input)) came ended yields made

-- what the words ask `talk` to do
abbrev pub talk_task : Talking → Task
talk_task asked = record {
  reads = asked.input ∷ [];
  output = Some asked.output;
  again = [];
  listens = false;
  Comes = λ files fault failed came ended yields made. TalkYields asked files fault came ended yields made;
}
