-- Only private functions and proofs use these definitions. What the times of a plan are computed from.
use Rattle.std.specs.Prelude.{◌≡◌, ℕ, ◌*◌, ◌/◌, ◌^◌, ◌≤◌, Some}
use Rattle.talk_plan.specs.declared.plan.CrfPlan.{CrfPlan}
use Rattle.talk_plan.specs.declared.plan.TalkPlan.{TalkPlan}
use Rattle.talk_plan.specs.Places.{IsFrameOf}
use Rattle.talk_plan.specs.Plan.{IsAudioPlan}
use Rattle.talk_plan.specs.Timing.{event_of, run_of, run_start}

-- `time` is how long `parts` of `whole` equal parts of a period take, rounded down
pub record IsPart (parts period whole time : ℕ) : Type 0 where
  pub value : time ≡ parts * period / whole
  pub bound : time ≤ period

-- at most 2^29 sample frames of a valid plan of audio
pub record CountsFrames (plan : TalkPlan) (frames : ℕ) : Type 0 where
  pub valid : IsAudioPlan plan
  pub few : frames ≤ 2 ^ 29

-- `start` is the instant of event 0 in packet n's run
pub record IsRunStart (plan : TalkPlan) (n start : ℕ) : Type 0 where
  pub value : start ≡ run_start plan (run_of plan n)
  pub bound : start ≤ 2 ^ 63

-- sample frame i of packet n is the event `event` of the packet's run
pub record IsEvent (plan : TalkPlan) (n i event : ℕ) : Type 0 where
  pub value : event ≡ event_of plan n i
  pub bound : event ≤ 2 ^ 29

-- sample frame i of packet n of a plan with this clock
pub record IsClockedFrame (plan : TalkPlan) (crf : CrfPlan) (n i : ℕ) : Type 0 where
  pub frame : IsFrameOf plan n i
  pub clock : plan.crf ≡ Some crf
