-- The instants in a stream's timestamps, with a media clock or without one.
use Rattle.std.specs.Prelude.{ℕ, ◌*◌, Option, Some, None}
use Rattle.clock_track.specs.PairLines.{pull_down, pull_up}
use Rattle.talk_plan.specs.declared.plan.CrfPlan.{CrfPlan}
use Rattle.talk_plan.specs.declared.plan.TalkPlan.{TalkPlan}
use Rattle.talk_plan.specs.Beats.{Beat, stamped_at}
use Rattle.talk_plan.specs.Plan.{spacing_of}
use Rattle.talk_plan.specs.Timing.{event_of, nominal_instant, run_of, run_start}

-- the rates and the spacings of a plan's stream and of its clock
abbrev pub beat_of : CrfPlan → TalkPlan → Beat
beat_of crf plan = record {
  rate = plan.rate;
  spacing = spacing_of crf plan.rate;
  interval = crf.interval;
  up = crf.rate * pull_up crf.pull;
  down = pull_down crf.pull;
}

-- The instant in the timestamp of sample frame i of packet n. If there is no clock, the instant is the sample frame's
-- nominal instant. If there is a clock, the instant follows from the clock's points in the packet's run.
abbrev pub stamped_by : Option CrfPlan → TalkPlan → ℕ → ℕ → ℕ
stamped_by None plan n i = nominal_instant plan n i
stamped_by (Some crf) plan n i = stamped_at (beat_of crf plan) (run_start plan (run_of plan n)) (event_of plan n i)

-- the instant in the timestamp of sample frame i of packet n, computed from the plan's clock if there is one
abbrev pub stamped_instant : TalkPlan → ℕ → ℕ → ℕ
stamped_instant plan n i = stamped_by plan.crf plan n i
