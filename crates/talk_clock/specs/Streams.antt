-- The media clock of a plan, as it is sent.
use Rattle.std.specs.Prelude.{◌≡◌, ◌<◌, ℕ, Option, Some, None}
use Rattle.talk_clock.specs.declared.clock.ClockStream.{ClockStream}
use Rattle.talk_plan.specs.declared.plan.TalkPlan.{TalkPlan}
use Rattle.talk_clock.specs.Clock.{clock_packets, points_for, AreFew}
use Rattle.talk_plan.specs.Plan.{IsAudioPlan}

-- a valid plan and its clock; the sample frames of the stream can be counted
pub record IsClockStream (c : ClockStream) : Type 0 where
  pub plan : IsAudioPlan c.plan
  pub clock : c.plan.crf ≡ Some c.crf
  pub few : AreFew c.plan c.stream

-- the clock has a packet m
pub record IsPacketOfClock (c : ClockStream) (m : ℕ) : Type 0 where
  pub clock : IsClockStream c
  pub known : m < clock_packets c.crf c.plan c.stream

-- the clock has a point s
pub record IsPointOfClock (c : ClockStream) (s : ℕ) : Type 0 where
  pub clock : IsClockStream c
  pub known : s < points_for c.crf c.plan c.stream

-- `c` is the clock of this plan and is sent with a stream of this many packets
pub record IsClockIn (c : ClockStream) (plan : TalkPlan) (packets : ℕ) : Type 0 where
  pub plan_is : c.plan ≡ plan
  pub stream : c.stream ≡ packets
  pub clock : IsClockStream c

-- the clock is that of the plan, or is `None` if the plan has no clock
abbrev pub IsClockOf : Option ClockStream → TalkPlan → ℕ → Type 0
IsClockOf None plan packets = plan.crf ≡ None
IsClockOf (Some c) plan packets = IsClockIn c plan packets

-- the number of packets of a clock; 0 if there is no clock
abbrev pub clocks_of : Option ClockStream → ℕ
clocks_of None = 0
clocks_of (Some c) = clock_packets c.crf c.plan c.stream
