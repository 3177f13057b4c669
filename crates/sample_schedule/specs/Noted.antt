-- What is noted from a list of entries: stamps and clock packets. The samples of other packets can be counted from
-- them.
use Rattle.std.specs.Prelude.{◌≡◌, ◌+◌, true, false, List, Option, None, Some}
use Rattle.std.specs.List.{filter_map}
use Rattle.clock_track.specs.Window.{ClockState, StandsFor as StandsForRows}
use Rattle.time_unfold.specs.Anchors.{KeepsLast}
use Rattle.sample_schedule.specs.declared.entry.Entry.{Entry}
use Rattle.sample_schedule.specs.declared.noted.Noted.{Noted}
use Rattle.sample_schedule.specs.declared.plan.SchedulePlan.{SchedulePlan}
use Rattle.sample_schedule.specs.Heads.{stamps_of}
use Rattle.sample_schedule.specs.Verdicts.{row_of}

-- The plan has a clock. `clock` adds the plan's shift to timestamps, and has noted the clock packets of the list.
pub record HasNotedClock (plan : SchedulePlan) (entries : List Entry) (clock : ClockState) : Type 0 where
  pub asked : plan.clock ≡ true
  pub shift : clock.shift ≡ plan.shift
  pub rows : StandsForRows clock (filter_map row_of entries)

-- If the plan has a clock, there is a clock state, and it has noted the clock packets of the list. If the plan has no
-- clock, there is no clock state.
abbrev pub HasClock : SchedulePlan → List Entry → Option ClockState → Type 0
HasClock plan entries None = plan.clock ≡ false
HasClock plan entries (Some clock) = HasNotedClock plan entries clock

-- what is noted from the list: the last `look` + 16 usable stamps, and the clock packets if the plan has a clock
pub record HasNoted (plan : SchedulePlan) (entries : List Entry) (noted : Noted) : Type 0 where
  pub stamps : KeepsLast noted.stamps (stamps_of entries)
  pub room : noted.stamps.room ≡ plan.look + 16
  pub clock : HasClock plan entries noted.clock
