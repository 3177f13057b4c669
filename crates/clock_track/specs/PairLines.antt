-- Two points of a media clock, and the line of events after them (IEEE 1722-2016, 10). The points are reference
-- timestamps, one interval of events apart. Fractions are multiplied out and compared as whole numbers.
use Rattle.std.specs.Prelude.{◌≡◌, ℕ, ◌*◌, ◌==◌, ◌≤◌, nat_le, if◌then◌else◌, Bool, false, ℤ, pos, negsuc, ◌+ℤ◌, ◌-ℤ◌, ◌*ℤ◌, ◌≤ℤ◌, ◌<ℤ◌, int_le, int_lt}
use Rattle.clock_track.specs.declared.pair.Pair.{Pair}
use Rattle.time_unfold.specs.declared.line.Line.{Line}
use Rattle.time_unfold.specs.Lines.{floor_of}

-- ---- the frequency

-- the numerator of the factor that this pull code names; the base frequency is multiplied by this factor (IEEE
-- 1722-2016, 10)
abbrev pub pull_up : ℕ → ℕ
pull_up pull =
    if pull == 1 then 1000 else
    if pull == 2 then 1001 else
    if pull == 3 then 24 else
    if pull == 4 then 25 else 1

-- the denominator of the factor that this pull code names (IEEE 1722-2016, 10)
abbrev pub pull_down : ℕ → ℕ
pull_down pull =
    if pull == 1 then 1001 else
    if pull == 2 then 1000 else
    if pull == 3 then 25 else
    if pull == 4 then 24 else
    if pull == 5 then 8 else 1

-- ---- two points

-- the number, or 0 if it is negative
abbrev pub at_least_0 : ℤ → ℕ
at_least_0 (pos n) = n
at_least_0 (negsuc n) = 0

-- the time in nanoseconds from the earlier point to the later point, or 0 if this time is negative
abbrev pub period : Pair → ℕ
period p = at_least_0 (p.later -ℤ p.earlier)

-- the nominal time of the interval in nanoseconds, times `up`
abbrev pub nominal : Pair → ℕ
nominal p = p.interval * 1000000000 * p.down

-- the time between the points is within 1/8 of the nominal time of the interval
pub record IsJoined (p : Pair) : Type 0 where
  pub least : 7 * nominal p ≤ 8 * (period p * p.up)
  pub most : 8 * (period p * p.up) ≤ 9 * nominal p

-- the time between the points is at least 3/4 of the nominal time of the interval
abbrev pub IsSpaced : Pair → Type 0
IsSpaced p = 3 * nominal p ≤ 4 * (period p * p.up)

-- ---- the samples of a stream according to a pair

-- The numerator of the spacing of samples according to a pair. The spacing is `step_num p / step_den p rate`
-- nanoseconds.
abbrev pub step_num : Pair → ℕ
step_num p = period p * p.up

-- the denominator of the spacing of samples according to a pair, for a stream of this rate
abbrev pub step_den : Pair → ℕ → ℕ
step_den p rate = p.interval * rate * p.down

-- The period of a pair begins half a sample before its later point. The result is the time in nanoseconds from the
-- beginning of the period to an instant, times `2 * step_den p rate`.
abbrev pub reach : Pair → ℕ → ℤ → ℤ
reach p rate instant = (instant -ℤ p.later) *ℤ pos (2 * step_den p rate) +ℤ pos (step_num p)

-- The pair covers the instant. A pair covers the instants of one period. The period begins half a sample before the
-- pair's later point.
pub record Covers (p : Pair) (rate : ℕ) (instant : ℤ) : Type 0 where
  pub from : pos 0 ≤ℤ reach p rate instant
  pub to : reach p rate instant <ℤ pos (2 * (period p * step_den p rate))

-- the clock's frequency is the stream's rate
abbrev pub IsOfRate : Pair → ℕ → Type 0
IsOfRate p rate = p.up ≡ rate * p.down

-- a line of a clock, and the number of a sample on that line
pub record Spot : Type 0 where
  pub line : Line
  pub from : ℤ

-- the line of the clock's events, from the later point on
abbrev pub event_line : Pair → Line
event_line p = record { base = p.later; num = period p; den = p.interval }

-- the number of the clock's event that is nearest to an instant, counted from the later point
abbrev pub nearest_event : Pair → ℤ → ℤ
nearest_event p instant = floor_of ((instant -ℤ p.later) *ℤ pos (2 * p.interval) +ℤ pos (period p)) (2 * period p)

-- A pair places a sample with this presentation time on a line. The result is that line, and the sample's number on it.
-- If the clock's frequency is the stream's rate, the sample is at the nearest event. If the clock's frequency differs
-- from the stream's rate, the sample is sample 0 of a line that begins at the presentation time and has the pair's
-- spacing.
abbrev pub spot_by : Pair → ℕ → ℤ → Spot
spot_by p rate instant =
    if p.up == rate * p.down
    then record { line = event_line p; from = nearest_event p instant }
    else record { line = record { base = instant; num = step_num p; den = step_den p rate }; from = pos 0 }

-- ---- tests of a pair

-- whether the time between the points is within 1/8 of the nominal time of the interval
abbrev pub is_joined : Pair → Bool
is_joined p =
    if nat_le (7 * nominal p) (8 * step_num p) then nat_le (8 * step_num p) (9 * nominal p) else false

-- Whether a pair covers an instant. A pair covers the instants of one period. The period begins half a sample before
-- the pair's later point.
abbrev pub covers : Pair → ℕ → ℤ → Bool
covers p rate instant =
    if int_le (pos 0) (reach p rate instant) then int_lt (reach p rate instant) (pos (2 * (period p * step_den p rate))) else false
