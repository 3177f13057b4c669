-- Lines: samples at evenly spaced instants, in whole nanoseconds.
use Rattle.std.specs.Prelude.{ℕ, ℤ, pos, ◌+ℤ◌, ◌-ℤ◌, ◌*ℤ◌, ◌≤ℤ◌, ◌<ℤ◌}
use Rattle.std.specs.Int.{int_div_euclid}
use Rattle.time_unfold.specs.declared.line.Line.{Line}

-- the greatest whole number that is at most numerator / denominator; the numerator can be negative
abbrev pub floor_of : ℤ → ℕ → ℤ
floor_of numerator denominator = int_div_euclid numerator (pos denominator)

-- the instant of sample k of a line: k steps of num / den nanoseconds after its base, rounded down to a whole
-- nanosecond
abbrev pub instant_at : Line → ℤ → ℤ
instant_at line k = line.base +ℤ floor_of (k *ℤ pos line.num) line.den

-- The instant of sample k of a line, defined without a division: the last whole nanosecond at or before the sample.
pub record IsAt (line : Line) (k instant : ℤ) : Type 0 where
  pub not_after : ((instant -ℤ line.base) *ℤ pos line.den) ≤ℤ (k *ℤ pos line.num)
  pub last : (k *ℤ pos line.num) <ℤ (((instant -ℤ line.base) +ℤ pos 1) *ℤ pos line.den)

-- the line of samples at this nominal rate, with sample 0 at this instant
abbrev pub nominal_line : ℤ → ℕ → Line
nominal_line instant rate = record { base = instant; num = 1000000000; den = rate }
