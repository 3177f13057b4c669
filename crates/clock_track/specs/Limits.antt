-- The conditions on the packets of a clock.
use Rattle.std.specs.Prelude.{◌≡◌, ◌⊎◌, ℕ, ◌+◌, ◌*◌, ◌%◌, ◌^◌, ◌≤◌, ◌<◌, true, length, ℤ, pos, neg_ℤ, ◌+ℤ◌, ◌-ℤ◌, ◌≤ℤ◌, ◌<ℤ◌}
use Rattle.time_unfold.specs.Lines.{instant_at}
use Rattle.clock_track.specs.declared.clock_row.ClockRow.{ClockRow}
use Rattle.clock_track.specs.declared.pair.Pair.{Pair}
use Rattle.clock_track.specs.PairLines.{Spot}

-- the instant can be a point: a timestamp below 2^62, shifted by at most a second
pub record IsPoint (instant : ℤ) : Type 0 where
  pub from : neg_ℤ (pos 1000000000) ≤ℤ instant
  pub to : instant <ℤ pos (2 ^ 62 + 1000000000)

-- two instants are at most 2^51 ns apart
pub record IsNear (base instant : ℤ) : Type 0 where
  pub from : (base -ℤ pos (2 ^ 51)) ≤ℤ instant
  pub to : instant ≤ℤ (base +ℤ pos (2 ^ 51))

-- the numerator or the denominator of a pull factor is at least 1 and at most 1,001
pub record IsFactor (factor : ℕ) : Type 0 where
  pub some : 1 ≤ factor
  pub most : factor ≤ 1001

-- the numbers of the pair are within the limits of the format: a base frequency has 29 bits, and an interval has 16
-- bits
pub record IsSmall (p : Pair) : Type 0 where
  pub earlier : IsPoint p.earlier
  pub later : IsPoint p.later
  pub some_interval : 1 ≤ p.interval
  pub interval : p.interval ≤ 65535
  pub some_up : 1 ≤ p.up
  pub up : p.up < 2 ^ 39
  pub some_down : 1 ≤ p.down
  pub down : p.down ≤ 1001

-- If a packet gives points, its fields are within the limits of the format. The pull is at most 5, the base frequency
-- has 29 bits, and the interval has 16 bits. The packet has at most 8,191 timestamps, and none of them is cut off.
pub record IsRow (row : ClockRow) : Type 0 where
  pub pull : row.pull ≤ 5
  pub some_frequency : 1 ≤ row.base_frequency
  pub frequency : row.base_frequency < 2 ^ 29
  pub some_interval : 1 ≤ row.interval
  pub interval : row.interval ≤ 65535
  pub whole : length row.payload % 8 ≡ 0
  pub size : length row.payload ≤ 65528

-- The packet can be noted: if it gives points, its fields are within the limits of the format.
abbrev pub IsNotable : ClockRow → Type 0
IsNotable row = row.usable ≡ true → IsRow row

-- the shift can be added to timestamps: it is at most a second, forward or back
pub record IsShift (shift : ℤ) : Type 0 where
  pub from : neg_ℤ (pos 1000000000) ≤ℤ shift
  pub to : shift ≤ℤ pos 1000000000

-- ---- a line that a clock returns

-- The limits of the line that a clock returns for an instant, and of the sample's number on that line. The stream has
-- `rate` samples a second.
pub record IsClockLine (rate : ℕ) (instant : ℤ) (spot : Spot) : Type 0 where
  pub some_num : 1 ≤ spot.line.num
  pub num : spot.line.num ≤ 2 ^ 60
  pub some_den : 1 ≤ spot.line.den
  pub den : spot.line.den ≤ 2 ^ 60
  -- the spacing of samples is 7/8 to 9/8 of the nominal spacing
  pub least : 7000000000 * spot.line.den ≤ 8 * (rate * spot.line.num)
  pub spacing : 8 * (rate * spot.line.num) ≤ 9000000000 * spot.line.den
  pub from : pos 0 ≤ℤ spot.from
  pub to : spot.from <ℤ pos 65535
  -- sample 0 of the line is at a point, or at the instant itself
  pub base : (spot.line.base ≡ instant) ⊎ IsPoint spot.line.base
  -- the 2^20 samples before sample 0 and the 2^20 samples after it are within 2^51 ns of sample 0
  pub near : (k : ℤ) → neg_ℤ (pos (2 ^ 20)) ≤ℤ k → k ≤ℤ pos (2 ^ 20) → IsNear spot.line.base (instant_at spot.line k)
