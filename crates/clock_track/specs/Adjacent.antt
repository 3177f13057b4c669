-- Which adjacent timestamps of a clock's packets a listener joins.
use Rattle.std.specs.Prelude.{◌≡◌, ℕ, ◌+◌, ◌-◌, ◌^◌, ◌<◌, true, false, ℤ, List, ◌++◌, replicate}
use Rattle.clock_track.specs.declared.clock_row.ClockRow.{ClockRow}
use Rattle.clock_track.specs.declared.pair.Pair.{Pair}
use Rattle.clock_track.specs.Examples.{worked_row, worked_rows}
use Rattle.clock_track.specs.PairLines.{IsJoined}
use Rattle.clock_track.specs.Rows.{pair_of, seems_next, timestamp, timestamps}

-- the timestamps `first` and `second` are accepted as adjacent points of a packet's clock: both are below 2^62, and
-- their pair is joined
pub record AreTaken (shift : ℤ) (row : ClockRow) (first second : ℕ) : Type 0 where
  pub earlier : first < 2 ^ 62
  pub later : second < 2 ^ 62
  pub joined : IsJoined (pair_of shift row first second)

-- the pair of timestamps i and i + 1 of one packet
abbrev pub pair_inside : ℤ → ClockRow → ℕ → Pair
pair_inside shift row i = pair_of shift row (timestamp row i) (timestamp row (i + 1))

-- timestamps i and i + 1 of one packet are accepted as adjacent points
pub record AreInside (shift : ℤ) (row : ClockRow) (i : ℕ) : Type 0 where
  pub within : i + 1 < timestamps row
  pub taken : AreTaken shift row (timestamp row i) (timestamp row (i + 1))

-- the pair of the last timestamp of one packet and the first of another
abbrev pub pair_across : ℤ → ClockRow → ClockRow → Pair
pair_across shift row before = pair_of shift row (timestamp before (timestamps before - 1)) (timestamp row 0)

-- the last timestamp of `before` and the first of `row` are accepted as adjacent points, and `row` seems to be the next
-- packet
pub record AreAcross (shift : ℤ) (row before : ClockRow) : Type 0 where
  pub next : seems_next row before ≡ true
  pub some_before : 0 < timestamps before
  pub some : 0 < timestamps row
  pub taken : AreTaken shift row (timestamp before (timestamps before - 1)) (timestamp row 0)

-- ---- the worked example with further packets

-- a packet of the worked example that is joined with no other packet, because no packet of the example has an adjacent
-- sequence number
abbrev pub lone_row : ClockRow
lone_row = worked_row 100 false 48000 1006000000

-- The two packets of the worked example, and then `others` packets. The points of the two packets are 2 ms apart, and
-- the other packets are joined with no packet.
abbrev pub followed_rows : ℕ → List ClockRow
followed_rows others = worked_rows 48000 false ++ replicate others lone_row
