-- A clock that keeps its last packets.
use Rattle.std.specs.Prelude.{◌≡◌, ℤ, List}
use Rattle.clock_track.specs.declared.clock_row.ClockRow.{ClockRow}
use Rattle.clock_track.specs.Rows.{window}

-- a clock: the shift that is added to its timestamps, and the packets that it keeps
pub record ClockState : Type 0 where
  pub shift : ℤ
  pub rows : List ClockRow

-- the clock has noted exactly these packets: it keeps the last 64 of them that give points
abbrev pub StandsFor : ClockState → List ClockRow → Type 0
StandsFor clock rows = clock.rows ≡ window rows
