-- When a listener finds the clock's line for an instant.
use Rattle.std.specs.Prelude.{ℕ, ◌^◌, ℤ, pos, ◌+ℤ◌, ◌<ℤ◌, List, Contains}
use Rattle.clock_track.specs.declared.clock_row.ClockRow.{ClockRow}
use Rattle.clock_track.specs.Rows.{window}
use Rattle.stream_journal.specs.Clocks.{ClockJournal, Follows, InOneRun, Place, point}
use Rattle.stream_journal.specs.ClockRows.{IsRowOf}

-- a copy of the clock's packet m is one of the last 64 packets that give points
pub record IsKept (c : ClockJournal) (shift : ℤ) (rows : List ClockRow) (m : ℕ) : Type 0 where
  pub row : ClockRow
  pub kept : Contains (window rows) row
  pub is : IsRowOf c shift m row

-- The point's timestamp, without the `shift` that a listener adds, is below 2^62 ns.
abbrev pub IsTaken : ClockJournal → ℤ → Place → Type 0
IsTaken c shift p = pos (point c p) <ℤ (pos (2 ^ 62) +ℤ shift)

-- Two adjacent points of one run are at hand: copies of their packets are among the last 64 packets that give points.
pub record ArePointsAtHand (c : ClockJournal) (shift : ℤ) (rows : List ClockRow) (p q : Place) : Type 0 where
  pub follows : Follows c p q
  pub one_run : InOneRun c p q
  pub earlier : IsTaken c shift p
  pub later : IsTaken c shift q
  pub earlier_packet : IsKept c shift rows p.packet
  pub later_packet : IsKept c shift rows q.packet
