-- Stamps and clock packets of small journals, as a listener has them.
use Rattle.std.specs.Prelude.{◌≡◌, ◌≤◌, ℕ, ◌+◌, ◌*◌, ◌%◌, false, pos, List, [], ◌∷◌, ◌++◌, All, replicate, Some, None}
use Rattle.clock_track.specs.declared.clock_row.ClockRow.{ClockRow}
use Rattle.clock_track.specs.Examples.{worked_row}
use Rattle.time_unfold.specs.declared.head_rule.Distance.{Distance}
use Rattle.time_unfold.specs.declared.stamp.Stamp.{Stamp}
use Rattle.clock_track.specs.PairLines.{Covers}
use Rattle.stream_journal.specs.ClockRows.{IsTrueRow}
use Rattle.stream_journal.specs.Clocks.{pair_at}
use Rattle.stream_journal.specs.Examples.{came, clocked, restarted}
use Rattle.stream_journal.specs.Found.{IsAtHand, IsExpected}
use Rattle.stream_journal.specs.FoundLines.{ArePointsAtHand}
use Rattle.stream_journal.specs.Heads.{IsTrue, IsUnstamped, stamp_at}
use Rattle.stream_journal.specs.Journal.{head_of}

-- the distance from packet 9 of `restarted` back to the stamped sample: one packet, 6 sample frames
abbrev pub one_back : Distance
one_back = record { packets = 1; samples = 6 }

-- The stamp of packet 8 of `restarted`, followed by `others` copies of the stamp of packet 16.
abbrev pub followed_stamps : ℕ → List Stamp
followed_stamps others = stamp_at restarted 8 1003000000 ∷ replicate others (stamp_at restarted 16 1005000000)

-- a copy of packet m of the clock of `clocked 48000`, with a point at this instant
abbrev pub row_of_one : ℕ → ℕ → ClockRow
row_of_one m instant = worked_row (m % 256) false 48000 instant

-- a copy of packet m of the clock of `clocked 48000`, which has two points
abbrev pub row_of_two : ℕ → ClockRow
row_of_two m = record (row_of_one m 0) {
  payload = (row_of_one m (1002000000 + m * 4000000)).payload ++ (row_of_one m (1004000000 + m * 4000000)).payload;
}

-- both packets of the clock of `clocked 48000`
abbrev pub two_rows : List ClockRow
two_rows = row_of_two 0 ∷ row_of_two 1 ∷ []

-- What a listener of `restarted` has for packet 9. The packet has no timestamp, and arrives when it is expected. All
-- stamps are true, and the stamp of packet 8 is among the last 16 stamps.
pub record HasHeadAtHand : Type 0 where
  pub unstamped : IsUnstamped restarted 2000000 (came 9 1001125000) one_back
  pub expected : IsExpected restarted 2000000 (came 9 1001125000)
  pub all_true : (others : ℕ) → All (IsTrue restarted) (followed_stamps others)
  pub at_hand : IsAtHand restarted 16 9 one_back (followed_stamps 15) (stamp_at restarted 8 1003000000)

-- What a listener has of the clock of `clocked 48000`. Both clock packets are true. The last point of the first packet
-- and the first point of the second packet are at hand, and their pair covers the instant 1006125000.
pub record HasPointsAtHand : Type 0 where
  pub all_true : All (IsTrueRow (clocked 48000).clock (pos 0)) two_rows
  pub at_hand : ArePointsAtHand (clocked 48000).clock (pos 0) two_rows (record { packet = 0; at = 1 }) (record { packet = 1; at = 0 })
  pub covers : Covers (pair_at (clocked 48000).clock (record { packet = 0; at = 1 }) (record { packet = 1; at = 0 })) 48000 (pos 1006125000)

-- Packet 9 of `restarted` is counted from packet 8, and packet 17 from packet 16. Packets 10 to 15 have no head, because
-- the restart is between them and packet 8.
pub record HasRestartedHeads : Type 0 where
  pub before : head_of restarted 9 ≡ Some (record { instant = pos 1003000000; first = pos 6 })
  pub between : (n : ℕ) → 10 ≤ n → n ≤ 15 → head_of restarted n ≡ None
  pub behind : head_of restarted 17 ≡ Some (record { instant = pos 1005000000; first = pos 6 })
