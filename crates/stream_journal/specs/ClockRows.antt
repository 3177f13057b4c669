-- What a listener knows of a clock's packets, and how these packets determine the instants of samples.
use Rattle.std.specs.Prelude.{◌≡◌, ℕ, ◌*◌, ◌%◌, ◌<◌, true, ℤ, pos, ◌+ℤ◌, length, get_or}
use Rattle.clock_track.specs.declared.clock_row.ClockRow.{ClockRow}
use Rattle.clock_track.specs.declared.pair.Pair.{Pair}
use Rattle.clock_track.specs.PairLines.{Covers, Spot, spot_by}
use Rattle.clock_track.specs.Rows.{timestamp}
use Rattle.stream_journal.specs.Clocks.{ClockJournal, IsJoinedAt, Place, pair_at}
use Rattle.stream_journal.specs.Journal.{Journal}

-- The row is a copy of the clock's packet m. The row's timestamps plus `shift` are the clock's points.
pub record IsRowOf (c : ClockJournal) (shift : ℤ) (m : ℕ) (row : ClockRow) : Type 0 where
  pub known : m < c.packets
  pub seq : row.seq ≡ m % 256
  pub mr : row.mr ≡ c.mr m
  pub base : row.base_frequency ≡ c.base
  pub pull : row.pull ≡ c.pull
  pub interval : row.interval ≡ c.interval
  pub size : length row.payload ≡ 8 * length (c.points m)
  pub points : (i : ℕ) → i < length (c.points m) → pos (get_or (c.points m) i 0) ≡ pos (timestamp row i) +ℤ shift

-- A row that gives points is a copy of some packet of the clock. Packets can be missing, arrive more than once, and
-- arrive in any order.
abbrev pub IsTrueRow : ClockJournal → ℤ → ClockRow → Type 0
IsTrueRow c shift row = row.usable ≡ true → (m : ℕ) × IsRowOf c shift m row

-- the pair consists of two adjacent points of the clock that are joined
pub record IsTruePair (c : ClockJournal) (pair : Pair) : Type 0 where
  pub earlier : Place
  pub later : Place
  pub joined : IsJoinedAt c earlier later
  pub same : pair ≡ pair_at c earlier later

-- The spot belongs to a sample whose presentation time is `instant`. The spot follows from a joined pair of the clock's
-- points that covers `instant`.
pub record IsSpotAt (j : Journal) (instant : ℤ) (spot : Spot) : Type 0 where
  pub earlier : Place
  pub later : Place
  pub joined : IsJoinedAt j.clock earlier later
  pub covers : Covers (pair_at j.clock earlier later) j.rate instant
  pub same : spot ≡ spot_by (pair_at j.clock earlier later) j.rate instant
