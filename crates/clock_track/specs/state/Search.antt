-- Only private functions and proofs use these definitions. What a search for a clock's line looks for,
-- and what it finds.
use Rattle.std.specs.Prelude.{◌≡◌, ◌^◌, ◌<◌, ℕ, ℤ, Bool, if◌then◌else◌, List, All, Option, Some, None, IfSome}
use Rattle.clock_track.specs.declared.clock_row.ClockRow.{ClockRow}
use Rattle.clock_track.specs.declared.pair.Pair.{Pair}
use Rattle.clock_track.specs.declared.query.Query.{Query}
use Rattle.clock_track.specs.Limits.{IsNotable, IsSmall}
use Rattle.clock_track.specs.PairLines.{covers}
use Rattle.clock_track.specs.Rows.{joined_by, latest, pair_of, used, window}
use Rattle.clock_track.specs.Search.{IsCovering, IsPair}

-- whether a pair covers the instant of a query
abbrev pub test_of : Query → Pair → Bool
test_of query pair = covers pair query.rate query.instant

-- the pair if it passes the test, otherwise `None`
abbrev pub kept : (Pair → Bool) → Option Pair → Option Pair
kept test None = None
kept test (Some pair) = if test pair then Some pair else None

-- two timestamps are points: both are below 2^62
pub record ArePoints (first second : ℕ) : Type 0 where
  pub earlier : first < 2 ^ 62
  pub later : second < 2 ^ 62

-- the pair of two timestamps of a packet's clock, with numbers within the limits of the format
pub record IsPairOf (shift : ℤ) (row : ClockRow) (first second : ℕ) (pair : Pair) : Type 0 where
  pub value : pair ≡ pair_of shift row first second
  pub small : IsSmall pair

-- the pair of two timestamps of a packet's clock if it is joined, with numbers within the limits of the format
pub record IsJoinedOf (shift : ℤ) (row : ClockRow) (first second : ℕ) (joined : Option Pair) : Type 0 where
  pub value : joined ≡ joined_by shift row first second
  pub pair : IfSome joined IsPair

-- The packets that are searched are within the limits of the format. Bounds of their pairs are known for this shift.
pub record AreSearched (packets : List ClockRow) (known : ℤ → Type 0) (shift : ℤ) : Type 0 where
  pub rows : All IsNotable packets
  pub bounded : known shift

-- `last` is the last joined pair that covers the instant of a query, if any
pub record IsLatestOf (packets : List ClockRow) (query : Query) (last : Option Pair) : Type 0 where
  pub value : last ≡ latest query.shift query.instant query.rate (used packets)
  pub covering : IfSome last (IsCovering query.rate query.instant)

-- `some` are the last packets of `all`. Among them are the last 64 packets that give points, or all such packets if there
-- are fewer.
pub record AreRecent (all some : List ClockRow) : Type 0 where
  pub window : used some ≡ window all
  pub notable : All IsNotable some
