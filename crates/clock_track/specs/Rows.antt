-- The packets of a media clock, and the pairs of their timestamps that are joined (IEEE 1722-2016, 10).
use Rattle.std.specs.Prelude.{◌≡◌, ◌∷◌, All, ℕ, ◌+◌, ◌-◌, ◌*◌, ◌/◌, ◌%◌, ◌^◌, ◌==◌, nat_lt, if◌then◌else◌, Bool, false, ℤ, pos, ◌+ℤ◌, List, ◌++◌, length, filter, Option, Some, None, option_map}
use Rattle.std.specs.List.{filter_map, flat_map, range_with_len}
use Rattle.avtp_base.specs.Octets.{bits}
use Rattle.time_unfold.specs.Stamps.{find_last, last_of, same_flag}
use Rattle.clock_track.specs.declared.clock_row.ClockRow.{ClockRow}
use Rattle.clock_track.specs.declared.pair.Pair.{Pair}
use Rattle.clock_track.specs.PairLines.{Covers, Spot, covers, is_joined, pull_down, pull_up, spot_by}

-- ---- the timestamps of a packet

-- the number of timestamps of a packet
abbrev pub timestamps : ClockRow → ℕ
timestamps row = length row.payload / 8

-- timestamp i of a packet, counted from 0
abbrev pub timestamp : ClockRow → ℕ → ℕ
timestamp row i = bits (8 * i) 0 64 row.payload

-- ---- two adjacent timestamps

-- the pair of two timestamps of a packet's clock, each with `shift` added
abbrev pub pair_of : ℤ → ClockRow → ℕ → ℕ → Pair
pair_of shift row first second = record {
  earlier = pos first +ℤ shift;
  later = pos second +ℤ shift;
  interval = row.interval;
  up = row.base_frequency * pull_up row.pull;
  down = pull_down row.pull;
}

-- the pair of two timestamps of a packet's clock, if both are below 2^62 and the pair is joined
abbrev pub joined_by : ℤ → ClockRow → ℕ → ℕ → Option Pair
joined_by shift row first second =
    if nat_lt first (2 ^ 62) then
    if nat_lt second (2 ^ 62) then
    if is_joined (pair_of shift row first second) then Some (pair_of shift row first second) else None else None else None

-- the pair of timestamps i and i + 1 of one packet, if the pair is joined
abbrev pub inside : ℤ → ClockRow → ℕ → Option Pair
inside shift row i = joined_by shift row (timestamp row i) (timestamp row (i + 1))

-- `row` has the sequence number after that of `before`, and the clock neither restarted nor changed between the two
-- packets
abbrev pub seems_next : ClockRow → ClockRow → Bool
seems_next row before =
    if row.seq == (before.seq + 1) % 256 then
    if same_flag row.mr before.mr then
    if row.base_frequency == before.base_frequency then
    if row.pull == before.pull then row.interval == before.interval else false else false else false else false

-- the pair of the last timestamp of `before` and the first timestamp of `row`, if `row` seems to be the next packet and
-- the pair is joined
abbrev pub across : ℤ → ClockRow → ClockRow → Option Pair
across shift row before =
    if seems_next row before then
    if nat_lt 0 (timestamps before) then
    if nat_lt 0 (timestamps row) then joined_by shift row (timestamp before (timestamps before - 1)) (timestamp row 0)
    else None else None else None

-- ---- all pairs

-- The joined pairs whose later point is in this packet, in the order of the later points. Pairs with the same later
-- point are in the order of their earlier points.
abbrev pub pairs_at : ℤ → List ClockRow → ClockRow → List Pair
pairs_at shift rows row =
    filter_map (across shift row) rows ++ filter_map (inside shift row) (range_with_len 0 (timestamps row - 1))

-- all joined pairs of the packets, in the order of their later points
abbrev pub joined_pairs : ℤ → List ClockRow → List Pair
joined_pairs shift rows = flat_map (pairs_at shift rows) rows

-- ---- the line of an instant

-- the packets that give points
abbrev pub used : List ClockRow → List ClockRow
used rows = filter (λ row. row.usable) rows

-- the last 64 packets that give points
abbrev pub window : List ClockRow → List ClockRow
window rows = last_of 64 (used rows)

-- the last joined pair that covers an instant
abbrev pub latest : ℤ → ℤ → ℕ → List ClockRow → Option Pair
latest shift instant rate rows = find_last (λ pair. covers pair rate instant) (joined_pairs shift rows)

-- `pair` is in the list and covers the instant, and no later pair in the list covers the instant
pub record IsLastCovering (rate : ℕ) (instant : ℤ) (pairs : List Pair) (pair : Pair) : Type 0 where
  pub before : List Pair
  pub behind : List Pair
  pub place : pairs ≡ before ++ pair ∷ behind
  pub covers : Covers pair rate instant
  pub none_behind : All (λ other. ¬ Covers other rate instant) behind

-- The pair is the last one in the list that covers the instant. If the pair is `None`, no pair in the list covers the
-- instant.
abbrev pub IsLatest : ℕ → ℤ → List Pair → Option Pair → Type 0
IsLatest rate instant pairs None = All (λ pair. ¬ Covers pair rate instant) pairs
IsLatest rate instant pairs (Some pair) = IsLastCovering rate instant pairs pair

-- The line of a sample with this presentation time, and the sample's number on that line, according to a clock's
-- packets so far. `None` if no pair covers the presentation time.
abbrev pub clock_spot : List ClockRow → ℤ → ℤ → ℕ → Option Spot
clock_spot rows shift instant rate = option_map (λ pair. spot_by pair rate instant) (latest shift instant rate (window rows))
