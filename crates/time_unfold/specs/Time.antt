-- Instants: whole nanoseconds of gPTP (IEEE 802.1AS). A packet's timestamp is the low 32 bits of an instant (IEEE
-- 1722-2016, 4.4.4, avtp_timestamp).
use Rattle.std.specs.Prelude.{◌≡◌, ℕ, ◌^◌, ℤ, pos, neg_ℤ, ◌+ℤ◌, ◌-ℤ◌, ◌≤ℤ◌, ◌<ℤ◌}
use Rattle.std.specs.Int.{int_rem_euclid}

-- the time at which a packet was captured, from 0 to 2^62
pub record IsArrival (arrival : ℤ) : Type 0 where
  pub from : pos 0 ≤ℤ arrival
  pub to : arrival ≤ℤ pos (2 ^ 62)

-- an instant that a packet or a sample can have
pub record IsInstant (instant : ℤ) : Type 0 where
  pub from : neg_ℤ (pos (2 ^ 62)) ≤ℤ instant
  pub to : instant <ℤ pos (2 ^ 63)

-- The instant that a timestamp means in a packet with this arrival. The low 32 bits of the instant are the timestamp.
-- The instant is at most 2^31 ns before the arrival, or less than 2^31 ns after the arrival.
pub record Unfolds (timestamp : ℕ) (arrival instant : ℤ) : Type 0 where
  pub low_bits : int_rem_euclid instant (pos (2 ^ 32)) ≡ pos timestamp
  pub from : (arrival -ℤ pos (2 ^ 31)) ≤ℤ instant
  pub to : instant <ℤ (arrival +ℤ pos (2 ^ 31))

-- the instant that a timestamp means in a packet with this arrival, computed from the instant 2^31 ns before the
-- arrival
unfoldable pub unfolded : ℕ → ℤ → ℤ
unfolded timestamp arrival =
    let first = arrival -ℤ pos (2 ^ 31) in
    first +ℤ int_rem_euclid (pos timestamp -ℤ first) (pos (2 ^ 32))
