-- Only private functions and proofs use these definitions. The buckets of a spread, and the bucket in
-- which a rank is reached.
use Rattle.std.specs.Prelude.{◌≡◌, ℕ, ◌+◌, ◌-◌, ◌*◌, ◌<◌, ◌≤◌, ℤ, ◌≤ℤ◌, ◌<ℤ◌, List, length, sum, take}
use Rattle.value_spread.specs.declared.spread.Spread.{Spread}
use Rattle.value_spread.specs.Spreads.{TellsOf, edge, first_in, number_below, side}

-- the magnitude is in the bucket at index `bucket`
pub record InBucket (magnitude bucket : ℕ) : Type 0 where
  pub first : first_in bucket ≤ magnitude
  pub next : magnitude < first_in (bucket + 1)
  pub within : bucket < side

-- the value is in the bucket at index `place`
pub record HasPlace (value : ℤ) (place : ℕ) : Type 0 where
  pub first : edge place ≤ℤ value
  pub next : value <ℤ edge (place + 1)
  pub within : place < 2 * side

-- the value with this rank is in the bucket at index `place`
pub record Reaches (values : List ℤ) (rank place : ℕ) : Type 0 where
  pub before : number_below (edge place) values < rank
  pub reached : rank ≤ number_below (edge (place + 1)) values

-- the bucket at index `place` holds the value with this rank, among the values that `spread` describes
pub record HoldsRank (spread : Spread) (rank place : ℕ) : Type 0 where
  pub within : place < 2 * side
  pub reaches : (values : List ℤ) → TellsOf spread values → rank ≤ length values → Reaches values rank place

-- The counts `old` are those of the buckets from index `first` on, and the counts `new` are those of the buckets from
-- index `now` on. `new` includes the bucket at index `place`. Below each bucket, `new` counts as many values as `old`.
pub record Widens (first : ℕ) (old : List ℕ) (place : ℕ) (new : List ℕ) (now : ℕ) : Type 0 where
  pub same : (to : ℕ) → sum (take (to - now) new) ≡ sum (take (to - first) old)
  pub from : now ≤ place
  pub reached : place < now + length new
  pub within : first + length old ≤ 2 * side → now + length new ≤ 2 * side
