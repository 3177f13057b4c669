-- Only private functions and proofs use these definitions. Numbers that are computed in a few bits.
use Rattle.std.specs.Prelude.{◌≡◌, ℕ, ◌*◌, ◌^◌, ◌≤◌, ◌<◌}
use Rattle.clock_track.specs.declared.pair.Pair.{Pair}
use Rattle.clock_track.specs.PairLines.{nominal}

-- the computed number is exact, and it is below the bound
pub record IsExact (computed exact bound : ℕ) : Type 0 where
  pub value : computed ≡ exact
  pub within : computed < bound

-- two numbers are small enough for sums and products in 128 bits
pub record AreNarrow (a b : ℕ) : Type 0 where
  pub num : a < 2 ^ 60
  pub den : b < 2 ^ 60

-- no joined pair of the clock of `p` has a longer period, and the number is below 2^60
pub record IsLongest (p : Pair) (longest : ℕ) : Type 0 where
  pub value : (d : ℕ) → 8 * (d * p.up) ≤ 9 * nominal p → d ≤ longest
  pub within : longest < 2 ^ 60
