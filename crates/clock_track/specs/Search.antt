-- What a search for a clock's line looks for, and what it finds.
use Rattle.std.specs.Prelude.{ℤ, pos, ◌+ℤ◌, ◌-ℤ◌, ◌*ℤ◌, ◌<ℤ◌, ℕ, ◌*◌}
use Rattle.clock_track.specs.declared.pair.Pair.{Pair}
use Rattle.clock_track.specs.Limits.{IsSmall}
use Rattle.clock_track.specs.PairLines.{Covers, IsJoined, nominal, step_den}

-- a joined pair with numbers within the limits of the format
pub record IsPair (pair : Pair) : Type 0 where
  pub small : IsSmall pair
  pub joined : IsJoined pair

-- a joined pair that covers the instant, with numbers within the limits of the format
pub record IsCovering (rate : ℕ) (instant : ℤ) (pair : Pair) : Type 0 where
  pub small : IsSmall pair
  pub joined : IsJoined pair
  pub covers : Covers pair rate instant

-- The instant is more than one nominal sample before the pair's later point. If the instant is that early, no joined
-- pair with the same later point covers the instant, because half the sample spacing of a joined pair is less than the
-- nominal spacing.
abbrev pub IsAfter : Pair → ℕ → ℤ → Type 0
IsAfter p rate instant = ((instant -ℤ p.later) *ℤ pos (2 * step_den p rate) +ℤ pos (2 * nominal p)) <ℤ pos 0
