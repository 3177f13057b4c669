-- The instants of a batch's samples, one after the other.
use Rattle.std.specs.Prelude.{◌≡◌, ℕ, ◌+◌, ◌*◌, ◌^◌, ◌<◌, ◌≤◌, ℤ, pos, ◌+ℤ◌, ◌-ℤ◌, ◌*ℤ◌}
use Rattle.sample_schedule.specs.Batches.{Presented, sample_instant}
use Rattle.sample_schedule.specs.declared.instants.Instant.{Instant}

-- `rest` is the fraction that rounding drops from the instant of sample j. The unit of `rest` is 1 / `den` of a
-- nanosecond; `den` belongs to the batch's line.
pub record IsRestOf (batch : Presented) (j : ℕ) (instant : ℤ) (rest : ℕ) : Type 0 where
  pub steps : (batch.from +ℤ pos j) *ℤ pos batch.line.num ≡ (instant -ℤ batch.line.base) *ℤ pos batch.line.den +ℤ pos rest
  pub below : rest < batch.line.den

-- `i` holds the instant of sample j, the fraction that rounding drops from that instant, and the step from one sample
-- to the next
pub record IsInstantOf (i : Instant) (batch : Presented) : Type 0 where
  pub at : i.nanoseconds ≡ sample_instant batch i.j
  pub is_rest : IsRestOf batch i.j i.nanoseconds i.rest
  pub is_step : i.step * batch.line.den + i.step_rest ≡ batch.line.num
  pub below : i.step_rest < batch.line.den
  pub small : i.step ≤ 2 ^ 60

-- `i` holds the instant of the batch's first sample
pub record IsFirstOf (i : Instant) (batch : Presented) : Type 0 where
  pub first : i.j ≡ 0
  pub is : IsInstantOf i batch

-- the instant went on from one sample of the batch to the next
pub record GoesOn (old new : Instant) (batch : Presented) : Type 0 where
  pub next : new.j ≡ old.j + 1
  pub is : IsInstantOf new batch
