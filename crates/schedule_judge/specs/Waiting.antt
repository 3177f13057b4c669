-- The batches that wait for their instants.
use Rattle.std.specs.Prelude.{ℕ, List}
use Rattle.sample_schedule.specs.declared.accepted.Accepted.{Accepted}

-- the batches that wait, sorted by first instant and then by index, and the number of batches for which memory is
-- reserved
pub record Held : Type 0 where
  pub list : List Accepted
  pub room : ℕ
