-- Only private functions and proofs use these definitions. The bits of a window: bit `i` says whether
-- the newest number minus `i` has arrived.
use Rattle.std.specs.Prelude.{◌≡◌, ◌≢◌, ℕ, ◌+◌, ◌<◌}
use Rattle.std.specs.Int.{bit_at}

-- the newest number rose by `ahead`, and the numbers that were skipped have not arrived
pub record Moves (came ahead now : ℕ) : Type 0 where
  pub newest : bit_at now 0 ≡ 1
  pub between : (behind : ℕ) → 0 < behind → behind < ahead → behind < 64 → bit_at now behind ≡ 0
  pub before : (behind : ℕ) → behind + ahead < 64 → bit_at now (behind + ahead) ≡ bit_at came behind

-- the newest number minus `behind` is now marked as arrived; no other mark changed
pub record Marks (came behind now : ℕ) : Type 0 where
  pub same : bit_at now behind ≡ 1
  pub other : (place : ℕ) → place ≢ behind → bit_at now place ≡ bit_at came place
