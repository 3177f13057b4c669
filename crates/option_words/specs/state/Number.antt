-- Only private functions and proofs use these definitions.
use Rattle.std.specs.Prelude.{◌≡◌, ℕ, ◌<◌, ◌≤◌, List, length, slice_index}

-- the first byte is a digit, and if the digit is 0, there is no other byte
pub record BeginsAsNumber (bytes : List ℕ) : Type 0 where
  pub some : 0 < length bytes
  pub low : 48 ≤ slice_index bytes 0
  pub high : slice_index bytes 0 ≤ 57
  pub zero : slice_index bytes 0 ≡ 48 → length bytes ≡ 1
