use Rattle.std.specs.Prelude.{◌≡◌, ℕ, ℤ, ◌≤◌, List, decimal, unsigned_abs}
use Rattle.std.specs.Fmt.{signed_decimal}

-- `word` is `n` in decimal digits, without a sign and without leading zeros, and `n` is in range.
pub record IsNumber (low high : ℕ) (word : List ℕ) (n : ℕ) : Type 0 where
  pub least : low ≤ n
  pub most : n ≤ high
  pub spelled : word ≡ decimal n

-- `word` is `z` in decimal digits without leading zeros. A `-` precedes the digits if and only if `z` is negative. `z`
-- is a number from `-most` to `most`.
pub record IsSigned (most : ℕ) (word : List ℕ) (z : ℤ) : Type 0 where
  pub size : unsigned_abs z ≤ most
  pub spelled : word ≡ signed_decimal z
