-- Only private functions and proofs use these definitions. Digits that are written two at a time.
use Rattle.std.specs.Prelude.{◌≡◌, ℕ, ◌+◌, ◌/◌, ◌%◌, ◌<◌, ◌≤◌, List, [], ◌∷◌, ◌++◌, length}

-- the two decimal digits of a number below 100
abbrev pub decimal_pair : ℕ → List ℕ
decimal_pair n = (48 + n / 10) ∷ (48 + n % 10) ∷ []

-- the four decimal digits of a number below 10,000
abbrev pub four_digits : ℕ → List ℕ
four_digits n = decimal_pair (n / 100) ++ decimal_pair (n % 100)

-- the eight decimal digits of a number below 100,000,000
unfoldable pub eight_digits : ℕ → List ℕ
eight_digits n = four_digits (n / 10000) ++ four_digits (n % 10000)

-- the number `n` has at most two decimal digits, and the text `out` has room for two at index `at`
pub record FitsPair (n : ℕ) (out : List ℕ) (at : ℕ) : Type 0 where
  pub pair : n < 100
  pub room : at + 2 ≤ length out

-- the number `n` has at most eight decimal digits, and the text `out` has room for exactly eight
pub record FitsEight (n : ℕ) (out : List ℕ) : Type 0 where
  pub number : n < 100000000
  pub room : length out ≡ 8
