-- Numbers that are equal modulo 256.
use Rattle.std.proofs.Common.{◌≡◌, ◌≢◌, ◌⊎◌, inl, inr, ℕ, ◌+◌, ◌%◌, ◌≤◌, arith}
use Rattle.std.proofs.lemmas.Bool.{cases_lt}

pub far_numbers : (a n : ℕ) → a % 256 ≡ n % 256 → a ≢ n → (a + 256 ≤ n) ⊎ (n + 256 ≤ a)
far_numbers a n e other = elim (cases_lt a n) [ inl h ↦ inl (omega arith) | inr h ↦ inr (omega arith) ]
