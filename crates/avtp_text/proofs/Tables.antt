-- The tables of pairs of digits hold the digits of each number.
use Rattle.std.proofs.Common.{◌≡◌, ℕ, zero, suc, ◌+◌, ◌*◌, ◌/◌, ◌%◌, ◌<◌, Bool, true, false, ◌&&◌, ◌==◌, List, [], ◌∷◌, length, get_or, slice_index, refl, arith}
use Rattle.std.proofs.lemmas.Bool.{and_parts, eqb-true}
use Rattle.hex.specs.Hex.{lower_digits}
use Rattle.avtp_text.specs.declared.pairs.TheConstants.{DECIMAL, HEXADECIMAL}

-- the table holds the two digits of `n`, then the two digits of `n + 1`, and so on to the table's end
abbrev holds : (ℕ → ℕ) → (ℕ → ℕ) → ℕ → List ℕ → Bool
holds first second n [] = true
holds first second n (a ∷ []) = false
holds first second n (a ∷ b ∷ rest) = (a == first n) && ((b == second n) && holds first second (suc n) rest)

pair_at : (first second : ℕ → ℕ) (n k : ℕ) (table : List ℕ) → holds first second n table ≡ true → 2 * k < length table
    → (get_or table (2 * k) 0 ≡ first (n + k)) × (get_or table (2 * k + 1) 0 ≡ second (n + k))
pair_at first second n k [] h lt = absurd (omega (arith, lt))
pair_at first second n k (a ∷ []) h lt = absurd cc
pair_at first second n zero (a ∷ b ∷ rest) h lt =
    let one = and_parts (a == first n) ((b == second n) && holds first second (suc n) rest) h in
    let two = and_parts (b == second n) (holds first second (suc n) rest) one.1 in
    let here : n + 0 ≡ n = omega arith in
    rw here (eqb-true a (first n) one.0, eqb-true b (second n) two.0)
pair_at first second n (suc k) (a ∷ b ∷ rest) h lt =
    let one = and_parts (a == first n) ((b == second n) && holds first second (suc n) rest) h in
    let two = and_parts (b == second n) (holds first second (suc n) rest) one.1 in
    let place : 2 * suc k ≡ suc (suc (2 * k)) = omega arith in
    let next : suc (suc (2 * k)) + 1 ≡ suc (suc (2 * k + 1)) = omega arith in
    let after : n + suc k ≡ suc n + k = omega arith in
    rw (place, next, after) (pair_at first second (suc n) k rest two.1 (omega (arith, lt)))

pub decimal_at : (n : ℕ) → n < 100 → (get_or DECIMAL (2 * n) 0 ≡ 48 + n / 10) × (get_or DECIMAL (2 * n + 1) 0 ≡ 48 + n % 10)
decimal_at n lt = let from : 0 + n ≡ n = omega arith in rw from at (pair_at (λ k. 48 + k / 10) (λ k. 48 + k % 10) 0 n DECIMAL refl (omega (arith, lt)))

pub hexadecimal_at : (n : ℕ) → n < 256 → (get_or HEXADECIMAL (2 * n) 0 ≡ slice_index lower_digits (n / 16)) × (get_or HEXADECIMAL (2 * n + 1) 0 ≡ slice_index lower_digits (n % 16))
hexadecimal_at n lt = let from : 0 + n ≡ n = omega arith in rw from at (pair_at (λ k. slice_index lower_digits (k / 16)) (λ k. slice_index lower_digits (k % 16)) 0 n HEXADECIMAL refl (omega (arith, lt)))
