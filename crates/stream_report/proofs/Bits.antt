-- Bits that are shifted up, and the lowest bit.
use Rattle.std.proofs.Common.{◌≡◌, ℕ, ◌+◌, ◌-◌, ◌*◌, ◌/◌, ◌%◌, ◌^◌, ◌<◌, ◌≤◌, max, bit_or, refl, sym, ap, ◌∙◌, subst, arith, w64}
use Rattle.std.specs.Int.{bit_at}
use Rattle.std.proofs.lemmas.Nat.Bits.{bit_at-lt, bit_at_or, bit_at-pow_other, bit_at-zero, bit_at_cat_low, bit_at_set_same, bit_at_set_other}
use Rattle.stream_report.specs.state.Bits.{Moves, Marks}
use lib.Pow.{field, mod-mod-pow, shr-shr, shl-shr}

mod-bit : (n i : ℕ) → i < 64 → bit_at (n % 2 ^ 64) i ≡ bit_at n i
mod-bit n i h =
    let m = 63 - i in
    let e : m + 1 + i ≡ 64 = omega arith in
    subst (λ w. bit_at (n % 2 ^ w) i ≡ bit_at n i) e (ap (λ x. x % 2) (field n (m + 1) i) ∙ mod-mod-pow (n / 2 ^ i) m 1)

moved-high : (n k j : ℕ) → k + j < 64 → bit_at (n * 2 ^ k % 2 ^ 64) (k + j) ≡ bit_at n j
moved-high n k j h = mod-bit (n * 2 ^ k) (k + j) h ∙ ap (λ x. x % 2) (sym (shr-shr (n * 2 ^ k) k j) ∙ ap (λ x. x / 2 ^ j) (shl-shr n k))

plus-zero : (n : ℕ) → n ≡ n + 0
plus-zero n = omega arith

moved-low : (n k i : ℕ) → i < k → i < 64 → bit_at (n * 2 ^ k % 2 ^ 64) i ≡ 0
moved-low n k i lt h = mod-bit (n * 2 ^ k) i h ∙ ap (λ x. bit_at x i) (plus-zero (n * 2 ^ k)) ∙ bit_at_cat_low n k 0 i lt ∙ bit_at-zero i

pub one-other : (i : ℕ) → 0 < i → bit_at 1 i ≡ 0
one-other i lt = bit_at-pow_other 0 i (λ e. omega (arith, e, lt))

or-newest : (n : ℕ) → bit_at (bit_or n 1) 0 ≡ 1
or-newest n = bit_at_or n 1 0 ∙ top (bit_at n 0) (bit_at-lt n 0)
  where
    top : (b : ℕ) → b < 2 → max b 1 ≡ 1
    top b lt = omega arith

max-zero : (b c : ℕ) → c ≡ 0 → max b c ≡ b
max-zero b c e = omega arith

or-other : (n i : ℕ) → 0 < i → bit_at (bit_or n 1) i ≡ bit_at n i
or-other n i lt = bit_at_or n 1 i ∙ max-zero (bit_at n i) (bit_at 1 i) (one-other i lt)

swap-sum : (a b : ℕ) → a + b ≡ b + a
swap-sum a b = omega arith

pub moves-near : (came ahead : ℕ) → 1 ≤ ahead → ahead < 64 → Moves came ahead (bit_or (came * 2 ^ ahead % 2 ^ 64) 1)
moves-near came ahead least lt = record {
  newest = or-newest _;
  between = λ behind some below near. or-other _ behind some ∙ moved-low came ahead behind below near;
  before = λ behind near.
      or-other _ (behind + ahead) (omega arith)
      ∙ ap (bit_at (came * 2 ^ ahead % 2 ^ 64)) (swap-sum behind ahead)
      ∙ moved-high came ahead behind (omega arith);
}

pub moves-far : (came ahead : ℕ) → 64 ≤ ahead → Moves came ahead 1
moves-far came ahead far = record {
  newest = refl;
  between = λ behind some below near. one-other behind some;
  before = λ behind near. absurd (none behind ahead near far);
}
  where
    none : (behind ahead : ℕ) → behind + ahead < 64 → 64 ≤ ahead → ⊥
    none behind ahead near far = omega arith

pub marks : (came behind : ℕ) → behind < 64 → Marks came behind (bit_or came (1 * 2 ^ behind % 2 ^ 64))
marks came behind small = record {
  same = bit_at_set_same w64 came behind small;
  other = λ place ne. bit_at_set_other w64 came behind small place ne;
}
