-- Lemmas about functions of natural numbers.
use Rattle.std.proofs.Common.{◌≡◌, ℕ, zero, suc, ◌+◌, ◌-◌, ◌≤◌, [], ◌∷◌, ◌++◌, map, refl, ap, ◌∙◌, arith}
use Rattle.std.specs.List.{range_with_len}

rises_by : (g : ℕ → ℕ) → ((k : ℕ) → g k ≤ g (k + 1)) → (a k d : ℕ) → a + d ≡ k → g a ≤ g k
rises_by g rises a k zero e = let same : a ≡ k = omega arith in rw same (omega arith)
rises_by g rises a k (suc d) e =
    let step = rises_by g rises a (a + d) d refl in
    let next = rises (a + d) in
    let place : a + d + 1 ≡ k = omega arith in
    let same : g (a + d + 1) ≡ g k = ap g place in
    omega arith

pub rises : (g : ℕ → ℕ) → ((k : ℕ) → g k ≤ g (k + 1)) → (a k : ℕ) → a ≤ k → g a ≤ g k
rises g each a k h = rises_by g each a k (k - a) (omega arith)

pub map_more : {X : Type 0} (f : ℕ → X) (a i : ℕ) → map f (range_with_len a (suc i)) ≡ map f (range_with_len a i) ++ (f (a + i) ∷ [])
map_more f a zero = let here : a ≡ a + 0 = omega arith in ap (λ (n : ℕ). f n ∷ []) here
map_more f a (suc i) =
    let next : a + 1 + i ≡ a + suc i = omega arith in
    ap (λ xs. f a ∷ xs) (map_more f (a + 1) i ∙ ap (λ (n : ℕ). map f (range_with_len (a + 1) i) ++ (f n ∷ [])) next)
