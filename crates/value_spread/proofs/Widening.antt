-- If the counts of buckets are widened, the sums below each bucket stay the same.
use Rattle.std.proofs.Common.{◌≡◌, ℕ, ◌+◌, ◌-◌, ◌*◌, ◌<◌, ◌≤◌, inl, inr, List, [], ◌∷◌, ◌++◌, length, take, replicate, sum, refl, sym, ap, ◌∙◌, subst, arith}
use Rattle.std.proofs.lemmas.Bool.{cases_lt}
use Rattle.std.proofs.lemmas.List.{length-append, length-replicate, take-append-le, take_all}
use Rattle.std.proofs.lemmas.List.Sums.{sum_by-append, sum_by-take-le}
use Rattle.std.proofs.lemmas.List.Folds.{sum_by-replicate}
use Rattle.std.proofs.Math.Seq.{take-append-add}
use Rattle.value_spread.specs.Spreads.{side}
use Rattle.value_spread.specs.state.Places.{Widens}

pub sum-zeros : (p n : ℕ) → sum (take p (replicate n 0)) ≡ 0
sum-zeros p n = none (sum_by-take-le (λ (m : ℕ). m) (replicate n 0) p) (sum_by-replicate (λ (m : ℕ). m) n 0)
  where
    none : {a b : ℕ} → a ≤ b → b ≡ n * 0 → a ≡ 0
    none le e = omega (arith, le, e)

sum-before : (n : ℕ) (xs : List ℕ) (m : ℕ) → sum (take m (replicate n 0 ++ xs)) ≡ sum (take (m - n) xs)
sum-before n xs m =
    elim (cases_lt n m) [
      | inl past ↦
          ap (λ (k : ℕ). sum (take k (replicate n 0 ++ xs))) (split past (length-replicate {A = ℕ} n 0))
          ∙ ap (λ (l : List ℕ). sum l) (take-append-add (replicate n 0) xs (m - n))
          ∙ sum_by-append (λ (k : ℕ). k) (replicate n 0) (take (m - n) xs)
          ∙ nothing (sum_by-replicate (λ (k : ℕ). k) n 0)
      | inr within ↦
          ap (λ (l : List ℕ). sum l) (take-append-le m (replicate n 0) xs (fits within (length-replicate {A = ℕ} n 0)))
          ∙ sum-zeros m n
          ∙ sym (ap (λ (k : ℕ). sum (take k xs)) (none within))
    ]
  where
    split : {l : ℕ} → n < m → l ≡ n → m ≡ l + (m - n)
    split lt e = omega (arith, lt, e)

    nothing : {a b : ℕ} → a ≡ n * 0 → a + b ≡ b
    nothing e = omega (arith, e)

    fits : {l : ℕ} → m ≤ n → l ≡ n → m ≤ l
    fits le e = omega (arith, le, e)

    none : m ≤ n → m - n ≡ 0
    none le = omega (arith, le)

sum-after : (n : ℕ) (xs : List ℕ) (m : ℕ) → sum (take m (xs ++ replicate n 0)) ≡ sum (take m xs)
sum-after n xs m =
    elim (cases_lt (length xs) m) [
      | inl past ↦
          ap (λ (k : ℕ). sum (take k (xs ++ replicate n 0))) (split past)
          ∙ ap (λ (l : List ℕ). sum l) (take-append-add xs (replicate n 0) (m - length xs))
          ∙ sum_by-append (λ (k : ℕ). k) xs (take (m - length xs) (replicate n 0))
          ∙ ap (λ (z : ℕ). sum xs + z) (sum-zeros (m - length xs) n)
          ∙ more (sum xs)
          ∙ sym (ap (λ (l : List ℕ). sum l) (take_all m xs (before past)))
      | inr within ↦ ap (λ (l : List ℕ). sum l) (take-append-le m xs (replicate n 0) within)
    ]
  where
    split : length xs < m → m ≡ length xs + (m - length xs)
    split lt = omega (arith, lt)

    before : length xs < m → length xs ≤ m
    before lt = omega (arith, lt)

    more : (s : ℕ) → s + 0 ≡ s
    more s = omega arith

-- if `old` has no counts, a single count of 0 for the bucket at index `place` widens `old`
pub begun : (first place : ℕ) (old new : List ℕ) → place < 2 * side → old ≡ [] → new ≡ 0 ∷ [] → Widens first old place new place
begun first place old new within none one = record {
  same = λ to. ap (λ (l : List ℕ). sum (take (to - place) l)) one ∙ sum-zeros (to - place) 1 ∙ sym (ap (λ (l : List ℕ). sum (take (to - first) l)) none ∙ empty (to - first));
  from = omega arith;
  reached = subst (λ (l : List ℕ). place < place + length l) (sym one) (omega arith);
  within = λ _. subst (λ (l : List ℕ). place + length l ≤ 2 * side) (sym one) (omega (arith, within));
}
  where
    empty : (n : ℕ) → sum (take n []) ≡ 0
    empty n = sum-zeros n 0

-- if counts of 0 are put before the counts `old`, the result widens `old` down to the bucket at index `place`
pub lower : (first place : ℕ) (old new : List ℕ) → place < first → new ≡ replicate (first - place) 0 ++ old → Widens first old place new place
lower first place old new lt is = record {
  same = λ to. ap (λ (l : List ℕ). sum (take (to - place) l)) is ∙ sum-before (first - place) old (to - place) ∙ ap (λ (n : ℕ). sum (take n old)) (rest to);
  from = omega arith;
  reached = omega (arith, lt, size);
  within = λ fits. omega (arith, lt, size, fits);
}
  where
    rest : (to : ℕ) → to - place - (first - place) ≡ to - first
    rest to = omega (arith, lt)

    size : length new ≡ first - place + length old
    size = ap (λ (l : List ℕ). length l) is ∙ length-append (replicate (first - place) 0) old ∙ ap (λ (n : ℕ). n + length old) (length-replicate {A = ℕ} (first - place) 0)

-- if counts of 0 are put after the counts `old`, the result widens `old` up to the bucket at index `place`
pub higher : (first place more : ℕ) (old new : List ℕ) → first ≤ place → place < 2 * side → length old + more ≡ place - first + 1
    → new ≡ take (place - first + 1) old ++ replicate more 0 → Widens first old place new first
higher first place more old new le inside enough is = record {
  same = λ to. ap (λ (l : List ℕ). sum (take (to - first) l)) appended ∙ sum-after more old (to - first);
  from = le;
  reached = omega (arith, le, enough, size);
  within = λ _. omega (arith, le, enough, size, inside);
}
  where
    appended : new ≡ old ++ replicate more 0
    appended = is ∙ ap (λ (l : List ℕ). l ++ replicate more 0) (take_all (place - first + 1) old (omega (arith, enough)))

    size : length new ≡ length old + more
    size = ap (λ (l : List ℕ). length l) appended ∙ length-append old (replicate more 0) ∙ ap (λ (n : ℕ). length old + n) (length-replicate {A = ℕ} more 0)

-- if `old` already includes the bucket at index `place`, `old` needs no change
pub kept : (first place : ℕ) (old : List ℕ) → first ≤ place → place - first + 1 ≤ length old → Widens first old place old first
kept first place old le reached = record {
  same = λ to. refl;
  from = le;
  reached = omega (arith, le, reached);
  within = λ fits. fits;
}
