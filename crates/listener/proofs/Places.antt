-- How many of the entries below index n are shown. Each shown item is presented or flagged.
use Rattle.std.proofs.Common.{◌≡◌, ℕ, suc, ◌+◌, ◌<◌, ◌≤◌, Bool, cond, List, [], ◌∷◌, length, refl, arith, inl, inr}
use Rattle.std.specs.Prelude.{◌==◌, count_by, nat_lt}
use Rattle.std.proofs.lemmas.Bool.{cases_lt}
use Rattle.std.proofs.lemmas.Bool.Decides.{nat_tests}
use Rattle.std.proofs.lemmas.List.Sums.{sum_by-cons}
use Rattle.sample_schedule.specs.declared.shown.Shown.{Shown}
use Rattle.sample_schedule.specs.declared.shown.Shown.TheVariants.{Present, Flag}
use Rattle.sample_schedule.specs.Laws.{place_of}
use Rattle.sample_schedule.specs.Schedule.{Given}
use Rattle.listener.specs.Heard.{is_flag, is_present}

abbrev pub counted : Bool → ℕ
counted b = cond b 1 0

abbrev pub at : ℕ → Given → Bool
at i g = place_of g == i

abbrev pub below : ℕ → Given → Bool
below n g = nat_lt (place_of g) n

pub count-next : {X : Type 0} (p : X → Bool) (x : X) (xs : List X) → count_by p (x ∷ xs) ≡ counted (p x) + count_by p xs
count-next {X} p x xs = sum_by-cons (λ (y : X). counted (p y)) x xs

split : (k n : ℕ) → counted (nat_lt k (suc n)) ≡ counted (nat_lt k n) + counted (k == n)
split k n = grind (arith, nat_tests)

pub below-next : (n : ℕ) (gs : List Given) → count_by (below (suc n)) gs ≡ count_by (below n) gs + count_by (at n) gs
below-next n [] = refl
below-next n (g ∷ gs) =
    omega (arith, count-next (below (suc n)) g gs, count-next (below n) g gs, count-next (at n) g gs, split (place_of g) n, below-next n gs)

not-below : (k : ℕ) → counted (nat_lt k 0) ≡ 0
not-below k = grind (arith, nat_tests)

pub none-below : (gs : List Given) → count_by (below 0) gs ≡ 0
none-below [] = refl
none-below (g ∷ gs) = omega (arith, count-next (below 0) g gs, not-below (place_of g), none-below gs)

same : (k : ℕ) → counted (k == k) ≡ 1
same k = grind (arith, nat_tests)

passes : (k n : ℕ) → k < n → counted (nat_lt k n) ≡ 1
passes k n lt = grind (arith, nat_tests)

pub all-below : (n : ℕ) (gs : List Given) → ((i : ℕ) → n ≤ i → count_by (at i) gs ≡ 0) → count_by (below n) gs ≡ length gs
all-below n [] none = refl
all-below n (g ∷ gs) none =
    let here : place_of g < n = elim (cases_lt (place_of g) n) [
      | inl within ↦ within
      | inr past ↦ absurd (omega (arith, none (place_of g) past, count-next (at (place_of g)) g gs, same (place_of g)))
    ] in
    let rest = all-below n gs (λ i past. omega (arith, none i past, count-next (at i) g gs)) in
    omega (arith, count-next (below n) g gs, passes (place_of g) n here, rest)

pub presented-or-flagged : (list : List Shown) → count_by is_present list + count_by is_flag list ≡ length list
presented-or-flagged [] = refl
presented-or-flagged (Present batch ∷ list) =
    omega (arith, count-next is_present (Present batch) list, count-next is_flag (Present batch) list, presented-or-flagged list)
presented-or-flagged (Flag frame seq reason ∷ list) =
    omega (arith, count-next is_present (Flag frame seq reason) list, count-next is_flag (Flag frame seq reason) list, presented-or-flagged list)
