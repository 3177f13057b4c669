-- A walk along a list changes each element once. The walk also counts how many more elements pass a test after the walk
-- than before it.
use Rattle.std.proofs.Common.{◌≡◌, ℕ, ◌+◌, ◌<◌, ◌≤◌, Bool, true, false, cond, not, ◌&&◌, List, [], ◌∷◌, ◌++◌, length, get_or, set, take, drop, refl, sym, subst, ◌∙◌, arith, count_by, length-set}
use Rattle.std.specs.List.{AllZip}
use Rattle.std.proofs.lemmas.List.{drop_more, drop-set-lt, take_more, take_more_set, take_all, length-take}
use Rattle.std.proofs.lemmas.List.Sums.{sum_by-append, length-filter, count_by-le-length}
use Rattle.std.proofs.lemmas.List.Filters.{length-filter_both}
use Rattle.std.specs.Int.{from_bool}
use Rattle.std.proofs.lemmas.List.Elements.{AllZip-push}

-- The elements before index i were changed as `R` says, and the elements from index i on are unchanged. After the
-- change, `turned` more elements pass the test than before it.
pub record HasWalked {X : Type 0} (R : X → X → Type 0) (test : X → Bool) (old new : List X) (i turned : ℕ) : Type 0 where
  pub long : length new ≡ length old
  pub changed : AllZip R (take i old) (take i new)
  pub rest : drop i new ≡ drop i old
  pub count : count_by test (take i new) ≡ count_by test (take i old) + turned

pub HasWalked-start : {X : Type 0} (R : X → X → Type 0) (test : X → Bool) (xs : List X) → HasWalked R test xs xs 0 0
HasWalked-start R test xs = record { long = refl; changed = tt; rest = refl; count = refl }

-- the element at index i is unchanged
same_ahead : {X : Type 0} (old new : List X) (i : ℕ) (x : X) → i < length old → length new ≡ length old → drop i new ≡ drop i old → x ≡ get_or new i x → (x ≡ get_or old i x) × (drop (i + 1) new ≡ drop (i + 1) old)
same_ahead old new i x below long rest is =
    let a : drop i new ≡ get_or new i x ∷ drop (i + 1) new = drop_more new i x (omega arith) in
    let b : drop i old ≡ get_or old i x ∷ drop (i + 1) old = drop_more old i x below in
    (cc, cc)

pub HasWalked-next : {X : Type 0} (R : X → X → Type 0) (test : X → Bool) (old new : List X) (i turned more : ℕ) (x y : X)
    → HasWalked R test old new i turned → i < length old → x ≡ get_or new i x → R (get_or new i x) y → cond (test y) 1 0 ≡ cond (test (get_or new i x)) 1 0 + more
    → HasWalked R test old (set new i y) (i + 1) (turned + more)
HasWalked-next R test old new i turned more x y walked below is step' counts' =
    let step : R x y = subst (λ z. R z y) (sym is) step' in
    let counts : cond (test y) 1 0 ≡ cond (test x) 1 0 + more = subst (λ z. cond (test y) 1 0 ≡ cond (test z) 1 0 + more) (sym is) counts' in
    let ahead = same_ahead old new i x below walked.long walked.rest is in
    let inside : i < length new = omega arith in
    let left : take (i + 1) old ≡ take i old ++ x ∷ [] = subst (λ z. take (i + 1) old ≡ take i old ++ z ∷ []) (sym ahead.0) (take_more old i x below) in
    let right : take (i + 1) (set new i y) ≡ take i new ++ y ∷ [] = take_more_set new i y inside in
    record {
      long = length-set new i y ∙ walked.long;
      changed = rw (left, right) (AllZip-push R (take i old) (take i new) x y walked.changed step);
      rest = drop-set-lt (i + 1) new i y (omega arith) ∙ ahead.1;
      count = rw (left, right, sum_by-append (λ z. cond (test z) 1 0) (take i new) (y ∷ []), sum_by-append (λ z. cond (test z) 1 0) (take i old) (x ∷ [])) (omega (arith, walked.count));
    }

pub HasWalked-end : {X : Type 0} (R : X → X → Type 0) (test : X → Bool) (old new : List X) (i turned : ℕ)
    → HasWalked R test old new i turned → length old ≤ i → AllZip R old new × (count_by test new ≡ count_by test old + turned)
HasWalked-end R test old new i turned walked all =
    let left : take i old ≡ old = take_all i old all in
    let right : take i new ≡ new = take_all i new (omega (arith, walked.long)) in
    (rw (left, right) at walked.changed, rw (left, right) at walked.count)

pub both_counts : {X : Type 0} (test : X → Bool) (xs : List X) → count_by test xs + count_by (λ x. not (test x)) xs ≡ length xs
both_counts test xs =
    omega (arith, length-filter_both test (λ x. not (test x)) (λ x. refl) xs, length-filter test xs, length-filter (λ x. not (test x)) xs)

pub turned_counts : (old new turned : Bool) → turned ≡ (old && not new) → (old ≡ false → new ≡ false) → cond (not new) 1 0 ≡ cond (not old) 1 0 + from_bool turned
turned_counts true true turned is stays = rw is refl
turned_counts true false turned is stays = rw is refl
turned_counts false true turned is stays = absurd (let h = stays refl in cc)
turned_counts false false turned is stays = rw is refl

-- `turned` is at most `i`
pub HasWalked-bound : {X : Type 0} (R : X → X → Type 0) (test : X → Bool) (old new : List X) (i turned : ℕ) → HasWalked R test old new i turned → turned ≤ i
HasWalked-bound R test old new i turned walked =
    omega (arith, count_by-le-length test (take i new), length-take i new, walked.count)

pub from_bool-le : (b : Bool) → from_bool b ≤ 1
from_bool-le true = omega arith
from_bool-le false = omega arith
