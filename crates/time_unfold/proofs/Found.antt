-- A search of a list for the last item that passes a test.
use Rattle.std.proofs.Common.{◌≡◌, ℕ, ◌-◌, Bool, true, false, cond, List, [], ◌∷◌, ◌++◌, length, Option, Some, None, All, refl, ap, subst}
use Rattle.std.proofs.Math.Seq.{take-append_seam, drop-append_seam}
use Rattle.std.proofs.lemmas.List.Elements.{All-nil, All-cons, All-head, All-take, All-drop}
use Rattle.time_unfold.specs.declared.stamp.Stamp.{Stamp}
use Rattle.time_unfold.specs.declared.stamp.Want.{Want}
use Rattle.time_unfold.specs.Stamps.{IsFound, IsLastFit, find_last, fits, last_of}

pub find_last-passes : {T : Type 0} (test : T → Bool) (xs : List T) (x : T) → test x ≡ true → find_last test (xs ++ x ∷ []) ≡ Some x
find_last-passes test [] x e = rw e refl
find_last-passes test (y ∷ xs) x e = rw (find_last-passes test xs x e) refl

pub find_last-fails : {T : Type 0} (test : T → Bool) (xs : List T) (x : T) → test x ≡ false → find_last test (xs ++ x ∷ []) ≡ find_last test xs
find_last-fails test [] x e = rw e refl
find_last-fails test (y ∷ xs) x e = rw (find_last-fails test xs x e) refl

-- if a search of `ys` finds an item, a search of `xs ++ ys` finds the same item
pub find_last-behind : {T : Type 0} (test : T → Bool) (xs ys : List T) (y : T) → find_last test ys ≡ Some y → find_last test (xs ++ ys) ≡ Some y
find_last-behind test [] ys y e = e
find_last-behind test (x ∷ xs) ys y e = rw (find_last-behind test xs ys y e) refl

pub find_last-before : {T : Type 0} (test : T → Bool) (xs ys : List T) → find_last test ys ≡ None → find_last test (xs ++ ys) ≡ find_last test xs
find_last-before test [] ys e = e
find_last-before test (x ∷ xs) ys e = rw (find_last-before test xs ys e) refl

pub All-front : {T : Type 0} (P : T → Type 0) (xs : List T) (x : T) → All P (xs ++ x ∷ []) → All P xs
All-front {T} P xs x all = subst (λ (l : List T). All P l) (take-append_seam xs (x ∷ [])) (All-take P (length xs) (xs ++ x ∷ []) all)

IsFound-cons : (want : Want) (x : Stamp) (xs : List Stamp) (r : Option Stamp) → find_last (fits want) xs ≡ r → IsFound want xs r → IsFound want (x ∷ xs) (find_last (fits want) (x ∷ xs))
IsFound-cons want x xs (Some s) e is = rw e (record {
  before = x ∷ is.before;
  behind = is.behind;
  place = ap (λ (l : List Stamp). x ∷ l) is.place;
  this_fits = is.this_fits;
  none_behind = is.none_behind;
})
IsFound-cons want x xs None e is = rw e (cases (fits want x) refl)
  where
    cases : (b : Bool) → fits want x ≡ b → IsFound want (x ∷ xs) (cond b (Some x) None)
    cases true f = record { before = []; behind = xs; place = refl; this_fits = f; none_behind = is }
    cases false f = All-cons (λ s. fits want s ≡ false) x xs f is

pub find_last-found : (want : Want) (xs : List Stamp) → IsFound want xs (find_last (fits want) xs)
find_last-found want [] = All-nil (λ s. fits want s ≡ false)
find_last-found want (x ∷ xs) = IsFound-cons want x xs (find_last (fits want) xs) refl (find_last-found want xs)

-- if each stamp has the property `P`, a stamp that is found has it, too
pub found_is : (P : Stamp → Type 0) (want : Want) (room : ℕ) (stamps : List Stamp) (stamp : Stamp) → IsLastFit want (last_of room stamps) stamp → All P stamps → P stamp
found_is P want room stamps stamp is all =
    let last : All P (is.before ++ stamp ∷ is.behind) = subst (λ (l : List Stamp). All P l) is.place (All-drop P (length stamps - room) stamps all) in
    All-head P stamp is.behind (subst (λ (l : List Stamp). All P l) (drop-append_seam is.before (stamp ∷ is.behind)) (All-drop P (length is.before) (is.before ++ stamp ∷ is.behind) last))

pub All-back : {T : Type 0} (P : T → Type 0) (xs ys : List T) → All P (xs ++ ys) → All P ys
All-back {T} P xs ys all = subst (λ (l : List T). All P l) (drop-append_seam xs ys) (All-drop P (length xs) (xs ++ ys) all)
