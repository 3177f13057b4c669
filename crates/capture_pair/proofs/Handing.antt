-- The matching is given the items that a listener shows.
use Rattle.std.proofs.Common.{◌≡◌, ℕ, zero, suc, ◌+◌, ◌<◌, ◌≤◌, Bool, true, false, ◌⊎◌, inl, inr, List, [], ◌∷◌, ◌++◌, length, take, drop, Option, Some, None, refl, sym, ap, ◌∙◌, subst, append-nil, arith}
use Rattle.std.specs.Prelude.{slice_get}
use Rattle.std.specs.Option.{option_to_list}
use Rattle.std.proofs.lemmas.List.{length-take, take-append-drop}
use Rattle.std.proofs.lemmas.Option.{slice_get_within}
use Rattle.sample_schedule.specs.Batches.{Presented}
use Rattle.sample_schedule.specs.declared.shown.Shown.{Shown}
use Rattle.sample_schedule.specs.declared.shown.Shown.TheVariants.{Present, Flag}
use Rattle.listener.specs.Laws.{presented_of}
use Rattle.listener.proofs.Listened.{take_next}
use Rattle.listener_pair.specs.declared.difference.Which.{Which}
use Rattle.listener_pair.specs.declared.difference.Which.TheVariants.{A, B}
use Rattle.listener_pair.specs.Merged.{IsInOrder}
use Rattle.listener_pair.specs.Matching.{MatchingState, StandsFor, ended_by, given_to, nexts_left, wanted}
use Rattle.listener_pair.proofs.Standing.{contradicts, ended-a, ended-b, given-a, given-b, lacks-open, lacks-some, wants-a, wants-b}
use Rattle.capture_pair.specs.state.Sides.{Filled, Going, IsHeard, MatchesOn, handed, is_passed, one_if_open, open_sides}
use Rattle.capture_pair.proofs.Joined.{order-front}

-- ---- what is presented

pub presented-append : (xs ys : List Shown) → presented_of (xs ++ ys) ≡ presented_of xs ++ presented_of ys
presented-append [] ys = refl
presented-append (Present batch ∷ xs) ys = ap (λ (l : List Presented). batch ∷ l) (presented-append xs ys)
presented-append (Flag frame seq reason ∷ xs) ys = presented-append xs ys

pub presented-few : (xs : List Shown) → length (presented_of xs) ≤ length xs
presented-few [] = omega arith
presented-few (Present batch ∷ xs) = let h = presented-few xs in omega arith
presented-few (Flag frame seq reason ∷ xs) = let h = presented-few xs in omega arith

get-none : (n : ℕ) (xs : List Shown) → slice_get xs n ≡ None → length xs ≤ n
get-none n [] e = omega arith
get-none zero (y ∷ xs) e = absurd (cc)
get-none (suc n) (y ∷ xs) e = let h = get-none n xs e in omega arith

pub presented-split : (n : ℕ) (xs : List Shown) → presented_of (take n xs) ++ presented_of (drop n xs) ≡ presented_of xs
presented-split n xs = sym (presented-append (take n xs) (drop n xs)) ∙ ap presented_of (take-append-drop n xs)

taken-few : (n : ℕ) (xs : List Shown) → length (presented_of (take n xs)) ≤ n
taken-few n xs = let a = presented-few (take n xs) in let b = length-take n xs in omega arith

-- if item n is a batch, the batches among the first n + 1 items are those among the first n items, followed by this
-- batch
next-batch : (n : ℕ) (xs : List Shown) (batch : Presented) → slice_get xs n ≡ Some (Present batch) → presented_of (take (n + 1) xs) ≡ presented_of (take n xs) ++ batch ∷ []
next-batch n xs batch e =
    ap presented_of (take_next xs n (Present batch) e) ∙ presented-append (take n xs) (Present batch ∷ [])

next-flag : (n : ℕ) (xs : List Shown) (x : Shown) → slice_get xs n ≡ Some x → presented_of (x ∷ []) ≡ [] → presented_of (take (n + 1) xs) ≡ presented_of (take n xs)
next-flag n xs x e f =
    ap presented_of (take_next xs n x e) ∙ presented-append (take n xs) (x ∷ []) ∙ ap (λ (l : List Presented). presented_of (take n xs) ++ l) f ∙ append-nil (presented_of (take n xs))

-- if item n is a batch, the batches among the first n items and then this batch are in order
next-order : (n : ℕ) (xs : List Shown) (batch : Presented) → IsHeard xs → slice_get xs n ≡ Some (Present batch) → IsInOrder (presented_of (take n xs) ++ batch ∷ [])
next-order n xs batch h e =
    subst IsInOrder (next-batch n xs batch e) (order-front (presented_of (take (n + 1) xs)) (presented_of (drop (n + 1) xs)) (subst IsInOrder (sym (presented-split (n + 1) xs)) h.order))

-- ---- the wanted side

wanted-open-a : (m : MatchingState) → wanted m ≡ Some A → m.ended_a ≡ false
wanted-open-a m w = lacks-open m.ended_a m.next_a (wants-a m w)

wanted-open-b : (m : MatchingState) → wanted m ≡ Some B → m.ended_b ≡ false
wanted-open-b m w = lacks-open m.ended_b m.next_b (wants-b m w)

given-on : (which : Which) (list other : List Shown) (n k given : ℕ) (m : MatchingState) (batch : Presented) → IsHeard list → IsHeard other → wanted m ≡ Some which → slice_get list n ≡ Some (Present batch) → MatchesOn which list other n k given m
    → MatchesOn which list other (n + 1) k given (given_to which batch m)
given-on A list other n k given m batch hl ho w e h = record {
  within_a = let h = slice_get_within list n (Present batch) e in omega arith;
  within_b = h.within_b;
  matched = subst (λ (l : List Presented). StandsFor l (presented_of (take k other)) given (given_to A batch m)) (sym (next-batch n list batch e))
      (given-a (presented_of (take n list)) (presented_of (take k other)) given m batch h.matched w (next-order n list batch hl e)
      (let a = slice_get_within list n (Present batch) e in let b = taken-few n list in let c = taken-few k other in let d = h.within_b in let x = hl.few in let y = ho.few in omega arith));
  ended_a = λ t. contradicts m.ended_a (wanted-open-a m w) t;
  ended_b = h.ended_b;
}
given-on B list other n k given m batch hl ho w e h = record {
  within_a = h.within_a;
  within_b = let h = slice_get_within list n (Present batch) e in omega arith;
  matched = subst (λ (l : List Presented). StandsFor (presented_of (take k other)) l given (given_to B batch m)) (sym (next-batch n list batch e))
      (given-b (presented_of (take k other)) (presented_of (take n list)) given m batch h.matched w (next-order n list batch hl e)
      (let a = slice_get_within list n (Present batch) e in let b = taken-few n list in let c = taken-few k other in let d = h.within_a in let x = hl.few in let y = ho.few in omega arith));
  ended_a = h.ended_a;
  ended_b = λ t. contradicts m.ended_b (wanted-open-b m w) t;
}

passed-on : (which : Which) (list other : List Shown) (n k given : ℕ) (m : MatchingState) (x : Shown) → wanted m ≡ Some which → slice_get list n ≡ Some x → presented_of (x ∷ []) ≡ [] → MatchesOn which list other n k given m → MatchesOn which list other (n + 1) k given m
passed-on A list other n k given m x w e f h = record {
  within_a = let h = slice_get_within list n x e in omega arith;
  within_b = h.within_b;
  matched = subst (λ (l : List Presented). StandsFor l (presented_of (take k other)) given m) (sym (next-flag n list x e f)) h.matched;
  ended_a = λ t. contradicts m.ended_a (wanted-open-a m w) t;
  ended_b = h.ended_b;
}
passed-on B list other n k given m x w e f h = record {
  within_a = h.within_a;
  within_b = let h = slice_get_within list n x e in omega arith;
  matched = subst (λ (l : List Presented). StandsFor (presented_of (take k other)) l given m) (sym (next-flag n list x e f)) h.matched;
  ended_a = h.ended_a;
  ended_b = λ t. contradicts m.ended_b (wanted-open-b m w) t;
}

all-given : (n : ℕ) (list : List Shown) → n ≤ length list → slice_get list n ≡ None → n ≡ length list
all-given n list w e = let h = get-none n list e in omega arith

ended-on : (which : Which) (list other : List Shown) (n k given : ℕ) (m : MatchingState) → slice_get list n ≡ None → MatchesOn which list other n k given m → MatchesOn which list other n k given (ended_by which m)
ended-on A list other n k given m e h = record {
  within_a = h.within_a;
  within_b = h.within_b;
  matched = ended-a (presented_of (take n list)) (presented_of (take k other)) given m h.matched;
  ended_a = λ t. all-given n list h.within_a e;
  ended_b = h.ended_b;
}
ended-on B list other n k given m e h = record {
  within_a = h.within_a;
  within_b = h.within_b;
  matched = ended-b (presented_of (take k other)) (presented_of (take n list)) given m h.matched;
  ended_a = h.ended_a;
  ended_b = λ t. all-given n list h.within_b e;
}

no-more : (which : Which) (list other : List Shown) (n k given : ℕ) (m : MatchingState) → MatchesOn which list other n k given m → MatchesOn which list other (n + 0) k given m
no-more which list other n k given m h = subst (λ (i : ℕ). MatchesOn which list other i k given m) (omega arith) h

pub hands-on : (which : Which) (list other : List Shown) (n k given : ℕ) (m : MatchingState) (next : Option Shown) (ended : Bool) → IsHeard list → IsHeard other → wanted m ≡ Some which → next ≡ slice_get list n → MatchesOn which list other n k given m
    → MatchesOn which list other (n + length (option_to_list next)) k given (handed which next ended m)
hands-on which list other n k given m (Some (Present batch)) ended hl ho w e h = given-on which list other n k given m batch hl ho w (sym e) h
hands-on which list other n k given m (Some (Flag frame seq reason)) ended hl ho w e h = passed-on which list other n k given m (Flag frame seq reason) w (sym e) refl h
hands-on which list other n k given m None true hl ho w e h = no-more which list other n k given (ended_by which m) (ended-on which list other n k given m (sym e) h)
hands-on which list other n k given m None false hl ho w e h = no-more which list other n k given m h

-- ---- a side that is still wanted

gives-no : {P : Type 0} (which : Which) (batch : Presented) (m : MatchingState) → wanted (given_to which batch m) ≡ Some which → P
gives-no A batch m h = lacks-some m.ended_a batch (wants-a (given_to A batch m) h)
gives-no B batch m h = lacks-some m.ended_b batch (wants-b (given_to B batch m) h)

ends-no : {P : Type 0} (which : Which) (m : MatchingState) → wanted (ended_by which m) ≡ Some which → P
ends-no A m h = let e = wants-a (ended_by A m) h in absurd (cc)
ends-no B m h = let e = wants-b (ended_by B m) h in absurd (cc)

-- The listener showed no item, and has not ended.
pub record Waits (next : Option Shown) (ended : Bool) : Type 0 where
  pub none : next ≡ None
  pub opened : ended ≡ false

pub still-wanted : (which : Which) (next : Option Shown) (ended : Bool) (m : MatchingState) → is_passed next ≡ false → wanted (handed which next ended m) ≡ Some which → Waits next ended
still-wanted which (Some (Present batch)) ended m p w = gives-no which batch m w
still-wanted which (Some (Flag frame seq reason)) ended m p w = absurd (cc)
still-wanted which None true m p w = ends-no which m w
still-wanted which None false m p w = record { none = refl; opened = refl }

pub handed-passed : (which : Which) (next : Option Shown) (ended : Bool) (m : MatchingState) → is_passed next ≡ true → handed which next ended m ≡ m
handed-passed which (Some (Present batch)) ended m p = absurd (cc)
handed-passed which (Some (Flag frame seq reason)) ended m p = refl
handed-passed which None ended m p = absurd (cc)

pub passed-one : (next : Option Shown) → is_passed next ≡ true → length (option_to_list next) ≡ 1
passed-one (Some (Present batch)) p = absurd (cc)
passed-one (Some (Flag frame seq reason)) p = refl
passed-one None p = absurd (cc)

pub waits-all : (n : ℕ) (list : List Shown) (next : Option Shown) (ended : Bool) → Waits next ended → n ≤ length list → next ≡ slice_get list n → n + length (option_to_list next) ≡ length list
waits-all n list next ended w within e =
    ap (λ (o : Option Shown). n + length (option_to_list o)) w.none ∙ (let h = all-given n list within (sym e ∙ w.none) in omega arith)

pub within-on : (which : Which) (list other : List Shown) (n k given : ℕ) (m : MatchingState) → MatchesOn which list other n k given m → n ≤ length list
within-on A list other n k given m h = h.within_a
within-on B list other n k given m h = h.within_b

-- ---- the work that is left

open-less : (e : Bool) → e ≡ false → one_if_open true < one_if_open e
open-less true h = absurd (cc)
open-less false h = omega arith

ended-less : (which : Which) (m : MatchingState) → wanted m ≡ Some which → open_sides (ended_by which m) < open_sides m
ended-less A m w = let h = open-less m.ended_a (wanted-open-a m w) in omega arith
ended-less B m w = let h = open-less m.ended_b (wanted-open-b m w) in omega arith

given-open : (which : Which) (batch : Presented) (m : MatchingState) → open_sides (given_to which batch m) ≡ open_sides m
given-open A batch m = refl
given-open B batch m = refl

-- When an item is given to the matching, this sum does not rise: the number of items that the listener can still show,
-- plus the number of sides that have not ended.
pub handed-less : (which : Which) (next : Option Shown) (ended : Bool) (m : MatchingState) (was is : ℕ) → wanted m ≡ Some which → is + length (option_to_list next) ≤ was → is + open_sides (handed which next ended m) ≤ was + open_sides m
handed-less which (Some (Present batch)) ended m was is w le = let e = given-open which batch m in omega arith
handed-less which (Some (Flag frame seq reason)) ended m was is w le = omega arith
handed-less which None true m was is w le = let h = ended-less which m w in omega arith
handed-less which None false m was is w le = omega arith

pub handed-fewer : (which : Which) (next : Option Shown) (ended : Bool) (m : MatchingState) (was is : ℕ) → wanted m ≡ Some which → is + length (option_to_list next) ≤ was → (wanted (handed which next ended m) ≡ Some which) ⊎ (is + open_sides (handed which next ended m) < was + open_sides m)
handed-fewer which (Some (Present batch)) ended m was is w le = inr (let e = given-open which batch m in omega arith)
handed-fewer which (Some (Flag frame seq reason)) ended m was is w le = inr (omega arith)
handed-fewer which None true m was is w le = inr (let h = ended-less which m w in omega arith)
handed-fewer which None false m was is w le = inl w

-- When an item is given to the matching, this sum does not rise: the number of items that the listener can still show,
-- plus the number of sides that have a next batch.
pub handed-nexts : (which : Which) (next : Option Shown) (ended : Bool) (m : MatchingState) (was is : ℕ)
    → is + length (option_to_list next) ≤ was → is + nexts_left (handed which next ended m) ≤ was + nexts_left m
handed-nexts A (Some (Present batch)) ended m was is le = omega arith
handed-nexts B (Some (Present batch)) ended m was is le = omega arith
handed-nexts which (Some (Flag frame seq reason)) ended m was is le = omega arith
handed-nexts A None true m was is le = omega arith
handed-nexts B None true m was is le = omega arith
handed-nexts which None false m was is le = omega arith

-- ---- steps of `fill`

pub going-next : (Shows Shows2 : List Shown → ℕ → Type 0) (which : Which) (list other : List Shown) (k given : ℕ) (m m2 : MatchingState) (next : Option Shown) (ended : Bool) → IsHeard list → IsHeard other → wanted m ≡ Some which
    → ((n : ℕ) → Shows list n → next ≡ slice_get list n) → ((n : ℕ) → Shows list n → Shows2 list (n + length (option_to_list next))) → m2 ≡ handed which next ended m → Going Shows which list other k given m → Going Shows2 which list other k given m2
going-next Shows Shows2 which list other k given m m2 next ended hl ho w get more e h = record {
  n = h.n + length (option_to_list next);
  shows = more h.n h.shows;
  matches = subst (λ (s : MatchingState). MatchesOn which list other (h.n + length (option_to_list next)) k given s) (sym e) (hands-on which list other h.n k given m next ended hl ho w (get h.n h.shows) h.matches);
}

pub going-filled : (Shows Shows2 : List Shown → ℕ → Type 0) (which : Which) (list other : List Shown) (k given : ℕ) (m m2 : MatchingState) (next : Option Shown) (ended : Bool) → IsHeard list → IsHeard other → wanted m ≡ Some which → is_passed next ≡ false
    → ((n : ℕ) → Shows list n → next ≡ slice_get list n) → ((n : ℕ) → Shows list n → Shows2 list (n + length (option_to_list next))) → m2 ≡ handed which next ended m → Going Shows which list other k given m → Filled Shows2 which list other k given m2
going-filled Shows Shows2 which list other k given m m2 next ended hl ho w p get more e h = record {
  n = h.n + length (option_to_list next);
  shows = more h.n h.shows;
  matches = subst (λ (s : MatchingState). MatchesOn which list other (h.n + length (option_to_list next)) k given s) (sym e) (hands-on which list other h.n k given m next ended hl ho w (get h.n h.shows) h.matches);
  filled = λ v. waits-all h.n list next ended (still-wanted which next ended m p (ap wanted (sym e) ∙ v)) (within-on which list other h.n k given m h.matches) (get h.n h.shows);
}
