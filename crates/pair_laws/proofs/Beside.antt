-- A capture compared with itself never differs.
use Rattle.std.proofs.Common.{◌≡◌, ◌≢◌, ℕ, suc, ◌+◌, ◌*◌, ◌<◌, ◌≤◌, Bool, true, false, cond, ◌&&◌, ◌||◌, not, eqb, ℤ, ◌≤ℤ◌, ◌<ℤ◌, ◌-ℤ◌, pos, List, [], ◌∷◌, ◌++◌, length, map, Option, Some, None, refl, sym, ap, ◌∙◌, subst, arith, append_assoc, length-append}
use Rattle.std.specs.Prelude.{nat_le, unsigned_abs, option_map}
use Rattle.std.specs.List.{AllByRecursion, IsDistinct, cons_option, filter_map, find, list_any}
use Rattle.std.proofs.lemmas.Int.{ints}
use Rattle.std.proofs.lemmas.List.{length-map}
use Rattle.std.proofs.lemmas.Map.Keys.{IsDistinct-cons, IsDistinct-from_apart}
use Rattle.std.proofs.lemmas.Map.Steps.{length-le_from_distinct_below}
use Rattle.sample_schedule.specs.Batches.{Presented, is_unit}
use Rattle.sample_schedule.specs.Verdicts.{first_instant, same_instant}
use Rattle.listener_pair.specs.declared.difference.Difference.{Difference}
use Rattle.listener_pair.specs.declared.difference.PairCounts.{PairCounts}
use Rattle.listener_pair.specs.declared.difference.Which.{Which}
use Rattle.listener_pair.specs.declared.difference.Which.TheVariants.{A, B}
use Rattle.listener_pair.specs.declared.placed.Placed.{Placed}
use Rattle.listener_pair.specs.Merged.{Sided, is_side, merged}
use Rattle.listener_pair.specs.Pairs.{Paired, are_near, at_place, fits, left_by, may_pair, pair_by, pairs, pairs_from, partner_of, unpaired, unpaired_from, within_reach, without_first}
use Rattle.listener_pair.specs.Differences.{alone, counts_of, difference_by, difference_of, differences}
use Rattle.listener_pair.specs.Matching.{IsSorted, MayPrecede, batches_of, of_side}
use Rattle.listener_pair.proofs.Samples.{equal-batches, no-way}
use Rattle.listener_pair.proofs.Sorting.{all-join, all-left, all-right, all-weaker, batches-append, later}
use Rattle.listener_pair.proofs.Windows.{le-yes}
use Rattle.listener_pair.proofs.Standing.{more-done, sides-length}
use Rattle.listener_pair.proofs.PairLaws.{eq-yes}
use Rattle.pair_laws.specs.Beside.{AreAllTold, AreTold, IsPresentation}
use Rattle.capture_pair.proofs.Joined.{merges}

-- ---- a batch compared with itself

no-difference : (s : Which) (x : Presented) → difference_by s x x ≡ None
no-difference A x = ap (option_map _) (sym (no-way x x refl (equal-batches x x x.count refl refl refl refl)))
no-difference B x = ap (option_map _) (sym (no-way x x refl (equal-batches x x x.count refl refl refl refl)))

pub zero-far : (x : ℤ) (den most : ℕ) → nat_le (unsigned_abs (x -ℤ x) * den) most ≡ true
zero-far x den most =
    let z : x -ℤ x ≡ pos 0 = omega (arith, ints) in
    ap (λ d. nat_le (unsigned_abs d * den) most) z ∙ le-yes (0 * den) most (omega arith)

pub same-same : (x : ℤ) → same_instant x x ≡ true
same-same x = grind (arith, ints)

within-itself : (x : Presented) → within_reach x x ≡ true
unfolding within_reach
within-itself x = at (is_unit x)
  where
    at : (u : Bool) → cond (u || u) (u && u && same_instant (first_instant x) (first_instant x)) (are_near x x) ≡ true
    at true = same-same (first_instant x)
    at false = zero-far (first_instant x) x.line.den (64 * x.count * x.line.num)

fits-itself : (s : Which) (x : Presented) → fits s x x ≡ true
unfolding fits
fits-itself A x = ap (λ v. v && within_reach x x) (eq-yes x.seq x.seq refl) ∙ within-itself x
fits-itself B x = ap (λ v. v && within_reach x x) (eq-yes x.seq x.seq refl) ∙ within-itself x

-- ---- at most 256 batches have the same first instant

-- all batches of the list have the first instant t
abbrev pub AllAt : ℤ → List Presented → Type 0
AllAt t l = AllByRecursion (λ x. first_instant x ≡ t) l

pub none-like : (t : ℤ) (x : Presented) (rest : List Presented) → first_instant x ≡ t → AllAt t rest → AllByRecursion (AreTold x) rest → AllByRecursion (λ (y : ℕ). eqb x.seq y ≡ false) (map (λ (y : Presented). y.seq) rest)
none-like t x [] e all told = tt
none-like t x (y ∷ rest) e all told = (differs x.seq y.seq (told.0 (e ∙ sym all.0)), none-like t x rest e all.1 told.1)
  where
    differs : (n m : ℕ) → n ≢ m → eqb n m ≡ false
    differs n m h = grind arith

distinct-nil : IsDistinct eqb []
distinct-nil = IsDistinct-from_apart eqb [] (λ i j d a b. absurd (omega arith))

distinct-seqs : (t : ℤ) (l : List Presented) → AllAt t l → AreAllTold l → IsDistinct eqb (map (λ (x : Presented). x.seq) l)
distinct-seqs t [] all told = distinct-nil
distinct-seqs t (x ∷ l) all told = IsDistinct-cons eqb x.seq (map (λ (y : Presented). y.seq) l) (none-like t x l all.0 all.1 told.0) (distinct-seqs t l all.1 told.1)

seqs-below : (q : ℕ) (l : List Presented) → AllByRecursion (λ (x : Presented). x.seq < 256) l → list_any (eqb q) (map (λ (x : Presented). x.seq) l) ≡ true → q < 256
seqs-below q [] h e = absurd (cc)
seqs-below q (x ∷ l) h e = at (eqb q x.seq) refl e (λ g. seqs-below q l h.1 g)
  where
    is : (n m : ℕ) → eqb n m ≡ true → m < 256 → n < 256
    is n m f lt = grind arith

    at : (v : Bool) → eqb q x.seq ≡ v → (v || list_any (eqb q) (map (λ (y : Presented). y.seq) l)) ≡ true → (list_any (eqb q) (map (λ (y : Presented). y.seq) l) ≡ true → q < 256) → q < 256
    at true f g ih = is q x.seq f h.0
    at false f g ih = ih g

few-at : (t : ℤ) (l : List Presented) → AllAt t l → AreAllTold l → AllByRecursion (λ (x : Presented). x.seq < 256) l → length l ≤ 256
few-at t l all told bytes =
    let n = length-le_from_distinct_below (map (λ (x : Presented). x.seq) l) 256 (distinct-seqs t l all told) (λ q e. seqs-below q l bytes e) in
    omega (arith, n, length-map l (λ (x : Presented). x.seq))

told-right : (xs ys : List Presented) → AreAllTold (xs ++ ys) → AreAllTold ys
told-right [] ys h = h
told-right (x ∷ xs) ys h = told-right xs ys h.1

told-left : (xs ys : List Presented) → AreAllTold (xs ++ ys) → AreAllTold xs
told-left [] ys h = tt
told-left (x ∷ xs) ys h = (all-left (AreTold x) xs ys h.0, told-left xs ys h.1)

-- if all batches of `part` have the same first instant, there are at most 256 of them
pub part-few : (t : ℤ) (front part back : List Presented) → AllAt t part → IsPresentation (front ++ (part ++ back)) → length part ≤ 256
part-few t front part back all p =
    few-at t part all (told-left part back (told-right front (part ++ back) p.told))
    (all-left (λ (x : Presented). x.seq < 256) part back (all-right (λ (x : Presented). x.seq < 256) front (part ++ back) p.bytes))

-- ---- the positions of the batches that wait

-- The waiting batch `u` is of A. The list `done` has the batch of `u` at the position that `u` states.
record IsAt (done : List Sided) (u : Placed) : Type 0 where
  front : List Sided
  back : List Sided
  split : done ≡ front ++ of_side A u.batch ∷ back
  place : u.place ≡ length front
  side : u.side ≡ A

is-at-more : (done : List Sided) (x : Sided) (u : Placed) → IsAt done u → IsAt (done ++ x ∷ []) u
is-at-more done x u h = record {
  front = h.front;
  back = h.back ++ x ∷ [];
  split = ap (λ (l : List Sided). l ++ x ∷ []) h.split ∙ append_assoc h.front (of_side A u.batch ∷ h.back) (x ∷ []);
  place = h.place;
  side = h.side;
}

-- all batches between two batches with the same first instant have that first instant, too
pub between-at : (x : Sided) (back : List Sided) (y : Sided) (rest : List Sided) (t : ℤ) → first_instant x.batch ≡ t → first_instant y.batch ≡ t → AllByRecursion (MayPrecede x) back → AllByRecursion (λ b. MayPrecede b y) back → AllByRecursion (λ b. first_instant b.batch ≡ t) back
between-at x [] y rest t ex ey after before = tt
between-at x (b ∷ back) y rest t ex ey after before = (same (first_instant x.batch) (first_instant b.batch) (first_instant y.batch) ex ey after.0.instants before.0.instants, between-at x back y rest t ex ey after.1 before.1)
  where
    same : (p q r : ℤ) → p ≡ t → r ≡ t → p ≤ℤ q → q ≤ℤ r → q ≡ t
    same p q r e f h k = omega (arith, ints)

pub sorted-after : (front : List Sided) (x : Sided) (rest : List Sided) → IsSorted (front ++ x ∷ rest) → AllByRecursion (MayPrecede x) rest
sorted-after [] x rest h = h.0
sorted-after (z ∷ front) x rest h = sorted-after front x rest h.1

pub sorted-back : (front rest : List Sided) → IsSorted (front ++ rest) → IsSorted rest
sorted-back [] rest h = h
sorted-back (z ∷ front) rest h = sorted-back front rest h.1

pub sorted-before : (back : List Sided) (y : Sided) (rest : List Sided) → IsSorted (back ++ y ∷ rest) → AllByRecursion (λ b. MayPrecede b y) back
sorted-before [] y rest h = tt
sorted-before (b ∷ back) y rest h = ((all-right (MayPrecede b) back (y ∷ rest) h.0).0, sorted-before back y rest h.1)

pub batches-at : (s : Which) (t : ℤ) (l : List Sided) → AllByRecursion (λ b. first_instant b.batch ≡ t) l → AllAt t (batches_of s l)
batches-at s t [] h = tt
batches-at s t (x ∷ l) h = at s x.side x.batch h.0 (batches-at s t l h.1)
  where
    at : (s r : Which) (c : Presented) → first_instant c ≡ t → AllAt t (batches_of s l) → AllAt t (batches_of s (of_side r c ∷ l))
    at A A c e ih = (e, ih)
    at A B c e ih = ih
    at B A c e ih = ih
    at B B c e ih = (e, ih)

pub parts : (s : Which) (front mid rest : List Sided) → batches_of s (front ++ (mid ++ rest)) ≡ batches_of s front ++ (batches_of s mid ++ batches_of s rest)
parts s front mid rest = batches-append s front (mid ++ rest) ∙ ap (λ (l : List Presented). batches_of s front ++ l) (batches-append s mid rest)

-- a waiting batch of A is at most 512 positions before the equal batch of B
near : (done : List Sided) (u : Placed) (x : Presented) (rest : List Sided) (xs ys : List Presented) → IsAt done u → u.batch ≡ x → IsSorted (done ++ of_side B x ∷ rest) → batches_of A (done ++ of_side B x ∷ rest) ≡ xs → batches_of B (done ++ of_side B x ∷ rest) ≡ ys → IsPresentation xs → IsPresentation ys → length done ≤ u.place + 512
near done u x rest xs ys h same sorted ea eb px py =
    let t = first_instant x in
    let head = of_side A u.batch in
    let all : done ++ of_side B x ∷ rest ≡ h.front ++ ((head ∷ h.back) ++ of_side B x ∷ rest) = ap (λ (l : List Sided). l ++ of_side B x ∷ rest) h.split ∙ append_assoc h.front (head ∷ h.back) (of_side B x ∷ rest) in
    let s = subst IsSorted all sorted in
    let after = all-left (MayPrecede head) h.back (of_side B x ∷ rest) (sorted-after h.front head (h.back ++ of_side B x ∷ rest) s) in
    let before = sorted-before h.back (of_side B x) rest (sorted-back (head ∷ []) (h.back ++ of_side B x ∷ rest) (sorted-back h.front ((head ∷ h.back) ++ of_side B x ∷ rest) s)) in
    let at = between-at head h.back (of_side B x) rest t (ap (λ (b : Presented). first_instant b) same) refl after before in
    let mid : AllByRecursion (λ b. first_instant b.batch ≡ t) (head ∷ h.back) = (ap (λ (b : Presented). first_instant b) same, at) in
    let a = part-few t (batches_of A h.front) (batches_of A (head ∷ h.back)) (batches_of A (of_side B x ∷ rest)) (batches-at A t (head ∷ h.back) mid)
    (subst IsPresentation (sym ea ∙ ap (batches_of A) all ∙ parts A h.front (head ∷ h.back) (of_side B x ∷ rest)) px) in
    let b = part-few t (batches_of B h.front) (batches_of B (head ∷ h.back)) (batches_of B (of_side B x ∷ rest)) (batches-at B t (head ∷ h.back) mid)
    (subst IsPresentation (sym eb ∙ ap (batches_of B) all ∙ parts B h.front (head ∷ h.back) (of_side B x ∷ rest)) py) in
    let n = sides-length (head ∷ h.back) in
    let e = ap length h.split ∙ length-append h.front (head ∷ h.back) in
    let p = h.place in
    omega arith

-- ---- the pairs

-- All pairs that the batches `rest` add are pairs of equal batches. The batches `rest` add as many pairs as there are
-- batches of B in `rest`, and no batch is left unpaired.
record AreSame (place : ℕ) (waiting : List Placed) (rest : List Sided) : Type 0 where
  pairs : AllByRecursion (λ (p : Paired). p.earlier.batch ≡ p.later.batch) (pairs_from place waiting rest)
  left : unpaired_from place waiting rest ≡ []
  count : length (pairs_from place waiting rest) ≡ length (batches_of B rest)

pub pairs-nil : (place : ℕ) (us : List Placed) → pairs_from place us [] ≡ []
unfolding pairs_from
pairs-nil place us = refl

pub pairs-cons : (place : ℕ) (us : List Placed) (x : Sided) (rest : List Sided) → pairs_from place us (x ∷ rest) ≡ pair_by (at_place place x) (partner_of (at_place place x) us) ++ pairs_from (suc place) (left_by (at_place place x) us (partner_of (at_place place x) us)) rest
unfolding pairs_from
pairs-cons place us x rest = refl

pub unpaired-nil : (place : ℕ) (us : List Placed) → unpaired_from place us [] ≡ us
unfolding unpaired_from
unpaired-nil place us = refl

pub unpaired-cons : (place : ℕ) (us : List Placed) (x : Sided) (rest : List Sided) → unpaired_from place us (x ∷ rest) ≡ unpaired_from (suc place) (left_by (at_place place x) us (partner_of (at_place place x) us)) rest
unfolding unpaired_from
unpaired-cons place us x rest = refl

pairs-at : (place : ℕ) (us : List Placed) (x : Sided) (rest : List Sided) (f : Option Placed) → partner_of (at_place place x) us ≡ f → pairs_from place us (x ∷ rest) ≡ pair_by (at_place place x) f ++ pairs_from (suc place) (left_by (at_place place x) us f) rest
pairs-at place us x rest f e = pairs-cons place us x rest ∙ ap (λ (o : Option Placed). pair_by (at_place place x) o ++ pairs_from (suc place) (left_by (at_place place x) us o) rest) e

unpaired-at : (place : ℕ) (us : List Placed) (x : Sided) (rest : List Sided) (f : Option Placed) → partner_of (at_place place x) us ≡ f → unpaired_from place us (x ∷ rest) ≡ unpaired_from (suc place) (left_by (at_place place x) us f) rest
unpaired-at place us x rest f e = unpaired-cons place us x rest ∙ ap (λ (o : Option Placed). unpaired_from (suc place) (left_by (at_place place x) us o) rest) e

abbrev AllSame : List Paired → Type 0
AllSame ps = AllByRecursion (λ (p : Paired). p.earlier.batch ≡ p.later.batch) ps

same-none : (place : ℕ) (us : List Placed) (x : Sided) (rest : List Sided) → partner_of (at_place place x) us ≡ None → batches_of B (x ∷ rest) ≡ batches_of B rest → AreSame (suc place) (us ++ at_place place x ∷ []) rest → AreSame place us (x ∷ rest)
same-none place us x rest e b s = record {
  pairs = subst AllSame (sym (pairs-at place us x rest None e)) s.pairs;
  left = unpaired-at place us x rest None e ∙ s.left;
  count = ap length (pairs-at place us x rest None e) ∙ s.count ∙ ap length (sym b);
}

same-some : (place : ℕ) (us : List Placed) (x : Sided) (rest : List Sided) (u : Placed) → partner_of (at_place place x) us ≡ Some u → u.batch ≡ x.batch → batches_of B (x ∷ rest) ≡ x.batch ∷ batches_of B rest → AreSame (suc place) (without_first (may_pair (at_place place x)) us) rest → AreSame place us (x ∷ rest)
same-some place us x rest u e same b s = record {
  pairs = subst AllSame (sym (pairs-at place us x rest (Some u) e)) (same, s.pairs);
  left = unpaired-at place us x rest (Some u) e ∙ s.left;
  count = ap length (pairs-at place us x rest (Some u) e) ∙ ap suc s.count ∙ ap length (sym b);
}

both-false : (v w : Bool) → ((v && false) && w) ≡ false
both-false true w = refl
both-false false w = refl

not-own : (x u : Placed) → x.side ≡ A → u.side ≡ A → may_pair x u ≡ false
not-own x u ex eu =
    let own : is_side x.side u.side ≡ true = ap (λ s. is_side s u.side) ex ∙ ap (is_side A) eu in
    ap (λ v. (nat_le x.place (u.place + 512) && not v) && fits x.side x.batch u.batch) own ∙ both-false (nat_le x.place (u.place + 512)) (fits x.side x.batch u.batch)

none-of-own : (x : Placed) (us : List Placed) (done : List Sided) → x.side ≡ A → AllByRecursion (IsAt done) us → partner_of x us ≡ None
none-of-own x [] done e h = refl
none-of-own x (u ∷ us) done e h = ap (λ v. cond v (Some u) (find (may_pair x) us)) (not-own x u e h.0.side) ∙ none-of-own x us done e h.1

both-true : (u v w : Bool) → u ≡ true → v ≡ false → w ≡ true → ((u && not v) && w) ≡ true
both-true u v w e f g = ap (λ x. (x && not v) && w) e ∙ ap (λ x. not x && w) f ∙ g

pairs-first : (n : ℕ) (x : Presented) (u : Placed) → u.side ≡ A → u.batch ≡ x → n ≤ u.place + 512 → may_pair (at_place n (of_side B x)) u ≡ true
pairs-first n x u side same near =
    both-true (nat_le n (u.place + 512)) (is_side B u.side) (fits B x u.batch) (le-yes n (u.place + 512) near) (ap (is_side B) side) (ap (fits B x) same ∙ fits-itself B x)

not-less : {P : Type 0} (x : ℤ) → x <ℤ x → P
not-less x h = absurd (omega (arith, ints))

none-left : (us : List Placed) → map (λ (u : Placed). u.batch) us ++ [] ≡ [] → us ≡ []
none-left [] e = refl
none-left (u ∷ us) e = absurd (cc)

all-more : (done : List Sided) (x : Sided) (us : List Placed) → AllByRecursion (IsAt done) us → AllByRecursion (IsAt (done ++ x ∷ [])) us
all-more done x us h = all-weaker (IsAt done) (IsAt (done ++ x ∷ [])) (λ u k. is-at-more done x u k) us h

abbrev BatchesOf : List Placed → List Presented
BatchesOf us = map (λ (u : Placed). u.batch) us

batches-with : (us : List Placed) (p : Placed) (more : List Presented) → BatchesOf (us ++ p ∷ []) ++ more ≡ BatchesOf us ++ p.batch ∷ more
batches-with [] p more = refl
batches-with (u ∷ us) p more = ap (λ (l : List Presented). u.batch ∷ l) (batches-with us p more)

-- The induction step after `done` and x. If the waiting batches, followed by the batches of A in `rest`, are equal to
-- the batches of B in `rest`, then `AreSame` holds for `rest`.
abbrev GoOn : List Sided → Sided → List Sided → Type 0
GoOn done x rest = (us : List Placed) → AllByRecursion (IsAt (done ++ x ∷ [])) us → BatchesOf us ++ batches_of A rest ≡ batches_of B rest → AreSame (suc (length done)) us rest

comes-a : (done rest : List Sided) (b : Presented) (us : List Placed) → AllByRecursion (IsAt done) us → BatchesOf us ++ batches_of A (of_side A b ∷ rest) ≡ batches_of B (of_side A b ∷ rest) → GoOn done (of_side A b) rest → AreSame (length done) us (of_side A b ∷ rest)
comes-a done rest b us h e go =
    let p = at_place (length done) (of_side A b) in
    same-none (length done) us (of_side A b) rest (none-of-own p us done refl h) refl
    (go (us ++ p ∷ []) (all-join (IsAt (done ++ of_side A b ∷ [])) us (p ∷ []) (all-more done (of_side A b) us h) (record { front = done; back = []; split = refl; place = refl; side = refl }, tt))
    (batches-with us p (batches_of A rest) ∙ e))

comes-b : (done rest : List Sided) (b : Presented) (us : List Placed) (xs : List Presented) → IsSorted (done ++ of_side B b ∷ rest) → batches_of A (done ++ of_side B b ∷ rest) ≡ xs → batches_of B (done ++ of_side B b ∷ rest) ≡ xs → IsPresentation xs
    → AllByRecursion (IsAt done) us → BatchesOf us ++ batches_of A (of_side B b ∷ rest) ≡ batches_of B (of_side B b ∷ rest) → GoOn done (of_side B b) rest → AreSame (length done) us (of_side B b ∷ rest)
comes-b done rest b [] xs sorted ea eb p h e go =
    let after = later b rest (sorted-after done (of_side B b) rest sorted) in
    not-less (first_instant b) (subst (λ (l : List Presented). AllByRecursion (λ a. first_instant b <ℤ first_instant a) l) e after).0
comes-b done rest b (u ∷ us) xs sorted ea eb p h e go =
    let same : u.batch ≡ b = cc in
    let more : BatchesOf us ++ batches_of A rest ≡ batches_of B rest = cc in
    let close = near done u b rest xs xs h.0 same sorted ea eb p p in
    let yes = pairs-first (length done) b u h.0.side same close in
    let x = at_place (length done) (of_side B b) in
    same-some (length done) (u ∷ us) (of_side B b) rest u (ap (λ v. cond v (Some u) (find (may_pair x) us)) yes) same refl
    (subst (λ (l : List Placed). AreSame (suc (length done)) l rest) (sym (ap (λ v. cond v us (u ∷ without_first (may_pair x) us)) yes)) (go us (all-more done (of_side B b) us h.1) more))

back : (done : List Sided) (x : Sided) (rest : List Sided) → done ++ x ∷ rest ≡ (done ++ x ∷ []) ++ rest
back done x rest = sym (append_assoc done (x ∷ []) rest)

comes : (s : Which) (done rest : List Sided) (b : Presented) (us : List Placed) (xs : List Presented) → IsSorted (done ++ of_side s b ∷ rest) → batches_of A (done ++ of_side s b ∷ rest) ≡ xs → batches_of B (done ++ of_side s b ∷ rest) ≡ xs → IsPresentation xs
    → AllByRecursion (IsAt done) us → BatchesOf us ++ batches_of A (of_side s b ∷ rest) ≡ batches_of B (of_side s b ∷ rest) → GoOn done (of_side s b) rest → AreSame (length done) us (of_side s b ∷ rest)
comes A done rest b us xs sorted ea eb p h e go = comes-a done rest b us h e go
comes B done rest b us xs sorted ea eb p h e go = comes-b done rest b us xs sorted ea eb p h e go

all-same : (rest done : List Sided) (us : List Placed) (xs : List Presented) → IsSorted (done ++ rest) → batches_of A (done ++ rest) ≡ xs → batches_of B (done ++ rest) ≡ xs → IsPresentation xs → AllByRecursion (IsAt done) us → BatchesOf us ++ batches_of A rest ≡ batches_of B rest → AreSame (length done) us rest
all-same [] done us xs sorted ea eb p h e = record {
  pairs = subst AllSame (sym (pairs-nil (length done) us)) tt;
  left = unpaired-nil (length done) us ∙ none-left us e;
  count = ap length (pairs-nil (length done) us);
}
all-same (x ∷ rest) done us xs sorted ea eb p h e =
    comes x.side done rest x.batch us xs sorted ea eb p h e
    (λ vs k f. subst (λ (n : ℕ). AreSame n vs rest) (more-done done x) (all-same rest (done ++ x ∷ []) vs xs (subst IsSorted (back done x rest) sorted) (ap (batches_of A) (sym (back done x rest)) ∙ ea) (ap (batches_of B) (sym (back done x rest)) ∙ eb) p k f))

merged-same : (xs : List Presented) → IsPresentation xs → AreSame 0 [] (merged xs xs)
merged-same xs p =
    let m = merges xs xs p.order p.order in
    all-same (merged xs xs) [] [] xs m.sorted m.a m.b p tt (m.a ∙ sym m.b)

none-differ : (ps : List Paired) → AllSame ps → filter_map difference_of ps ≡ []
none-differ [] h = refl
none-differ (p ∷ ps) h =
    let none : difference_of p ≡ None = ap (difference_by p.later.side p.later.batch) h.0 ∙ no-difference p.later.side p.later.batch in
    none-first p ps none ∙ none-differ ps h.1
  where
    none-first : (p : Paired) (ps : List Paired) → difference_of p ≡ None → filter_map difference_of (p ∷ ps) ≡ filter_map difference_of ps
    none-first p ps e = ap (λ (o : Option Difference). cons_option o (filter_map difference_of ps)) e

pub beside-itself : (xs : List Presented) → IsPresentation xs → differences (merged xs xs) ≡ []
beside-itself xs p = none-differ (pairs (merged xs xs)) (merged-same xs p).pairs

abbrev counts-of : ℕ → List Placed → List Difference → PairCounts
counts-of n us ds = record { matched = n; only_a = alone A us; only_b = alone B us; differ = length ds }

abbrev pub all-paired : ℕ → PairCounts
all-paired n = record { matched = n; only_a = 0; only_b = 0; differ = 0 }

counts-as : (n k : ℕ) (us : List Placed) (ds : List Difference) → n ≡ k → us ≡ [] → ds ≡ [] → counts-of n us ds ≡ all-paired k
counts-as n k us ds e f g = ap (λ i. counts-of i us ds) e ∙ ap (λ (l : List Placed). counts-of k l ds) f ∙ ap (counts-of k []) g

pub counts-beside : (xs : List Presented) → IsPresentation xs → counts_of (merged xs xs) ≡ all-paired (length xs)
counts-beside xs p =
    let s = merged-same xs p in
    let m = merges xs xs p.order p.order in
    counts-as (length (pairs (merged xs xs))) (length xs) (unpaired (merged xs xs)) (differences (merged xs xs)) (s.count ∙ ap length m.b) s.left (beside-itself xs p)
