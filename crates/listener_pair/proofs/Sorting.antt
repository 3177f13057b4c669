-- A list in merged order is the merged list of its two sides.
use Rattle.std.proofs.Common.{◌≡◌, Bool, true, false, cond, inl, inr, ℤ, ◌≤ℤ◌, ◌<ℤ◌, suc, ◌+◌, List, [], ◌∷◌, ◌++◌, length, filter, map, Option, Some, None, refl, sym, ap, ◌∙◌, subst, arith, length-append}
use Rattle.std.specs.Prelude.{int_lt, IfSome}
use Rattle.std.specs.List.{AllByRecursion}
use Rattle.std.proofs.lemmas.Int.{ints}
use Rattle.std.proofs.lemmas.List.{map-append}
use Rattle.std.proofs.lemmas.List.Elements.{filter-append}
use Rattle.sample_schedule.specs.Batches.{Presented}
use Rattle.sample_schedule.specs.Verdicts.{first_instant}
use Rattle.sample_schedule.proofs.OrderLemmas.{lt_true, lt_false}
use Rattle.listener_pair.specs.declared.difference.Which.{Which}
use Rattle.listener_pair.specs.declared.difference.Which.TheVariants.{A, B}
use Rattle.listener_pair.specs.Merged.{IsInOrder, Sided, all_of, by_instant, is_side, merged, put_before}
use Rattle.listener_pair.specs.Matching.{EndsOn, IsSorted, MayPrecede, batches_of, nexts, of_side}

-- ---- what holds for all

pub all-weaker : {T : Type 0} (P Q : T → Type 0) → ((x : T) → P x → Q x) → (xs : List T) → AllByRecursion P xs → AllByRecursion Q xs
all-weaker P Q w [] p = tt
all-weaker P Q w (x ∷ xs) p = (w x p.0, all-weaker P Q w xs p.1)

pub all-join : {T : Type 0} (P : T → Type 0) (xs ys : List T) → AllByRecursion P xs → AllByRecursion P ys → AllByRecursion P (xs ++ ys)
all-join P [] ys p q = q
all-join P (x ∷ xs) ys p q = (p.0, all-join P xs ys p.1 q)

pub all-left : {T : Type 0} (P : T → Type 0) (xs ys : List T) → AllByRecursion P (xs ++ ys) → AllByRecursion P xs
all-left P [] ys p = tt
all-left P (x ∷ xs) ys p = (p.0, all-left P xs ys p.1)

pub all-right : {T : Type 0} (P : T → Type 0) (xs ys : List T) → AllByRecursion P (xs ++ ys) → AllByRecursion P ys
all-right P [] ys p = p
all-right P (x ∷ xs) ys p = all-right P xs ys p.1

pub all-two : {T : Type 0} (P Q R : T → Type 0) → ((x : T) → P x → Q x → R x) → (xs : List T) → AllByRecursion P xs → AllByRecursion Q xs → AllByRecursion R xs
all-two P Q R w [] p q = tt
all-two P Q R w (x ∷ xs) p q = (w x p.0 q.0, all-two P Q R w xs p.1 q.1)

-- ---- sorting

pub by-nil : by_instant [] ≡ []
unfolding by_instant
by-nil = refl

pub by-cons : (x : Sided) (rest : List Sided) → by_instant (x ∷ rest) ≡ put_before x (by_instant rest)
unfolding by_instant
by-cons x rest = refl

pub merged-def : (xs ys : List Presented) → merged xs ys ≡ by_instant (all_of A xs ++ all_of B ys)
unfolding merged
merged-def xs ys = refl

abbrev NotBefore : Sided → Sided → Type 0
NotBefore x y = int_lt (first_instant y.batch) (first_instant x.batch) ≡ false

pub all-put : (P : Sided → Type 0) (x : Sided) (ys : List Sided) → P x → AllByRecursion P ys → AllByRecursion P (put_before x ys)
all-put P x [] p q = (p, tt)
all-put P x (y ∷ ys) p q = elim (int_lt (first_instant y.batch) (first_instant x.batch)) as (λ v. AllByRecursion P (cond v (y ∷ put_before x ys) (x ∷ y ∷ ys))) [
  | true ↦ (q.0, all-put P x ys p q.1)
  | false ↦ (p, q)
]

pub all-by : (P : Sided → Type 0) (xs : List Sided) → AllByRecursion P xs → AllByRecursion P (by_instant xs)
all-by P [] h = subst (AllByRecursion P) (sym by-nil) tt
all-by P (x ∷ xs) h = subst (AllByRecursion P) (sym (by-cons x xs)) (all-put P x (by_instant xs) h.0 (all-by P xs h.1))

put-first : (x : Sided) (ys : List Sided) → AllByRecursion (NotBefore x) ys → put_before x ys ≡ x ∷ ys
put-first x [] h = refl
put-first x (y ∷ ys) h = ap (λ v. cond v (y ∷ put_before x ys) (x ∷ y ∷ ys)) h.0

put-later : (x y : Sided) (ys : List Sided) → first_instant y.batch <ℤ first_instant x.batch → put_before x (y ∷ ys) ≡ y ∷ put_before x ys
put-later x y ys h = ap (λ v. cond v (y ∷ put_before x ys) (x ∷ y ∷ ys)) (lt_true (first_instant y.batch) (first_instant x.batch) h)

skip : (x : Sided) (xs : List Presented) (l : List Sided) → AllByRecursion (λ a. first_instant x.batch <ℤ first_instant a) xs → AllByRecursion (NotBefore x) l
    → by_instant (all_of A xs ++ x ∷ l) ≡ x ∷ by_instant (all_of A xs ++ l)
skip x [] l h n = by-cons x l ∙ put-first x (by_instant l) (all-by (NotBefore x) l n)
skip x (a ∷ xs) l h n =
    by-cons (of_side A a) (all_of A xs ++ x ∷ l)
    ∙ ap (put_before (of_side A a)) (skip x xs l h.1 n)
    ∙ put-later (of_side A a) x (by_instant (all_of A xs ++ l)) h.0
    ∙ ap (λ (r : List Sided). x ∷ r) (sym (by-cons (of_side A a) (all_of A xs ++ l)))

later-at : (b : Presented) (s : Which) (c : Presented) (rest : List Sided) → MayPrecede (of_side B b) (of_side s c) → AllByRecursion (λ a. first_instant b <ℤ first_instant a) (batches_of A rest)
    → AllByRecursion (λ a. first_instant b <ℤ first_instant a) (batches_of A (of_side s c ∷ rest))
later-at b A c rest p h = (p.sides refl refl, h)
later-at b B c rest p h = h

pub later : (b : Presented) (rest : List Sided) → AllByRecursion (MayPrecede (of_side B b)) rest → AllByRecursion (λ a. first_instant b <ℤ first_instant a) (batches_of A rest)
later b [] h = tt
later b (y ∷ rest) h = later-at b y.side y.batch rest h.0 (later b rest h.1)

behind-at : (b : Presented) (s : Which) (c : Presented) (rest : List Sided) → MayPrecede (of_side B b) (of_side s c) → AllByRecursion (NotBefore (of_side B b)) (all_of B (batches_of B rest))
    → AllByRecursion (NotBefore (of_side B b)) (all_of B (batches_of B (of_side s c ∷ rest)))
behind-at b A c rest p h = h
behind-at b B c rest p h = (lt_false (first_instant c) (first_instant b) p.instants, h)

behind : (b : Presented) (rest : List Sided) → AllByRecursion (MayPrecede (of_side B b)) rest → AllByRecursion (NotBefore (of_side B b)) (all_of B (batches_of B rest))
behind b [] h = tt
behind b (y ∷ rest) h = behind-at b y.side y.batch rest h.0 (behind b rest h.1)

merged-cons : (s : Which) (b : Presented) (rest : List Sided) → AllByRecursion (MayPrecede (of_side s b)) rest → merged (batches_of A rest) (batches_of B rest) ≡ rest
    → merged (batches_of A (of_side s b ∷ rest)) (batches_of B (of_side s b ∷ rest)) ≡ of_side s b ∷ rest
merged-cons A b rest before h =
    merged-def (b ∷ batches_of A rest) (batches_of B rest)
    ∙ by-cons (of_side A b) (all_of A (batches_of A rest) ++ all_of B (batches_of B rest))
    ∙ ap (put_before (of_side A b)) (sym (merged-def (batches_of A rest) (batches_of B rest)) ∙ h)
    ∙ put-first (of_side A b) rest (all-weaker (MayPrecede (of_side A b)) (NotBefore (of_side A b)) (λ y p. lt_false (first_instant y.batch) (first_instant b) p.instants) rest before)
merged-cons B b rest before h =
    merged-def (batches_of A rest) (b ∷ batches_of B rest)
    ∙ skip (of_side B b) (batches_of A rest) (all_of B (batches_of B rest)) (later b rest before) (behind b rest before)
    ∙ ap (λ (r : List Sided). of_side B b ∷ r) (sym (merged-def (batches_of A rest) (batches_of B rest)) ∙ h)

pub merged-is : (list : List Sided) → IsSorted list → merged (batches_of A list) (batches_of B list) ≡ list
merged-is [] h = merged-def [] [] ∙ by-nil
merged-is (x ∷ rest) h = merged-cons x.side x.batch rest h.0 (merged-is rest h.1)

-- ---- sorted lists, one after the other

pub sorted-join : (xs ys : List Sided) → IsSorted xs → IsSorted ys → AllByRecursion (λ x. AllByRecursion (MayPrecede x) ys) xs → IsSorted (xs ++ ys)
sorted-join [] ys sx sy h = sy
sorted-join (x ∷ xs) ys sx sy h = (all-join (MayPrecede x) xs ys sx.0 h.0, sorted-join xs ys sx.1 sy h.1)

pub sorted-front : (xs ys : List Sided) → IsSorted (xs ++ ys) → IsSorted xs
sorted-front [] ys h = tt
sorted-front (x ∷ xs) ys h = (all-left (MayPrecede x) xs ys h.0, sorted-front xs ys h.1)

pub sorted-cross : (xs ys : List Sided) → IsSorted (xs ++ ys) → AllByRecursion (λ x. AllByRecursion (MayPrecede x) ys) xs
sorted-cross [] ys h = tt
sorted-cross (x ∷ xs) ys h = (all-right (MayPrecede x) xs ys h.0, sorted-cross xs ys h.1)

pub lt-le : (x y : ℤ) → x <ℤ y → x ≤ℤ y
lt-le x y h = omega (arith, ints)

pub lt-of : (x y : ℤ) → int_lt x y ≡ true → x <ℤ y
lt-of x y h = grind (arith, ints)

pub le-of : (x y : ℤ) → int_lt x y ≡ false → y ≤ℤ x
le-of x y h = grind (arith, ints)

both-sorted : (a b : Presented) (v : Bool) → int_lt (first_instant b) (first_instant a) ≡ v → IsSorted (cond v (of_side B b ∷ of_side A a ∷ []) (of_side A a ∷ of_side B b ∷ []))
both-sorted a b true e = ((record { instants = lt-le (first_instant b) (first_instant a) (lt-of (first_instant b) (first_instant a) e); sides = λ p q. lt-of (first_instant b) (first_instant a) e }, tt), ((tt, tt)))
both-sorted a b false e = ((record { instants = le-of (first_instant b) (first_instant a) e; sides = λ p q. absurd (cc) }, tt), ((tt, tt)))

nexts-sorted : (na nb : Option Presented) → IsSorted (nexts na nb)
nexts-sorted None None = tt
nexts-sorted None (Some b) = (tt, tt)
nexts-sorted (Some a) None = (tt, tt)
nexts-sorted (Some a) (Some b) = both-sorted a b (int_lt (first_instant b) (first_instant a)) refl

nexts-all : (P : Sided → Type 0) (na nb : Option Presented) → IfSome na (λ a. P (of_side A a)) → IfSome nb (λ b. P (of_side B b)) → AllByRecursion P (nexts na nb)
nexts-all P None None p q = tt
nexts-all P None (Some b) p q = (q, tt)
nexts-all P (Some a) None p q = (p, tt)
nexts-all P (Some a) (Some b) p q = elim (int_lt (first_instant b) (first_instant a)) as (λ v. AllByRecursion P (cond v (of_side B b ∷ of_side A a ∷ []) (of_side A a ∷ of_side B b ∷ []))) [
  | true ↦ (q, (p, tt))
  | false ↦ (p, (q, tt))
]

next-b : (P : Sided → Type 0) (nb : Option Presented) → AllByRecursion P (nexts None nb) → IfSome nb (λ b. P (of_side B b))
next-b P None h = tt
next-b P (Some b) h = h.0

next-a : (P : Sided → Type 0) (na : Option Presented) → AllByRecursion P (nexts na None) → IfSome na (λ a. P (of_side A a))
next-a P None h = tt
next-a P (Some a) h = h.0

-- ---- one more batch of a side

precede-more : (x z y : Sided) → MayPrecede x z → first_instant z.batch ≤ℤ first_instant y.batch → z.side ≡ y.side → MayPrecede x y
precede-more x z y p le same = record {
  instants = let h = p.instants in omega (arith, ints);
  sides = λ xb ya. let h = p.sides xb (same ∙ ya) in omega (arith, ints);
}

pub same-side : (s : Which) (z b : Presented) → first_instant z ≤ℤ first_instant b → MayPrecede (of_side s z) (of_side s b)
same-side A z b le = record { instants = le; sides = λ p q. absurd (cc) }
same-side B z b le = record { instants = le; sides = λ p q. absurd (cc) }

last-two : (l : List Presented) (z b : Presented) → IsInOrder ((l ++ z ∷ []) ++ b ∷ []) → first_instant z ≤ℤ first_instant b
last-two [] z b h = h.0.0
last-two (x ∷ l) z b h = last-two l z b h.1

pub batches-append : (s : Which) (xs ys : List Sided) → batches_of s (xs ++ ys) ≡ batches_of s xs ++ batches_of s ys
batches-append s xs ys =
    ap (map (λ x. x.batch)) (filter-append (λ x. is_side s x.side) xs ys)
    ∙ map-append (λ x. x.batch) (filter (λ x. is_side s x.side) xs) (filter (λ x. is_side s x.side) ys)

pub batches-one : (s : Which) (z : Presented) → batches_of s (of_side s z ∷ []) ≡ z ∷ []
batches-one A z = refl
batches-one B z = refl

before-end : (s : Which) (done : List Sided) (b : Presented) → IsSorted done → EndsOn s done → IsInOrder (batches_of s done ++ b ∷ []) → AllByRecursion (λ x. MayPrecede x (of_side s b)) done
before-end s done b sorted (inl none) order = subst (AllByRecursion (λ x. MayPrecede x (of_side s b))) (sym none) tt
before-end s done b sorted (inr (front, z, e)) order =
    let split = subst IsSorted e sorted in
    let ordered = subst (λ (l : List Presented). IsInOrder (l ++ b ∷ [])) (ap (batches_of s) e ∙ batches-append s front (of_side s z ∷ []) ∙ ap (λ (l : List Presented). batches_of s front ++ l) (batches-one s z)) order in
    let le = last-two (batches_of s front) z b ordered in
    subst (AllByRecursion (λ x. MayPrecede x (of_side s b))) (sym e)
    (all-join (λ x. MayPrecede x (of_side s b)) front (of_side s z ∷ [])
    (all-weaker (λ x. AllByRecursion (MayPrecede x) (of_side s z ∷ [])) (λ x. MayPrecede x (of_side s b)) (λ x p. precede-more x (of_side s z) (of_side s b) p.0 le refl) front (sorted-cross front (of_side s z ∷ []) split))
    (same-side s z b le, tt))

pub sorted-with-a : (done : List Sided) (a : Presented) (nb : Option Presented) → IsSorted (done ++ nexts None nb) → EndsOn A done → IsInOrder (batches_of A done ++ a ∷ []) → IsSorted (done ++ nexts (Some a) nb)
sorted-with-a done a nb sorted ends order =
    let front = sorted-front done (nexts None nb) sorted in
    sorted-join done (nexts (Some a) nb) front (nexts-sorted (Some a) nb)
    (all-two (λ x. AllByRecursion (MayPrecede x) (nexts None nb)) (λ x. MayPrecede x (of_side A a)) (λ x. AllByRecursion (MayPrecede x) (nexts (Some a) nb))
    (λ x p q. nexts-all (MayPrecede x) (Some a) nb q (next-b (MayPrecede x) nb p)) done (sorted-cross done (nexts None nb) sorted) (before-end A done a front ends order))

pub sorted-with-b : (done : List Sided) (b : Presented) (na : Option Presented) → IsSorted (done ++ nexts na None) → EndsOn B done → IsInOrder (batches_of B done ++ b ∷ []) → IsSorted (done ++ nexts na (Some b))
sorted-with-b done b na sorted ends order =
    let front = sorted-front done (nexts na None) sorted in
    sorted-join done (nexts na (Some b)) front (nexts-sorted na (Some b))
    (all-two (λ x. AllByRecursion (MayPrecede x) (nexts na None)) (λ x. MayPrecede x (of_side B b)) (λ x. AllByRecursion (MayPrecede x) (nexts na (Some b)))
    (λ x p q. nexts-all (MayPrecede x) na (Some b) (next-a (MayPrecede x) na p) q) done (sorted-cross done (nexts na None) sorted) (before-end B done b front ends order))

-- ---- how many

pub length-of : (s : Which) (x : Sided) (xs : List Sided) → length (batches_of s (x ∷ xs)) ≡ length (batches_of s (x ∷ [])) + length (batches_of s xs)
length-of s x xs = ap length (batches-append s (x ∷ []) xs) ∙ length-append (batches_of s (x ∷ [])) (batches_of s xs)

put-length : (s : Which) (x : Sided) (ys : List Sided) → length (batches_of s (put_before x ys)) ≡ length (batches_of s (x ∷ ys))
put-length s x [] = refl
put-length s x (y ∷ ys) = at (int_lt (first_instant y.batch) (first_instant x.batch)) (put-length s x ys)
  where
    at : (v : Bool) → length (batches_of s (put_before x ys)) ≡ length (batches_of s (x ∷ ys)) → length (batches_of s (cond v (y ∷ put_before x ys) (x ∷ y ∷ ys))) ≡ length (batches_of s (x ∷ y ∷ ys))
    at false h = refl
    at true h =
        let a = length-of s y (put_before x ys) in
        let b = length-of s x ys in
        let c = length-of s x (y ∷ ys) in
        let d = length-of s y ys in
        omega arith

by-length : (s : Which) (xs : List Sided) → length (batches_of s (by_instant xs)) ≡ length (batches_of s xs)
by-length s [] = ap (λ (l : List Sided). length (batches_of s l)) by-nil
by-length s (x ∷ xs) =
    let a = ap (λ (l : List Sided). length (batches_of s l)) (by-cons x xs) in
    let b = put-length s x (by_instant xs) in
    let c = length-of s x (by_instant xs) in
    let d = by-length s xs in
    let e = length-of s x xs in
    omega arith

of-other : (ys : List Presented) → length (batches_of A (all_of B ys)) ≡ 0
of-other [] = refl
of-other (y ∷ ys) = of-other ys

of-own-b : (ys : List Presented) → length (batches_of B (all_of B ys)) ≡ length ys
of-own-b [] = refl
of-own-b (y ∷ ys) = ap suc (of-own-b ys)

of-a : (xs ys : List Presented) → length (batches_of A (all_of A xs ++ all_of B ys)) ≡ length xs
of-a [] ys = of-other ys
of-a (x ∷ xs) ys = ap suc (of-a xs ys)

of-b : (xs ys : List Presented) → length (batches_of B (all_of A xs ++ all_of B ys)) ≡ length ys
of-b [] ys = of-own-b ys
of-b (x ∷ xs) ys = of-b xs ys

-- merging keeps the number of batches of A
pub length-a : (xs ys : List Presented) → length (batches_of A (merged xs ys)) ≡ length xs
length-a xs ys = ap (λ (l : List Sided). length (batches_of A l)) (merged-def xs ys) ∙ by-length A (all_of A xs ++ all_of B ys) ∙ of-a xs ys

pub length-b : (xs ys : List Presented) → length (batches_of B (merged xs ys)) ≡ length ys
length-b xs ys = ap (λ (l : List Sided). length (batches_of B l)) (merged-def xs ys) ∙ by-length B (all_of A xs ++ all_of B ys) ∙ of-b xs ys
