-- Suppose that a matching was given the first batches of each side and is idle. Then the known part of the merged list
-- is the part that the matching has worked through.
use Rattle.std.proofs.Common.{◌≡◌, ℕ, zero, suc, ℤ, ◌+◌, ◌<◌, Bool, true, false, cond, ◌&&◌, ◌||◌, ◌⊎◌, inl, inr, ◌≤ℤ◌, ◌<ℤ◌, List, [], ◌∷◌, ◌++◌, length, Option, Some, None, refl, sym, ap, ◌∙◌, subst, append_assoc, append-nil, arith}
use Rattle.std.specs.Prelude.{int_lt, slice_get}
use Rattle.std.specs.List.{AllByRecursion, list_any}
use Rattle.std.specs.Option.{option_to_list}
use Rattle.std.proofs.lemmas.Int.{ints}
use Rattle.sample_schedule.specs.Batches.{Presented}
use Rattle.sample_schedule.specs.Verdicts.{first_instant}
use Rattle.sample_schedule.proofs.OrderLemmas.{lt_false}
use Rattle.listener_pair.specs.declared.difference.Difference.{Difference}
use Rattle.listener_pair.specs.declared.difference.Which.{Which}
use Rattle.listener_pair.specs.declared.difference.Which.TheVariants.{A, B}
use Rattle.listener_pair.specs.Merged.{IsInOrder, Sided, all_of, by_instant, is_settled, is_side, known, merged, put_before}
use Rattle.listener_pair.specs.Differences.{differences}
use Rattle.listener_pair.specs.Matching.{EndsOn, IsIdle, IsSorted, MatchingState, MayPrecede, StandsFor, batches_of, known_of, lacks, nexts, of_side, wanted}
use Rattle.listener_pair.proofs.Counting.{differences-front}
use Rattle.listener_pair.proofs.Known.{known-cons, known-here, known-nil, settled-a, settled-b, settled-more}
use Rattle.listener_pair.proofs.Sorting.{all-by, all-join, all-left, all-put, all-two, all-weaker, batches-append, by-cons, by-nil, le-of, lt-le, lt-of, merged-def, merged-is, same-side, sorted-cross, sorted-front, sorted-join}
use Rattle.listener_pair.proofs.Standing.{known-is, lacks-none, wants-a, wants-b}

-- ---- the merged list of two lists in order

all-side : (P : Sided → Type 0) (s : Which) (xs : List Presented) → AllByRecursion (λ b. P (of_side s b)) xs → AllByRecursion P (all_of s xs)
all-side P s [] h = tt
all-side P s (x ∷ xs) h = (h.0, all-side P s xs h.1)

pub all-merged : (P : Sided → Type 0) (xs ys : List Presented) → AllByRecursion (λ b. P (of_side A b)) xs → AllByRecursion (λ b. P (of_side B b)) ys → AllByRecursion P (merged xs ys)
all-merged P xs ys p q = subst (AllByRecursion P) (sym (merged-def xs ys)) (all-by P (all_of A xs ++ all_of B ys) (all-join P (all_of A xs) (all_of B ys) (all-side P A xs p) (all-side P B ys q)))

le-le : (x y z : ℤ) → x ≤ℤ y → y ≤ℤ z → x ≤ℤ z
le-le x y z h k = omega (arith, ints)

lt-not : {P : Type 0} (x y : ℤ) → x <ℤ y → y ≤ℤ x → P
lt-not x y h k = absurd (omega (arith, ints))

-- no batch of A in the list begins before `a`
abbrev NoneBefore : Presented → List Sided → Type 0
NoneBefore a l = AllByRecursion (λ b. first_instant a ≤ℤ first_instant b) (batches_of A l)

none-tail-at : (a : Presented) (s : Which) (c : Presented) (l : List Sided) → NoneBefore a (of_side s c ∷ l) → NoneBefore a l
none-tail-at a A c l h = h.1
none-tail-at a B c l h = h

none-tail : (a : Presented) (y : Sided) (l : List Sided) → NoneBefore a (y ∷ l) → NoneBefore a l
none-tail a y l h = none-tail-at a y.side y.batch l h

-- if no batch of A in a list begins before `a`, the list stays in merged order when `a` is put into it
put-sorted : (a : Presented) (l : List Sided) → IsSorted l → NoneBefore a l → IsSorted (put_before (of_side A a) l)
put-sorted a [] s h = (tt, tt)
put-sorted a (y ∷ ys) s h = at (int_lt (first_instant y.batch) (first_instant a)) refl (put-sorted a ys s.1 (none-tail a y ys h))
  where
    at : (v : Bool) → int_lt (first_instant y.batch) (first_instant a) ≡ v → IsSorted (put_before (of_side A a) ys) → IsSorted (cond v (y ∷ put_before (of_side A a) ys) (of_side A a ∷ y ∷ ys))
    at true e ih =
        let lt = lt-of (first_instant y.batch) (first_instant a) e in
        (all-put (MayPrecede y) (of_side A a) ys (record { instants = lt-le (first_instant y.batch) (first_instant a) lt; sides = λ p q. lt }) s.0, ih)
    at false e ih =
        let le = le-of (first_instant y.batch) (first_instant a) e in
        ((record { instants = le; sides = λ p q. absurd (cc) }, all-weaker (MayPrecede y) (MayPrecede (of_side A a)) (λ z m. record { instants = le-le (first_instant a) (first_instant y.batch) (first_instant z.batch) le m.instants; sides = λ p q. absurd (cc) }) ys s.0), s)

put-a : (a : Presented) (l : List Sided) → NoneBefore a l → batches_of A (put_before (of_side A a) l) ≡ a ∷ batches_of A l
put-a a [] h = refl
put-a a (y ∷ ys) h = at y.side y.batch h (int_lt (first_instant y.batch) (first_instant a)) refl (put-a a ys (none-tail a y ys h))
  where
    at : (s : Which) (c : Presented) → NoneBefore a (of_side s c ∷ ys) → (v : Bool) → int_lt (first_instant c) (first_instant a) ≡ v → batches_of A (put_before (of_side A a) ys) ≡ a ∷ batches_of A ys
        → batches_of A (cond v (of_side s c ∷ put_before (of_side A a) ys) (of_side A a ∷ of_side s c ∷ ys)) ≡ a ∷ batches_of A (of_side s c ∷ ys)
    at A c n true e ih = lt-not (first_instant c) (first_instant a) (lt-of (first_instant c) (first_instant a) e) n.0
    at B c n true e ih = ih
    at s c n false e ih = refl

-- the batches of B in a list stay the same when a batch of A is put into the list
put-b : (a : Presented) (l : List Sided) → batches_of B (put_before (of_side A a) l) ≡ batches_of B l
put-b a [] = refl
put-b a (y ∷ ys) = at y.side y.batch (int_lt (first_instant y.batch) (first_instant a)) (put-b a ys)
  where
    at : (s : Which) (c : Presented) (v : Bool) → batches_of B (put_before (of_side A a) ys) ≡ batches_of B ys → batches_of B (cond v (of_side s c ∷ put_before (of_side A a) ys) (of_side A a ∷ of_side s c ∷ ys)) ≡ batches_of B (of_side s c ∷ ys)
    at A c true ih = ih
    at B c true ih = ap (λ (l : List Presented). c ∷ l) ih
    at s c false ih = refl

-- The list is the merged list of these batches of A and of B.
pub record Merges (xs ys : List Presented) (l : List Sided) : Type 0 where
  pub sorted : IsSorted l
  pub a : batches_of A l ≡ xs
  pub b : batches_of B l ≡ ys

put-first-b : (b : Presented) (ys : List Presented) → AllByRecursion (λ c. first_instant b ≤ℤ first_instant c) ys → put_before (of_side B b) (all_of B ys) ≡ of_side B b ∷ all_of B ys
put-first-b b [] h = refl
put-first-b b (c ∷ ys) h = ap (λ v. cond v (of_side B c ∷ put_before (of_side B b) (all_of B ys)) (of_side B b ∷ of_side B c ∷ all_of B ys)) (lt_false (first_instant c) (first_instant b) h.0)

only-b : (ys : List Presented) → IsInOrder ys → by_instant (all_of B ys) ≡ all_of B ys
only-b [] h = by-nil
only-b (b ∷ ys) h = by-cons (of_side B b) (all_of B ys) ∙ ap (put_before (of_side B b)) (only-b ys h.1) ∙ put-first-b b ys h.0

all-of-b : (ys : List Presented) → IsInOrder ys → Merges [] ys (all_of B ys)
all-of-b [] h = record { sorted = tt; a = refl; b = refl }
all-of-b (y ∷ ys) h =
    let m = all-of-b ys h.1 in
    record {
      sorted = (all-side (MayPrecede (of_side B y)) B ys (all-weaker (λ c. first_instant y ≤ℤ first_instant c) (λ c. MayPrecede (of_side B y) (of_side B c)) (λ c le. record { instants = le; sides = λ p q. absurd (cc) }) ys h.0), m.sorted);
      a = m.a;
      b = ap (λ (l : List Presented). y ∷ l) m.b;
    }

merges-by : (xs ys : List Presented) → IsInOrder xs → IsInOrder ys → Merges xs ys (by_instant (all_of A xs ++ all_of B ys))
merges-by [] ys p q = subst (Merges [] ys) (sym (only-b ys q)) (all-of-b ys q)
merges-by (x ∷ xs) ys p q =
    let l = by_instant (all_of A xs ++ all_of B ys) in
    let m = merges-by xs ys p.1 q in
    let none = subst (λ (k : List Presented). AllByRecursion (λ b. first_instant x ≤ℤ first_instant b) k) (sym m.a) p.0 in
    subst (Merges (x ∷ xs) ys) (sym (by-cons (of_side A x) (all_of A xs ++ all_of B ys)))
    (record { sorted = put-sorted x l m.sorted none; a = put-a x l none ∙ ap (λ (k : List Presented). x ∷ k) m.a; b = put-b x l ∙ m.b })

pub merges : (xs ys : List Presented) → IsInOrder xs → IsInOrder ys → Merges xs ys (merged xs ys)
merges xs ys p q = subst (Merges xs ys) (sym (merged-def xs ys)) (merges-by xs ys p q)

-- ---- one list after the other

pub order-back : (xs ys : List Presented) → IsInOrder (xs ++ ys) → IsInOrder ys
order-back [] ys h = h
order-back (x ∷ xs) ys h = order-back xs ys h.1

pub order-front : (xs ys : List Presented) → IsInOrder (xs ++ ys) → IsInOrder xs
order-front [] ys h = tt
order-front (x ∷ xs) ys h = (all-left (λ y. first_instant x ≤ℤ first_instant y) xs ys h.0, order-front xs ys h.1)

order-last : (l : List Presented) (z : Presented) (rest : List Presented) → IsInOrder ((l ++ z ∷ []) ++ rest) → AllByRecursion (λ r. first_instant z ≤ℤ first_instant r) rest
order-last [] z rest h = h.0
order-last (x ∷ l) z rest h = order-last l z rest h.1

precede-more : (s : Which) (x : Sided) (z y : Presented) → MayPrecede x (of_side s z) → first_instant z ≤ℤ first_instant y → MayPrecede x (of_side s y)
precede-more s x z y p le = record {
  instants = let h = p.instants in omega (arith, ints);
  sides = λ xb ya. let h = p.sides xb ya in omega (arith, ints);
}

-- If the batches in the list `rest` are of side `s`, each batch in the list `done` may precede each batch in `rest` in
-- merged order.
abbrev pub Crosses : Which → List Presented → List Sided → Type 0
Crosses s rest done = AllByRecursion (λ d. AllByRecursion (λ r. MayPrecede d (of_side s r)) rest) done

cross-next : (s : Which) (done : List Sided) (a : Presented) (more : List Presented) → AllByRecursion (λ d. MayPrecede d (of_side s a)) done → AllByRecursion (λ r. first_instant a ≤ℤ first_instant r) more → Crosses s (a ∷ more) done
cross-next s done a more p le =
    all-weaker (λ d. MayPrecede d (of_side s a)) (λ d. AllByRecursion (λ r. MayPrecede d (of_side s r)) (a ∷ more))
    (λ d m. (m, all-weaker (λ r. first_instant a ≤ℤ first_instant r) (λ r. MayPrecede d (of_side s r)) (λ r h. precede-more s d a r m h) more le)) done p

-- If the list `done` ends with a batch of side `s`, each batch of `done` may precede the later batches of that side.
cross-last : (s : Which) (done : List Sided) (more : List Presented) → IsSorted done → EndsOn s done → IsInOrder (batches_of s done ++ more) → Crosses s more done
cross-last s done more sorted (inl none) order = subst (Crosses s more) (sym none) tt
cross-last s done more sorted (inr (front, z, e)) order =
    let one = batches-append s front (of_side s z ∷ []) ∙ ap (λ (l : List Presented). batches_of s front ++ l) (one-of s z) in
    let le = order-last (batches_of s front) z more (subst (λ (l : List Presented). IsInOrder (l ++ more)) (ap (batches_of s) e ∙ one) order) in
    let before = all-weaker (λ x. AllByRecursion (MayPrecede x) (of_side s z ∷ [])) (λ x. MayPrecede x (of_side s z)) (λ x p. p.0) front (sorted-cross front (of_side s z ∷ []) (subst IsSorted e sorted)) in
    subst (Crosses s more) (sym e)
    (all-join (λ d. AllByRecursion (λ r. MayPrecede d (of_side s r)) more) front (of_side s z ∷ [])
    (all-weaker (λ x. MayPrecede x (of_side s z)) (λ d. AllByRecursion (λ r. MayPrecede d (of_side s r)) more) (λ d m. all-weaker (λ r. first_instant z ≤ℤ first_instant r) (λ r. MayPrecede d (of_side s r)) (λ r h. precede-more s d z r m h) more le) front before)
    (all-weaker (λ r. first_instant z ≤ℤ first_instant r) (λ r. MayPrecede (of_side s z) (of_side s r)) (λ r h. same-side s z r h) more le, tt))
  where
    one-of : (s : Which) (z : Presented) → batches_of s (of_side s z ∷ []) ≡ z ∷ []
    one-of A z = refl
    one-of B z = refl

-- If each batch of the list `done` may precede all of `ra` and `rb`, the merged list of all batches consists of `done`,
-- followed by the merged list of `ra` and `rb`.
pub merged-after : (done : List Sided) (ra rb : List Presented) → IsSorted done → IsInOrder ra → IsInOrder rb → Crosses A ra done → Crosses B rb done → merged (batches_of A done ++ ra) (batches_of B done ++ rb) ≡ done ++ merged ra rb
merged-after done ra rb sorted oa ob ca cb =
    let m = merges ra rb oa ob in
    let all = all-two (λ d. AllByRecursion (λ r. MayPrecede d (of_side A r)) ra) (λ d. AllByRecursion (λ r. MayPrecede d (of_side B r)) rb) (λ d. AllByRecursion (MayPrecede d) (merged ra rb))
    (λ d p q. all-merged (MayPrecede d) ra rb p q) done ca cb in
    let a = batches-append A done (merged ra rb) ∙ ap (λ (l : List Presented). batches_of A done ++ l) m.a in
    let b = batches-append B done (merged ra rb) ∙ ap (λ (l : List Presented). batches_of B done ++ l) m.b in
    ap (λ (l : List Presented). merged l (batches_of B done ++ rb)) (sym a) ∙ ap (merged (batches_of A (done ++ merged ra rb))) (sym b)
    ∙ merged-is (done ++ merged ra rb) (sorted-join done (merged ra rb) sorted m.sorted all)

-- ---- what is known

or-true : (e : Bool) → (e || true) ≡ true
or-true true = refl
or-true false = refl

any-end : (s : Which) (front : List Sided) (z : Presented) (rest : List Sided) → list_any (λ y. is_side s y.side) ((front ++ of_side s z ∷ []) ++ rest) ≡ true
any-end A [] z rest = refl
any-end B [] z rest = refl
any-end s (x ∷ front) z rest = at (is_side s x.side) (any-end s front z rest)
  where
    at : (v : Bool) → list_any (λ y. is_side s y.side) ((front ++ of_side s z ∷ []) ++ rest) ≡ true → (v || list_any (λ y. is_side s y.side) ((front ++ of_side s z ∷ []) ++ rest)) ≡ true
    at true h = refl
    at false h = h

-- one of three things holds: `is_settled` is true for side `s` and the list `rest`; the list `done` is empty; or `done`
-- ends with a batch of side `s`
abbrev pub Covered : Bool → Which → List Sided → List Sided → Type 0
Covered e s done rest = (is_settled e s rest ≡ true) ⊎ EndsOn s done

covered-here : (e : Bool) (s : Which) (x : Sided) (done rest : List Sided) → Covered e s (x ∷ done) rest → is_settled e s ((x ∷ done) ++ rest) ≡ true
covered-here e s x done rest (inl h) = settled-more e s (x ∷ done) rest h
covered-here e s x done rest (inr (inl none)) = absurd (cc)
covered-here e s x done rest (inr (inr (front, z, eq))) =
    ap (λ (l : List Sided). e || list_any (λ y. is_side s y.side) (l ++ rest)) eq ∙ ap (λ v. e || v) (any-end s front z rest) ∙ or-true e

covered-tail : (e : Bool) (s : Which) (x : Sided) (done rest : List Sided) → Covered e s (x ∷ done) rest → Covered e s done rest
covered-tail e s x done rest (inl h) = inl h
covered-tail e s x done rest (inr (inl none)) = absurd (cc)
covered-tail e s x done rest (inr (inr ([], z, eq))) = inr (inl (cc))
covered-tail e s x done rest (inr (inr (y ∷ front, z, eq))) = inr (inr (front, z, (cc)))

pub known-through : (ea eb : Bool) (done rest : List Sided) → Covered ea A done rest → Covered eb B done rest → known ea eb (done ++ rest) ≡ done ++ known ea eb rest
known-through ea eb [] rest a b = refl
known-through ea eb (x ∷ done) rest a b =
    known-here ea eb x (done ++ rest) (covered-here ea A x done rest a) (covered-here eb B x done rest b)
    ∙ ap (λ (l : List Sided). x ∷ l) (known-through ea eb done rest (covered-tail ea A x done rest a) (covered-tail eb B x done rest b))

any-batch : (s : Which) (l : List Sided) (a : Presented) (more : List Presented) → batches_of s l ≡ a ∷ more → list_any (λ y. is_side s y.side) l ≡ true
any-batch s [] a more e = absurd (cc)
any-batch s (x ∷ l) a more e = at s x.side x.batch e (λ f. any-batch s l a more f)
  where
    at : (s r : Which) (c : Presented) → batches_of s (of_side r c ∷ l) ≡ a ∷ more → (batches_of s l ≡ a ∷ more → list_any (λ y. is_side s y.side) l ≡ true) → list_any (λ y. is_side s y.side) (of_side r c ∷ l) ≡ true
    at A A c e ih = refl
    at A B c e ih = ih e
    at B A c e ih = ih e
    at B B c e ih = refl

pub none-batch : (s : Which) (l : List Sided) → batches_of s l ≡ [] → list_any (λ y. is_side s y.side) l ≡ false
none-batch s [] e = refl
none-batch s (x ∷ l) e = at s x.side x.batch e (λ f. none-batch s l f)
  where
    at : (s r : Which) (c : Presented) → batches_of s (of_side r c ∷ l) ≡ [] → (batches_of s l ≡ [] → list_any (λ y. is_side s y.side) l ≡ false) → list_any (λ y. is_side s y.side) (of_side r c ∷ l) ≡ false
    at A A c e ih = absurd (cc)
    at A B c e ih = ih e
    at B A c e ih = ih e
    at B B c e ih = absurd (cc)

and-false : (u : Bool) → (u && false) ≡ false
and-false true = refl
and-false false = refl

pub unsettled-a : (ea eb : Bool) (l : List Sided) → is_settled ea A l ≡ false → known ea eb l ≡ []
unsettled-a ea eb [] h = known-nil ea eb
unsettled-a ea eb (x ∷ l) h = known-cons ea eb x l ∙ ap (λ v. cond (v && is_settled eb B (x ∷ l)) (x ∷ known ea eb l) []) h

pub unsettled-b : (ea eb : Bool) (l : List Sided) → is_settled eb B l ≡ false → known ea eb l ≡ []
unsettled-b ea eb [] h = known-nil ea eb
unsettled-b ea eb (x ∷ l) h =
    known-cons ea eb x l ∙ ap (λ v. cond (is_settled ea A (x ∷ l) && v) (x ∷ known ea eb l) []) h ∙ ap (λ v. cond v (x ∷ known ea eb l) []) (and-false (is_settled ea A (x ∷ l)))

-- ---- what a matching was given, and what its sides present

-- A presents `xs` and then `more_a`, and B presents `ys` and then `more_b`. The batches of each side are in order. If a
-- side has ended in the matching, that side's listener has ended, too, and the side presents no more batches.
pub record GoesOn (xs ys more_a more_b : List Presented) (over_a over_b : Bool) (m : MatchingState) : Type 0 where
  pub order_a : IsInOrder (xs ++ more_a)
  pub order_b : IsInOrder (ys ++ more_b)
  pub none_a : m.ended_a ≡ true → more_a ≡ []
  pub none_b : m.ended_b ≡ true → more_b ≡ []
  pub is_over_a : m.ended_a ≡ true → over_a ≡ true
  pub is_over_b : m.ended_b ≡ true → over_b ≡ true

-- the side's batches that the matching has not worked through: the next batch, if there is one, followed by the list
-- `more`
abbrev pub rest_of : Option Presented → List Presented → List Presented
rest_of next more = option_to_list next ++ more

cross-at : (s : Which) (done : List Sided) (next : Option Presented) (ended lack : Bool) (more : List Presented) → lacks ended next ≡ lack → IsSorted done → (lacks ended next ≡ true → EndsOn s done) → (ended ≡ true → more ≡ [])
    → AllByRecursion (λ d. AllByRecursion (λ r. MayPrecede d (of_side s r)) (option_to_list next)) done → IsInOrder (batches_of s done ++ rest_of next more) → Crosses s (rest_of next more) done
cross-at s done (Some a) ended lack more l sorted ends none first order =
    cross-next s done a more (all-weaker (λ d. AllByRecursion (λ r. MayPrecede d (of_side s r)) (a ∷ [])) (λ d. MayPrecede d (of_side s a)) (λ d p. p.0) done first) (order-back (batches_of s done) (a ∷ more) order).0
cross-at s done None true lack more l sorted ends none first order =
    subst (λ (r : List Presented). Crosses s r done) (sym (none refl)) first
cross-at s done None false lack more l sorted ends none first order = cross-last s done more sorted (ends refl) order

cross-nexts-a : (done : List Sided) (na nb : Option Presented) → IsSorted (done ++ nexts na nb) → AllByRecursion (λ d. AllByRecursion (λ r. MayPrecede d (of_side A r)) (option_to_list na)) done
cross-nexts-a done na nb sorted = all-weaker (λ d. AllByRecursion (MayPrecede d) (nexts na nb)) (λ d. AllByRecursion (λ r. MayPrecede d (of_side A r)) (option_to_list na)) (λ d p. at d na nb p) done (sorted-cross done (nexts na nb) sorted)
  where
    at : (d : Sided) (na nb : Option Presented) → AllByRecursion (MayPrecede d) (nexts na nb) → AllByRecursion (λ r. MayPrecede d (of_side A r)) (option_to_list na)
    at d None nb p = tt
    at d (Some a) None p = p
    at d (Some a) (Some b) p = by (int_lt (first_instant b) (first_instant a)) p
      where
        by : (v : Bool) → AllByRecursion (MayPrecede d) (cond v (of_side B b ∷ of_side A a ∷ []) (of_side A a ∷ of_side B b ∷ [])) → AllByRecursion (λ r. MayPrecede d (of_side A r)) (a ∷ [])
        by true p = p.1
        by false p = (p.0, tt)

cross-nexts-b : (done : List Sided) (na nb : Option Presented) → IsSorted (done ++ nexts na nb) → AllByRecursion (λ d. AllByRecursion (λ r. MayPrecede d (of_side B r)) (option_to_list nb)) done
cross-nexts-b done na nb sorted = all-weaker (λ d. AllByRecursion (MayPrecede d) (nexts na nb)) (λ d. AllByRecursion (λ r. MayPrecede d (of_side B r)) (option_to_list nb)) (λ d p. at d na nb p) done (sorted-cross done (nexts na nb) sorted)
  where
    at : (d : Sided) (na nb : Option Presented) → AllByRecursion (MayPrecede d) (nexts na nb) → AllByRecursion (λ r. MayPrecede d (of_side B r)) (option_to_list nb)
    at d na None p = tt
    at d None (Some b) p = p
    at d (Some a) (Some b) p = by (int_lt (first_instant b) (first_instant a)) p
      where
        by : (v : Bool) → AllByRecursion (MayPrecede d) (cond v (of_side B b ∷ of_side A a ∷ []) (of_side A a ∷ of_side B b ∷ [])) → AllByRecursion (λ r. MayPrecede d (of_side B r)) (b ∷ [])
        by true p = (p.0, tt)
        by false p = p.1

-- A side's batches are those in the list `done`, followed by the next batch, if there is one, and by the list `more`.
pub given-back : (xs done more : List Presented) (next : Option Presented) → done ++ option_to_list next ≡ xs → xs ++ more ≡ done ++ rest_of next more
given-back xs done more next e = ap (λ (l : List Presented). l ++ more) (sym e) ∙ append_assoc done (option_to_list next) more

-- the merged list of all batches consists of the list `done`, followed by the merged list of the batches that are not
-- in `done`
pub merged-all : (xs ys more_a more_b : List Presented) (given : ℕ) (over_a over_b : Bool) (m : MatchingState) (s : StandsFor xs ys given m) → GoesOn xs ys more_a more_b over_a over_b m
    → merged (xs ++ more_a) (ys ++ more_b) ≡ s.done ++ merged (rest_of m.next_a more_a) (rest_of m.next_b more_b)
merged-all xs ys more_a more_b given over_a over_b m s g =
    let a = given-back xs (batches_of A s.done) more_a m.next_a s.a in
    let b = given-back ys (batches_of B s.done) more_b m.next_b s.b in
    let oa = subst IsInOrder a g.order_a in
    let ob = subst IsInOrder b g.order_b in
    let sorted = sorted-front s.done (nexts m.next_a m.next_b) s.sorted in
    let ca = cross-at A s.done m.next_a m.ended_a (lacks m.ended_a m.next_a) more_a refl sorted s.last_a g.none_a (cross-nexts-a s.done m.next_a m.next_b s.sorted) oa in
    let cb = cross-at B s.done m.next_b m.ended_b (lacks m.ended_b m.next_b) more_b refl sorted s.last_b g.none_b (cross-nexts-b s.done m.next_a m.next_b s.sorted) ob in
    ap (λ (l : List Presented). merged l (ys ++ more_b)) a ∙ ap (merged (batches_of A s.done ++ rest_of m.next_a more_a)) b
    ∙ merged-after s.done (rest_of m.next_a more_a) (rest_of m.next_b more_b) sorted (order-back (batches_of A s.done) (rest_of m.next_a more_a) oa) (order-back (batches_of B s.done) (rest_of m.next_b more_b) ob) ca cb

covers-at : (s : Which) (done rest : List Sided) (ended over : Bool) (next : Option Presented) (more : List Presented) (lack : Bool) → lacks ended next ≡ lack → (ended ≡ true → over ≡ true) → (lacks ended next ≡ true → EndsOn s done) → batches_of s rest ≡ rest_of next more → Covered over s done rest
covers-at s done rest true over next more lack l is ends e = inl (ap (λ v. v || list_any (λ y. is_side s y.side) rest) (is refl))
covers-at s done rest false over None more lack l is ends e = inr (ends refl)
covers-at s done rest false over (Some a) more lack l is ends e = inl (ap (λ v. over || v) (any-batch s rest a more e) ∙ or-true over)

pub known-all : (xs ys more_a more_b : List Presented) (given : ℕ) (over_a over_b : Bool) (m : MatchingState) (s : StandsFor xs ys given m) → GoesOn xs ys more_a more_b over_a over_b m
    → known over_a over_b (merged (xs ++ more_a) (ys ++ more_b)) ≡ s.done ++ known over_a over_b (merged (rest_of m.next_a more_a) (rest_of m.next_b more_b))
known-all xs ys more_a more_b given over_a over_b m s g =
    let ra = rest_of m.next_a more_a in
    let rb = rest_of m.next_b more_b in
    let oa = order-back (batches_of A s.done) ra (subst IsInOrder (given-back xs (batches_of A s.done) more_a m.next_a s.a) g.order_a) in
    let ob = order-back (batches_of B s.done) rb (subst IsInOrder (given-back ys (batches_of B s.done) more_b m.next_b s.b) g.order_b) in
    let r = merges ra rb oa ob in
    ap (known over_a over_b) (merged-all xs ys more_a more_b given over_a over_b m s g)
    ∙ known-through over_a over_b s.done (merged ra rb)
    (covers-at A s.done (merged ra rb) m.ended_a over_a m.next_a more_a (lacks m.ended_a m.next_a) refl g.is_over_a s.last_a r.a)
    (covers-at B s.done (merged ra rb) m.ended_b over_b m.next_b more_b (lacks m.ended_b m.next_b) refl g.is_over_b s.last_b r.b)

-- If the matching wants a side, two things hold: this side has not ended, and the matching was given all batches of the
-- side.
pub record IsAsked (more_a more_b : List Presented) (over_a over_b : Bool) (m : MatchingState) : Type 0 where
  pub all_a : wanted m ≡ Some A → more_a ≡ []
  pub all_b : wanted m ≡ Some B → more_b ≡ []
  pub open_a : wanted m ≡ Some A → over_a ≡ false
  pub open_b : wanted m ≡ Some B → over_b ≡ false

-- if no side is wanted and the known part of the merged next batches is empty, both sides have ended and have no next
-- batch
through-at : (ea eb : Bool) (na nb : Option Presented) → lacks ea na ≡ false → lacks eb nb ≡ false → known ea eb (nexts na nb) ≡ [] → (na ≡ None) × (nb ≡ None) × (ea ≡ true) × (eb ≡ true)
through-at true true None None a b k = (refl, refl, refl, refl)
through-at false eb None nb a b k = absurd (cc)
through-at ea false na None a b k = absurd (cc)
through-at true eb None (Some c) a b k = let e = sym (known-here true eb (of_side B c) [] refl (settled-b eb None (Some c) b)) ∙ k in absurd (cc)
through-at ea true (Some c) None a b k = let e = sym (known-here ea true (of_side A c) [] (settled-a ea (Some c) None a) refl) ∙ k in absurd (cc)
through-at ea eb (Some c) (Some d) a b k = at (int_lt (first_instant d) (first_instant c)) (settled-a ea (Some c) (Some d) a) (settled-b eb (Some c) (Some d) b) k
  where
    at : (v : Bool) → is_settled ea A (cond v (of_side B d ∷ of_side A c ∷ []) (of_side A c ∷ of_side B d ∷ [])) ≡ true → is_settled eb B (cond v (of_side B d ∷ of_side A c ∷ []) (of_side A c ∷ of_side B d ∷ [])) ≡ true
        → known ea eb (cond v (of_side B d ∷ of_side A c ∷ []) (of_side A c ∷ of_side B d ∷ [])) ≡ [] → (Some c ≡ None) × (Some d ≡ None) × (ea ≡ true) × (eb ≡ true)
    at true p q k = let e = sym (known-here ea eb (of_side B d) (of_side A c ∷ []) p q) ∙ k in absurd (cc)
    at false p q k = let e = sym (known-here ea eb (of_side A c) (of_side B d ∷ []) p q) ∙ k in absurd (cc)

wanted-at : (u v : Bool) → (cond u (Some A) (cond v (Some B) None) ≡ Some A) ⊎ ((cond u (Some A) (cond v (Some B) None) ≡ Some B) ⊎ ((u ≡ false) × (v ≡ false)))
wanted-at true v = inl refl
wanted-at false true = inr (inl refl)
wanted-at false false = inr (inr (refl, refl))

-- if no side is wanted and the matching is idle, both sides have ended
pub idle-ended : (m : MatchingState) → wanted m ≡ None → IsIdle m → (m.ended_a ≡ true) × (m.ended_b ≡ true)
idle-ended m none idle = at (wanted-at (lacks m.ended_a m.next_a) (lacks m.ended_b m.next_b))
  where
    at : (wanted m ≡ Some A) ⊎ ((wanted m ≡ Some B) ⊎ ((lacks m.ended_a m.next_a ≡ false) × (lacks m.ended_b m.next_b ≡ false))) → (m.ended_a ≡ true) × (m.ended_b ≡ true)
    at (inl w) = let e : Some A ≡ None = sym w ∙ none in absurd (cc)
    at (inr (inl w)) = let e : Some B ≡ None = sym w ∙ none in absurd (cc)
    at (inr (inr (la, lb))) = let t = through-at m.ended_a m.ended_b m.next_a m.next_b la lb idle in (t.2, t.3)

-- if the matching is idle, only the batches in the list `done` are known
rest-idle : (ra rb : List Presented) (more_a more_b : List Presented) (over_a over_b : Bool) (m : MatchingState) → ra ≡ rest_of m.next_a more_a → rb ≡ rest_of m.next_b more_b → IsInOrder ra → IsInOrder rb → IsIdle m
    → (m.ended_a ≡ true → more_a ≡ []) → (m.ended_b ≡ true → more_b ≡ []) → IsAsked more_a more_b over_a over_b m
    → (wanted m ≡ Some A) ⊎ ((wanted m ≡ Some B) ⊎ ((lacks m.ended_a m.next_a ≡ false) × (lacks m.ended_b m.next_b ≡ false))) → known over_a over_b (merged ra rb) ≡ []
rest-idle ra rb more_a more_b over_a over_b m ea eb oa ob idle none_a none_b asked (inl w) =
    let none : ra ≡ [] = ea ∙ ap (λ (n : Option Presented). option_to_list n ++ more_a) (lacks-none m.ended_a m.next_a (wants-a m w)) ∙ asked.all_a w in
    unsettled-a over_a over_b (merged ra rb) (ap (λ v. v || list_any (λ y. is_side A y.side) (merged ra rb)) (asked.open_a w) ∙ none-batch A (merged ra rb) ((merges ra rb oa ob).a ∙ none))
rest-idle ra rb more_a more_b over_a over_b m ea eb oa ob idle none_a none_b asked (inr (inl w)) =
    let none : rb ≡ [] = eb ∙ ap (λ (n : Option Presented). option_to_list n ++ more_b) (lacks-none m.ended_b m.next_b (wants-b m w)) ∙ asked.all_b w in
    unsettled-b over_a over_b (merged ra rb) (ap (λ v. v || list_any (λ y. is_side B y.side) (merged ra rb)) (asked.open_b w) ∙ none-batch B (merged ra rb) ((merges ra rb oa ob).b ∙ none))
rest-idle ra rb more_a more_b over_a over_b m ea eb oa ob idle none_a none_b asked (inr (inr (la, lb))) =
    let t = through-at m.ended_a m.ended_b m.next_a m.next_b la lb idle in
    let a : ra ≡ [] = ea ∙ ap (λ (n : Option Presented). option_to_list n ++ more_a) t.0 ∙ none_a t.2 in
    let b : rb ≡ [] = eb ∙ ap (λ (n : Option Presented). option_to_list n ++ more_b) t.1 ∙ none_b t.3 in
    ap (λ (l : List Presented). known over_a over_b (merged l rb)) a ∙ ap (λ (l : List Presented). known over_a over_b (merged [] l)) b ∙ ap (known over_a over_b) (merged-def [] [] ∙ by-nil) ∙ known-nil over_a over_b

-- if the matching is idle, the known part is the list `done`
pub known-idle : (xs ys more_a more_b : List Presented) (given : ℕ) (over_a over_b : Bool) (m : MatchingState) (s : StandsFor xs ys given m) → GoesOn xs ys more_a more_b over_a over_b m → IsAsked more_a more_b over_a over_b m → IsIdle m
    → known over_a over_b (merged (xs ++ more_a) (ys ++ more_b)) ≡ s.done
known-idle xs ys more_a more_b given over_a over_b m s g asked idle =
    let ra = rest_of m.next_a more_a in
    let rb = rest_of m.next_b more_b in
    let oa = order-back (batches_of A s.done) ra (subst IsInOrder (given-back xs (batches_of A s.done) more_a m.next_a s.a) g.order_a) in
    let ob = order-back (batches_of B s.done) rb (subst IsInOrder (given-back ys (batches_of B s.done) more_b m.next_b s.b) g.order_b) in
    known-all xs ys more_a more_b given over_a over_b m s g
    ∙ ap (λ (l : List Sided). s.done ++ l) (rest-idle ra rb more_a more_b over_a over_b m refl refl oa ob idle g.none_a g.none_b asked (wanted-at (lacks m.ended_a m.next_a) (lacks m.ended_b m.next_b)))
    ∙ append-nil s.done

get-front : {T : Type 0} (xs more : List T) (n : ℕ) → n < length xs → slice_get (xs ++ more) n ≡ slice_get xs n
get-front [] more n h = absurd (omega arith)
get-front (x ∷ xs) more zero h = refl
get-front (x ∷ xs) more (suc n) h = get-front xs more n (omega arith)

front-get : (done more : List Sided) (n : ℕ) → n < length (differences done) → slice_get (differences (done ++ more)) n ≡ slice_get (differences done) n
front-get done more n h =
    let f = differences-front done more in
    ap (λ (l : List Difference). slice_get l n) f.1 ∙ get-front (differences done) f.0 n h

pub some-all : (xs ys more_a more_b : List Presented) (given : ℕ) (over_a over_b : Bool) (m : MatchingState) (s : StandsFor xs ys (given + 1) m) → GoesOn xs ys more_a more_b over_a over_b m
    → slice_get (differences (known_of m xs ys)) given ≡ slice_get (differences (known over_a over_b (merged (xs ++ more_a) (ys ++ more_b)))) given
some-all xs ys more_a more_b given over_a over_b m s g =
    let few : given < length (differences s.done) = let e = s.shown in omega arith in
    ap (λ (l : List Sided). slice_get (differences l) given) (known-is xs ys (given + 1) m s)
    ∙ front-get s.done (known m.ended_a m.ended_b (nexts m.next_a m.next_b)) given few
    ∙ sym (front-get s.done (known over_a over_b (merged (rest_of m.next_a more_a) (rest_of m.next_b more_b))) given few)
    ∙ sym (ap (λ (l : List Sided). slice_get (differences l) given) (known-all xs ys more_a more_b (given + 1) over_a over_b m s g))
