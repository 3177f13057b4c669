-- The laws of pairs and differences.
use Rattle.std.proofs.Common.{◌≡◌, ℕ, suc, ◌+◌, ◌<◌, ◌≤◌, Bool, true, false, cond, ◌&&◌, ◌||◌, ◌⊎◌, inl, inr, List, [], ◌∷◌, ◌++◌, length, filter, Option, Some, None, refl, sym, ap, ◌∙◌, subst, arith, length-append}
use Rattle.std.specs.Prelude.{nat_le, not, ◌==◌}
use Rattle.std.specs.List.{AllByRecursion, find}
use Rattle.std.proofs.lemmas.Bool.Decides.{Decides-eqb}
use Rattle.std.proofs.lemmas.List.Elements.{filter-append}
use Rattle.listener_pair.specs.declared.difference.Which.TheVariants.{A, B}
use Rattle.listener_pair.specs.declared.placed.Placed.{Placed}
use Rattle.listener_pair.specs.Laws.{IsPair, is_in, times_paired}
use Rattle.listener_pair.specs.Merged.{Sided, is_settled, is_side, known}
use Rattle.listener_pair.specs.Pairs.{Paired, at_place, fits, left_by, may_pair, pair_by, pairs, pairs_from, partner_of, unpaired_with, without_first}
use Rattle.listener_pair.proofs.Known.{known-cons, known-nil}
use Rattle.listener_pair.proofs.Sorting.{all-join}
use Rattle.listener_pair.proofs.Windows.{IsAscending, ascending-with, either, fewer, filter-no, find-passes, le-of}

-- ---- the known part

prefix-at : (v : Bool) (x : Sided) (k rest : List Sided) → (more : List Sided) × (rest ≡ k ++ more) → (more : List Sided) × (x ∷ rest ≡ cond v (x ∷ k) [] ++ more)
prefix-at true x k rest h = (h.0, ap (λ (l : List Sided). x ∷ l) h.1)
prefix-at false x k rest h = (x ∷ rest, refl)

known-prefix : (ea eb : Bool) (list : List Sided) → (more : List Sided) × (list ≡ known ea eb list ++ more)
known-prefix ea eb [] = ([], sym (ap (λ (l : List Sided). l ++ []) (known-nil ea eb)))
known-prefix ea eb (x ∷ rest) =
    subst (λ (k : List Sided). (more : List Sided) × (x ∷ rest ≡ k ++ more)) (sym (known-cons ea eb x rest))
    (prefix-at (is_settled ea A (x ∷ rest) && is_settled eb B (x ∷ rest)) x (known ea eb rest) rest (known-prefix ea eb rest))

pub known-all : (list : List Sided) → known true true list ≡ list
known-all [] = known-nil true true
known-all (x ∷ rest) = known-cons true true x rest ∙ ap (λ (l : List Sided). x ∷ l) (known-all rest)

pub known-front : (ea eb : Bool) (list : List Sided) → (more : List Sided) × (known ea eb list ++ more ≡ list)
known-front ea eb list = let h = known-prefix ea eb list in (h.0, sym h.1)

-- ---- two sides

not-true : (b : Bool) → not b ≡ true → b ≡ false
not-true true h = absurd (cc)
not-true false h = refl

one : (u v w : Bool) → (u && v && w) ≡ true → u ≡ true
one true v w h = refl
one false v w h = absurd (cc)

two : (u v w : Bool) → (u && v && w) ≡ true → v ≡ true
two true true w h = refl
two true false w h = absurd (cc)
two false v w h = absurd (cc)

three : (u v w : Bool) → (u && v && w) ≡ true → w ≡ true
three true true w h = h
three true false w h = absurd (cc)
three false v w h = absurd (cc)

-- each batch of the list has a position below n
abbrev AllBelow : ℕ → List Placed → Type 0
AllBelow n u = AllByRecursion (λ y. y.place < n) u

some-is : (x y : Placed) → Some x ≡ Some y → x ≡ y
some-is x y e = cc

below-at : (t : Placed → Bool) (n : ℕ) (z : Placed) (u : List Placed) (y : Placed) → z.place < n → (find t u ≡ Some y → y.place < n) → find t (z ∷ u) ≡ Some y → (t z ≡ true) ⊎ (t z ≡ false) → y.place < n
below-at t n z u y here rest e (inl hit) = subst (λ (p : Placed). p.place < n) (some-is z y (sym (ap (λ v. cond v (Some z) (find t u)) hit) ∙ e)) here
below-at t n z u y here rest e (inr miss) = rest (sym (ap (λ v. cond v (Some z) (find t u)) miss) ∙ e)

find-below : (t : Placed → Bool) (n : ℕ) (u : List Placed) (y : Placed) → AllBelow n u → find t u ≡ Some y → y.place < n
find-below t n [] y h e = absurd (cc)
find-below t n (z ∷ u) y h e = below-at t n z u y h.0 (find-below t n u y h.1) e (either (t z))

last-place : (lo hi : ℕ) (u : List Placed) → IsAscending lo hi u → lo ≤ hi
last-place lo hi [] h = h
last-place lo hi (y ∷ u) h = let p = h.0 in let q = last-place (suc y.place) hi u h.1 in omega arith

ascending-below : (lo hi : ℕ) (u : List Placed) → IsAscending lo hi u → AllBelow hi u
ascending-below lo hi [] h = tt
ascending-below lo hi (y ∷ u) h = (last-place (suc y.place) hi u h.1, ascending-below (suc y.place) hi u h.1)

is-pair : (x y : Placed) (u : List Placed) → IsAscending 0 x.place u → find (may_pair x) u ≡ Some y → IsPair (record { earlier = y; later = x })
is-pair x y u asc e =
    let p = find-passes (may_pair x) u y e in
    let near = nat_le x.place (y.place + 512) in
    let apart = not (is_side x.side y.side) in
    let one_packet = fits x.side x.batch y.batch in
    record {
      sides = not-true (is_side x.side y.side) (two near apart one_packet p);
      before = find-below (may_pair x) x.place u y (ascending-below 0 x.place u asc) e;
      near = le-of x.place (y.place + 512) (one near apart one_packet p);
      fits = three near apart one_packet p;
    }

pair-at : (x : Placed) (u : List Placed) (f : Option Placed) → IsAscending 0 x.place u → find (may_pair x) u ≡ f → AllByRecursion IsPair (pair_by x f)
pair-at x u None asc e = tt
pair-at x u (Some y) asc e = (is-pair x y u asc e, tt)

pairs-all : (place : ℕ) (u : List Placed) (list : List Sided) → IsAscending 0 place u → AllByRecursion IsPair (pairs_from place u list)
unfolding pairs_from
pairs-all place u [] asc = tt
pairs-all place u (x ∷ rest) asc =
    let p = at_place place x in
    all-join IsPair (pair_by p (partner_of p u)) (pairs_from (suc place) (unpaired_with p u) rest)
    (pair-at p u (partner_of p u) asc refl) (pairs-all (suc place) (unpaired_with p u) rest (ascending-with p u asc))

pub pairs-are : (list : List Sided) → AllByRecursion IsPair (pairs list)
pairs-are list = pairs-all 0 [] list (omega arith)

-- ---- at most one pair

pub eq-yes : (a b : ℕ) → a ≡ b → (a == b) ≡ true
eq-yes a b e = (Decides-eqb a b).1 e

eq-no : (a b : ℕ) → (a ≡ b → ⊥) → (a == b) ≡ false
eq-no a b n = eq-cases (either (a == b))
  where
    eq-cases : ((a == b) ≡ true) ⊎ ((a == b) ≡ false) → (a == b) ≡ false
    eq-cases (inl hit) = absurd (n ((Decides-eqb a b).0 hit))
    eq-cases (inr miss) = miss

-- the batch has position k
abbrev at : ℕ → Placed → Bool
at k y = y.place == k

none-above : (k lo hi : ℕ) (u : List Placed) → IsAscending lo hi u → hi ≤ k → filter (at k) u ≡ []
none-above k lo hi [] h le = refl
none-above k lo hi (y ∷ u) h le =
    let below = (ascending-below lo hi (y ∷ u) h).0 in
    filter-no (at k) y u (eq-no y.place k (λ e. absurd (omega arith))) ∙ none-above k (suc y.place) hi u h.1 le

none-below : (k lo hi : ℕ) (u : List Placed) → IsAscending lo hi u → k < lo → filter (at k) u ≡ []
none-below k lo hi [] h lt = refl
none-below k lo hi (y ∷ u) h lt =
    let p = h.0 in
    filter-no (at k) y u (eq-no y.place k (λ e. absurd (omega arith))) ∙ none-below k (suc y.place) hi u h.1 (omega arith)

-- the number of pairs that contain the batch at position k
abbrev Paired-at : ℕ → List Paired → ℕ
Paired-at k ps = length (filter (is_in k) ps)

-- If k is less than `place`, the count `times` is at most the number of batches of `u` at position k. If k is at least
-- `place`, the count is at most 1.
abbrev Bound : ℕ → ℕ → List Placed → ℕ → Type 0
Bound k place u times = (k < place → times ≤ length (filter (at k) u)) × (place ≤ k → times ≤ 1)

count-append : (k : ℕ) (ps qs : List Paired) → Paired-at k (ps ++ qs) ≡ Paired-at k ps + Paired-at k qs
count-append k ps qs = ap length (filter-append (is_in k) ps qs) ∙ length-append (filter (is_in k) ps) (filter (is_in k) qs)

one-of : (k : ℕ) (pair : Paired) → Paired-at k (pair ∷ []) ≤ 1
one-of k pair = elim (is_in k pair) as (λ v. length (cond v (pair ∷ []) []) ≤ 1) [
  | true ↦ omega arith
  | false ↦ omega arith
]

neither : (u v : Bool) → u ≡ false → v ≡ false → (u || v) ≡ false
neither true v a b = absurd (cc)
neither false v a b = b

not-in : (k : ℕ) (pair : Paired) → (pair.earlier.place ≡ k → ⊥) → (pair.later.place ≡ k → ⊥) → Paired-at k (pair ∷ []) ≡ 0
not-in k pair e l = ap (λ v. length (cond v (pair ∷ []) [])) (neither (pair.earlier.place == k) (pair.later.place == k) (eq-no pair.earlier.place k e) (eq-no pair.later.place k l))

more-at : (k : ℕ) (u : List Placed) (x : Placed) → length (filter (at k) (u ++ x ∷ [])) ≡ length (filter (at k) u) + length (filter (at k) (x ∷ []))
more-at k u x = ap length (filter-append (at k) u (x ∷ [])) ∙ length-append (filter (at k) u) (filter (at k) (x ∷ []))

alone-at : (k : ℕ) (x : Placed) → length (filter (at k) (x ∷ [])) ≤ 1
alone-at k x = elim (at k x) as (λ v. length (cond v (x ∷ []) []) ≤ 1) [
  | true ↦ omega arith
  | false ↦ omega arith
]

alone-not : (k : ℕ) (x : Placed) → (x.place ≡ k → ⊥) → length (filter (at k) (x ∷ [])) ≡ 0
alone-not k x n = ap (λ v. length (cond v (x ∷ []) [])) (eq-no x.place k n)

fewer-or-same : (k : ℕ) (t : Placed → Bool) (u : List Placed) → length (filter (at k) (without_first t u)) ≤ length (filter (at k) u)
fewer-or-same k t [] = omega arith
fewer-or-same k t (y ∷ u) =
    elim (t y) as (λ v. length (filter (at k) (cond v u (y ∷ without_first t u))) ≤ length (filter (at k) (y ∷ u))) [
      | true ↦ elim (at k y) as (λ v. length (filter (at k) u) ≤ length (cond v (y ∷ filter (at k) u) (filter (at k) u))) [
        | true ↦ omega arith
        | false ↦ omega arith
      ]
      | false ↦ let rest = fewer-or-same k t u in elim (at k y) as (λ v. length (cond v (y ∷ filter (at k) (without_first t u)) (filter (at k) (without_first t u))) ≤ length (cond v (y ∷ filter (at k) u) (filter (at k) u))) [
        | true ↦ omega arith
        | false ↦ omega arith
      ]
    ]

split-le : (a b : ℕ) → a ≤ b → (a ≡ b) ⊎ (a < b)
split-le a b h = split-at (either (a == b))
  where
    split-at : ((a == b) ≡ true) ⊎ ((a == b) ≡ false) → (a ≡ b) ⊎ (a < b)
    split-at (inl hit) = let e : a ≡ b = (Decides-eqb a b).0 hit in inl e
    split-at (inr miss) = let n : a ≡ b → ⊥ = λ e. let t = eq-yes a b e in cc in inr (differ-lt a b h n)
      where
        differ-lt : (a b : ℕ) → a ≤ b → (a ≡ b → ⊥) → a < b
        differ-lt a b h n = omega arith

none-above-length : (k : ℕ) (x : Placed) (u : List Placed) → IsAscending 0 x.place u → x.place ≤ k → length (filter (at k) u) ≡ 0
none-above-length k x u asc le = ap length (none-above k 0 x.place u asc le)

bound-none-at : (k : ℕ) (x : Placed) (u : List Placed) (times : ℕ) → IsAscending 0 x.place u → Bound k (suc x.place) (u ++ x ∷ []) times → (x.place ≡ k) ⊎ (x.place < k) → times ≤ 1
bound-none-at k x u times asc h (inl e) =
    let b = h.0 (omega arith) in let m = more-at k u x in let n = alone-at k x in let z = none-above-length k x u asc (omega arith) in omega arith
bound-none-at k x u times asc h (inr lt) = h.1 (omega arith)

bound-none : (k : ℕ) (x : Placed) (u : List Placed) (times : ℕ) → IsAscending 0 x.place u → Bound k (suc x.place) (u ++ x ∷ []) times → Bound k x.place u times
bound-none k x u times asc h = (
  λ lt. let b = h.0 (omega arith) in let m = more-at k u x in let n = alone-not k x (λ e. absurd (omega arith)) in omega arith,
  λ le. bound-none-at k x u times asc h (split-le x.place k le),
)

partner-at : (k : ℕ) (x y : Placed) (u : List Placed) (times : ℕ) → IsAscending 0 x.place u → find (may_pair x) u ≡ Some y → times ≤ length (filter (at k) (without_first (may_pair x) u)) → k < x.place
    → (at k y ≡ true) ⊎ (at k y ≡ false) → Paired-at k (record { earlier = y; later = x } ∷ []) + times ≤ length (filter (at k) u)
partner-at k x y u times asc e b lt (inl hit) =
    let one_less = fewer (may_pair x) (at k) u y hit e in let o = one-of k (record { earlier = y; later = x }) in omega arith
partner-at k x y u times asc e b lt (inr miss) =
    let zero_times = not-in k (record { earlier = y; later = x }) (λ p. let t = eq-yes y.place k p in let c = sym t ∙ miss in absurd (cc)) (λ p. absurd (omega arith)) in
    let f = fewer-or-same k (may_pair x) u in omega arith

bound-some-at : (k : ℕ) (x y : Placed) (u : List Placed) (times : ℕ) → IsAscending 0 x.place u → find (may_pair x) u ≡ Some y → Bound k (suc x.place) (without_first (may_pair x) u) times → (x.place ≡ k) ⊎ (x.place < k)
    → Paired-at k (record { earlier = y; later = x } ∷ []) + times ≤ 1
bound-some-at k x y u times asc e h (inl is) =
    let b = h.0 (omega arith) in let f = fewer-or-same k (may_pair x) u in let z = none-above-length k x u asc (omega arith) in let o = one-of k (record { earlier = y; later = x }) in omega arith
bound-some-at k x y u times asc e h (inr lt) =
    let below = find-below (may_pair x) x.place u y (ascending-below 0 x.place u asc) e in
    let zero_times = not-in k (record { earlier = y; later = x }) (λ p. absurd (omega arith)) (λ p. absurd (omega arith)) in
    let b = h.1 (omega arith) in omega arith

bound-at : (k : ℕ) (x : Placed) (u : List Placed) (f : Option Placed) (times : ℕ) → IsAscending 0 x.place u → find (may_pair x) u ≡ f → Bound k (suc x.place) (left_by x u f) times → Bound k x.place u (Paired-at k (pair_by x f) + times)
bound-at k x u None times asc e h = subst (Bound k x.place u) (omega arith) (bound-none k x u times asc h)
bound-at k x u (Some y) times asc e h = (
  λ lt. partner-at k x y u times asc e (h.0 (omega arith)) lt (either (at k y)),
  λ le. bound-some-at k x y u times asc e h (split-le x.place k le),
)

bounded : (k place : ℕ) (u : List Placed) (list : List Sided) → IsAscending 0 place u → Bound k place u (Paired-at k (pairs_from place u list))
unfolding pairs_from
bounded k place u [] asc = (λ lt. omega arith, λ le. omega arith)
bounded k place u (x ∷ rest) asc =
    let p = at_place place x in
    subst (Bound k place u) (sym (count-append k (pair_by p (partner_of p u)) (pairs_from (suc place) (unpaired_with p u) rest)))
    (bound-at k p u (partner_of p u) (Paired-at k (pairs_from (suc place) (unpaired_with p u) rest)) asc refl (bounded k (suc place) (unpaired_with p u) rest (ascending-with p u asc)))

pub paired-once : (list : List Sided) (k : ℕ) → times_paired list k ≤ 1
paired-once list k = (bounded k 0 [] list (omega arith)).1 (omega arith)
