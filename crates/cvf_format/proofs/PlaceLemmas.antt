-- The indexes of a range that pass a test: the first, the last, and all of them.
use Rattle.std.proofs.Common.{◌≡◌, ℕ, zero, suc, ◌+◌, ◌-◌, ◌<◌, ◌≤◌, Bool, true, false, cond, not, eqb, ◌⊎◌, List, [], ◌∷◌, Option, None, Some, refl, sym, ap, subst, ◌∙◌, inl, inr, arith}
use Rattle.std.proofs.lemmas.Bool.{cases_lt}
use Rattle.avtp_base.proofs.RowLemmas.{unequal}
use Rattle.std.specs.Prelude.{filter, find, unwrap_or}
use Rattle.std.specs.List.{range_with_len, last_or}

-- no index from `low` to below `high` passes the test
abbrev pub NonePasses : (ℕ → Bool) → ℕ → ℕ → Type 0
NonePasses test low high = (k : ℕ) → low ≤ k → k < high → test k ≡ false

-- If a function of a list ignores a first index that fails the test, the function ignores all first indexes that fail
-- the test.
passed : {R : Type 0} (F : List ℕ → R) (test : ℕ → Bool) → ((x : ℕ) (xs : List ℕ) → test x ≡ false → F (x ∷ xs) ≡ F xs)
    → (m n a b : ℕ) → a + m ≡ b → NonePasses test a b → F (range_with_len a (m + n)) ≡ F (range_with_len b n)
passed F test over zero n a b e none =
    let count : 0 + n ≡ n = omega arith in
    let place : a ≡ b = omega arith in
    rw (count, place) refl
passed F test over (suc m) n a b e none =
    let count : suc m + n ≡ suc (m + n) = omega arith in
    rw count (over a (range_with_len (a + 1) (m + n)) (none a (omega arith) (omega arith)) ∙ passed F test over m n (a + 1) b (omega arith) (λ k low high. none k (omega arith) high))

pub filter_skip : (test : ℕ → Bool) (m n a b : ℕ) → a + m ≡ b → NonePasses test a b → filter test (range_with_len a (m + n)) ≡ filter test (range_with_len b n)
filter_skip test = passed (filter test) test (λ x xs e. rw e refl)

pub filter_none : (test : ℕ → Bool) (n a : ℕ) → NonePasses test a (a + n) → filter test (range_with_len a n) ≡ []
filter_none test n a none =
    let count : n ≡ n + 0 = omega arith in
    rw (count) (filter_skip test n 0 a (a + n) refl none)

pub filter_there : (test : ℕ → Bool) (n a : ℕ) → test a ≡ true → filter test (range_with_len a (suc n)) ≡ a ∷ filter test (range_with_len (a + 1) n)
filter_there test n a passes = rw passes refl

pub find_skip : (test : ℕ → Bool) (m n a b : ℕ) → a + m ≡ b → NonePasses test a b → find test (range_with_len a (m + n)) ≡ find test (range_with_len b n)
find_skip test = passed (find test) test (λ x xs e. rw e refl)

pub find_none : (test : ℕ → Bool) (n a : ℕ) → NonePasses test a (a + n) → find test (range_with_len a n) ≡ None
find_none test n a none =
    let count : n ≡ n + 0 = omega arith in
    rw (count) (find_skip test n 0 a (a + n) refl none)

pub find_there : (test : ℕ → Bool) (n a : ℕ) → 0 < n → test a ≡ true → find test (range_with_len a n) ≡ Some a
find_there test zero a some passes = absurd (omega arith)
find_there test (suc n) a some passes = rw passes refl

last_kept : (test : ℕ → Bool) (n a : ℕ) (o : Option ℕ) → NonePasses test a (a + n) → last_or o (filter test (range_with_len a n)) ≡ o
last_kept test n a o none = rw (filter_none test n a none) refl

either : (b : Bool) (x : ℕ) (xs : List ℕ) (r : Option ℕ) → ((o : Option ℕ) → last_or o xs ≡ r) → (o : Option ℕ) → last_or o (cond b (x ∷ xs) xs) ≡ r
either true x xs r same o = same (Some x)
either false x xs r same o = same o

last_there : (test : ℕ → Bool) (m n a k : ℕ) → a + m ≡ k → test k ≡ true → NonePasses test (k + 1) (k + 1 + n)
    → (o : Option ℕ) → last_or o (filter test (range_with_len a (m + suc n))) ≡ Some k
last_there test zero n a k e passes none o =
    let count : 0 + suc n ≡ suc n = omega arith in
    let place : a ≡ k = omega arith in
    rw (count, place, passes) (last_kept test n (k + 1) (Some k) none)
last_there test (suc m) n a k e passes none o =
    let count : suc m + suc n ≡ suc (m + suc n) = omega arith in
    rw count (either (test a) a (filter test (range_with_len (a + 1) (m + suc n))) (Some k)
    (last_there test m n (a + 1) k (omega arith) passes none) o)

pub none_more : (test : ℕ → Bool) (low high : ℕ) → NonePasses test low high → test high ≡ false → NonePasses test low (high + 1)
none_more test low high none here k from below =
    elim (cases_lt k high) [
      | inl before ↦ none k from before
      | inr at ↦ let e : k ≡ high = omega arith in rw e here
    ]

none_before : (test : ℕ → Bool) (low high : ℕ) → NonePasses test (low + 1) high → test low ≡ false → NonePasses test low high
none_before test low high none here k from below =
    elim (cases_lt low k) [
      | inl behind ↦ none k (omega arith) below
      | inr at ↦ let e : k ≡ low = omega arith in rw e here
    ]

-- if k passes the test and no later index below `high` does, k is the last index that passes
pub last_place : (test : ℕ → Bool) (low high k : ℕ) → low ≤ k → k < high → test k ≡ true → NonePasses test (k + 1) high
    → last_or None (filter test (range_with_len low (high - low))) ≡ Some k
last_place test low high k order within passes none =
    let count : high - low ≡ (k - low) + suc (high - k - 1) = omega arith in
    let all : NonePasses test (k + 1) (k + 1 + (high - k - 1)) = λ i from below. none i from (omega arith) in
    rw count (last_there test (k - low) (high - k - 1) low k (omega arith) passes all None)

pub last_none : (test : ℕ → Bool) (low high : ℕ) → low ≤ high → NonePasses test low high → last_or None (filter test (range_with_len low (high - low))) ≡ None
last_none test low high order none = last_kept test (high - low) low None (λ i from below. none i from (omega arith))

pub other_byte : (byte : ℕ) → (byte ≡ 0 → ⊥) → not (eqb byte 0) ≡ true
other_byte byte some = ap not (unequal byte 0 some)

-- The first index from `low` to below `high` that passes the test, or `high` if no index passes.
pub record FirstPlace (test : ℕ → Bool) (low high first : ℕ) : Type 0 where
  pub from : low ≤ first
  pub within : first ≤ high
  pub before : NonePasses test low first
  pub there : (test first ≡ true) ⊎ (first ≡ high)

pub first_place : (test : ℕ → Bool) (n low high : ℕ) → low + n ≡ high → FirstPlace test low high (unwrap_or (find test (range_with_len low n)) high)
first_place test zero low high e = record {
  from = omega arith;
  within = omega arith;
  before = λ k from below. absurd (omega arith);
  there = inr refl;
}
first_place test (suc n) low high e =
    elim (test low) as (λ b. test low ≡ b → FirstPlace test low high (unwrap_or (cond b (Some low) (find test (range_with_len (low + 1) n))) high)) [
      | true ↦ λ t. record {
        from = omega arith;
        within = omega arith;
        before = λ k from below. absurd (omega arith);
        there = inl t;
      }
      | false ↦ λ f.
          let rest = first_place test n (low + 1) high (omega arith) in
          record {
            from = omega (arith, rest.from);
            within = rest.within;
            before = none_before test low (unwrap_or (find test (range_with_len (low + 1) n)) high) rest.before f;
            there = rest.there;
          }
    ] refl

-- The last index from `low` to below `high` that passes the test.
pub record LastPlace (test : ℕ → Bool) (low high last : ℕ) : Type 0 where
  pub from : low ≤ last
  pub within : last < high
  pub passes : test last ≡ true
  pub behind : NonePasses test (last + 1) high

longer : (test : ℕ → Bool) (low high last : ℕ) → LastPlace test (low + 1) high last → LastPlace test low high last
longer test low high last p = record { from = omega (arith, p.from); within = p.within; passes = p.passes; behind = p.behind }

abbrev LastOr : (ℕ → Bool) → ℕ → ℕ → Option ℕ → Option ℕ → Type 0
LastOr test low high o r = ((r ≡ o) × NonePasses test low high) ⊎ ((last : ℕ) × LastPlace test low high last × (r ≡ Some last))

last_or_known : (test : ℕ → Bool) (n low high : ℕ) → low + n ≡ high → (o : Option ℕ)
    → LastOr test low high o (last_or o (filter test (range_with_len low n)))
last_or_known test zero low high e o = inl (refl, λ k from below. absurd (omega arith))
last_or_known test (suc n) low high e o =
    elim (test low) as (λ b. test low ≡ b → LastOr test low high o (last_or o (cond b (low ∷ filter test (range_with_len (low + 1) n)) (filter test (range_with_len (low + 1) n))))) [
      | true ↦ λ t. elim (last_or_known test n (low + 1) high (omega arith) (Some low)) [
        | inl alone ↦ inr (low, record { from = omega arith; within = omega arith; passes = t; behind = alone.1 }, alone.0)
        | inr later ↦ inr (later.0, longer test low high later.0 later.1, later.2)
      ]
      | false ↦ λ f. elim (last_or_known test n (low + 1) high (omega arith) o) [
        | inl none ↦ inl (none.0, none_before test low high none.1 f)
        | inr later ↦ inr (later.0, longer test low high later.0 later.1, later.2)
      ]
    ] refl

pub last_place_known : (test : ℕ → Bool) (low high last : ℕ) → low ≤ high → last_or None (filter test (range_with_len low (high - low))) ≡ Some last
    → LastPlace test low high last
last_place_known test low high last order is =
    elim (last_or_known test (high - low) low high (omega arith) None) [
      | inl none ↦ let e : None ≡ Some last = sym none.0 ∙ is in absurd cc
      | inr found ↦ let e : Some found.0 ≡ Some last = sym found.2 ∙ is in let same : found.0 ≡ last = cc in subst (λ (k : ℕ). LastPlace test low high k) same found.1
    ]
