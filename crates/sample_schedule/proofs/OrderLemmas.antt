-- Accepted items, sorted by their first instants.
use Rattle.std.proofs.Common.{◌≡◌, ℕ, suc, ◌+◌, Bool, true, false, cond, ◌||◌, ℤ, ◌≤ℤ◌, List, [], ◌∷◌, ◌++◌, length, filter, refl, ap, ◌∙◌, arith, fold}
use Rattle.std.specs.Prelude.{int_lt, int_le}
use Rattle.std.specs.List.{AllByRecursion, list_any, sum_by}
use Rattle.std.proofs.lemmas.Int.{ints, by_lt_z}
use Rattle.std.proofs.lemmas.List.Sums.{fold-append}
use Rattle.std.proofs.lemmas.List.Elements.{filter-append}
use Rattle.sample_schedule.specs.declared.accepted.Accepted.{Accepted}
use Rattle.sample_schedule.specs.Order.{between, by_instant, due_of, left_of, put_behind, standing}
use Rattle.sample_schedule.specs.Verdicts.{total_bytes}
-- ---- tests
pub use Rattle.sorted_keys.proofs.Comparing.{le_false, le_true, lt_false, lt_true}

-- ---- what holds for all items of a list

pub all-weaker : (P Q : Accepted → Type 0) → ((a : Accepted) → P a → Q a) → (xs : List Accepted) → AllByRecursion P xs → AllByRecursion Q xs
all-weaker P Q w [] p = tt
all-weaker P Q w (x ∷ xs) p = (w x p.0, all-weaker P Q w xs p.1)

pub all-put_behind : (P : Accepted → Type 0) (ys : List Accepted) (a : Accepted) → AllByRecursion P ys → P a → AllByRecursion P (put_behind ys a)
all-put_behind P [] a p q = (q, tt)
all-put_behind P (b ∷ bs) a p q = elim (int_lt a.instant b.instant) as (λ v. AllByRecursion P (cond v (a ∷ b ∷ bs) (b ∷ put_behind bs a))) [
  | true ↦ (q, p)
  | false ↦ (p.0, all-put_behind P bs a p.1 q)
]

-- ---- a sorted list is split into the items whose instants have passed and the items whose instants have not passed

due_of-put_behind : (t : ℤ) (ys : List Accepted) (x : Accepted) → due_of t (put_behind ys x) ≡ cond (int_lt x.instant t) (put_behind (due_of t ys) x) (due_of t ys)
due_of-put_behind t [] x = by_lt_z x.instant t (λ h. rw (lt_true _ _ h) refl) (λ h. rw (lt_false _ _ h) refl)
due_of-put_behind t (b ∷ bs) x =
    by_lt_z x.instant b.instant
    (λ h. rw (lt_true x.instant b.instant h) (by_lt_z x.instant t
    (λ g. rw (lt_true x.instant t g) (by_lt_z b.instant t
    (λ f. rw (lt_true b.instant t f, lt_true x.instant b.instant h) refl)
    (λ f. rw (lt_false b.instant t f) refl)))
    (λ g. rw (lt_false x.instant t g, lt_false b.instant t (omega (arith, ints))) refl)))
    (λ h. rw (lt_false x.instant b.instant h) (by_lt_z x.instant t
    (λ g. rw (lt_true x.instant t g, lt_true b.instant t (omega (arith, ints)), lt_false x.instant b.instant h, due_of-put_behind t bs x, lt_true x.instant t g) refl)
    (λ g. rw (lt_false x.instant t g) (by_lt_z b.instant t
    (λ f. rw (lt_true b.instant t f, due_of-put_behind t bs x, lt_false x.instant t g) refl)
    (λ f. rw (lt_false b.instant t f) refl)))))

left_of-put_behind : (t : ℤ) (ys : List Accepted) (x : Accepted) → left_of t (put_behind ys x) ≡ cond (int_le t x.instant) (put_behind (left_of t ys) x) (left_of t ys)
left_of-put_behind t [] x = by_lt_z x.instant t (λ h. rw (lt_true _ _ h, le_false _ _ h) refl) (λ h. rw (lt_false _ _ h, le_true _ _ h) refl)
left_of-put_behind t (b ∷ bs) x =
    by_lt_z x.instant b.instant
    (λ h. rw (lt_true x.instant b.instant h) (by_lt_z x.instant t
    (λ g. rw (lt_true x.instant t g, le_false t x.instant g) refl)
    (λ g. rw (lt_false x.instant t g, le_true t x.instant g, lt_false b.instant t (omega (arith, ints)), lt_true x.instant b.instant h) refl)))
    (λ h. rw (lt_false x.instant b.instant h) (by_lt_z x.instant t
    (λ g. rw (le_false t x.instant g, lt_true b.instant t (omega (arith, ints)), left_of-put_behind t bs x, le_false t x.instant g) refl)
    (λ g. rw (le_true t x.instant g) (by_lt_z b.instant t
    (λ f. rw (lt_true b.instant t f, left_of-put_behind t bs x, le_true t x.instant g) refl)
    (λ f. rw (lt_false b.instant t f, lt_false x.instant b.instant h) refl)))))

abbrev passed : ℤ → List Accepted → List Accepted
passed t xs = filter (λ a. int_lt a.instant t) xs

due_of-fold : (t : ℤ) (ys xs : List Accepted) → due_of t (fold put_behind ys xs) ≡ fold put_behind (due_of t ys) (passed t xs)
due_of-fold t ys [] = refl
due_of-fold t ys (x ∷ xs) =
    by_lt_z x.instant t
    (λ h. rw (due_of-fold t (put_behind ys x) xs, due_of-put_behind t ys x, lt_true x.instant t h) refl)
    (λ h. rw (due_of-fold t (put_behind ys x) xs, due_of-put_behind t ys x, lt_false x.instant t h) refl)

left_of-fold : (t : ℤ) (ys xs : List Accepted) → left_of t (fold put_behind ys xs) ≡ fold put_behind (left_of t ys) (standing t xs)
left_of-fold t ys [] = refl
left_of-fold t ys (x ∷ xs) =
    by_lt_z x.instant t
    (λ h. rw (left_of-fold t (put_behind ys x) xs, left_of-put_behind t ys x, le_false t x.instant h) refl)
    (λ h. rw (left_of-fold t (put_behind ys x) xs, left_of-put_behind t ys x, le_true t x.instant h) refl)

passed-standing : (from to : ℤ) (xs : List Accepted) → passed to (standing from xs) ≡ between from to xs
passed-standing from to [] = refl
passed-standing from to (x ∷ xs) =
    by_lt_z x.instant from
    (λ h. rw (le_false from x.instant h) (passed-standing from to xs))
    (λ h. rw (le_true from x.instant h) (by_lt_z x.instant to
    (λ g. rw (lt_true x.instant to g) (ap (λ (l : List Accepted). x ∷ l) (passed-standing from to xs)))
    (λ g. rw (lt_false x.instant to g) (passed-standing from to xs))))

pub standing-standing : (from to : ℤ) (xs : List Accepted) → from ≤ℤ to → standing to (standing from xs) ≡ standing to xs
standing-standing from to [] le = refl
standing-standing from to (x ∷ xs) le =
    by_lt_z x.instant from
    (λ h. rw (le_false from x.instant h, le_false to x.instant (omega (arith, ints))) (standing-standing from to xs le))
    (λ h. rw (le_true from x.instant h) (by_lt_z x.instant to
    (λ g. rw (le_false to x.instant g) (standing-standing from to xs le))
    (λ g. rw (le_true to x.instant g) (ap (λ (l : List Accepted). x ∷ l) (standing-standing from to xs le)))))

pub due-waiting : (from to : ℤ) (xs : List Accepted) → due_of to (by_instant (standing from xs)) ≡ by_instant (between from to xs)
unfolding by_instant
due-waiting from to xs = due_of-fold to [] (standing from xs) ∙ ap (λ (l : List Accepted). fold put_behind [] l) (passed-standing from to xs)

pub left-waiting : (from to : ℤ) (xs : List Accepted) → from ≤ℤ to → left_of to (by_instant (standing from xs)) ≡ by_instant (standing to xs)
unfolding by_instant
left-waiting from to xs le = left_of-fold to [] (standing from xs) ∙ ap (λ (l : List Accepted). fold put_behind [] l) (standing-standing from to xs le)

pub waiting-more : (now : ℤ) (xs : List Accepted) (a : Accepted) → int_le now a.instant ≡ true → by_instant (standing now (xs ++ a ∷ [])) ≡ put_behind (by_instant (standing now xs)) a
unfolding by_instant
waiting-more now xs a stands =
    rw (filter-append (λ (b : Accepted). int_le now b.instant) xs (a ∷ []), stands, fold-append put_behind [] (standing now xs) (a ∷ [])) refl

-- ---- facts that do not depend on the order

pub length-put_behind : (ys : List Accepted) (x : Accepted) → length (put_behind ys x) ≡ suc (length ys)
length-put_behind [] x = refl
length-put_behind (b ∷ bs) x = elim (int_lt x.instant b.instant) as (λ v. length (cond v (x ∷ b ∷ bs) (b ∷ put_behind bs x)) ≡ suc (suc (length bs))) [
  | true ↦ refl
  | false ↦ ap suc (length-put_behind bs x)
]

length-fold : (ys xs : List Accepted) → length (fold put_behind ys xs) ≡ length ys + length xs
length-fold ys [] = omega arith
length-fold ys (x ∷ xs) = let e = length-fold (put_behind ys x) xs in let f = length-put_behind ys x in omega arith

pub length-by_instant : (xs : List Accepted) → length (by_instant xs) ≡ length xs
unfolding by_instant
length-by_instant xs = let e = length-fold [] xs in omega arith

any-put_behind : (p : Accepted → Bool) (ys : List Accepted) (x : Accepted) → list_any p (put_behind ys x) ≡ (p x || list_any p ys)
any-put_behind p [] x = refl
any-put_behind p (b ∷ bs) x = elim (int_lt x.instant b.instant) as (λ v. list_any p (cond v (x ∷ b ∷ bs) (b ∷ put_behind bs x)) ≡ (p x || list_any p (b ∷ bs))) [
  | true ↦ refl
  | false ↦ rw (any-put_behind p bs x) (swapped (p b) (p x) (list_any p bs))
]
  where
    swapped : (a b c : Bool) → (a || (b || c)) ≡ (b || (a || c))
    swapped true true c = refl
    swapped true false c = refl
    swapped false true c = refl
    swapped false false c = refl

any-fold : (p : Accepted → Bool) (ys xs : List Accepted) → list_any p (fold put_behind ys xs) ≡ (list_any p ys || list_any p xs)
any-fold p ys [] = last (list_any p ys)
  where
    last : (a : Bool) → a ≡ (a || false)
    last true = refl
    last false = refl
any-fold p ys (x ∷ xs) = rw (any-fold p (put_behind ys x) xs, any-put_behind p ys x) (turned (p x) (list_any p ys) (list_any p xs))
  where
    turned : (a b c : Bool) → ((a || b) || c) ≡ (b || (a || c))
    turned true true c = refl
    turned true false c = refl
    turned false true c = refl
    turned false false c = refl

pub any-by_instant : (p : Accepted → Bool) (xs : List Accepted) → list_any p (by_instant xs) ≡ list_any p xs
unfolding by_instant
any-by_instant p xs = any-fold p [] xs

pub any-standing : (p : Accepted → Bool) (now : ℤ) → ((a : Accepted) → p a ≡ true → int_le now a.instant ≡ true) → (xs : List Accepted) → list_any p (standing now xs) ≡ list_any p xs
any-standing p now asks [] = refl
any-standing p now asks (x ∷ xs) =
    elim (int_le now x.instant) as (λ v. int_le now x.instant ≡ v → list_any p (cond v (x ∷ standing now xs) (standing now xs)) ≡ (p x || list_any p xs)) [
      | true ↦ λ e. ap (λ (b : Bool). p x || b) (any-standing p now asks xs)
      | false ↦ λ e. elim (p x) as (λ v. p x ≡ v → list_any p (standing now xs) ≡ (v || list_any p xs)) [
        | true ↦ λ f. let g = asks x f in absurd cc
        | false ↦ λ f. any-standing p now asks xs
      ] refl
    ] refl

pub sum-put_behind : (f : Accepted → ℕ) (n : ℕ) (ys : List Accepted) (x : Accepted) → fold (λ t a. t + f a) n (put_behind ys x) ≡ fold (λ t a. t + f a) (n + f x) ys
sum-put_behind f n [] x = refl
sum-put_behind f n (b ∷ bs) x = elim (int_lt x.instant b.instant) as (λ v. fold (λ t a. t + f a) n (cond v (x ∷ b ∷ bs) (b ∷ put_behind bs x)) ≡ fold (λ t a. t + f a) (n + f x) (b ∷ bs)) [
  | true ↦ refl
  | false ↦ sum-put_behind f (n + f b) bs x ∙ ap (λ (m : ℕ). fold (λ t a. t + f a) m bs) (omega arith)
]

sum-last : (f : Accepted → ℕ) (n : ℕ) (xs : List Accepted) (x : Accepted) → fold (λ t a. t + f a) n xs + f x ≡ fold (λ t a. t + f a) (n + f x) xs
sum-last f n [] x = refl
sum-last f n (y ∷ xs) x = sum-last f (n + f y) xs x ∙ ap (λ (m : ℕ). fold (λ t a. t + f a) m xs) (omega arith)

sum-fold : (f : Accepted → ℕ) (n : ℕ) (ys xs : List Accepted) → fold (λ t a. t + f a) n (fold put_behind ys xs) ≡ fold (λ t a. t + f a) (fold (λ t a. t + f a) n xs) ys
sum-fold f n ys [] = refl
sum-fold f n ys (x ∷ xs) = sum-fold f n (put_behind ys x) xs ∙ sum-put_behind f (fold (λ t a. t + f a) n xs) ys x ∙ ap (λ (m : ℕ). fold (λ t a. t + f a) m ys) (sum-last f n xs x)

pub sum-by_instant : (f : Accepted → ℕ) (xs : List Accepted) → sum_by f (by_instant xs) ≡ sum_by f xs
unfolding by_instant
sum-by_instant f xs = sum-fold f 0 [] xs

pub bytes-by_instant : (xs : List Accepted) → total_bytes (by_instant xs) ≡ total_bytes xs
bytes-by_instant xs = sum-by_instant (λ a. length a.batch.bytes) xs
