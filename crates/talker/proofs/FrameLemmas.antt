-- The frames of a plan, in the order of sending.
use Rattle.std.proofs.Common.{◌≡◌, ℕ, zero, suc, ◌+◌, ◌<◌, ◌≤◌, Bool, true, false, List, [], ◌∷◌, ◌++◌, length, map, Some, refl, ap, ◌∙◌, arith}
use Rattle.std.specs.Prelude.{int_le, slice_get, if◌then◌else◌}
use Rattle.std.specs.List.{AllByRecursion, list_any, range_with_len}
use Rattle.talker.specs.Frames.{SentFrame, by_arrival, put_in}

-- If no frame of `f` arrives before its predecessor, sorting the frames by arrival changes nothing.
pub in_order : (f : ℕ → SentFrame) → ((k : ℕ) → int_le (f k).arrival (f (k + 1)).arrival ≡ true)
    → (a n : ℕ) → by_arrival (map f (range_with_len a n)) ≡ map f (range_with_len a n)
in_order f rises a zero = refl
in_order f rises a (suc zero) = refl
in_order f rises a (suc (suc n)) = rw (in_order f rises (a + 1) (suc n), rises a) refl

pub each : (f : ℕ → SentFrame) (P : SentFrame → Type 0) (a n : ℕ) → ((k : ℕ) → k < a + n → P (f k)) → AllByRecursion P (map f (range_with_len a n))
each f P a zero h = tt
each f P a (suc n) h = (h a (omega arith), each f P (a + 1) n (λ k below. h k (omega arith)))

pub none : (f : ℕ → SentFrame) (test : SentFrame → Bool) (a n : ℕ) → ((k : ℕ) → k < a + n → test (f k) ≡ false)
    → list_any test (map f (range_with_len a n)) ≡ false
none f test a zero h = refl
none f test a (suc n) h = rw (h a (omega arith)) (none f test (a + 1) n (λ k below. h k (omega arith)))

pub numbered : (f : ℕ → SentFrame) (a n k j : ℕ) → k < n → a + k ≡ j → slice_get (map f (range_with_len a n)) k ≡ Some (f j)
numbered f a zero k j h e = absurd (omega arith)
numbered f a (suc n) zero j h e = let at : a ≡ j = omega arith in ap (λ (m : ℕ). Some (f m)) at
numbered f a (suc n) (suc k) j h e = numbered f (a + 1) n k j (omega arith) (omega arith)

-- ---- frames of two lists

pub each_from : (f : ℕ → SentFrame) (P : SentFrame → Type 0) (a n : ℕ) → ((k : ℕ) → a ≤ k → k < a + n → P (f k)) → AllByRecursion P (map f (range_with_len a n))
each_from f P a zero h = tt
each_from f P a (suc n) h = (h a (omega arith) (omega arith), each_from f P (a + 1) n (λ k from below. h k (omega arith) (omega arith)))

pub all_of : (P : SentFrame → Type 0) (xs ys : List SentFrame) → AllByRecursion P xs → AllByRecursion P ys → AllByRecursion P (xs ++ ys)
all_of P [] ys first second = second
all_of P (x ∷ xs) ys first second = (first.0, all_of P xs ys first.1 second)

put_by : (P : SentFrame → Type 0) (f x : SentFrame) (xs : List SentFrame) (b : Bool) → P f → P x → AllByRecursion P xs → AllByRecursion P (put_in f xs)
    → AllByRecursion P (if b then f ∷ x ∷ xs else x ∷ put_in f xs)
put_by P f x xs true here first rest more = (here, (first, rest))
put_by P f x xs false here first rest more = (first, more)

put_all : (P : SentFrame → Type 0) (f : SentFrame) (xs : List SentFrame) → P f → AllByRecursion P xs → AllByRecursion P (put_in f xs)
put_all P f [] here all = (here, tt)
put_all P f (x ∷ xs) here all = put_by P f x xs (int_le f.arrival x.arrival) here all.0 all.1 (put_all P f xs here all.1)

pub sorted_all : (P : SentFrame → Type 0) (xs : List SentFrame) → AllByRecursion P xs → AllByRecursion P (by_arrival xs)
sorted_all P [] all = tt
sorted_all P (x ∷ xs) all = put_all P x (by_arrival xs) all.0 (sorted_all P xs all.1)

pub none_of : (test : SentFrame → Bool) (xs : List SentFrame) → AllByRecursion (λ f. test f ≡ false) xs → list_any test xs ≡ false
none_of test [] all = refl
none_of test (x ∷ xs) all = rw all.0 (none_of test xs all.1)

length_by : (f x : SentFrame) (xs : List SentFrame) (b : Bool) → length (put_in f xs) ≡ suc (length xs)
    → length (if b then f ∷ x ∷ xs else x ∷ put_in f xs) ≡ suc (suc (length xs))
length_by f x xs true e = refl
length_by f x xs false e = ap suc e

length_put : (f : SentFrame) (xs : List SentFrame) → length (put_in f xs) ≡ suc (length xs)
length_put f [] = refl
length_put f (x ∷ xs) = length_by f x xs (int_le f.arrival x.arrival) (length_put f xs)

pub length_sorted : (xs : List SentFrame) → length (by_arrival xs) ≡ length xs
length_sorted [] = refl
length_sorted (x ∷ xs) = length_put x (by_arrival xs) ∙ ap suc (length_sorted xs)

-- ---- which frame comes first

-- no frame of the list arrives before `f`
abbrev pub NotBefore : SentFrame → List SentFrame → Type 0
NotBefore f xs = AllByRecursion (λ g. int_le f.arrival g.arrival ≡ true) xs

-- each frame of the list arrives later than `f`
abbrev pub AllLater : SentFrame → List SentFrame → Type 0
AllLater f xs = AllByRecursion (λ g. int_le g.arrival f.arrival ≡ false) xs

in_front : (f : SentFrame) (xs : List SentFrame) → NotBefore f xs → put_in f xs ≡ f ∷ xs
in_front f [] all = refl
in_front f (x ∷ xs) all = rw all.0 refl

pub stays_first : (f : SentFrame) (xs : List SentFrame) → NotBefore f xs → by_arrival (f ∷ xs) ≡ f ∷ by_arrival xs
stays_first f xs all = in_front f (by_arrival xs) (sorted_all (λ g. int_le f.arrival g.arrival ≡ true) xs all)

pub comes_first : (f : SentFrame) (xs ys : List SentFrame) → AllLater f xs → NotBefore f ys → by_arrival (xs ++ f ∷ ys) ≡ f ∷ by_arrival (xs ++ ys)
comes_first f [] ys later rest = stays_first f ys rest
comes_first f (x ∷ xs) ys later rest = ap (λ (zs : List SentFrame). put_in x zs) (comes_first f xs ys later.1 rest) ∙ behind later.0
  where
    behind : int_le x.arrival f.arrival ≡ false → put_in x (f ∷ by_arrival (xs ++ ys)) ≡ f ∷ put_in x (by_arrival (xs ++ ys))
    behind h = rw h refl
