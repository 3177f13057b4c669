-- If a pair of timestamps in the window covers an instant, the instant has a line.
use Rattle.std.proofs.Common.{◌≡◌, ◌≢◌, ℕ, zero, suc, ◌+◌, ◌-◌, ◌^◌, ◌<◌, length, true, ℤ, List, [], ◌∷◌, ◌++◌, All, Option, Some, None, refl, subst, arith}
use Rattle.std.specs.Prelude.{Contains, IfSome, nat_lt, option_map}
use Rattle.std.specs.List.{cons_option, filter_map, flat_map, range_with_len}
use Rattle.std.proofs.Math.Seq.{take-append_seam, drop-append_seam}
use Rattle.std.proofs.lemmas.Bool.Decides.{nat_tests}
use Rattle.std.proofs.lemmas.List.Elements.{All-cons, All-contains, All-drop, All-head, All-nil, All-tail, All-take}
use Rattle.clock_track.specs.declared.clock_row.ClockRow.{ClockRow}
use Rattle.clock_track.specs.declared.pair.Pair.{Pair}
use Rattle.clock_track.specs.Adjacent.{AreAcross, AreInside, AreTaken, pair_across, pair_inside}
use Rattle.clock_track.specs.PairLines.{Covers, spot_by}
use Rattle.clock_track.specs.Rows.{IsLatest, across, clock_spot, inside, joined_by, joined_pairs, latest, pair_of, pairs_at, timestamp, timestamps, window}
use Rattle.clock_track.proofs.Latest.{last_is}
use Rattle.clock_track.proofs.Pairs.{joins_not}

-- ---- facts about all items of a list that was made from another

All-front : {X : Type 0} (P : X → Type 0) (xs ys : List X) → All P (xs ++ ys) → All P xs
All-front {X} P xs ys all = subst (λ (l : List X). All P l) (take-append_seam xs ys) (All-take P (length xs) (xs ++ ys) all)

All-back : {X : Type 0} (P : X → Type 0) (xs ys : List X) → All P (xs ++ ys) → All P ys
All-back {X} P xs ys all = subst (λ (l : List X). All P l) (drop-append_seam xs ys) (All-drop P (length xs) (xs ++ ys) all)

all-parts : {X : Type 0} (Q : Pair → Type 0) (f : X → List Pair) (xs : List X) → All Q (flat_map f xs) → All (λ x. All Q (f x)) xs
all-parts Q f [] all = All-nil (λ x. All Q (f x))
all-parts Q f (x ∷ xs) all = All-cons (λ x. All Q (f x)) x xs (All-front Q (f x) (flat_map f xs) all) (all-parts Q f xs (All-back Q (f x) (flat_map f xs) all))

all-given : {X : Type 0} (Q : Pair → Type 0) (f : X → Option Pair) (xs : List X) → All Q (filter_map f xs) → All (λ x. IfSome (f x) Q) xs
all-given Q f [] all = All-nil (λ x. IfSome (f x) Q)
all-given Q f (x ∷ xs) all = cases (f x) refl all (all-given Q f xs)
  where
    cases : (o : Option Pair) → f x ≡ o → All Q (cons_option o (filter_map f xs)) → (All Q (filter_map f xs) → All (λ x. IfSome (f x) Q) xs) → All (λ x. IfSome (f x) Q) (x ∷ xs)
    cases None e rest more = All-cons (λ x. IfSome (f x) Q) x xs (rw e tt) (more rest)
    cases (Some p) e rest more = All-cons (λ x. IfSome (f x) Q) x xs (rw e (All-head Q p (filter_map f xs) rest)) (more (All-tail Q p (filter_map f xs) rest))

all-placed : (P : ℕ → Type 0) (a n i : ℕ) → i < n → All P (range_with_len a n) → P (a + i)
all-placed P a zero i h all = absurd (omega arith)
all-placed P a (suc n) zero h all = let e : a + 0 ≡ a = omega arith in rw e (All-head P a (range_with_len (a + 1) n) all)
all-placed P a (suc n) (suc i) h all =
    let e : a + 1 + i ≡ a + suc i = omega arith in
    subst P e (all-placed P (a + 1) n i (omega arith) (All-tail P a (range_with_len (a + 1) n) all))

-- ---- pairs that are joined

below : (a b : ℕ) → a < b → nat_lt a b ≡ true
below a b h = grind (arith, nat_tests)

taken-some : (shift : ℤ) (row : ClockRow) (first second : ℕ) → AreTaken shift row first second → joined_by shift row first second ≡ Some (pair_of shift row first second)
taken-some shift row first second t = rw (below first (2 ^ 62) t.earlier, below second (2 ^ 62) t.later, joins_not (pair_of shift row first second) t.joined) refl

across-some : (shift : ℤ) (row before : ClockRow) → AreAcross shift row before → across shift row before ≡ Some (pair_across shift row before)
across-some shift row before a =
    rw (a.next, below 0 (timestamps before) a.some_before, below 0 (timestamps row) a.some) (taken-some shift row (timestamp before (timestamps before - 1)) (timestamp row 0) a.taken)

by-some : (Q : Pair → Type 0) (o : Option Pair) (p : Pair) → o ≡ Some p → IfSome o Q → Q p
by-some Q o p e h = rw e at h

-- ---- each pair of the window counts

inside-counts : (Q : Pair → Type 0) (shift : ℤ) (rows : List ClockRow) (row : ClockRow) (i : ℕ) → Contains rows row → AreInside shift row i → All Q (joined_pairs shift rows) → Q (pair_inside shift row i)
inside-counts Q shift rows row i kept a all =
    let here : All Q (pairs_at shift rows row) = All-contains (λ r. All Q (pairs_at shift rows r)) rows row (all-parts Q (pairs_at shift rows) rows all) kept in
    let places = all-given Q (inside shift row) (range_with_len 0 (timestamps row - 1)) (All-back Q (filter_map (across shift row) rows) (filter_map (inside shift row) (range_with_len 0 (timestamps row - 1))) here) in
    let within = a.within in
    let at : IfSome (inside shift row (0 + i)) Q = all-placed (λ k. IfSome (inside shift row k) Q) 0 (timestamps row - 1) i (omega arith) places in
    let same : 0 + i ≡ i = omega arith in
    by-some Q (inside shift row i) (pair_inside shift row i) (taken-some shift row (timestamp row i) (timestamp row (i + 1)) a.taken) (subst (λ (k : ℕ). IfSome (inside shift row k) Q) same at)

across-counts : (Q : Pair → Type 0) (shift : ℤ) (rows : List ClockRow) (row before : ClockRow) → Contains rows row → Contains rows before → AreAcross shift row before → All Q (joined_pairs shift rows) → Q (pair_across shift row before)
across-counts Q shift rows row before kept kept_too a all =
    let here : All Q (pairs_at shift rows row) = All-contains (λ r. All Q (pairs_at shift rows r)) rows row (all-parts Q (pairs_at shift rows) rows all) kept in
    let rows_before = all-given Q (across shift row) rows (All-front Q (filter_map (across shift row) rows) (filter_map (inside shift row) (range_with_len 0 (timestamps row - 1))) here) in
    by-some Q (across shift row before) (pair_across shift row before) (across-some shift row before a) (All-contains (λ r. IfSome (across shift row r) Q) rows before rows_before kept_too)

-- ---- a line is found

some-spot : (rate : ℕ) (instant : ℤ) (pairs : List Pair) (o : Option Pair) → IsLatest rate instant pairs o → (All (λ pair. ¬ Covers pair rate instant) pairs → ⊥) → option_map (λ pair. spot_by pair rate instant) o ≢ None
some-spot rate instant pairs None is none e = none is
some-spot rate instant pairs (Some pair) is none e = cc

pub inside-found_line : (shift instant : ℤ) (rate i : ℕ) (rows : List ClockRow) (row : ClockRow) → Contains (window rows) row → AreInside shift row i → Covers (pair_inside shift row i) rate instant → clock_spot rows shift instant rate ≢ None
inside-found_line shift instant rate i rows row kept a covers =
    some-spot rate instant (joined_pairs shift (window rows)) (latest shift instant rate (window rows)) (last_is rate instant (joined_pairs shift (window rows)))
    (λ all. inside-counts (λ pair. ¬ Covers pair rate instant) shift (window rows) row i kept a all covers)

pub across-found_line : (shift instant : ℤ) (rate : ℕ) (rows : List ClockRow) (row before : ClockRow) → Contains (window rows) row → Contains (window rows) before → AreAcross shift row before → Covers (pair_across shift row before) rate instant → clock_spot rows shift instant rate ≢ None
across-found_line shift instant rate rows row before kept kept_too a covers =
    some-spot rate instant (joined_pairs shift (window rows)) (latest shift instant rate (window rows)) (last_is rate instant (joined_pairs shift (window rows)))
    (λ all. across-counts (λ pair. ¬ Covers pair rate instant) shift (window rows) row before kept kept_too a all covers)
