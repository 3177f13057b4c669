-- A search of a list, item by item, for the last item that passes a test.
use Rattle.std.proofs.Common.{◌≡◌, is_some, ℕ, zero, suc, ◌+◌, ◌-◌, ◌<◌, ◌≤◌, length, Bool, true, false, ℤ, List, [], ◌∷◌, ◌++◌, All, Option, Some, None, refl, sym, ap, ◌∙◌, subst, arith}
use Rattle.std.specs.Prelude.{IfSome, if◌then◌else◌, slice_get, take}
use Rattle.std.specs.List.{cons_option, filter_map, flat_map, range_with_len}
use Rattle.std.proofs.lemmas.Grind.{flat_map-append}
use Rattle.std.specs.Option.{option_or}
use Rattle.std.proofs.Math.Seq.{take-length}
use Rattle.std.proofs.lemmas.List.{append-nil}
use Rattle.std.proofs.lemmas.List.Elements.{All-append, All-cons, All-head, All-nil, All-tail, filter-append, filter_map-append}
use Rattle.time_unfold.specs.Stamps.{find_last}
use Rattle.time_unfold.proofs.Found.{find_last-fails, find_last-passes}
use Rattle.clock_track.specs.declared.pair.Pair.{Pair}
use Rattle.clock_track.specs.declared.clock_row.ClockRow.{ClockRow}
use Rattle.clock_track.specs.Rows.{across, inside, joined_by, pairs_at, timestamp, timestamps, used}
use Rattle.clock_track.specs.Limits.{IsNotable, IsRow}
use Rattle.clock_track.specs.state.Search.{kept}

kept_last : (test : Pair → Bool) (xs : List Pair) (p : Pair) (b : Bool) → test p ≡ b → find_last test (xs ++ p ∷ []) ≡ option_or (if b then Some p else None) (find_last test xs)
kept_last test xs p true e = find_last-passes test xs p e
kept_last test xs p false e = find_last-fails test xs p e

last_by : {X : Type 0} (f : X → Option Pair) (test : Pair → Bool) (xs : List X) (x : X) (o : Option Pair) → f x ≡ o
    → find_last test (filter_map f xs ++ filter_map f (x ∷ [])) ≡ option_or (kept test o) (find_last test (filter_map f xs))
last_by f test xs x None e = rw e (ap (λ (l : List Pair). find_last test l) (append-nil (filter_map f xs)))
last_by f test xs x (Some p) e = rw e (kept_last test (filter_map f xs) p (test p) refl)

pub last-more : {X : Type 0} (f : X → Option Pair) (test : Pair → Bool) (xs : List X) (x : X)
    → find_last test (filter_map f (xs ++ x ∷ [])) ≡ option_or (kept test (f x)) (find_last test (filter_map f xs))
last-more f test xs x = ap (λ (l : List Pair). find_last test l) (filter_map-append f xs (x ∷ [])) ∙ last_by f test xs x (f x) refl

pub last-split : (test : Pair → Bool) (xs ys : List Pair) → find_last test (xs ++ ys) ≡ option_or (find_last test ys) (find_last test xs)
last-split test [] ys = nothing (find_last test ys)
  where
    nothing : (o : Option Pair) → o ≡ option_or o None
    nothing None = refl
    nothing (Some p) = refl
last-split test (x ∷ xs) ys = ap (λ (o : Option Pair). last_of_two o (if test x then Some x else None)) (last-split test xs ys) ∙ three (find_last test ys) (find_last test xs) (if test x then Some x else None)
  where
    last_of_two : Option Pair → Option Pair → Option Pair
    last_of_two o p = option_or o p

    three : (a b c : Option Pair) → option_or (option_or a b) c ≡ option_or a (option_or b c)
    three None b c = refl
    three (Some p) b c = refl

-- ---- indexes

range-by : (a b n : ℕ) → a + n ≡ b → range_with_len a (suc n) ≡ range_with_len a n ++ b ∷ []
range-by a b zero e = let same : a ≡ b = omega arith in ap (λ (x : ℕ). x ∷ []) same
range-by a b (suc n) e = ap (λ (l : List ℕ). a ∷ l) (range-by (a + 1) b n (omega arith))

range-split : (a b n m k : ℕ) → a + n ≡ b → n + m ≡ k → range_with_len a k ≡ range_with_len a n ++ range_with_len b m
range-split a b zero m k e f = let same : a ≡ b = omega arith in let len : k ≡ m = omega arith in rw (same, len) refl
range-split a b (suc n) m k e f =
    let len : k ≡ suc (n + m) = omega arith in
    ap (λ (l : ℕ). range_with_len a l) len ∙ ap (λ (l : List ℕ). a ∷ l) (range-split (a + 1) b n m (n + m) (omega arith) refl)

-- ---- what the last item gives

or-some : (o p : Option Pair) → is_some o ≡ true → option_or o p ≡ o
or-some None p e = absurd cc
or-some (Some x) p e = refl

or-none : (o p : Option Pair) → is_some o ≡ false → option_or o p ≡ p
or-none None p e = refl
or-none (Some x) p e = absurd cc

-- ---- one step of a search

-- If the pair at index `left` - 1 passes, it is the last pair that passes. If the pair at index `left` - 1 does not
-- pass, the last pair that passes is before that index.
pub between-found : (shift : ℤ) (row : ClockRow) (test : Pair → Bool) (first left a b : ℕ) (r whole : Option Pair) → first < left
    → a ≡ timestamp row (left - 1) → b ≡ timestamp row (left - 1 + 1) → r ≡ kept test (joined_by shift row a b)
    → find_last test (filter_map (inside shift row) (range_with_len first (left - first))) ≡ whole
    → option_or r (find_last test (filter_map (inside shift row) (range_with_len first (left - 1 - first)))) ≡ whole
between-found shift row test first left a b r whole some p q e same =
    let f = inside shift row in
    let xs = range_with_len first (left - 1 - first) in
    let next : suc (left - 1 - first) ≡ left - first = omega arith in
    let split : range_with_len first (left - first) ≡ xs ++ (left - 1) ∷ [] =
    ap (λ (n : ℕ). range_with_len first n) (sym next) ∙ range-by first (left - 1) (left - 1 - first) (omega arith) in
    let here : r ≡ kept test (inside shift row (left - 1)) = rw (← p, ← q) e in
    ap (λ (o : Option Pair). option_or o (find_last test (filter_map f xs))) here ∙ sym (last-more f test xs (left - 1))
    ∙ ap (λ (l : List ℕ). find_last test (filter_map f l)) (sym split) ∙ same

-- if no pair of the last group passes, the last pair that passes is in an earlier group
pub group-found : (f : ℕ → Option Pair) (test : Pair → Bool) (first left : ℕ) (r whole : Option Pair) → first ≤ left
    → r ≡ find_last test (filter_map f (range_with_len first (left - first)))
    → find_last test (filter_map f (range_with_len 0 left)) ≡ whole
    → option_or r (find_last test (filter_map f (range_with_len 0 first))) ≡ whole
group-found f test first left r whole within e same =
    let xs = range_with_len 0 first in
    let ys = range_with_len first (left - first) in
    let split : range_with_len 0 left ≡ xs ++ ys = range-split 0 first first (left - first) left (omega arith) (omega arith) in
    ap (λ (o : Option Pair). option_or o (find_last test (filter_map f xs))) e ∙ sym (last-split test (filter_map f xs) (filter_map f ys))
    ∙ ap (λ (l : List Pair). find_last test l) (sym (filter_map-append f xs ys)) ∙ ap (λ (l : List ℕ). find_last test (filter_map f l)) (sym split) ∙ same

pub stop : (r rest whole : Option Pair) → is_some r ≡ true → option_or r rest ≡ whole → r ≡ whole
stop r rest whole e step = sym (or-some r rest e) ∙ step

pub go_on : (r rest whole : Option Pair) → is_some r ≡ false → option_or r rest ≡ whole → rest ≡ whole
go_on r rest whole e step = sym (or-none r rest e) ∙ step

-- ---- packets that give points

used-more : (xs : List ClockRow) (row : ClockRow) (b : Bool) → row.usable ≡ b → used (xs ++ row ∷ []) ≡ used xs ++ (if b then row ∷ [] else [])
used-more xs row b e = filter-append (λ row. row.usable) xs (row ∷ []) ∙ ap (λ (l : List ClockRow). used xs ++ l) (single b e)
  where
    single : (b : Bool) → row.usable ≡ b → used (row ∷ []) ≡ (if b then row ∷ [] else [])
    single true e = rw e refl
    single false e = rw e refl

take-next : (rows : List ClockRow) (k : ℕ) (row : ClockRow) → slice_get rows k ≡ Some row → take (suc k) rows ≡ take k rows ++ row ∷ []
take-next [] k row e = absurd cc
take-next (x ∷ xs) zero row e = let same : x ≡ row = cc in rw same refl
take-next (x ∷ xs) (suc k) row e = ap (λ (l : List ClockRow). x ∷ l) (take-next xs k row e)

take-more : (rows : List ClockRow) (left : ℕ) (row : ClockRow) → 0 < left → slice_get rows (left - 1) ≡ Some row → take left rows ≡ take (left - 1) rows ++ row ∷ []
take-more rows left row some e =
    let next : left ≡ suc (left - 1) = omega arith in
    ap (λ (n : ℕ). take n rows) next ∙ take-next rows (left - 1) row e

given : (b c : Bool) (o r : Option Pair) → b ≡ c → r ≡ (if b then o else None) → r ≡ (if c then o else None)
given b c o r u f = rw (← u) f

-- if no pair of packet `row` passes, the last pair that passes belongs to an earlier packet
row-found : (g : List ClockRow → List Pair) (h : ClockRow → List Pair) (test : Pair → Bool) (rows : List ClockRow) (left : ℕ) (row : ClockRow) (r whole : Option Pair)
    → ((xs : List ClockRow) (x : ClockRow) → g (xs ++ x ∷ []) ≡ g xs ++ h x)
    → 0 < left → slice_get rows (left - 1) ≡ Some row → r ≡ (if row.usable then find_last test (h row) else None)
    → find_last test (g (used (take left rows))) ≡ whole
    → option_or r (find_last test (g (used (take (left - 1) rows)))) ≡ whole
row-found g h test rows left row r whole more some e f same =
    cases row.usable refl
  where
    front : List ClockRow
    front = used (take (left - 1) rows)

    there : (b : Bool) → row.usable ≡ b → used (take left rows) ≡ front ++ (if b then row ∷ [] else [])
    there b u = ap used (take-more rows left row some e) ∙ used-more (take (left - 1) rows) row b u

    cases : (b : Bool) → row.usable ≡ b → option_or r (find_last test (g front)) ≡ whole
    cases true u =
        let place : used (take left rows) ≡ front ++ row ∷ [] = there true u in
        let found : r ≡ find_last test (h row) = given row.usable true (find_last test (h row)) r u f in
        ap (λ (o : Option Pair). option_or o (find_last test (g front))) found ∙ sym (last-split test (g front) (h row)) ∙ ap (λ (l : List Pair). find_last test l) (sym (more front row))
        ∙ ap (λ (l : List ClockRow). find_last test (g l)) (sym place) ∙ same
    cases false u =
        let place : used (take left rows) ≡ front = there false u ∙ append-nil front in
        let none : r ≡ None = given row.usable false (find_last test (h row)) r u f in
        ap (λ (o : Option Pair). option_or o (find_last test (g front))) none ∙ ap (λ (l : List ClockRow). find_last test (g l)) (sym place) ∙ same

row_at : (rows : List ClockRow) (k : ℕ) → k < length rows → (row : ClockRow) × (slice_get rows k ≡ Some row)
row_at [] k h = absurd (omega arith)
row_at (x ∷ xs) zero h = (x, refl)
row_at (x ∷ xs) (suc k) h = row_at xs k (omega arith)

kept-single : {X : Type 0} (f : X → Option Pair) (test : Pair → Bool) (x : X) → kept test (f x) ≡ find_last test (filter_map f (x ∷ []))
kept-single f test x = cases (f x) refl
  where
    cases : (o : Option Pair) → f x ≡ o → kept test (f x) ≡ find_last test (filter_map f (x ∷ []))
    cases None e = rw e refl
    cases (Some p) e = rw e refl

pub across-found : (shift : ℤ) (row : ClockRow) (test : Pair → Bool) (rows : List ClockRow) (left : ℕ) (r whole : Option Pair) → 0 < left → left ≤ length rows
    → ((before : ClockRow) → slice_get rows (left - 1) ≡ Some before → r ≡ (if before.usable then kept test (across shift row before) else None))
    → find_last test (filter_map (across shift row) (used (take left rows))) ≡ whole
    → option_or r (find_last test (filter_map (across shift row) (used (take (left - 1) rows)))) ≡ whole
across-found shift row test rows left r whole some within is same =
    let at = row_at rows (left - 1) (omega arith) in
    let here : r ≡ (if at.0.usable then find_last test (filter_map (across shift row) (at.0 ∷ [])) else None) = rw (← kept-single (across shift row) test at.0) (is at.0 at.1) in
    row-found (filter_map (across shift row)) (λ x. filter_map (across shift row) (x ∷ [])) test rows left at.0 r whole (λ xs x. filter_map-append (across shift row) xs (x ∷ [])) some at.1 here same

pub pairs-found : (pairs : ClockRow → List Pair) (test : Pair → Bool) (rows : List ClockRow) (left : ℕ) (r whole : Option Pair) → 0 < left → left ≤ length rows
    → ((row : ClockRow) → slice_get rows (left - 1) ≡ Some row → r ≡ (if row.usable then find_last test (pairs row) else None))
    → find_last test (flat_map pairs (used (take left rows))) ≡ whole
    → option_or r (find_last test (flat_map pairs (used (take (left - 1) rows)))) ≡ whole
pairs-found pairs test rows left r whole some within is same =
    let at = row_at rows (left - 1) (omega arith) in
    row-found (flat_map pairs) pairs test rows left at.0 r whole (λ xs x. flat_map-append pairs xs (x ∷ []) ∙ ap (λ (l : List Pair). flat_map pairs xs ++ l) (append-nil (pairs x))) some at.1 (is at.0 at.1) same

pub all-taken : (rows : List ClockRow) (n : ℕ) → n ≡ length rows → take n rows ≡ rows
all-taken rows n e = rw e (take-length rows)

-- ---- the pairs of one packet

given-back : (b : Bool) (o r : Option Pair) → b ≡ true → r ≡ o → r ≡ (if b then o else None)
given-back b o r u f = rw u f

one-row : (pairs : ClockRow → List Pair) (test : Pair → Bool) (row other : ClockRow) (o : Option ClockRow) (r : Option Pair) → o ≡ Some row → o ≡ Some other → row.usable ≡ true
    → r ≡ find_last test (pairs row) → r ≡ (if other.usable then find_last test (pairs other) else None)
one-row pairs test row other o r e f u is =
    let same : row ≡ other = cc in
    given-back other.usable (find_last test (pairs other)) r (ap (λ (x : ClockRow). x.usable) (sym same) ∙ u) (is ∙ ap (λ (x : ClockRow). find_last test (pairs x)) same)

-- if a pair inside the packet passes, the last pair that passes is inside the packet
pub inside-last : (shift : ℤ) (used_rows : List ClockRow) (test : Pair → Bool) (row other : ClockRow) (o : Option ClockRow) (r : Option Pair) → o ≡ Some row → row.usable ≡ true
    → r ≡ find_last test (filter_map (inside shift row) (range_with_len 0 (timestamps row - 1))) → is_some r ≡ true
    → o ≡ Some other → r ≡ (if other.usable then find_last test (pairs_at shift used_rows other) else None)
inside-last shift used_rows test row other o r e u is some f =
    let xs = filter_map (across shift row) used_rows in
    let ys = filter_map (inside shift row) (range_with_len 0 (timestamps row - 1)) in
    one-row (pairs_at shift used_rows) test row other o r e f u
    (sym (or-some r (find_last test xs) some) ∙ ap (λ (p : Option Pair). option_or p (find_last test xs)) is ∙ sym (last-split test xs ys))

-- if each pair inside the packet fails the test, the last pair that passes is found among the pairs that end at the
-- packet's first timestamp
pub across-last : (shift : ℤ) (used_rows : List ClockRow) (test : Pair → Bool) (row other : ClockRow) (o : Option ClockRow) (p r : Option Pair) → o ≡ Some row → row.usable ≡ true
    → p ≡ find_last test (filter_map (inside shift row) (range_with_len 0 (timestamps row - 1))) → is_some p ≡ false
    → r ≡ find_last test (filter_map (across shift row) used_rows)
    → o ≡ Some other → r ≡ (if other.usable then find_last test (pairs_at shift used_rows other) else None)
across-last shift used_rows test row other o p r e u none_is none is f =
    let xs = filter_map (across shift row) used_rows in
    let ys = filter_map (inside shift row) (range_with_len 0 (timestamps row - 1)) in
    one-row (pairs_at shift used_rows) test row other o r e f u
    (sym (or-none p r none) ∙ ap (λ (q : Option Pair). option_or q r) none_is ∙ ap (λ (q : Option Pair). option_or (find_last test ys) q) is ∙ sym (last-split test xs ys))

pub row-is : (rows : List ClockRow) (k : ℕ) (row : ClockRow) → All IsNotable rows → slice_get rows k ≡ Some row → row.usable ≡ true → IsRow row
row-is [] k row all e = absurd cc
row-is (x ∷ xs) zero row all e = let same : x ≡ row = cc in subst IsNotable same (All-head IsNotable x xs all)
row-is (x ∷ xs) (suc k) row all e = row-is xs k row (All-tail IsNotable x xs all) e

-- ---- what is found

-- if each pair of the list has the property `P`, the pair that is found has it, too, and passes the test
pub found-in : (P : Pair → Type 0) (test : Pair → Bool) (xs : List Pair) → All P xs → IfSome (find_last test xs) (λ p. P p × (test p ≡ true))
found-in P test [] all = tt
found-in P test (x ∷ xs) all = cases (find_last test xs) (test x) refl (found-in P test xs (All-tail P x xs all))
  where
    cases : (o : Option Pair) (b : Bool) → test x ≡ b → IfSome o (λ p. P p × (test p ≡ true)) → IfSome (option_or o (if b then Some x else None)) (λ p. P p × (test p ≡ true))
    cases None true e h = (All-head P x xs all, e)
    cases None false e h = tt
    cases (Some p) b e h = h

-- ---- facts about all items of a list that was made from another

pub all-made : {X : Type 0} (P : X → Type 0) (Q : Pair → Type 0) (f : X → Option Pair) (xs : List X) → ((x : X) → P x → IfSome (f x) Q) → All P xs → All Q (filter_map f xs)
all-made P Q f [] each all = All-nil Q
all-made P Q f (x ∷ xs) each all = cases (f x) (each x (All-head P x xs all)) (all-made P Q f xs each (All-tail P x xs all))
  where
    cases : (o : Option Pair) → IfSome o Q → All Q (filter_map f xs) → All Q (cons_option o (filter_map f xs))
    cases None h rest = rest
    cases (Some p) h rest = All-cons Q p (filter_map f xs) h rest

pub all-joined : {X : Type 0} (P : X → Type 0) (Q : Pair → Type 0) (f : X → List Pair) (xs : List X) → ((x : X) → P x → All Q (f x)) → All P xs → All Q (flat_map f xs)
all-joined P Q f [] each all = All-nil Q
all-joined P Q f (x ∷ xs) each all = All-append Q (f x) (flat_map f xs) (each x (All-head P x xs all)) (all-joined P Q f xs each (All-tail P x xs all))

pub places-within : (a n : ℕ) → All (λ i. i < a + n) (range_with_len a n)
places-within a zero = All-nil (λ i. i < a + 0)
places-within a (suc n) =
    let e : a + 1 + n ≡ a + suc n = omega arith in
    All-cons (λ i. i < a + suc n) a (range_with_len (a + 1) n) (omega arith) (subst (λ (m : ℕ). All (λ i. i < m) (range_with_len (a + 1) n)) e (places-within (a + 1) n))
