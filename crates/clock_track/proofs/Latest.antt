-- Facts about the last pair that covers an instant. The facts do not depend on how a search finds the pair.
use Rattle.std.proofs.Common.{◌≡◌, ℕ, ◌+◌, ◌-◌, ◌*◌, ◌^◌, ◌<◌, ◌≤◌, Bool, true, false, ℤ, pos, ◌+ℤ◌, List, [], ◌∷◌, All, Option, Some, None, refl, ap, arith}
use Rattle.std.specs.Prelude.{IfSome, nat_lt, ◌==◌, if◌then◌else◌}
use Rattle.std.specs.List.{filter_map, range_with_len}
use Rattle.std.specs.Option.{option_or}
use Rattle.std.proofs.Math.Nat.{mul-le-mul_left}
use Rattle.std.proofs.lemmas.Bool.Decides.{nat_tests}
use Rattle.std.proofs.lemmas.Int.{ints}
use Rattle.std.proofs.lemmas.List.Elements.{All-append, All-cons, All-head, All-nil, All-tail}
use Rattle.time_unfold.specs.Stamps.{find_last}
use Rattle.clock_track.specs.declared.clock_row.ClockRow.{ClockRow}
use Rattle.clock_track.specs.declared.pair.Pair.{Pair}
use Rattle.clock_track.specs.Examples.{second_pair}
use Rattle.clock_track.specs.Limits.{IsNotable, IsPoint, IsRow, IsShift, IsSmall}
use Rattle.clock_track.specs.PairLines.{Covers, IsJoined, covers, is_joined, pull_up}
use Rattle.clock_track.specs.Rows.{IsLatest, across, inside, joined_by, joined_pairs, latest, pair_of, pairs_at, seems_next, timestamp, timestamps, used}
use Rattle.clock_track.specs.Search.{IsCovering, IsPair}
use Rattle.clock_track.proofs.Lists.{all-joined, all-made, found-in}
use Rattle.clock_track.proofs.Pairs.{covers_not, covers_so, joins}

-- ---- the last of a list

pub last_is : (rate : ℕ) (instant : ℤ) (pairs : List Pair) → IsLatest rate instant pairs (find_last (λ pair. covers pair rate instant) pairs)
last_is rate instant [] = All-nil (λ pair. ¬ Covers pair rate instant)
last_is rate instant (x ∷ xs) = cases (find_last (λ pair. covers pair rate instant) xs) (covers x rate instant) refl (last_is rate instant xs)
  where
    cases : (o : Option Pair) (b : Bool) → covers x rate instant ≡ b → IsLatest rate instant xs o → IsLatest rate instant (x ∷ xs) (option_or o (if b then Some x else None))
    cases None true e h = record { before = []; behind = xs; place = refl; covers = covers_so x rate instant e; none_behind = h }
    cases None false e h = All-cons (λ pair. ¬ Covers pair rate instant) x xs (covers_not x rate instant e) h
    cases (Some p) b e h = record {
      before = x ∷ h.before;
      behind = h.behind;
      place = ap (λ (l : List Pair). x ∷ l) h.place;
      covers = h.covers;
      none_behind = h.none_behind;
    }

-- ---- each pair of the list

-- if two timestamps give a joined pair, the pair has each property that follows from its being joined
pub by_each : (Q : Pair → Type 0) (shift : ℤ) (row : ClockRow) (first second : ℕ)
    → (nat_lt first (2 ^ 62) ≡ true → nat_lt second (2 ^ 62) ≡ true → is_joined (pair_of shift row first second) ≡ true → Q (pair_of shift row first second))
    → IfSome (joined_by shift row first second) Q
by_each Q shift row first second has = cases (nat_lt first (2 ^ 62)) (nat_lt second (2 ^ 62)) (is_joined (pair_of shift row first second)) refl refl refl
  where
    cases : (a b d : Bool) → nat_lt first (2 ^ 62) ≡ a → nat_lt second (2 ^ 62) ≡ b → is_joined (pair_of shift row first second) ≡ d
        → IfSome (if a then if b then if d then Some (pair_of shift row first second) else None else None else None) Q
    cases true true true e f g = has e f g
    cases true true false e f g = tt
    cases true false d e f g = tt
    cases false b d e f g = tt

pub by_is : (shift : ℤ) (row : ClockRow) (first second : ℕ) → IfSome (joined_by shift row first second) IsJoined
by_is shift row first second = by_each IsJoined shift row first second (λ e f g. joins (pair_of shift row first second) g)

-- a pair of two packets has a property that all pairs with the later packet's first timestamp have
pub across_each : (Q : Pair → Type 0) (shift : ℤ) (row before : ClockRow) → ((first : ℕ) → IfSome (joined_by shift row first (timestamp row 0)) Q) → IfSome (across shift row before) Q
across_each Q shift row before each = cases (seems_next row before) (nat_lt 0 (timestamps before)) (nat_lt 0 (timestamps row))
  where
    cases : (a b d : Bool) → IfSome (if a then if b then if d then joined_by shift row (timestamp before (timestamps before - 1)) (timestamp row 0) else None else None else None) Q
    cases true true true = each (timestamp before (timestamps before - 1))
    cases true true false = tt
    cases true false d = tt
    cases false b d = tt

pub across_is : (shift : ℤ) (row before : ClockRow) → IfSome (across shift row before) IsJoined
across_is shift row before = across_each IsJoined shift row before (λ first. by_is shift row first (timestamp row 0))

any : {X : Type 0} (xs : List X) → All (λ (x : X). Unit {0}) xs
any [] = All-nil (λ x. Unit {0})
any (x ∷ xs) = All-cons (λ x. Unit {0}) x xs tt (any xs)

-- if each joined pair of a packet of the list has a property, each joined pair of the list has it
all_each : (P : ClockRow → Type 0) (Q : Pair → Type 0) (shift : ℤ) (rows : List ClockRow) → ((row : ClockRow) → P row → (first second : ℕ) → IfSome (joined_by shift row first second) Q)
    → All P rows → All Q (joined_pairs shift rows)
all_each P Q shift rows each all =
    all-joined P Q (pairs_at shift rows) rows
    (λ row is. All-append Q (filter_map (across shift row) rows) (filter_map (inside shift row) (range_with_len 0 (timestamps row - 1)))
    (all-made (λ before. Unit {0}) Q (across shift row) rows (λ before v. across_each Q shift row before (λ first. each row is first (timestamp row 0))) (any rows))
    (all-made (λ i. Unit {0}) Q (inside shift row) (range_with_len 0 (timestamps row - 1)) (λ i v. each row is (timestamp row i) (timestamp row (i + 1))) (any (range_with_len 0 (timestamps row - 1)))))
    all

pub all_joined : (shift : ℤ) (rows : List ClockRow) → All IsJoined (joined_pairs shift rows)
all_joined shift rows = all_each (λ row. Unit {0}) IsJoined shift rows (λ row u first second. by_is shift row first second) (any rows)

-- ---- the pair that is found

up_in : (a b c d : Bool)
    → (1 ≤ (if a then 1000 else if b then 1001 else if c then 24 else if d then 25 else 1)) × ((if a then 1000 else if b then 1001 else if c then 24 else if d then 25 else 1) ≤ 1001)
up_in true b c d = (omega arith, omega arith)
up_in false true c d = (omega arith, omega arith)
up_in false false true d = (omega arith, omega arith)
up_in false false false true = (omega arith, omega arith)
up_in false false false false = (omega arith, omega arith)

down_in : (a b c d e : Bool)
    → (1 ≤ (if a then 1001 else if b then 1000 else if c then 25 else if d then 24 else if e then 8 else 1)) × ((if a then 1001 else if b then 1000 else if c then 25 else if d then 24 else if e then 8 else 1) ≤ 1001)
down_in true b c d e = (omega arith, omega arith)
down_in false true c d e = (omega arith, omega arith)
down_in false false true d e = (omega arith, omega arith)
down_in false false false true e = (omega arith, omega arith)
down_in false false false false true = (omega arith, omega arith)
down_in false false false false false = (omega arith, omega arith)

frequency_in : (base up : ℕ) → 1 ≤ base → base < 2 ^ 29 → 1 ≤ up → up ≤ 1001 → (1 ≤ base * up) × (base * up < 2 ^ 39)
frequency_in base up some fits some_up most =
    let low : base * 1 ≤ base * up = mul-le-mul_left base some_up in
    let high : base * up ≤ base * 1001 = mul-le-mul_left base most in
    (omega arith, omega arith)

below : (a b : ℕ) → nat_lt a b ≡ true → a < b
below a b e = grind (arith, nat_tests)

point_is : (shift : ℤ) (stamp : ℕ) → IsShift shift → stamp < 2 ^ 62 → IsPoint (pos stamp +ℤ shift)
point_is shift stamp short less =
    let from = short.from in
    let to = short.to in
    record { from = omega (arith, ints); to = omega (arith, ints) }

small_is : (shift : ℤ) (row : ClockRow) (first second : ℕ) → IsShift shift → IsRow row → first < 2 ^ 62 → second < 2 ^ 62 → IsSmall (pair_of shift row first second)
small_is shift row first second short is f g =
    let ups = up_in (row.pull == 1) (row.pull == 2) (row.pull == 3) (row.pull == 4) in
    let downs = down_in (row.pull == 1) (row.pull == 2) (row.pull == 3) (row.pull == 4) (row.pull == 5) in
    let frequency = frequency_in row.base_frequency (pull_up row.pull) is.some_frequency is.frequency ups.0 ups.1 in
    record {
      earlier = point_is shift first short f;
      later = point_is shift second short g;
      some_interval = is.some_interval;
      interval = is.interval;
      some_up = frequency.0;
      up = frequency.1;
      some_down = downs.0;
      down = downs.1;
    }

pair_is : (shift : ℤ) (row : ClockRow) → IsShift shift → IsRow row → (first second : ℕ) → IfSome (joined_by shift row first second) IsPair
pair_is shift row short is first second = by_each IsPair shift row first second
    (λ e f g. record { small = small_is shift row first second short is (below first (2 ^ 62) e) (below second (2 ^ 62) f); joined = joins (pair_of shift row first second) g })

used_are : (rows : List ClockRow) → All IsNotable rows → All IsRow (used rows)
used_are [] all = All-nil IsRow
used_are (x ∷ xs) all = cases x.usable refl (used_are xs (All-tail IsNotable x xs all))
  where
    cases : (b : Bool) → x.usable ≡ b → All IsRow (used xs) → All IsRow (if b then x ∷ used xs else used xs)
    cases true e rest = All-cons IsRow x (used xs) (All-head IsNotable x xs all e) rest
    cases false e rest = rest

-- the pair that a search of packets finds is joined and covers the instant
pub found_covers : (shift instant : ℤ) (rate : ℕ) (rows : List ClockRow) (found : Option Pair) → IsShift shift → All IsNotable rows → found ≡ latest shift instant rate (used rows)
    → IfSome found (IsCovering rate instant)
found_covers shift instant rate rows found short all e =
    let pairs = all_each IsRow IsPair shift (used rows) (λ row is. pair_is shift row short is) (used_are rows all) in
    rw e (some (latest shift instant rate (used rows)) (found-in IsPair (λ pair. covers pair rate instant) (joined_pairs shift (used rows)) pairs))
  where
    some : (o : Option Pair) → IfSome o (λ p. IsPair p × (covers p rate instant ≡ true)) → IfSome o (IsCovering rate instant)
    some None h = tt
    some (Some p) h = record { small = h.0.small; joined = h.0.joined; covers = covers_so p rate instant h.1 }

-- ---- two points that were worked out by hand

pub not_yet : (n : ℕ) → n ≤ 26 → ¬ Covers second_pair 48000 (pos (1002000000 + n * 125000))
not_yet n early c = let from = c.from in omega (arith, ints)

pub by_now : (n : ℕ) → 27 ≤ n → n ≤ 53 → Covers second_pair 48000 (pos (1002000000 + n * 125000))
by_now n from to = record { from = omega (arith, ints); to = omega (arith, ints) }
