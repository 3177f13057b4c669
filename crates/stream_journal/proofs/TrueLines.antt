-- A listener finds a line from copies of a clock's packets. The line also follows from two adjacent points in the list
-- of all points.
use Rattle.std.proofs.Common.{◌≡◌, inl, inr, ℕ, suc, ◌+◌, ◌-◌, ◌%◌, ◌^◌, ◌<◌, ◌≤◌, Bool, true, false, ℤ, pos, ◌+ℤ◌, List, [], ◌∷◌, All, Option, Some, None, length, refl, sym, ap, ◌∙◌, subst, arith}
use Rattle.std.specs.Prelude.{◌==◌, nat_lt, if◌then◌else◌, option_map, IfSome}
use Rattle.std.specs.List.{filter_map, range_with_len}
use Rattle.std.proofs.lemmas.Bool.{eqb-true}
use Rattle.std.proofs.lemmas.Bool.Decides.{nat_tests}
use Rattle.std.proofs.lemmas.List.Elements.{All-append, All-cons, All-drop, All-head, All-nil, All-tail}
use Rattle.time_unfold.specs.declared.head_rule.Head.{Head}
use Rattle.time_unfold.specs.Lines.{instant_at}
use Rattle.time_unfold.specs.Stamps.{same_flag}
use Rattle.clock_track.specs.declared.clock_row.ClockRow.{ClockRow}
use Rattle.clock_track.specs.declared.pair.Pair.{Pair}
use Rattle.clock_track.specs.PairLines.{Covers, IsJoined, Spot, covers, is_joined, spot_by}
use Rattle.clock_track.specs.Rows.{across, clock_spot, inside, joined_by, joined_pairs, latest, pair_of, pairs_at, seems_next, timestamp, timestamps, used, window}
use Rattle.clock_track.proofs.Lists.{all-joined, all-made, found-in, places-within}
use Rattle.clock_track.proofs.Pairs.{covers_so, joins}
use Rattle.stream_journal.specs.Clocks.{ClockJournal, Place, SeemsJoined, pair_at, point}
use Rattle.stream_journal.specs.ClockRows.{IsRowOf, IsSpotAt, IsTruePair, IsTrueRow}
use Rattle.stream_journal.specs.Conforming.{AgreesWithClock, IsClock}
use Rattle.stream_journal.specs.Journal.{IsAtByClock, Journal, head_of}
use Rattle.stream_journal.proofs.OneInstant.{head_stamped}
use Rattle.stream_journal.proofs.TrueClock.{at_place, true_pairs}
use Rattle.stream_journal.proofs.TrueHeads.{one_flag}

-- ---- a row and its packet

pub count_is : (c : ClockJournal) (shift : ℤ) (m : ℕ) (row : ClockRow) → IsRowOf c shift m row → timestamps row ≡ length (c.points m)
count_is c shift m row is = let size = is.size in omega arith

-- if two timestamps of a row are two points of the clock, the row's pair is the clock's pair
pub same_pair : (c : ClockJournal) (shift : ℤ) (row : ClockRow) (m : ℕ) (p q : Place) (first second : ℕ) → IsRowOf c shift m row
    → pos (point c p) ≡ pos first +ℤ shift → pos (point c q) ≡ pos second +ℤ shift → pair_of shift row first second ≡ pair_at c p q
same_pair c shift row m p q first second is e f = rw (e, f, is.interval, is.base, is.pull) refl

record IsJoinedBy (shift : ℤ) (row : ClockRow) (first second : ℕ) (pair : Pair) : Type 0 where
  same : pair ≡ pair_of shift row first second
  joined : IsJoined pair

joined_so : (shift : ℤ) (row : ClockRow) (first second : ℕ) → IfSome (joined_by shift row first second) (IsJoinedBy shift row first second)
joined_so shift row first second = cases (nat_lt first (2 ^ 62)) (nat_lt second (2 ^ 62)) (is_joined (pair_of shift row first second)) refl
  where
    cases : (a b d : Bool) → is_joined (pair_of shift row first second) ≡ d
        → IfSome (if a then if b then if d then Some (pair_of shift row first second) else None else None else None) (IsJoinedBy shift row first second)
    cases true true true e = record { same = refl; joined = joins (pair_of shift row first second) e }
    cases true true false e = tt
    cases true false d e = tt
    cases false b d e = tt

true_of : (c : ClockJournal) → IsClock c → (shift : ℤ) (row : ClockRow) (m : ℕ) (p q : Place) (first second : ℕ) → IsRowOf c shift m row
    → pos (point c p) ≡ pos first +ℤ shift → pos (point c q) ≡ pos second +ℤ shift
    → (IsJoined (pair_at c p q) → SeemsJoined c p q)
    → IfSome (joined_by shift row first second) (IsTruePair c)
true_of c is shift row m p q first second of e f seems = cases (joined_by shift row first second) (joined_so shift row first second)
  where
    cases : (o : Option Pair) → IfSome o (IsJoinedBy shift row first second) → IfSome o (IsTruePair c)
    cases None h = tt
    cases (Some pair) h =
        let same : pair ≡ pair_at c p q = h.same ∙ same_pair c shift row m p q first second of e f in
        record { earlier = p; later = q; joined = true_pairs c is p q (seems (subst IsJoined same h.joined)); same = same }

-- ---- inside a packet

inside_true : (c : ClockJournal) → IsClock c → (shift : ℤ) (row : ClockRow) (m : ℕ) → IsRowOf c shift m row → (i : ℕ) → i < 0 + (timestamps row - 1) → IfSome (inside shift row i) (IsTruePair c)
inside_true c is shift row m of i within =
    let count = count_is c shift m row of in
    let next : i + 1 ≡ suc i = omega arith in
    true_of c is shift row m (at_place m i) (at_place m (i + 1)) (timestamp row i) (timestamp row (i + 1)) of
    (of.points i (omega arith)) (of.points (i + 1) (omega arith))
    (λ joined. record {
      first = record { packet = of.known; at = omega arith };
      second = record { packet = of.known; at = omega arith };
      next = inl (refl, next);
      one_run = refl;
      joined = joined;
    })

-- ---- from one packet to the next

record IsNextRow (row before : ClockRow) : Type 0 where
  seq : row.seq ≡ (before.seq + 1) % 256
  mr : row.mr ≡ before.mr

next_so : (row before : ClockRow) → seems_next row before ≡ true → IsNextRow row before
next_so row before e = cases (row.seq == (before.seq + 1) % 256) (same_flag row.mr before.mr) _ refl refl e
  where
    cases : (a b d : Bool) → (row.seq == (before.seq + 1) % 256) ≡ a → same_flag row.mr before.mr ≡ b → (if a then if b then d else false else false) ≡ true → IsNextRow row before
    cases true true d f g h = record { seq = eqb-true row.seq ((before.seq + 1) % 256) f; mr = one_flag row.mr before.mr g }
    cases true false d f g h = absurd cc
    cases false b d f g h = absurd cc

next_number : (m n s t : ℕ) → s ≡ m % 256 → t ≡ n % 256 → t ≡ (s + 1) % 256 → n % 256 ≡ suc m % 256
next_number m n s t e f g = omega arith

some_of : (n : ℕ) → nat_lt 0 n ≡ true → 1 ≤ n
some_of n e = grind (arith, nat_tests)

across_true : (c : ClockJournal) → IsClock c → (shift : ℤ) (row before : ClockRow) (n m : ℕ) → IsRowOf c shift n row → IsRowOf c shift m before → IfSome (across shift row before) (IsTruePair c)
across_true c is shift row before n m of from =
    cases (seems_next row before) (nat_lt 0 (timestamps before)) (nat_lt 0 (timestamps row)) refl refl refl
  where
    last : ℕ
    last = timestamps before - 1

    cases : (a b d : Bool) → seems_next row before ≡ a → nat_lt 0 (timestamps before) ≡ b → nat_lt 0 (timestamps row) ≡ d
        → IfSome (if a then if b then if d then joined_by shift row (timestamp before (timestamps before - 1)) (timestamp row 0) else None else None else None) (IsTruePair c)
    cases true true true e f g =
        let next = next_so row before e in
        let some = some_of (timestamps before) f in
        let some_row = some_of (timestamps row) g in
        let count = count_is c shift m before from in
        let count_row = count_is c shift n row of in
        true_of c is shift row n (at_place m (timestamps before - 1)) (at_place n 0) (timestamp before (timestamps before - 1)) (timestamp row 0) of
        (from.points (timestamps before - 1) (omega arith)) (of.points 0 (omega arith))
        (λ joined. record {
          first = record { packet = from.known; at = omega arith };
          second = record { packet = of.known; at = omega arith };
          next = inr (next_number m n before.seq row.seq from.seq of.seq next.seq, refl, omega arith);
          one_run = sym from.mr ∙ sym next.mr ∙ of.mr;
          joined = joined;
        })
    cases true true false e f g = tt
    cases true false d e f g = tt
    cases false b d e f g = tt

-- ---- all pairs

record IsUsed (c : ClockJournal) (shift : ℤ) (row : ClockRow) : Type 0 where
  packet : ℕ
  is : IsRowOf c shift packet row

used_true : (c : ClockJournal) (shift : ℤ) (rows : List ClockRow) → All (IsTrueRow c shift) rows → All (IsUsed c shift) (used rows)
used_true c shift [] all = All-nil (IsUsed c shift)
used_true c shift (x ∷ xs) all = cases x.usable refl (used_true c shift xs (All-tail (IsTrueRow c shift) x xs all))
  where
    cases : (b : Bool) → x.usable ≡ b → All (IsUsed c shift) (used xs) → All (IsUsed c shift) (if b then x ∷ used xs else used xs)
    cases true e rest = let of = All-head (IsTrueRow c shift) x xs all e in All-cons (IsUsed c shift) x (used xs) (record { packet = of.0; is = of.1 }) rest
    cases false e rest = rest

all_used : (c : ClockJournal) (shift : ℤ) (rows : List ClockRow) → All (IsTrueRow c shift) rows → All (IsUsed c shift) (window rows)
all_used c shift rows all = All-drop (IsUsed c shift) (length (used rows) - 64) (used rows) (used_true c shift rows all)

pairs_true : (c : ClockJournal) → IsClock c → (shift : ℤ) (rows : List ClockRow) → All (IsUsed c shift) rows → All (IsTruePair c) (joined_pairs shift rows)
pairs_true c is shift rows all =
    all-joined (IsUsed c shift) (IsTruePair c) (pairs_at shift rows) rows
    (λ row of. All-append (IsTruePair c) (filter_map (across shift row) rows) (filter_map (inside shift row) (range_with_len 0 (timestamps row - 1)))
    (all-made (IsUsed c shift) (IsTruePair c) (across shift row) rows (λ before from. across_true c is shift row before of.packet from.packet of.is from.is) all)
    (all-made (λ i. i < 0 + (timestamps row - 1)) (IsTruePair c) (inside shift row) (range_with_len 0 (timestamps row - 1)) (λ i h. inside_true c is shift row of.packet of.is i h) (places-within 0 (timestamps row - 1))))
    all

pub true_lines : (c : ClockJournal) (shift : ℤ) (rows : List ClockRow) → IsClock c → All (IsTrueRow c shift) rows → All (IsTruePair c) (joined_pairs shift (window rows))
true_lines c shift rows is all = pairs_true c is shift (window rows) (all_used c shift rows all)

-- ---- the line that is found

pub true_spot : (j : Journal) (shift instant : ℤ) (rows : List ClockRow) → IsClock j.clock → All (IsTrueRow j.clock shift) rows → IfSome (clock_spot rows shift instant j.rate) (IsSpotAt j instant)
true_spot j shift instant rows is all =
    cases (latest shift instant j.rate (window rows))
    (found-in (IsTruePair j.clock) (λ pair. covers pair j.rate instant) (joined_pairs shift (window rows)) (true_lines j.clock shift rows is all))
  where
    cases : (o : Option Pair) → IfSome o (λ pair. IsTruePair j.clock pair × (covers pair j.rate instant ≡ true)) → IfSome (option_map (λ pair. spot_by pair j.rate instant) o) (IsSpotAt j instant)
    cases None h = tt
    cases (Some pair) h = record {
      earlier = h.0.earlier;
      later = h.0.later;
      joined = h.0.joined;
      covers = subst (λ (p : Pair). Covers p j.rate instant) h.0.same (covers_so pair j.rate instant h.1);
      same = ap (λ (p : Pair). spot_by p j.rate instant) h.0.same;
    }

same_spot : (j : Journal) (instant : ℤ) (p q r s : Place) → p ≡ r → q ≡ s → spot_by (pair_at j.clock p q) j.rate instant ≡ spot_by (pair_at j.clock r s) j.rate instant
same_spot j instant p q r s e f = rw (e, f) refl

pub one_spot : (j : Journal) (n : ℕ) (head : Head) (x y : Spot) → AgreesWithClock j → n < j.packets → head_of j n ≡ Some head → IsSpotAt j head.instant x → IsSpotAt j head.instant y → x ≡ y
one_spot j n head x y agrees known e a b =
    let s = head_stamped j n head known e in
    let one = agrees.one s.number s.instant a.earlier a.later b.earlier b.later
    (record { known = s.known; stamped = s.stamped; joined = a.joined; covers = rw (← s.same) a.covers })
    (record { known = s.known; stamped = s.stamped; joined = b.joined; covers = rw (← s.same) b.covers }) in
    a.same ∙ same_spot j head.instant a.earlier a.later b.earlier b.later one.0 one.1 ∙ sym b.same

pub spot_sample : (j : Journal) (n k : ℕ) (head : Head) (spot : Spot) → head_of j n ≡ Some head → IsSpotAt j head.instant spot → IsAtByClock j n k (instant_at spot.line ((spot.from +ℤ head.first) +ℤ pos k))
spot_sample j n k head spot e a = record {
  head = head;
  is_head = e;
  earlier = a.earlier;
  later = a.later;
  joined = a.joined;
  covers = a.covers;
  at = ap (λ (s : Spot). instant_at s.line ((s.from +ℤ head.first) +ℤ pos k)) a.same;
}
