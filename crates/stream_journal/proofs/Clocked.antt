-- A stream and its clock, which both keep the rules.
use Rattle.std.proofs.Common.{◌≡◌, inl, inr, ◌↔◌, ℕ, zero, suc, ◌+◌, ◌-◌, ◌*◌, ◌<◌, ◌≤◌, ℤ, pos, ◌+ℤ◌, ◌-ℤ◌, ◌*ℤ◌, ◌≤ℤ◌, ◌<ℤ◌, Some, refl, sym, ap, ◌∙◌, subst, arith}
use Rattle.std.proofs.lemmas.Int.{ints}
use Rattle.time_unfold.specs.declared.head_rule.Head.{Head}
use Rattle.time_unfold.specs.Lines.{floor_of, instant_at}
use Rattle.clock_track.specs.PairLines.{period, spot_by}
use Rattle.stream_journal.specs.Clocks.{ClockJournal, Follows, InOneRun, IsJoinedAt, IsNext, IsPlace, Place, pair_at, point}
use Rattle.stream_journal.specs.Journal.{head_of, nominal_instant}
use Rattle.stream_journal.specs.Conforming.{AgreesWithClock, Conforms, IsAudio, IsClock, IsCovered}
use Rattle.stream_journal.specs.Examples.{clocked}
use Rattle.time_unfold.proofs.Floors.{floor_above, floor_below, floor_only}
use Rattle.stream_journal.proofs.TrueClock.{at_place, period_at}

-- ---- the points

abbrev clock : ℕ → ClockJournal
clock base = (clocked base).clock

point_by : (base m i : ℕ) → i < 2 → point (clock base) (record { packet = m; at = i }) ≡ 1002000000 + m * 4000000 + i * 2000000
point_by base m zero h = omega arith
point_by base m (suc zero) h = omega arith
point_by base m (suc (suc i)) h = absurd (omega arith)

point_is : (base : ℕ) (p : Place) → IsPlace (clock base) p → point (clock base) p ≡ 1002000000 + p.packet * 4000000 + p.at * 2000000
point_is base p is = point_by base p.packet p.at is.at

next_by : (base : ℕ) (p q : Place) → IsNext (clock base) p q → q.packet * 4000000 + q.at * 2000000 ≡ p.packet * 4000000 + p.at * 2000000 + 2000000
next_by base p q (inl e) = let a = e.0 in let b = e.1 in omega arith
next_by base p q (inr e) = let a = e.0 in let b = e.1 in let l = e.2 in omega arith

follows_by : (base : ℕ) (p q : Place) → Follows (clock base) p q → point (clock base) q ≡ point (clock base) p + 2000000
follows_by base p q f =
    let a = point_is base p f.first in
    let b = point_is base q f.second in
    let n = next_by base p q f.next in
    omega arith

even : (base : ℕ) (p q : Place) → Follows (clock base) p q → period (pair_at (clock base) p q) ≡ 2000000
even base p q f = let e = period_at (clock base) p q in let n = follows_by base p q f in omega arith

spaced_by : (base d : ℕ) → 42000 ≤ base → d ≡ 2000000 → 3 * (96 * 1000000000 * 1) ≤ 4 * (d * (base * 1))
spaced_by base d from e = rw e (omega arith)

least_by : (base d : ℕ) → 42000 ≤ base → d ≡ 2000000 → 7 * (96 * 1000000000 * 1) ≤ 8 * (d * (base * 1))
least_by base d from e = rw e (omega arith)

most_by : (base d : ℕ) → base ≤ 54000 → d ≡ 2000000 → 8 * (d * (base * 1)) ≤ 9 * (96 * 1000000000 * 1)
most_by base d to e = rw e (omega arith)

clock_is : (base : ℕ) → 42000 ≤ base → base ≤ 54000 → IsClock (clock base)
clock_is base from to = record {
  interval = omega arith;
  some = λ n h. record { packet = h; at = omega arith };
  spaced = λ p q f. spaced_by base (period (pair_at (clock base) p q)) from (even base p q f);
  even = λ p q f o. record {
    least = least_by base (period (pair_at (clock base) p q)) from (even base p q f);
    most = most_by base (period (pair_at (clock base) p q)) to (even base p q f);
  };
}

-- two adjacent points are joined
pub joined_is : (base : ℕ) → 42000 ≤ base → base ≤ 54000 → (p q : Place) → Follows (clock base) p q → InOneRun (clock base) p q → IsJoinedAt (clock base) p q
joined_is base from to p q f o = record { follows = f; one_run = o; joined = (clock_is base from to).even p q f o }

-- ---- the timestamps

stamp_of : (n instant : ℕ) → Some (1002000000 + n * 125000) ≡ Some instant → 1002000000 + n * 125000 ≡ instant
stamp_of n instant e = cc

-- the pair whose later point is `later` covers `instant`, written as two inequalities
record IsOver (base instant later : ℕ) : Type 0 where
  from : pos 0 ≤ℤ ((pos instant -ℤ pos later) *ℤ pos 9216000 +ℤ pos (2000000 * (base * 1)))
  to : ((pos instant -ℤ pos later) *ℤ pos 9216000 +ℤ pos (2000000 * (base * 1))) <ℤ pos 18432000000000

over_by : (base instant later d : ℕ) → d ≡ 2000000 → pos 0 ≤ℤ ((pos instant -ℤ pos later) *ℤ pos 9216000 +ℤ pos (d * (base * 1)))
    → ((pos instant -ℤ pos later) *ℤ pos 9216000 +ℤ pos (d * (base * 1))) <ℤ pos (2 * (d * 4608000)) → IsOver base instant later
over_by base instant later d e from to = record { from = rw e at from; to = rw e at to }

over : (base n instant : ℕ) (p q : Place) → IsCovered (clocked base) n instant p q → IsOver base instant (point (clock base) q)
over base n instant p q c =
    over_by base instant (point (clock base) q) (period (pair_at (clock base) p q)) (even base p q c.joined.follows) c.covers.from c.covers.to

one_later : (base instant a b : ℕ) → IsOver base instant (1002000000 + a * 2000000) → IsOver base instant (1002000000 + b * 2000000) → a ≡ b
one_later base instant a b x y =
    let f = x.from in
    let g = x.to in
    let h = y.from in
    let k = y.to in
    omega (arith, ints)

-- the index of a point in the list of all points
abbrev count_of : Place → ℕ
count_of p = p.packet * 2 + p.at

counted : (base : ℕ) (p : Place) → IsPlace (clock base) p → point (clock base) p ≡ 1002000000 + count_of p * 2000000
counted base p is = let e = point_is base p is in omega arith

same_place : (p q : Place) → p.at < 2 → q.at < 2 → count_of p ≡ count_of q → p ≡ q
same_place p q f g e =
    let packets : p.packet ≡ q.packet = omega arith in
    let at : p.at ≡ q.at = omega arith in
    ap (λ (m : ℕ). at_place m p.at) packets ∙ ap (λ (i : ℕ). at_place q.packet i) at

one_pair : (base n instant : ℕ) (p q r s : Place) → IsCovered (clocked base) n instant p q → IsCovered (clocked base) n instant r s → (p ≡ r) × (q ≡ s)
one_pair base n instant p q r s x y =
    let f = x.joined.follows in
    let g = y.joined.follows in
    let first = subst (λ (t : ℕ). IsOver base instant t) (counted base q f.second) (over base n instant p q x) in
    let second = subst (λ (t : ℕ). IsOver base instant t) (counted base s g.second) (over base n instant r s y) in
    let later : count_of q ≡ count_of s = one_later base instant (count_of q) (count_of s) first second in
    let before = follows_by base p q f in
    let before_it = follows_by base r s g in
    let a = counted base p f.first in
    let b = counted base q f.second in
    let c = counted base r g.first in
    let d = counted base s g.second in
    (same_place p r f.first.at g.first.at (omega arith), same_place q s f.second.at g.second.at later)

-- ---- on the line of events

floor_is : (z q : ℤ) (d : ℕ) → 0 < d → (q *ℤ pos d) ≤ℤ z → z <ℤ ((q +ℤ pos 1) *ℤ pos d) → floor_of z d ≡ q
floor_is z q d some from to = floor_only z (floor_of z d) q d (floor_below z d some) (floor_above z d some) from to

-- a timestamp k packets after the later point is at an event, because a packet is 6 events long
on_line_by : (instant later d k : ℕ) → d ≡ 2000000 → instant ≡ later + k * 125000
    → instant_at (record { base = pos later; num = d; den = 96 }) (floor_of ((pos instant -ℤ pos later) *ℤ pos 192 +ℤ pos d) (2 * d)) ≡ pos instant
on_line_by instant later d k e f =
    let event : floor_of ((pos instant -ℤ pos later) *ℤ pos 192 +ℤ pos 2000000) 4000000 ≡ pos (k * 6) =
    floor_is ((pos instant -ℤ pos later) *ℤ pos 192 +ℤ pos 2000000) (pos (k * 6)) 4000000 (omega arith) (omega (arith, ints)) (omega (arith, ints)) in
    let steps : floor_of (pos (k * 6) *ℤ pos 2000000) 96 ≡ pos (k * 125000) =
    floor_is (pos (k * 6) *ℤ pos 2000000) (pos (k * 125000)) 96 (omega arith) (omega (arith, ints)) (omega (arith, ints)) in
    let sum : pos later +ℤ pos (k * 125000) ≡ pos instant = omega (arith, ints) in
    rw (e, event) (ap (λ (z : ℤ). pos later +ℤ z) steps ∙ sum)

count_from : (n a instant : ℕ) → 1002000000 + n * 125000 ≡ instant → IsOver 48000 instant (1002000000 + a * 2000000) → instant ≡ (1002000000 + a * 2000000) + (n - a * 16) * 125000
count_from n a instant e x = let f = x.from in omega (arith, ints)

on_line : (n instant : ℕ) (p q : Place) → IsCovered (clocked 48000) n instant p q
    → instant_at (spot_by (pair_at (clock 48000) p q) 48000 (pos instant)).line (spot_by (pair_at (clock 48000) p q) 48000 (pos instant)).from ≡ pos instant
on_line n instant p q x =
    let f = x.joined.follows in
    let at = counted 48000 q f.second in
    let is = subst (λ (t : ℕ). IsOver 48000 instant t) at (over 48000 n instant p q x) in
    let here = count_from n (count_of q) instant (stamp_of n instant x.stamped) is in
    on_line_by instant (point (clock 48000) q) (period (pair_at (clock 48000) p q)) (n - count_of q * 16) (even 48000 p q f) (here ∙ ap (λ (t : ℕ). t + (n - count_of q * 16) * 125000) (sym at))

exact : (base n instant : ℕ) (p q : Place) → IsCovered (clocked base) n instant p q → base ≡ 48000
    → instant_at (spot_by (pair_at (clock base) p q) 48000 (pos instant)).line (spot_by (pair_at (clock base) p q) 48000 (pos instant)).from ≡ pos instant
exact base n instant p q x e =
    let P : ℕ → Type 0 = λ b. IsCovered (clocked b) n instant p q
    → instant_at (spot_by (pair_at (clock b) p q) 48000 (pos instant)).line (spot_by (pair_at (clock b) p q) 48000 (pos instant)).from ≡ pos instant in
    subst P (sym e) (on_line n instant p q) x

agrees : (base : ℕ) → AgreesWithClock (clocked base)
agrees base = record {
  one = λ n instant p q r s x y. one_pair base n instant p q r s x y;
  exact = λ n instant p q x own. exact base n instant p q x (omega arith);
}

-- ---- all rules together

due_by : (base n : ℕ) (head : Head) → head_of (clocked base) n ≡ Some head → pos (1002000000 + n * 125000) ≡ nominal_instant (clocked base) head 0
due_by base n head e =
    let same : record { instant = pos (1002000000 + n * 125000); first = pos 0 } ≡ head = cc in
    rw (← same) (omega (arith, ints))

audio : (base : ℕ) → IsAudio (clocked base)
audio base = record {
  rate_from = omega arith;
  rate_to = omega arith;
  some = omega arith;
  stamps = λ n h. refl;
  blocks = tt;
  spacing = λ n h. omega arith;
  first_instants = λ n head h e. due_by base n head e;
}

conforms : (base : ℕ) → 42000 ≤ base → base ≤ 54000 → Conforms (clocked base)
conforms base from to = record {
  kind = (audio base, agrees base);
  holds = λ n k e h g. refl;
  clock = clock_is base from to;
}

-- the second point follows the first
pub first_two : (base : ℕ) → Follows (clock base) (at_place 0 0) (at_place 0 1)
first_two base = record {
  first = record { packet = omega arith; at = omega arith };
  second = record { packet = omega arith; at = omega arith };
  next = inl (refl, refl);
}

pub second_two : (base : ℕ) → Follows (clock base) (at_place 0 1) (at_place 1 0)
second_two base = record {
  first = record { packet = omega arith; at = omega arith };
  second = record { packet = omega arith; at = omega arith };
  next = inr (refl, refl, refl);
}

within : (base : ℕ) → Conforms (clocked base) → (42000 ≤ base) × (base ≤ 54000)
within base is =
    let joined = is.clock.even (at_place 0 0) (at_place 0 1) (first_two base) refl in
    let least = joined.least in
    let most = joined.most in
    (omega arith, omega arith)

pub clocked_conform : (base : ℕ) → Conforms (clocked base) ↔ (42000 ≤ base) × (base ≤ 54000)
clocked_conform base = (within base, (λ h. conforms base h.0 h.1))
