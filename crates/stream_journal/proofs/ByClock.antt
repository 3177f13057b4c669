-- How far the clock can move a packet's first instant away from the time when the packet is due.
use Rattle.std.proofs.Common.{zero-mul, ◌≡◌, inl, inr, ℕ, ◌+◌, ◌-◌, ◌*◌, ◌%◌, ◌<◌, ◌≤◌, Bool, true, false, ℤ, pos, neg_ℤ, ◌+ℤ◌, ◌-ℤ◌, ◌*ℤ◌, ◌≤ℤ◌, ◌<ℤ◌, Option, Some, None, refl, sym, ap, ◌∙◌, subst, arith}
use Rattle.std.specs.Prelude.{◌==◌, nat_le, if◌then◌else◌, option_map, option_and_then}
use Rattle.std.specs.Option.{option_or}
use Rattle.std.proofs.Math.Nat.{mul-le-mul_left, zero-div}
use Rattle.std.proofs.lemmas.Bool.{cases_lt, eqb-true}
use Rattle.std.proofs.lemmas.Int.{ints}
use borrow.Author.Differences.{up, down}
use Rattle.time_unfold.specs.declared.head_rule.Distance.{Distance}
use Rattle.time_unfold.specs.declared.head_rule.Head.{Head}
use Rattle.time_unfold.specs.declared.line.Line.{Line}
use Rattle.time_unfold.specs.Heads.{distance, stamped_index}
use Rattle.time_unfold.specs.Lines.{IsAt as IsSampleAt, instant_at, nominal_line}
use Rattle.time_unfold.specs.Stamps.{same_flag}
use Rattle.time_unfold.proofs.Floors.{neg_times, times_more}
use Rattle.time_unfold.proofs.OnLine.{instant_at-at}
use Rattle.clock_track.specs.declared.pair.Pair.{Pair}
use Rattle.clock_track.specs.PairLines.{Spot, event_line, nearest_event, period, spot_by, step_den, step_num}
use Rattle.clock_track.proofs.LineFacts.{below_times, product, spaced, spaced_own}
use Rattle.stream_journal.specs.Clocks.{Place, pair_at}
use Rattle.stream_journal.specs.Conforming.{AgreesWithClock, Conforms, IsAudio, IsClock, IsCovered, IsOfKind}
use Rattle.stream_journal.specs.Delivered.{IsAudioKind}
use Rattle.stream_journal.specs.Journal.{IsAt, IsAtBy, IsAtByClock, Journal, Kind, DenseAaf, SparseAaf, Am824, H264, head_from, head_of, own_head, rule_of}
use Rattle.stream_journal.proofs.Apart.{back_of, stamped_within}
use Rattle.stream_journal.proofs.OneInstant.{head_stamped}
use Rattle.stream_journal.proofs.Spacing.{spaced as due_spaced}
use Rattle.stream_journal.proofs.TrueClock.{some_down}

-- ---- how far a packet's first sample is from its head

record IsReach (j : Journal) (first : ℤ) : Type 0 where
  from : neg_ℤ (pos (7 * j.count)) ≤ℤ first
  to : first ≤ℤ pos (7 * j.count)

own_reach : (j : Journal) → IsAudio j → (n : ℕ) (head : Head) (r : Option ℕ) → n < j.packets → j.stamp n ≡ r
    → option_map (λ (i : ℕ). record { instant = pos i; first = neg_ℤ (pos (stamped_index (rule_of j.kind n))) }) r ≡ Some head → IsReach j head.first
own_reach j is n head None known e f = absurd cc
own_reach j is n head (Some i) known e f =
    let same : record { instant = pos i; first = neg_ℤ (pos (stamped_index (rule_of j.kind n))) } ≡ head = cc in
    let within = stamped_within j is n i known e in
    rw (← same) (record { from = omega (arith, ints); to = omega (arith, ints) })

from_reach : (j : Journal) → IsAudio j → (n : ℕ) (far : Distance) (head : Head) (a b : Bool) (r : Option ℕ) → distance (rule_of j.kind n) n j.count ≡ Some far
    → (if a then if b then option_map (λ (i : ℕ). record { instant = pos i; first = pos far.samples }) r else None else None) ≡ Some head → IsReach j head.first
from_reach j is n far head true true None back e = absurd cc
from_reach j is n far head true true (Some i) back e =
    let same : record { instant = pos i; first = pos far.samples } ≡ head = cc in
    let has = back_of (rule_of j.kind n) n j.count far is.some back in
    let few : j.count * far.packets ≤ j.count * 7 = mul-le-mul_left j.count has.few in
    let to = has.to in
    rw (← same) (record { from = omega (arith, ints); to = omega (arith, ints) })
from_reach j is n far head true false r back e = absurd cc
from_reach j is n far head false b r back e = absurd cc

back_reach : (j : Journal) → IsAudio j → (n : ℕ) (head : Head) (r : Option Distance) → distance (rule_of j.kind n) n j.count ≡ r → option_and_then (head_from j n) r ≡ Some head → IsReach j head.first
back_reach j is n head None back e = absurd cc
back_reach j is n head (Some far) back e = from_reach j is n far head (nat_le far.packets n) (same_flag (j.mr (n - far.packets)) (j.mr n)) (j.stamp (n - far.packets)) back e

either_reach : (j : Journal) (head : Head) (own back : Option Head) → (own ≡ Some head → IsReach j head.first) → (back ≡ Some head → IsReach j head.first) → option_or own back ≡ Some head → IsReach j head.first
either_reach j head None back f g e = g e
either_reach j head (Some h) back f g e = f e

reach_of : (j : Journal) → IsAudio j → (n : ℕ) (head : Head) → n < j.packets → head_of j n ≡ Some head → IsReach j head.first
reach_of j is n head known e =
    either_reach j head (own_head j n) (option_and_then (head_from j n) (distance (rule_of j.kind n) n j.count))
    (λ f. own_reach j is n head (j.stamp n) known refl f)
    (λ f. back_reach j is n head (distance (rule_of j.kind n) n j.count) refl f) e

-- ---- the line by the clock

record IsOnLine (rate : ℕ) (spot : Spot) (instant : ℤ) : Type 0 where
  den : 1 ≤ spot.line.den
  spacing : 8 * (rate * spot.line.num) ≤ 9000000000 * spot.line.den
  at : instant_at spot.line spot.from ≡ instant

at_start : (instant : ℤ) (num den : ℕ) → instant_at (record { base = instant; num = num; den = den }) (pos 0) ≡ instant
at_start instant num den = rw (zero-mul num, zero-div den) (omega (arith, ints))

on_line : (j : Journal) → IsAudio j → IsClock j.clock → AgreesWithClock j → (n instant : ℕ) (p q : Place) → IsCovered j n instant p q → IsOnLine j.rate (spot_by (pair_at j.clock p q) j.rate (pos instant)) (pos instant)
on_line j is clock agrees n instant p q x = cases (pair.up == j.rate * pair.down) refl
  where
    pair : Pair
    pair = pair_at j.clock p q

    some : 1 ≤ pair.down
    some = some_down j.clock.pull

    cases : (b : Bool) → (pair.up == j.rate * pair.down) ≡ b
        → IsOnLine j.rate (if b then record { line = event_line pair; from = nearest_event pair (pos instant) } else record { line = record { base = pos instant; num = step_num pair; den = step_den pair j.rate }; from = pos 0 }) (pos instant)
    cases true e =
        let own : pair.up ≡ j.rate * pair.down = eqb-true pair.up (j.rate * pair.down) e in
        record {
          den = clock.interval;
          spacing = spaced_own pair.interval pair.down j.rate (period pair) some (rw own at x.joined.joined.most);
          at = rw e at (agrees.exact n instant p q x own);
        }
    cases false e = record {
      den = product (pair.interval * j.rate) pair.down (product pair.interval j.rate clock.interval (let r = is.rate_from in omega arith)) some;
      spacing = spaced pair.interval pair.down j.rate (step_num pair) x.joined.joined.most;
      at = at_start (pos instant) (step_num pair) (step_den pair j.rate);
    }

-- ---- two samples of one line

-- the absolute value of `z` nanoseconds is less than the time of 9 packets; a packet's time is w / rate nanoseconds
pub record IsClose (rate w : ℕ) (z : ℤ) : Type 0 where
  pub above : (z *ℤ pos (8 * rate)) <ℤ pos (72 * w)
  pub below : (neg_ℤ z *ℤ pos (8 * rate)) <ℤ pos (72 * w)

swapped : (z : ℤ) (a b : ℕ) → (z *ℤ pos a) *ℤ pos b ≡ (z *ℤ pos b) *ℤ pos a
swapped z a b =
    let x : ℤ = z *ℤ pos a in
    let y : ℤ = z *ℤ pos b in
    let e : up x + down z * a ≡ down x + up z * a = omega (arith, ints) in
    let f : up y + down z * b ≡ down y + up z * b = omega (arith, ints) in
    let g : b * (up x + down z * a) ≡ b * (down x + up z * a) = ap (λ (n : ℕ). b * n) e in
    let h : a * (up y + down z * b) ≡ a * (down y + up z * b) = ap (λ (n : ℕ). a * n) f in
    omega (arith, ints)

-- a distance of less than 7 * `count` steps plus one nanosecond is less than the time of 9 packets
close_by : (z : ℤ) (rate count num den : ℕ) → 1 ≤ den → 1 ≤ rate → rate ≤ count * 1000000000 → 8 * (rate * num) ≤ 9000000000 * den
    → (z *ℤ pos den) <ℤ pos (7 * count * num + den) → (z *ℤ pos (8 * rate)) <ℤ pos (72 * (count * 1000000000))
close_by z rate count num den some some_rate slow spacing h =
    let w : ℕ = count * 1000000000 in
    let n : ℕ = 7 * count * num + den in
    let steps : 7 * count * (8 * (rate * num)) ≤ 7 * count * (9000000000 * den) = mul-le-mul_left (7 * count) spacing in
    let rest : den * (8 * rate) ≤ den * (8 * w) = mul-le-mul_left den (omega arith) in
    let least = product w den (omega arith) some in
    let most : n * (8 * rate) < 72 * w * den = omega arith in
    let times = times_more (z *ℤ pos den) (pos n) (8 * rate) (omega (arith, ints)) in
    let product_is : pos n *ℤ pos (8 * rate) ≡ pos (n * (8 * rate)) = refl in
    let order = swapped z den (8 * rate) in
    below_times (z *ℤ pos (8 * rate)) (72 * w) den (omega (arith, ints))

sum_times : (x y : ℤ) (d : ℕ) → (x +ℤ y) *ℤ pos d ≡ x *ℤ pos d +ℤ y *ℤ pos d
sum_times x y d =
    let z : ℤ = x +ℤ y in
    let e : up z + down x + down y ≡ down z + up x + up y = omega (arith, ints) in
    let f : d * (up z + down x + down y) ≡ d * (down z + up x + up y) = ap (λ (n : ℕ). d * n) e in
    omega (arith, ints)

pub difference_times : (x y : ℤ) (d : ℕ) → (x -ℤ y) *ℤ pos d ≡ x *ℤ pos d -ℤ y *ℤ pos d
difference_times x y d =
    let z : ℤ = x -ℤ y in
    let e : up z + down x + up y ≡ down z + up x + down y = omega (arith, ints) in
    let f : d * (up z + down x + up y) ≡ d * (down z + up x + down y) = ap (λ (n : ℕ). d * n) e in
    omega (arith, ints)

-- if the numbers of two samples of a line differ by at most k, their instants differ by less than k steps plus one
-- nanosecond
apart_by : (line : Line) (from first instant at : ℤ) (k : ℕ) → 1 ≤ line.den → neg_ℤ (pos k) ≤ℤ first → first ≤ℤ pos k
    → instant_at line from ≡ instant → instant_at line (from +ℤ first) ≡ at
    → (((at -ℤ instant) *ℤ pos line.den) <ℤ pos (k * line.num + line.den)) × ((neg_ℤ (at -ℤ instant) *ℤ pos line.den) <ℤ pos (k * line.num + line.den))
apart_by line from first instant at k some low high e f =
    let a = subst (λ (z : ℤ). IsSampleAt line from z) e (instant_at-at line from (omega arith)) in
    let b = subst (λ (z : ℤ). IsSampleAt line (from +ℤ first) z) f (instant_at-at line (from +ℤ first) (omega arith)) in
    let a_from = a.not_after in
    let a_last = a.last in
    let b_from = b.not_after in
    let b_last = b.last in
    let steps = sum_times from first line.num in
    let after = sum_times (instant -ℤ line.base) (pos 1) line.den in
    let after_it = sum_times (at -ℤ line.base) (pos 1) line.den in
    let way = difference_times (at -ℤ line.base) (instant -ℤ line.base) line.den in
    let same : (at -ℤ line.base) -ℤ (instant -ℤ line.base) ≡ at -ℤ instant = omega (arith, ints) in
    let way = rw same at way in
    let back = neg_times (at -ℤ instant) line.den in
    let most = times_more first (pos k) line.num high in
    let least = times_more (neg_ℤ (pos k)) first line.num low in
    let least_is = neg_times (pos k) line.num in
    (omega (arith, ints), omega (arith, ints))

-- ---- two packets

close_on : (rate count : ℕ) (line : Line) (from first instant at : ℤ) → 1 ≤ rate → rate ≤ count * 1000000000 → neg_ℤ (pos (7 * count)) ≤ℤ first → first ≤ℤ pos (7 * count)
    → 1 ≤ line.den → 8 * (rate * line.num) ≤ 9000000000 * line.den → instant_at line from ≡ instant → instant_at line (from +ℤ first) ≡ at → IsClose rate (count * 1000000000) (at -ℤ instant)
close_on rate count line from first instant at some_rate slow low high some spacing e f =
    let parts = apart_by line from first instant at (7 * count) some low high e f in
    record {
      above = close_by (at -ℤ instant) rate count line.num line.den some some_rate slow spacing parts.0;
      below = close_by (neg_ℤ (at -ℤ instant)) rate count line.num line.den some some_rate slow spacing parts.1;
    }

-- the clock puts a packet's first sample near the instant of the packet's head
pub by_clock : (j : Journal) → IsAudio j → IsClock j.clock → AgreesWithClock j → (n : ℕ) (x : ℤ) → n < j.packets → (a : IsAtByClock j n 0 x) → IsClose j.rate (j.count * 1000000000) (x -ℤ a.head.instant)
by_clock j is clock agrees n x known a =
    let s = head_stamped j n a.head known a.is_head in
    let reach = reach_of j is n a.head known a.is_head in
    let on = on_line j is clock agrees s.number s.instant a.earlier a.later (record { known = s.known; stamped = s.stamped; joined = a.joined; covers = rw (← s.same) a.covers }) in
    let here : IsOnLine j.rate (spot_by (pair_at j.clock a.earlier a.later) j.rate a.head.instant) a.head.instant = subst (λ (z : ℤ). IsOnLine j.rate (spot_by (pair_at j.clock a.earlier a.later) j.rate z) z) (sym s.same) on in
    let spot : Spot = spot_by (pair_at j.clock a.earlier a.later) j.rate a.head.instant in
    let first : (spot.from +ℤ a.head.first) +ℤ pos 0 ≡ spot.from +ℤ a.head.first = omega (arith, ints) in
    let at : instant_at spot.line (spot.from +ℤ a.head.first) ≡ x = sym (a.at ∙ ap (λ (k : ℤ). instant_at spot.line k) first) in
    let rate_from = is.rate_from in
    let rate_to = is.rate_to in
    let some = is.some in
    close_on j.rate j.count spot.line spot.from a.head.first a.head.instant x (omega arith) (omega arith) reach.from reach.to here.den here.spacing here.at at

-- the instant at which a packet is due is near the packet's head
pub by_nominal : (j : Journal) → IsAudio j → (n : ℕ) (head : Head) → n < j.packets → head_of j n ≡ Some head → IsClose j.rate (j.count * 1000000000) (pos (j.due n) -ℤ head.instant)
by_nominal j is n head known e =
    let reach = reach_of j is n head known e in
    let first : head.first +ℤ pos 0 ≡ pos 0 +ℤ head.first = omega (arith, ints) in
    let due : instant_at (nominal_line head.instant j.rate) (pos 0 +ℤ head.first) ≡ pos (j.due n) = sym (is.first_instants n head known e ∙ ap (λ (k : ℤ). instant_at (nominal_line head.instant j.rate) k) first) in
    let rate_from = is.rate_from in
    let rate_to = is.rate_to in
    let some = is.some in
    close_on j.rate j.count (nominal_line head.instant j.rate) (pos 0) head.first head.instant (pos (j.due n)) (omega arith) (omega arith) reach.from reach.to (omega arith) (omega arith)
    (at_start head.instant 1000000000 j.rate) due

-- if two packets have the same first instant, the instants at which they are due differ by less than the time of 192
-- packets
too_near : (rate w : ℕ) (x p q : ℤ) (a b : ℕ) → IsClose rate w (x -ℤ p) → IsClose rate w (pos a -ℤ p) → IsClose rate w (x -ℤ q) → IsClose rate w (pos b -ℤ q)
    → 4 * (a * rate) + 768 * w ≤ 4 * (b * rate) → ⊥
too_near rate w x p q a b c d e f h =
    let c1 = difference_times x p (8 * rate) in
    let d1 = difference_times (pos a) p (8 * rate) in
    let e1 = difference_times x q (8 * rate) in
    let f1 = difference_times (pos b) q (8 * rate) in
    let c2 = neg_times (x -ℤ p) (8 * rate) in
    let d2 = neg_times (pos a -ℤ p) (8 * rate) in
    let e2 = neg_times (x -ℤ q) (8 * rate) in
    let f2 = neg_times (pos b -ℤ q) (8 * rate) in
    let c3 = c.above in
    let c4 = c.below in
    let d3 = d.above in
    let d4 = d.below in
    let e3 = e.above in
    let e4 = e.below in
    let f3 = f.above in
    let f4 = f.below in
    omega (arith, ints)

not_before : (j : Journal) → IsAudio j → IsClock j.clock → AgreesWithClock j → (n m : ℕ) (x : ℤ) → n + 256 ≤ m → m < j.packets → IsAtByClock j n 0 x → IsAtByClock j m 0 x → ⊥
not_before j is clock agrees n m x far known a b =
    let there : n + (m - n) ≡ m = omega arith in
    let apart = subst (λ (k : ℕ). 4 * (j.due n * j.rate) + 3 * (m - n) * (j.count * 1000000000) ≤ 4 * (j.due k * j.rate)) there (due_spaced j is n (m - n) (omega arith)) in
    let more : j.count * 1000000000 * (3 * 256) ≤ j.count * 1000000000 * (3 * (m - n)) = mul-le-mul_left (j.count * 1000000000) (omega arith) in
    too_near j.rate (j.count * 1000000000) x a.head.instant b.head.instant (j.due n) (j.due m)
    (by_clock j is clock agrees n x (omega arith) a) (by_nominal j is n a.head (omega arith) a.is_head)
    (by_clock j is clock agrees m x known b) (by_nominal j is m b.head known b.is_head) (omega arith)

one_packet : (j : Journal) → IsAudio j → IsClock j.clock → AgreesWithClock j → (n m : ℕ) (x : ℤ) → n < j.packets → m < j.packets → n % 256 ≡ m % 256 → IsAtByClock j n 0 x → IsAtByClock j m 0 x → n ≡ m
one_packet j is clock agrees n m x known there seq a b = elim (cases_lt n m) [
  | inl below ↦ absurd (not_before j is clock agrees n m x (omega arith) there a b)
  | inr above ↦ elim (cases_lt m n) [
    | inl below ↦ absurd (not_before j is clock agrees m n x (omega arith) known b a)
    | inr not ↦ omega arith
  ]
]

by_kind : (kind : Kind) (j : Journal) → IsOfKind kind j → IsAudioKind kind → IsClock j.clock → (n m : ℕ) (x : ℤ) → n < j.packets → m < j.packets → n % 256 ≡ m % 256
    → IsAtBy kind true j n 0 x → IsAtBy kind true j m 0 x → n ≡ m
by_kind DenseAaf j is audio clock n m x known there seq a b = one_packet j is.0 clock is.1 n m x known there seq a b
by_kind SparseAaf j is audio clock n m x known there seq a b = one_packet j is.0 clock is.1 n m x known there seq a b
by_kind (Am824 interval dbc) j is audio clock n m x known there seq a b = one_packet j is.0 clock is.1 n m x known there seq a b
by_kind (H264 part) j is audio clock n m x known there seq a b = absurd audio

pub told_apart : (j : Journal) (n m : ℕ) (x : ℤ) → Conforms j → IsAudioKind j.kind → n < j.packets → m < j.packets → n % 256 ≡ m % 256 → IsAt true j n 0 x → IsAt true j m 0 x → n ≡ m
told_apart j n m x is audio known there seq a b = by_kind j.kind j is.kind audio is.clock n m x known there seq a b
