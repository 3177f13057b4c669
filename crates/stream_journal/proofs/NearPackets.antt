-- If two packets have the same sequence number, and their first instants are near each other, they are the same packet.
use Rattle.std.proofs.Common.{◌≡◌, inl, inr, ℕ, ◌+◌, ◌-◌, ◌*◌, ◌%◌, ◌<◌, ◌≤◌, Bool, true, false, ℤ, pos, negsuc, neg_ℤ, ◌-ℤ◌, ◌*ℤ◌, ◌≤ℤ◌, ◌<ℤ◌, refl, sym, ap, ◌∙◌, subst, arith}
use Rattle.std.specs.Prelude.{unsigned_abs}
use Rattle.std.proofs.Math.Nat.{mul-le-mul_left}
use Rattle.std.proofs.lemmas.Bool.{cases_lt}
use Rattle.std.proofs.lemmas.Int.{ints}
use Rattle.time_unfold.proofs.Floors.{neg_times, times_more}
use Rattle.stream_journal.specs.Conforming.{AgreesWithClock, Conforms, IsAudio, IsClock, IsOfKind}
use Rattle.stream_journal.specs.Delivered.{IsAudioKind}
use Rattle.stream_journal.specs.Journal.{IsAt, IsAtBy, IsAtByClock, IsAtNominal, Journal, Kind, DenseAaf, SparseAaf, Am824, H264}
use Rattle.stream_journal.specs.Near.{IsNear}
use Rattle.stream_journal.proofs.ByClock.{IsClose, by_clock, by_nominal, difference_times}
use Rattle.stream_journal.proofs.Spacing.{spaced as due_spaced}

-- the first instant `x` differs from the instant `due` by less than the time of 18 packets
record IsNearDue (rate w : ℕ) (x due : ℤ) : Type 0 where
  above : ((x -ℤ due) *ℤ pos (8 * rate)) <ℤ pos (144 * w)
  below : ((due -ℤ x) *ℤ pos (8 * rate)) <ℤ pos (144 * w)

near_due : (rate w : ℕ) (x due p : ℤ) → IsClose rate w (x -ℤ p) → IsClose rate w (due -ℤ p) → IsNearDue rate w x due
near_due rate w x due p c d =
    let c1 = difference_times x p (8 * rate) in
    let d1 = difference_times due p (8 * rate) in
    let e1 = difference_times x due (8 * rate) in
    let f1 = difference_times due x (8 * rate) in
    let c2 = neg_times (x -ℤ p) (8 * rate) in
    let d2 = neg_times (due -ℤ p) (8 * rate) in
    let c3 = c.above in
    let c4 = c.below in
    let d3 = d.above in
    let d4 = d.below in
    record { above = omega (arith, ints); below = omega (arith, ints) }

not_further : (x y : ℤ) → (y -ℤ x) ≤ℤ pos (unsigned_abs (x -ℤ y))
not_further x y = of_difference (x -ℤ y) (y -ℤ x) (omega (arith, ints))
  where
    of_difference : (z w : ℤ) → w ≡ neg_ℤ z → w ≤ℤ pos (unsigned_abs z)
    of_difference (pos k) w e = omega (arith, ints)
    of_difference (negsuc k) w e = omega (arith, ints)

-- if two packets are due at least the time of 192 packets apart, their first instants differ by more than the time of
-- 72 packets
too_near : (rate w : ℕ) (x y : ℤ) (a b : ℕ) → IsNearDue rate w x (pos a) → IsNearDue rate w y (pos b) → unsigned_abs (x -ℤ y) * rate ≤ 72 * w → 4 * (a * rate) + 768 * w ≤ 4 * (b * rate) → ⊥
too_near rate w x y a b c d near h =
    let k : ℕ = unsigned_abs (x -ℤ y) in
    let far : k * (8 * rate) ≤ 576 * w = omega arith in
    let z = times_more (y -ℤ x) (pos k) (8 * rate) (not_further x y) in
    let product_is : pos k *ℤ pos (8 * rate) ≡ pos (k * (8 * rate)) = refl in
    let z1 = difference_times y x (8 * rate) in
    let c1 = difference_times x (pos a) (8 * rate) in
    let c2 = difference_times (pos a) x (8 * rate) in
    let d1 = difference_times y (pos b) (8 * rate) in
    let d2 = difference_times (pos b) y (8 * rate) in
    let c3 = c.above in
    let d4 = d.below in
    let a_is : pos a *ℤ pos (8 * rate) ≡ pos (a * (8 * rate)) = refl in
    let b_is : pos b *ℤ pos (8 * rate) ≡ pos (b * (8 * rate)) = refl in
    let some_a : a * (8 * rate) ≡ 2 * (4 * (a * rate)) = omega arith in
    let some_b : b * (8 * rate) ≡ 2 * (4 * (b * rate)) = omega arith in
    omega (arith, ints)

not_before : (j : Journal) → IsAudio j → (n m : ℕ) (x y : ℤ) → n + 256 ≤ m → m < j.packets → IsNearDue j.rate (j.count * 1000000000) x (pos (j.due n)) → IsNearDue j.rate (j.count * 1000000000) y (pos (j.due m)) → IsNear j 72 x y → ⊥
not_before j is n m x y far known a b near =
    let there : n + (m - n) ≡ m = omega arith in
    let apart = subst (λ (k : ℕ). 4 * (j.due n * j.rate) + 3 * (m - n) * (j.count * 1000000000) ≤ 4 * (j.due k * j.rate)) there (due_spaced j is n (m - n) (omega arith)) in
    let more : j.count * 1000000000 * (3 * 256) ≤ j.count * 1000000000 * (3 * (m - n)) = mul-le-mul_left (j.count * 1000000000) (omega arith) in
    too_near j.rate (j.count * 1000000000) x y (j.due n) (j.due m) a b near (omega arith)

swapped : (x y : ℤ) → unsigned_abs (x -ℤ y) ≡ unsigned_abs (y -ℤ x)
swapped x y = of_negative (x -ℤ y) (y -ℤ x) (omega (arith, ints))
  where
    of_negative : (z w : ℤ) → w ≡ neg_ℤ z → unsigned_abs z ≡ unsigned_abs w
    of_negative (pos k) w e = omega (arith, ints)
    of_negative (negsuc k) w e = omega (arith, ints)

one_packet : (j : Journal) → IsAudio j → (n m : ℕ) (x y : ℤ) → n < j.packets → m < j.packets → n % 256 ≡ m % 256 → IsNearDue j.rate (j.count * 1000000000) x (pos (j.due n)) → IsNearDue j.rate (j.count * 1000000000) y (pos (j.due m)) → IsNear j 72 x y → n ≡ m
one_packet j is n m x y known there seq a b near = elim (cases_lt n m) [
  | inl below ↦ absurd (not_before j is n m x y (omega arith) there a b near)
  | inr above ↦ elim (cases_lt m n) [
    | inl below ↦ absurd (not_before j is m n y x (omega arith) known b a (subst (λ (k : ℕ). k * j.rate ≤ 72 * (j.count * 1000000000)) (swapped x y) near))
    | inr not ↦ omega arith
  ]
]

clock_near : (j : Journal) → IsAudio j → IsClock j.clock → AgreesWithClock j → (n : ℕ) (x : ℤ) → n < j.packets → IsAtByClock j n 0 x → IsNearDue j.rate (j.count * 1000000000) x (pos (j.due n))
clock_near j is clock agrees n x known a = near_due j.rate (j.count * 1000000000) x (pos (j.due n)) a.head.instant (by_clock j is clock agrees n x known a) (by_nominal j is n a.head known a.is_head)

exactly : (rate w : ℕ) (x due : ℤ) → 1 ≤ w → x ≡ due → IsNearDue rate w x due
exactly rate w x due some e =
    let f1 = difference_times x due (8 * rate) in
    let g1 = difference_times due x (8 * rate) in
    let same : x *ℤ pos (8 * rate) ≡ due *ℤ pos (8 * rate) = ap (λ (z : ℤ). z *ℤ pos (8 * rate)) e in
    record { above = omega (arith, ints); below = omega (arith, ints) }

nominal_near : (j : Journal) → IsAudio j → (n : ℕ) (x : ℤ) → n < j.packets → IsAtNominal j n 0 x → IsNearDue j.rate (j.count * 1000000000) x (pos (j.due n))
nominal_near j is n x known a = exactly j.rate (j.count * 1000000000) x (pos (j.due n)) (let some = is.some in omega arith) (a.at ∙ sym (is.first_instants n a.head known a.is_head))

-- the first sample of an audio packet is at this instant
abbrev AtAudio : Bool → Journal → ℕ → ℤ → Type 0
AtAudio true j n x = IsAtByClock j n 0 x
AtAudio false j n x = IsAtNominal j n 0 x

-- audio packets with equal sequence numbers and near first instants are the same packet, whether or not the clock is
-- used
by_both : (by_clock : Bool) (j : Journal) → IsAudio j → IsClock j.clock → AgreesWithClock j → (n m : ℕ) (x y : ℤ) → n < j.packets → m < j.packets → n % 256 ≡ m % 256
    → AtAudio by_clock j n x → AtAudio by_clock j m y → IsNear j 72 x y → n ≡ m
by_both true j is clock agrees n m x y known there seq a b near = one_packet j is n m x y known there seq (clock_near j is clock agrees n x known a) (clock_near j is clock agrees m y there b) near
by_both false j is clock agrees n m x y known there seq a b near = one_packet j is n m x y known there seq (nominal_near j is n x known a) (nominal_near j is m y there b) near

by_kind : (kind : Kind) (by_clock : Bool) (j : Journal) → IsOfKind kind j → IsAudioKind kind → IsClock j.clock → (n m : ℕ) (x y : ℤ) → n < j.packets → m < j.packets → n % 256 ≡ m % 256
    → IsAtBy kind by_clock j n 0 x → IsAtBy kind by_clock j m 0 y → IsNear j 72 x y → n ≡ m
by_kind DenseAaf true j is audio clock n m x y known there seq a b near = by_both true j is.0 clock is.1 n m x y known there seq a b near
by_kind DenseAaf false j is audio clock n m x y known there seq a b near = by_both false j is.0 clock is.1 n m x y known there seq a b near
by_kind SparseAaf true j is audio clock n m x y known there seq a b near = by_both true j is.0 clock is.1 n m x y known there seq a b near
by_kind SparseAaf false j is audio clock n m x y known there seq a b near = by_both false j is.0 clock is.1 n m x y known there seq a b near
by_kind (Am824 interval dbc) true j is audio clock n m x y known there seq a b near = by_both true j is.0 clock is.1 n m x y known there seq a b near
by_kind (Am824 interval dbc) false j is audio clock n m x y known there seq a b near = by_both false j is.0 clock is.1 n m x y known there seq a b near
by_kind (H264 part) by_clock j is audio clock n m x y known there seq a b near = absurd audio

pub near_packets : (j : Journal) (by_clock : Bool) (n m : ℕ) (x y : ℤ) → Conforms j → IsAudioKind j.kind → n < j.packets → m < j.packets → n % 256 ≡ m % 256 → IsAt by_clock j n 0 x → IsAt by_clock j m 0 y → IsNear j 72 x y → n ≡ m
near_packets j by_clock n m x y is audio known there seq a b near = by_kind j.kind by_clock j is.kind audio is.clock n m x y known there seq a b near
