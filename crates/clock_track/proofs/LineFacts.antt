-- Facts about the line that a joined pair gives for an instant that the pair covers.
use Rattle.std.proofs.Common.{◌≡◌, inl, inr, ℕ, ◌+◌, ◌*◌, ◌^◌, ◌<◌, ◌≤◌, Bool, true, false, ℤ, pos, Option, Some, neg_ℤ, ◌+ℤ◌, ◌-ℤ◌, ◌*ℤ◌, ◌≤ℤ◌, ◌<ℤ◌, refl, ap, arith}
use Rattle.std.specs.Prelude.{◌==◌, if◌then◌else◌}
use Rattle.std.proofs.Math.Nat.{mul-le-mul_left}
use Rattle.std.proofs.lemmas.Bool.{cases_lt, eqb-true}
use Rattle.std.proofs.lemmas.Bool.Decides.{nat_tests}
use Rattle.std.proofs.lemmas.Int.{ints, by_lt_z}
use borrow.Author.Differences.{up, down}
use Rattle.time_unfold.specs.Lines.{floor_of}
use Rattle.time_unfold.proofs.Floors.{floor_above, floor_below, times_more}
use Rattle.clock_track.specs.declared.pair.Pair.{Pair}
use Rattle.clock_track.specs.Limits.{IsClockLine, IsNear, IsSmall}
use Rattle.clock_track.specs.PairLines.{Covers, IsJoined, Spot, event_line, nearest_event, nominal, period, spot_by, step_den, step_num}
use Rattle.clock_track.specs.Search.{IsCovering}

-- ---- numbers

pub product : (a b : ℕ) → 1 ≤ a → 1 ≤ b → 1 ≤ a * b
product a b p q = let h : a * 1 ≤ a * b = mul-le-mul_left a q in omega arith

pub less : (w a b : ℕ) → w * a < w * b → a < b
less w a b h = elim (cases_lt a b) [
  | inl below ↦ below
  | inr above ↦ let times : w * b ≤ w * a = mul-le-mul_left w above in absurd (omega arith)
]

pub at_most : (w a b : ℕ) → 1 ≤ w → w * a ≤ w * b → a ≤ b
at_most w a b some h = elim (cases_lt b a) [
  | inl below ↦ let times : w * (b + 1) ≤ w * a = mul-le-mul_left w (omega arith) in absurd (omega arith)
  | inr above ↦ above
]

-- ---- samples near the base

near_to : (k : ℤ) (num den : ℕ) → 1 ≤ den → num ≤ 2 ^ 31 * den → k ≤ℤ pos (2 ^ 20) → floor_of (k *ℤ pos num) den ≤ℤ pos (2 ^ 51)
near_to k num den some slow high =
    let q : ℤ = floor_of (k *ℤ pos num) den in
    let below = floor_below (k *ℤ pos num) den (omega arith) in
    let steps = times_more k (pos (2 ^ 20)) num high in
    by_lt_z (pos (2 ^ 51)) q
    (λ h. let m = times_more (pos (2 ^ 51) +ℤ pos 1) q den (omega (arith, ints)) in absurd (omega (arith, ints)))
    (λ h. h)

near_from : (k : ℤ) (num den : ℕ) → 1 ≤ den → num ≤ 2 ^ 31 * den → neg_ℤ (pos (2 ^ 20)) ≤ℤ k → neg_ℤ (pos (2 ^ 51)) ≤ℤ floor_of (k *ℤ pos num) den
near_from k num den some slow low =
    let q : ℤ = floor_of (k *ℤ pos num) den in
    let above = floor_above (k *ℤ pos num) den (omega arith) in
    let steps = times_more (neg_ℤ (pos (2 ^ 20))) k num low in
    by_lt_z q (neg_ℤ (pos (2 ^ 51)))
    (λ h. let m = times_more (q +ℤ pos 1) (neg_ℤ (pos (2 ^ 51))) den (omega (arith, ints)) in absurd (omega (arith, ints)))
    (λ h. h)

slow_of : (rate num den : ℕ) → 1 ≤ rate → 8 * (rate * num) ≤ 9000000000 * den → num ≤ 2 ^ 31 * den
slow_of rate num den some spacing = let times : num * 1 ≤ num * rate = mul-le-mul_left num some in omega arith

near_base : (base : ℤ) (num den rate : ℕ) (k : ℤ) → 1 ≤ rate → 1 ≤ den → 8 * (rate * num) ≤ 9000000000 * den → neg_ℤ (pos (2 ^ 20)) ≤ℤ k → k ≤ℤ pos (2 ^ 20)
    → IsNear base (base +ℤ floor_of (k *ℤ pos num) den)
near_base base num den rate k some some_den spacing low high =
    let slow = slow_of rate num den some spacing in
    let from = near_from k num den some_den slow low in
    let to = near_to k num den some_den slow high in
    record { from = omega (arith, ints); to = omega (arith, ints) }

-- ---- the spacing

some_nominal : (p : Pair) → IsSmall p → 1000000000 ≤ nominal p
some_nominal p is =
    let h : p.interval * 1000000000 * 1 ≤ p.interval * 1000000000 * p.down = mul-le-mul_left (p.interval * 1000000000) is.some_down in
    let some = is.some_interval in
    omega arith

most_nominal : (p : Pair) → IsSmall p → nominal p < 2 ^ 56
most_nominal p is =
    let h : p.interval * 1000000000 * p.down ≤ p.interval * 1000000000 * 1001 = mul-le-mul_left (p.interval * 1000000000) is.down in
    let most = is.interval in
    omega arith

pub some_num : (p : Pair) → IsSmall p → IsJoined p → 1 ≤ step_num p
some_num p is joined = let some = some_nominal p is in let least = joined.least in omega arith

most_num : (p : Pair) → IsSmall p → IsJoined p → step_num p < 2 ^ 57
most_num p is joined = let most = most_nominal p is in let joined_most = joined.most in omega arith

pub some_period : (p : Pair) → IsSmall p → IsJoined p → 1 ≤ period p
some_period p is joined = by (period p) (some_num p is joined)
  where
    by : (d : ℕ) → 1 ≤ d * p.up → 1 ≤ d
    by d h = elim (cases_lt d 1) [ inl none ↦ let zero : d ≡ 0 = omega arith in absurd (let h = rw zero at h in omega arith) | inr some ↦ some ]

pub most_period : (p : Pair) → IsSmall p → IsJoined p → period p < 2 ^ 57
most_period p is joined = let h : period p * 1 ≤ period p * p.up = mul-le-mul_left (period p) is.some_up in let most = most_num p is joined in omega arith

some_den : (p : Pair) (rate : ℕ) → IsSmall p → 1 ≤ rate → 1 ≤ step_den p rate
some_den p rate is some = product (p.interval * rate) p.down (product p.interval rate is.some_interval some) is.some_down

most_den : (p : Pair) (rate : ℕ) → IsSmall p → rate < 2 ^ 32 → step_den p rate ≤ 2 ^ 58
most_den p rate is fits =
    let a : rate * p.interval ≤ rate * 65535 = mul-le-mul_left rate is.interval in
    let b : p.interval * rate * p.down ≤ p.interval * rate * 1001 = mul-le-mul_left (p.interval * rate) is.down in
    omega arith

pub spaced : (i down rate step : ℕ) → 8 * step ≤ 9 * (i * 1000000000 * down) → 8 * (rate * step) ≤ 9000000000 * (i * rate * down)
spaced i down rate step h = let times : rate * (8 * step) ≤ rate * (9 * (i * 1000000000 * down)) = mul-le-mul_left rate h in omega arith

-- if the clock's frequency is the stream's rate, the spacing is at most 9/8 of the nominal spacing
pub spaced_own : (i down rate d : ℕ) → 1 ≤ down → 8 * (d * (rate * down)) ≤ 9 * (i * 1000000000 * down) → 8 * (rate * d) ≤ 9000000000 * i
spaced_own i down rate d some h = at_most down (8 * (rate * d)) (9000000000 * i) some (omega arith)

-- the spacing is at least 7/8 of the nominal spacing
pub spaced_least : (i down rate step : ℕ) → 7 * (i * 1000000000 * down) ≤ 8 * step → 7000000000 * (i * rate * down) ≤ 8 * (rate * step)
spaced_least i down rate step h = let times : rate * (7 * (i * 1000000000 * down)) ≤ rate * (8 * step) = mul-le-mul_left rate h in omega arith

pub spaced_own_least : (i down rate d : ℕ) → 1 ≤ down → 7 * (i * 1000000000 * down) ≤ 8 * (d * (rate * down)) → 7000000000 * i ≤ 8 * (rate * d)
spaced_own_least i down rate d some h = at_most down (7000000000 * i) (8 * (rate * d)) some (omega arith)

-- ---- the nearest event

scaled_reach : (x : ℤ) (i d w : ℕ) → x *ℤ pos (2 * (i * w)) +ℤ pos (d * w) ≡ (x *ℤ pos (2 * i) +ℤ pos d) *ℤ pos w
scaled_reach x i d w =
    let z : ℤ = x *ℤ pos (2 * i) +ℤ pos d in
    let e : up z + down x * (2 * i) ≡ down z + up x * (2 * i) + d = omega (arith, ints) in
    let f : w * (up z + down x * (2 * i)) ≡ w * (down z + up x * (2 * i) + d) = ap (λ (n : ℕ). w * n) e in
    omega (arith, ints)

not_below : (z : ℤ) (w : ℕ) → 1 ≤ w → pos 0 ≤ℤ (z *ℤ pos w) → pos 0 ≤ℤ z
not_below z w some h =
    by_lt_z z (pos 0)
    (λ g. let m = times_more z (neg_ℤ (pos 1)) w (omega (arith, ints)) in absurd (omega (arith, ints)))
    (λ g. omega (arith, ints))

pub below_times : (z : ℤ) (n w : ℕ) → (z *ℤ pos w) <ℤ pos (n * w) → z <ℤ pos n
below_times z n w h =
    by_lt_z z (pos n)
    (λ g. g)
    (λ g. let m = times_more (pos n) z w (omega (arith, ints)) in absurd (omega (arith, ints)))

-- the number of the nearest event is not negative
event_from : (z : ℤ) (d : ℕ) → 1 ≤ d → pos 0 ≤ℤ z → pos 0 ≤ℤ floor_of z (2 * d)
event_from z d some h =
    let q : ℤ = floor_of z (2 * d) in
    let above = floor_above z (2 * d) (omega arith) in
    by_lt_z q (pos 0)
    (λ g. let m = times_more (q +ℤ pos 1) (pos 0) (2 * d) (omega (arith, ints)) in absurd (omega (arith, ints)))
    (λ g. g)

event_to : (z : ℤ) (d i : ℕ) → 1 ≤ d → z <ℤ pos (2 * d * i) → floor_of z (2 * d) <ℤ pos i
event_to z d i some h =
    let q : ℤ = floor_of z (2 * d) in
    let below = floor_below z (2 * d) (omega arith) in
    by_lt_z q (pos i)
    (λ g. g)
    (λ g. let m = times_more (pos i) q (2 * d) (omega (arith, ints)) in absurd (omega (arith, ints)))

-- the number of the nearest event is at least 0 and less than the interval
pub record IsEvent (p : Pair) (instant : ℤ) : Type 0 where
  pub from : pos 0 ≤ℤ nearest_event p instant
  pub to : nearest_event p instant <ℤ pos p.interval

event_by : (x : ℤ) (i d rate down : ℕ) → 1 ≤ rate → 1 ≤ down → 1 ≤ d
    → pos 0 ≤ℤ (x *ℤ pos (2 * (i * rate * down)) +ℤ pos (d * (rate * down)))
    → (x *ℤ pos (2 * (i * rate * down)) +ℤ pos (d * (rate * down))) <ℤ pos (2 * (d * (i * rate * down)))
    → (pos 0 ≤ℤ floor_of (x *ℤ pos (2 * i) +ℤ pos d) (2 * d)) × (floor_of (x *ℤ pos (2 * i) +ℤ pos d) (2 * d) <ℤ pos i)
event_by x i d rate down some_rate some_down some from to =
    let w : ℕ = rate * down in
    let z : ℤ = x *ℤ pos (2 * i) +ℤ pos d in
    let some_w : 1 ≤ w = product rate down some_rate some_down in
    let den : i * rate * down ≡ i * w = omega arith in
    let scaled = scaled_reach x i d w in
    let natural : pos 0 ≤ℤ z = not_below z w some_w (rw scaled at (rw den at from)) in
    let most : 2 * (d * (i * w)) ≡ 2 * d * i * w = omega arith in
    let less : z <ℤ pos (2 * d * i) = below_times z (2 * d * i) w (rw most at (rw scaled at (rw den at to))) in
    (event_from z d some natural, event_to z d i some less)

pub is_event : (p : Pair) (rate : ℕ) (instant : ℤ) → 1 ≤ rate → IsCovering rate instant p → p.up ≡ rate * p.down → IsEvent p instant
is_event p rate instant some is own =
    let parts = event_by (instant -ℤ p.later) p.interval (period p) rate p.down some is.small.some_down (some_period p is.small is.joined)
    (rw own at is.covers.from) (rw own at is.covers.to) in
    record { from = parts.0; to = parts.1 }

-- a pair that covers an instant is of a stream with some samples
pub some_rate : (p : Pair) (rate : ℕ) (instant : ℤ) → Covers p rate instant → 1 ≤ rate
some_rate p rate instant c = elim (cases_lt rate 1) [
  | inl none ↦ let zero : rate ≡ 0 = omega arith in absurd (let from = rw zero at c.from in let to = rw zero at c.to in omega (arith, ints))
  | inr some ↦ some
]

pub own_spot : (p : Pair) (rate : ℕ) (instant base : ℤ) (num den : ℕ) (from : ℤ) → p.up ≡ rate * p.down
    → base ≡ p.later → num ≡ period p → den ≡ p.interval → from ≡ nearest_event p instant
    → ◌≡◌ {A = Option Spot} (Some (record { line = record { base = base; num = num; den = den }; from = from })) (Some (spot_by p rate instant))
own_spot p rate instant base num den from own a b d e = by (p.up == rate * p.down) refl
  where
    by : (t : Bool) → (p.up == rate * p.down) ≡ t
        → ◌≡◌ {A = Option Spot} (Some (record { line = record { base = base; num = num; den = den }; from = from }))
        (Some (if t then record { line = event_line p; from = nearest_event p instant } else record { line = record { base = instant; num = step_num p; den = step_den p rate }; from = pos 0 }))
    by true f = rw (a, b, d, e) refl
    by false f = absurd (grind (arith, nat_tests))

-- ---- all facts together

own_line : (p : Pair) (rate : ℕ) (instant : ℤ) → 1 ≤ rate → IsCovering rate instant p → p.up ≡ rate * p.down → IsClockLine rate instant (record { line = event_line p; from = nearest_event p instant })
own_line p rate instant some is own =
    let event = is_event p rate instant some is own in
    let interval = is.small.interval in
    let spacing = spaced_own p.interval p.down rate (period p) is.small.some_down (rw own at is.joined.most) in
    let most = most_period p is.small is.joined in
    record {
      some_num = some_period p is.small is.joined;
      num = omega arith;
      some_den = is.small.some_interval;
      den = omega arith;
      least = spaced_own_least p.interval p.down rate (period p) is.small.some_down (rw own at is.joined.least);
      spacing = spacing;
      from = event.from;
      to = let to = event.to in omega (arith, ints);
      base = inr is.small.later;
      near = λ k low high. near_base p.later (period p) p.interval rate k some is.small.some_interval spacing low high;
    }

other_line : (p : Pair) (rate : ℕ) (instant : ℤ) → 1 ≤ rate → rate < 2 ^ 32 → IsCovering rate instant p
    → IsClockLine rate instant (record { line = record { base = instant; num = step_num p; den = step_den p rate }; from = pos 0 })
other_line p rate instant some fits is =
    let spacing = spaced p.interval p.down rate (step_num p) is.joined.most in
    let most = most_num p is.small is.joined in
    let most_of = most_den p rate is.small fits in
    record {
      some_num = some_num p is.small is.joined;
      num = omega arith;
      some_den = some_den p rate is.small some;
      den = omega arith;
      least = spaced_least p.interval p.down rate (step_num p) is.joined.least;
      spacing = spacing;
      from = omega (arith, ints);
      to = omega (arith, ints);
      base = inl refl;
      near = λ k low high. near_base instant (step_num p) (step_den p rate) rate k some (some_den p rate is.small some) spacing low high;
    }

pub clock_line : (p : Pair) (rate : ℕ) (instant : ℤ) → 1 ≤ rate → rate < 2 ^ 32 → IsCovering rate instant p → IsClockLine rate instant (spot_by p rate instant)
clock_line p rate instant some fits is = by (p.up == rate * p.down) refl
  where
    by : (b : Bool) → (p.up == rate * p.down) ≡ b
        → IsClockLine rate instant (if b then record { line = event_line p; from = nearest_event p instant } else record { line = record { base = instant; num = step_num p; den = step_den p rate }; from = pos 0 })
    by true e = own_line p rate instant some is (eqb-true p.up (rate * p.down) e)
    by false e = other_line p rate instant some fits is
