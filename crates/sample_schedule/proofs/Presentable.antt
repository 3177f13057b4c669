-- If a packet's samples are counted from its head (the stamped sample), they can be presented.
use Rattle.std.proofs.Common.{◌≡◌, inl, inr, ℕ, ◌+◌, ◌*◌, ◌^◌, ◌≤◌, ℤ, pos, neg_ℤ, ◌+ℤ◌, ◌*ℤ◌, ◌≤ℤ◌, ◌<ℤ◌, refl, arith}
use Rattle.std.proofs.Math.Nat.{mul-le-mul_left}
use Rattle.std.proofs.lemmas.Int.{ints, by_lt_z}
use Rattle.clock_track.specs.Limits.{IsClockLine}
use Rattle.clock_track.specs.PairLines.{Spot}
use Rattle.time_unfold.specs.declared.head_rule.Head.{Head}
use Rattle.time_unfold.specs.Time.{IsInstant}
use Rattle.time_unfold.specs.Lines.{floor_of, instant_at, nominal_line}
use Rattle.time_unfold.proofs.Floors.{floor_below, floor_above, times_more}
use Rattle.sample_schedule.specs.declared.item.Packet.{Packet}
use Rattle.sample_schedule.specs.Batches.{IsPresentable}
use Rattle.sample_schedule.specs.Limits.{IsPacket}
use Rattle.sample_schedule.specs.state.Heads.{HasSamples}
use Rattle.sample_schedule.specs.Reach.{IsCountable}
use Rattle.sample_schedule.specs.Verdicts.{moved, nominal_spot, samples_at}

-- at 8,000 Hz or more, 65,535 samples last less than 2^33 ns, and 8 * 65,535 samples less than 2^36 ns
floor_from : (steps : ℤ) (rate : ℕ) → 8000 ≤ rate → neg_ℤ (pos 65535000000000) ≤ℤ steps → neg_ℤ (pos (2 ^ 33)) ≤ℤ floor_of steps rate
floor_from steps rate fast low =
    let q = floor_of steps rate in
    let above = floor_above steps rate (omega arith) in
    let width : 2 ^ 33 * 8000 ≤ 2 ^ 33 * rate = mul-le-mul_left (2 ^ 33) fast in
    by_lt_z q (neg_ℤ (pos (2 ^ 33)))
    (λ h. let m = times_more (q +ℤ pos 1) (neg_ℤ (pos (2 ^ 33))) rate (omega (arith, ints)) in absurd (omega (arith, ints)))
    (λ h. h)

floor_to : (steps : ℤ) (rate : ℕ) → 8000 ≤ rate → steps ≤ℤ pos 524280000000000 → floor_of steps rate ≤ℤ pos (2 ^ 36)
floor_to steps rate fast high =
    let q = floor_of steps rate in
    let below = floor_below steps rate (omega arith) in
    let width : 2 ^ 36 * 8000 ≤ 2 ^ 36 * rate = mul-le-mul_left (2 ^ 36) fast in
    by_lt_z (pos (2 ^ 36)) q
    (λ h. let m = times_more (pos (2 ^ 36)) q rate (omega (arith, ints)) in absurd (omega (arith, ints)))
    (λ h. h)

floor_natural : (steps : ℤ) (rate : ℕ) → 8000 ≤ rate → pos 0 ≤ℤ steps → pos 0 ≤ℤ floor_of steps rate
floor_natural steps rate fast natural =
    let q = floor_of steps rate in
    let above = floor_above steps rate (omega arith) in
    by_lt_z q (pos 0)
    (λ h. let m = times_more (q +ℤ pos 1) (pos 0) rate (omega (arith, ints)) in absurd (omega (arith, ints)))
    (λ h. h)

in_range : (base : ℤ) (k : ℤ) (rate : ℕ) → 8000 ≤ rate → neg_ℤ (pos (2 ^ 62)) ≤ℤ base → base <ℤ pos (2 ^ 62 + 2 ^ 31) → (k <ℤ pos 0 → neg_ℤ (pos (2 ^ 31)) ≤ℤ base) → neg_ℤ (pos 65535) ≤ℤ k → k ≤ℤ pos 524280 → IsInstant (instant_at (nominal_line base rate) k)
in_range base k rate fast from to own low high =
    let lower = floor_from (k *ℤ pos 1000000000) rate fast (omega (arith, ints)) in
    let upper = floor_to (k *ℤ pos 1000000000) rate fast (omega (arith, ints)) in
    record {
      from = by_lt_z k (pos 0)
          (λ h. let late = own h in omega (arith, ints))
          (λ h. let natural = floor_natural (k *ℤ pos 1000000000) rate fast (omega (arith, ints)) in omega (arith, ints));
      to = omega (arith, ints);
    }

pub presentable : (p : Packet) (head : Head) → HasSamples p → IsCountable head → IsPresentable (samples_at p (nominal_spot p.rate head))
presentable p head is near =
    let fast = is.packet.rate_from is.rate in
    let slow = is.packet.rate_to in
    let many = is.packet.count in
    let first_from = near.first_from in
    let first_to = near.first_to in
    record {
      some = is.some;
      count = many;
      some_num = omega arith;
      num = omega arith;
      some_den = is.rate;
      den = omega arith;
      frames = is.packet.frames is.some;
      numbers = omega (arith, ints);
      instants = λ j within. in_range head.instant (head.first +ℤ pos j) p.rate fast near.from near.to (λ h. near.own (omega (arith, ints))) (omega (arith, ints)) (omega (arith, ints));
    }

pub nominal-same : (p : Packet) (head : Head) (base first : ℤ) (den : ℕ) → base ≡ head.instant → den ≡ p.rate → first ≡ head.first
    → samples_at p (record { line = record { base = base; num = 1000000000; den = den }; from = first }) ≡ samples_at p (nominal_spot p.rate head)
nominal-same p head base first den e f g = rw (e, f, g) refl

pub counted_presentable : (p : Packet) (head : Head) (base first : ℤ) (den : ℕ) → base ≡ head.instant → den ≡ p.rate → first ≡ head.first → HasSamples p → IsCountable head → IsPresentable (record { frame = p.frame; seq = p.seq; line = record { base = base; num = 1000000000; den = den }; from = first; count = p.count; bytes = p.bytes })
counted_presentable p head base first den e f g is near = rw (e, f, g) (presentable p head is near)

-- ---- on a line of a clock

not_before : (base k : ℤ) (num den : ℕ) → 1 ≤ den → pos 0 ≤ℤ k → base ≤ℤ instant_at (record { base = base; num = num; den = den }) k
not_before base k num den some natural =
    let steps = k *ℤ pos num in
    let q = floor_of steps den in
    let above = floor_above steps den some in
    let positive = times_more (pos 0) k num natural in
    by_lt_z q (pos 0)
    (λ h. let m = times_more (q +ℤ pos 1) (pos 0) den (omega (arith, ints)) in absurd (omega (arith, ints)))
    (λ h. omega (arith, ints))

on_clock_line : (rate : ℕ) (head : Head) (spot : Spot) (k : ℤ) → IsCountable head → IsClockLine rate head.instant spot → (pos 0 ≤ℤ head.first → pos 0 ≤ℤ k) → neg_ℤ (pos 65535) ≤ℤ k → k ≤ℤ pos (2 ^ 20) → IsInstant (instant_at spot.line k)
on_clock_line rate head spot k near line forward low high =
    let beside = line.near k (omega (arith, ints)) high in
    let below = beside.from in
    let above = beside.to in
    let head_from = near.from in
    let head_to = near.to in
    elim line.base [
      | inr point ↦ let from = point.from in let to = point.to in record { from = omega (arith, ints); to = omega (arith, ints) }
      | inl here ↦ record {
        from = by_lt_z head.first (pos 0)
            (λ h. let late = near.own h in omega (arith, ints))
            (λ h. let first = not_before spot.line.base k spot.line.num spot.line.den line.some_den (forward h) in omega (arith, ints));
        to = omega (arith, ints);
      }
    ]

pub presentable-clock : (p : Packet) (head : Head) (spot : Spot) → IsPacket p → 1 ≤ p.count → IsCountable head → IsClockLine p.rate head.instant spot → IsPresentable (samples_at p (moved head.first spot))
presentable-clock p head spot is some near line =
    let many = is.count in
    let first_from = near.first_from in
    let first_to = near.first_to in
    let from = line.from in
    let to = line.to in
    record {
      some = some;
      count = many;
      some_num = line.some_num;
      num = line.num;
      some_den = line.some_den;
      den = line.den;
      frames = is.frames some;
      numbers = omega (arith, ints);
      instants = λ j within. on_clock_line p.rate head spot ((spot.from +ℤ head.first) +ℤ pos j) near line (λ h. omega (arith, ints)) (omega (arith, ints)) (omega (arith, ints));
    }
