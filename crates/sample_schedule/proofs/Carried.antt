-- How the instant of a sample gives the instant of the next sample.
use Rattle.std.proofs.Common.{◌≡◌, ℕ, ◌+◌, ◌-◌, ◌*◌, ◌^◌, ◌<◌, ℤ, pos, ◌+ℤ◌, ◌-ℤ◌, ◌*ℤ◌, sym, ap, arith, lit<, FitsSigned, w64, to_z, of_z}
use Rattle.std.proofs.lemmas.Int.{ints, to_z-of_z, fits_signed_mul}
use Rattle.std.specs.Int.{int_rem_euclid, w128}
use borrow.Author.Differences.{up, down}
use Rattle.sample_schedule.specs.Batches.{Presented, sample_instant}
use Rattle.time_unfold.specs.Time.{IsInstant}
use Rattle.time_unfold.specs.Lines.{IsAt, floor_of, instant_at}
use Rattle.time_unfold.proofs.Floors.{euclid, rest_below}
use Rattle.time_unfold.proofs.OnLine.{instant_at-at, one_at}
use Rattle.sample_schedule.specs.Instants.{IsRestOf}

times_more : (q : ℤ) (n d : ℕ) → (q +ℤ pos n) *ℤ pos d ≡ q *ℤ pos d +ℤ pos (n * d)
times_more q n d =
    let e : up (q +ℤ pos n) + down q ≡ down (q +ℤ pos n) + up q + n = omega (arith, ints) in
    let f : d * (up (q +ℤ pos n) + down q) ≡ d * (down (q +ℤ pos n) + up q + n) = ap (λ (m : ℕ). d * m) e in
    omega (arith, ints)

pub instant_from_rest : (batch : Presented) (j : ℕ) (instant : ℤ) (rest : ℕ) → IsRestOf batch j instant rest → instant ≡ sample_instant batch j
instant_from_rest batch j instant rest is =
    let k = batch.from +ℤ pos j in
    let some : 0 < batch.line.den = omega (arith, is.below) in
    let more = times_more (instant -ℤ batch.line.base) 1 batch.line.den in
    let steps = is.steps in
    let here : IsAt batch.line k instant = record {
      not_after = omega (arith, ints, steps);
      last = omega (arith, ints, steps, more, is.below);
    } in
    one_at batch.line k instant (instant_at batch.line k) here (instant_at-at batch.line k some)

-- the next sample is `step` ns later, or `step` + 1 ns later if the remainders add up to a whole nanosecond
pub carried : (batch : Presented) (j : ℕ) (instant : ℤ) (rest step step_rest carry rest' : ℕ)
    → IsRestOf batch j instant rest → step * batch.line.den + step_rest ≡ batch.line.num
    → rest + step_rest ≡ rest' + carry * batch.line.den → rest' < batch.line.den
    → IsRestOf batch (j + 1) (instant +ℤ pos (step + carry)) rest'
carried batch j instant rest step step_rest carry rest' is is_step sum below =
    let number : batch.from +ℤ pos (j + 1) ≡ batch.from +ℤ pos j +ℤ pos 1 = omega (arith, ints) in
    let place : instant +ℤ pos (step + carry) -ℤ batch.line.base ≡ instant -ℤ batch.line.base +ℤ pos (step + carry) = omega (arith, ints) in
    let one = times_more (batch.from +ℤ pos j) 1 batch.line.num in
    let more = times_more (instant -ℤ batch.line.base) (step + carry) batch.line.den in
    let split : (step + carry) * batch.line.den ≡ step * batch.line.den + carry * batch.line.den = omega arith in
    let steps = is.steps in
    record {
      steps = rw (number, place) (omega (arith, ints, one, more, split, steps, is_step, sum));
      below = below;
    }

pub first_is_rest : (batch : Presented) (instant : ℤ) (rest : ℕ) → 0 < batch.line.den → instant ≡ sample_instant batch 0
    → pos rest ≡ int_rem_euclid (batch.from *ℤ pos batch.line.num) (pos batch.line.den) → IsRestOf batch 0 instant rest
first_is_rest batch instant rest some at is =
    let steps = batch.from *ℤ pos batch.line.num in
    let number : batch.from +ℤ pos 0 ≡ batch.from = omega (arith, ints) in
    let floor : instant -ℤ batch.line.base ≡ floor_of steps batch.line.den = let here = rw number at at in omega (arith, ints, here) in
    let split = euclid steps batch.line.den some in
    let below = rest_below steps batch.line.den some in
    record {
      steps = rw (number, floor, is) (sym split);
      below = omega (arith, ints, is, below);
    }

pub sum_fits : (instant next : ℤ) (step : ℕ) → instant +ℤ pos step ≡ next → IsInstant instant → IsInstant next → step < 2 ^ 62 → FitsSigned w64 (to_z w64 (of_z w64 instant) +ℤ to_z w64 step)
sum_fits instant next step sum now then small = let a = now.from in let b = now.to in let c = then.from in let d = then.to in omega (arith, ints, a, b, c, d, sum, small)

pub sum_is : (instant next : ℤ) (step : ℕ) → instant +ℤ pos step ≡ next → IsInstant instant → IsInstant next → step < 2 ^ 62 → to_z w64 (of_z w64 (to_z w64 (of_z w64 instant) +ℤ to_z w64 step)) ≡ next
sum_is instant next step sum now then small = let a = now.from in let b = now.to in let c = then.from in let d = then.to in omega (arith, ints, a, b, c, d, sum, small)

-- the product of two 64-bit numbers fits 128 bits
pub product_is : (k : ℤ) (num : ℕ) (a b : ℤ) → FitsSigned w64 k → num < 2 ^ 64 → a ≡ k → b ≡ pos num → to_z w128 (of_z w128 (to_z w128 (of_z w128 a) *ℤ to_z w128 (of_z w128 b))) ≡ k *ℤ pos num
product_is k num a b fits small p q =
    let left : to_z w128 (of_z w128 a) ≡ k = omega (arith, ints) in
    let right : to_z w128 (of_z w128 b) ≡ pos num = omega (arith, ints) in
    let within : FitsSigned w128 (k *ℤ pos num) = fits_signed_mul w128 k (pos num) (2 ^ 63) (2 ^ 64 - 1) (omega (arith, ints)) (omega (arith, ints)) (lit< tt) in
    rw (left, right) (to_z-of_z w128 (k *ℤ pos num) within)
