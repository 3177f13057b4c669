-- The arithmetic in 128 bits does not wrap, so the code computes `instant_at`. The lemmas say that `instant_at` is the
-- only instant of the sample.
use Rattle.std.proofs.Common.{◌≡◌, ℕ, ◌^◌, ◌<◌, ℤ, pos, ◌-◌, ◌*ℤ◌, sym, subst, arith, lit<, FitsSigned, w64, to_z, of_z}
use Rattle.std.proofs.lemmas.Int.{ints, to_z-of_z, fits_signed_mul}
use Rattle.std.specs.Int.{w128}
use Rattle.time_unfold.specs.Lines.{IsAt, floor_of}
use Rattle.time_unfold.proofs.OnLine.{instant_at-at, one_at}
use Rattle.time_unfold.proofs.line.Line.at.Goals as goal

-- the product of a signed and an unsigned 64-bit number does not wrap in 128 bits
product : (k : ℤ) (num : ℕ) (a b : ℤ) → FitsSigned w64 k → num < 2 ^ 64 → a ≡ k → b ≡ pos num → to_z w128 (of_z w128 (to_z w128 (of_z w128 a) *ℤ to_z w128 (of_z w128 b))) ≡ k *ℤ pos num
product k num a b fits small p q =
    let left : to_z w128 (of_z w128 a) ≡ k = omega (arith, ints) in
    let right : to_z w128 (of_z w128 b) ≡ pos num = omega (arith, ints) in
    let within : FitsSigned w128 (k *ℤ pos num) =
    fits_signed_mul w128 k (pos num) (2 ^ 63) (2 ^ 64 - 1) (omega (arith, ints)) (omega (arith, ints)) (lit< tt) in
    rw (left, right) (to_z-of_z w128 (k *ℤ pos num) within)

-- the code divides the product of `k` and `num` by `den`, and rounds down
steps_of : (c : goal.After-floor) → c.floor.result ≡ floor_of (c.args.k *ℤ pos c.args.self.now.num) c.args.self.now.den
steps_of c =
    let k : c.from.result ≡ c.args.k = omega (arith, ints) in
    let num : c.from-2.result ≡ pos c.args.self.now.num = c.from-2.ensures in
    let steps = product c.args.k c.args.self.now.num c.from.result c.from-2.result (omega (arith, ints)) (omega arith) k num in
    rw (← steps) c.floor.ensures

base_of : (c : goal.After-floor) → c.from-3.result ≡ c.args.self.now.base
base_of c = omega (arith, ints)

pub overflow_add-result : goal.overflow_add-result
overflow_add-result c = let steps = steps_of c in let base = base_of c in omega (arith, ints)

pub overflow_cast-result : goal.overflow_cast-result
overflow_cast-result c = let steps = steps_of c in let base = base_of c in omega (arith, ints)

pub returns-clause-value : goal.returns-clause-value
returns-clause-value c = let steps = steps_of c in let base = base_of c in omega (arith, ints)

pub returns-clause-at : goal.returns-clause-at
returns-clause-at c =
    subst (λ (z : ℤ). IsAt c.args.self.now c.args.k z) (sym (returns-clause-value c)) (instant_at-at c.args.self.now c.args.k (omega arith))

pub returns-clause-only : goal.returns-clause-only
returns-clause-only c other a = one_at c.args.self.now c.args.k other _ a (returns-clause-at c)
