-- The arithmetic in 128 bits does not wrap.
use Rattle.std.proofs.Common.{◌≡◌, ℕ, ◌*◌, ◌^◌, ◌<◌, ◌≤◌, ℤ, pos, ◌-ℤ◌, ◌*ℤ◌, ◌+ℤ◌, arith, FitsSigned, w64, to_z, of_z}
use Rattle.std.specs.Prelude.{unsigned_abs}
use Rattle.std.proofs.Math.Nat.{mul-le-mul}
use Rattle.std.proofs.lemmas.Int.{ints, to_z-of_z, fits_signed_from_abs, unsigned_abs-mul}
use Rattle.std.specs.Int.{w128}
use Rattle.clock_track.proofs.pair.scaled.Goals as goal

-- the difference of two signed 64-bit numbers, times a number below 2^61, is at most 2^125 in absolute value
bounded : (x y : ℤ) (n : ℕ) → FitsSigned w64 x → FitsSigned w64 y → n < 2 ^ 61 → unsigned_abs ((x -ℤ y) *ℤ pos n) ≤ 2 ^ 125
bounded x y n fits fits_too small =
    let z : ℤ = x -ℤ y in
    let left : unsigned_abs z ≤ 2 ^ 64 = omega (arith, ints) in
    let right : n ≤ 2 ^ 61 = omega arith in
    rw (unsigned_abs-mul z (pos n)) (mul-le-mul left right)

product : (x y : ℤ) (n : ℕ) (a b d : ℤ) → FitsSigned w64 x → FitsSigned w64 y → n < 2 ^ 61 → a ≡ x → b ≡ y → d ≡ pos n
    → to_z w128 (of_z w128 (to_z w128 (of_z w128 (to_z w128 (of_z w128 a) -ℤ to_z w128 (of_z w128 b))) *ℤ to_z w128 (of_z w128 d))) ≡ (x -ℤ y) *ℤ pos n
product x y n a b d fits fits_too small p q r =
    let left : to_z w128 (of_z w128 (to_z w128 (of_z w128 a) -ℤ to_z w128 (of_z w128 b))) ≡ x -ℤ y = omega (arith, ints) in
    let right : to_z w128 (of_z w128 d) ≡ pos n = omega (arith, ints) in
    let most = bounded x y n fits fits_too small in
    rw (left, right) (to_z-of_z w128 ((x -ℤ y) *ℤ pos n) (fits_signed_from_abs w128 ((x -ℤ y) *ℤ pos n) (omega arith)))

sum : (z : ℤ) (num : ℕ) (a b : ℤ) → unsigned_abs z ≤ 2 ^ 125 → num < 2 ^ 60 → a ≡ z → b ≡ pos num → FitsSigned w128 (a +ℤ to_z w128 (of_z w128 b))
sum z num a b most small p q =
    let right : to_z w128 (of_z w128 b) ≡ pos num = omega (arith, ints) in
    rw (right, p) (omega (arith, ints))

sum_is : (z : ℤ) (num : ℕ) (a b : ℤ) → unsigned_abs z ≤ 2 ^ 125 → num < 2 ^ 60 → a ≡ z → b ≡ pos num → to_z w128 (of_z w128 (a +ℤ to_z w128 (of_z w128 b))) ≡ z +ℤ pos num
sum_is z num a b most small p q =
    let right : to_z w128 (of_z w128 b) ≡ pos num = omega (arith, ints) in
    rw (right, p) (omega (arith, ints))

most_of : (c : goal.After-from-4) → unsigned_abs ((c.args.instant -ℤ c.args.later) *ℤ pos (2 * c.args.den)) ≤ 2 ^ 125
most_of c = bounded c.args.instant c.args.later (2 * c.args.den) (omega (arith, ints)) (omega (arith, ints)) (omega arith)

product_is : (c : goal.After-from-4) → to_z w128 (of_z w128 (to_z w128 (of_z w128 (to_z w128 (of_z w128 c.from.result) -ℤ to_z w128 (of_z w128 c.from-2.result))) *ℤ to_z w128 (of_z w128 c.from-3.result))) ≡ (c.args.instant -ℤ c.args.later) *ℤ pos (2 * c.args.den)
product_is c =
    product c.args.instant c.args.later (2 * c.args.den) c.from.result c.from-2.result c.from-3.result (omega (arith, ints)) (omega (arith, ints)) (omega arith) (omega (arith, ints)) (omega (arith, ints)) (omega (arith, ints))

pub overflow_add-result : goal.overflow_add-result
overflow_add-result c =
    sum ((c.args.instant -ℤ c.args.later) *ℤ pos (2 * c.args.den)) c.args.num _ c.from-4.result (most_of c) c.requires.num (product_is c) c.from-4.ensures

pub returns : goal.returns
returns c =
    sum_is ((c.args.instant -ℤ c.args.later) *ℤ pos (2 * c.args.den)) c.args.num _ c.from-4.result (most_of c) c.requires.num (product_is c) c.from-4.ensures
