-- Divisions of integers that round down.
use Rattle.std.proofs.Common.{◌≡◌, ℕ, ◌+◌, ◌*◌, ◌<◌, ◌≤◌, ℤ, pos, negsuc, neg_ℤ, ◌+ℤ◌, ◌*ℤ◌, ◌≤ℤ◌, ◌<ℤ◌, ap, arith}
use Rattle.std.proofs.Math.Nat.{mul-le-mul_left}
use Rattle.std.proofs.lemmas.Int.{ints, by_lt_z}
use Rattle.std.proofs.lemmas.Nat.{div-add-mod'}
use Rattle.std.specs.Int.{int_div_euclid, int_rem_euclid}
use borrow.Author.Differences.{up, down}

-- an integer is its quotient times the divisor, plus its remainder
pub euclid : (z : ℤ) (d : ℕ) → 0 < d → int_div_euclid z (pos d) *ℤ pos d +ℤ int_rem_euclid z (pos d) ≡ z
euclid (pos a) d some = let split = div-add-mod' a d in omega (arith, ints)
euclid (negsuc a) d some = let split = div-add-mod' a d in omega (arith, ints)

pub rest_below : (z : ℤ) (d : ℕ) → 0 < d → int_rem_euclid z (pos d) <ℤ pos d
rest_below (pos a) d some = omega (arith, ints)
rest_below (negsuc a) d some = omega (arith, ints)

pub rest_natural : (z : ℤ) (d : ℕ) → pos 0 ≤ℤ int_rem_euclid z (pos d)
rest_natural (pos a) d = omega (arith, ints)
rest_natural (negsuc a) d = omega (arith, ints)

pub times_more : (x y : ℤ) (d : ℕ) → x ≤ℤ y → (x *ℤ pos d) ≤ℤ (y *ℤ pos d)
times_more x y d below =
    let h : up x + down y ≤ up y + down x = omega (arith, ints) in
    let e : d * (up x + down y) ≤ d * (up y + down x) = mul-le-mul_left d h in
    omega (arith, ints)

pub one_more : (q : ℤ) (d : ℕ) → (q +ℤ pos 1) *ℤ pos d ≡ q *ℤ pos d +ℤ pos d
one_more q d =
    let e : up (q +ℤ pos 1) + down q ≡ down (q +ℤ pos 1) + up q + 1 = omega (arith, ints) in
    let f : d * (up (q +ℤ pos 1) + down q) ≡ d * (down (q +ℤ pos 1) + up q + 1) = ap (λ (n : ℕ). d * n) e in
    omega (arith, ints)

pub neg_times : (q : ℤ) (d : ℕ) → neg_ℤ q *ℤ pos d ≡ neg_ℤ (q *ℤ pos d)
neg_times q d =
    let e : up (neg_ℤ q) + up q ≡ down (neg_ℤ q) + down q = omega (arith, ints) in
    let f : d * (up (neg_ℤ q) + up q) ≡ d * (down (neg_ℤ q) + down q) = ap (λ (n : ℕ). d * n) e in
    omega (arith, ints)

pub floor_below : (z : ℤ) (d : ℕ) → 0 < d → (int_div_euclid z (pos d) *ℤ pos d) ≤ℤ z
floor_below z d some = let e = euclid z d some in let r = rest_natural z d in omega (arith, ints)

pub floor_above : (z : ℤ) (d : ℕ) → 0 < d → z <ℤ ((int_div_euclid z (pos d) +ℤ pos 1) *ℤ pos d)
floor_above z d some = let e = euclid z d some in let r = rest_below z d some in let m = one_more (int_div_euclid z (pos d)) d in omega (arith, ints)

-- at most one number q satisfies q * d <= z < (q + 1) * d
pub floor_only : (z q r : ℤ) (d : ℕ) → (q *ℤ pos d) ≤ℤ z → z <ℤ ((q +ℤ pos 1) *ℤ pos d) → (r *ℤ pos d) ≤ℤ z → z <ℤ ((r +ℤ pos 1) *ℤ pos d) → q ≡ r
floor_only z q r d a b c e =
    by_lt_z q r
    (λ h. let m = times_more (q +ℤ pos 1) r d (omega (arith, ints)) in absurd (omega (arith, ints)))
    (λ h. by_lt_z r q
    (λ g. let m = times_more (r +ℤ pos 1) q d (omega (arith, ints)) in absurd (omega (arith, ints)))
    (λ g. omega (arith, ints)))

-- if z is r plus a multiple of d, and r is from 0 to below d, then r is the remainder of z
pub rest_only : (z q r : ℤ) (d : ℕ) → 0 < d → z ≡ q *ℤ pos d +ℤ r → pos 0 ≤ℤ r → r <ℤ pos d → int_rem_euclid z (pos d) ≡ r
rest_only z q r d some e natural below =
    let m = one_more q d in
    let same : int_div_euclid z (pos d) ≡ q =
    floor_only z (int_div_euclid z (pos d)) q d (floor_below z d some) (floor_above z d some) (omega (arith, ints)) (omega (arith, ints)) in
    let split = euclid z d some in
    let times : int_div_euclid z (pos d) *ℤ pos d ≡ q *ℤ pos d = ap (λ (n : ℤ). n *ℤ pos d) same in
    omega (arith, ints)

-- two integers are equal if they have the same remainder and differ by less than the divisor
pub same_rest : (x y : ℤ) (d : ℕ) → 0 < d → int_rem_euclid x (pos d) ≡ int_rem_euclid y (pos d) → x <ℤ (y +ℤ pos d) → y <ℤ (x +ℤ pos d) → x ≡ y
same_rest x y d some e above below =
    let p = int_div_euclid x (pos d) in
    let q = int_div_euclid y (pos d) in
    let split = euclid x d some in
    let other = euclid y d some in
    by_lt_z p q
    (λ h. let m = times_more (p +ℤ pos 1) q d (omega (arith, ints)) in let n = one_more p d in absurd (omega (arith, ints)))
    (λ h. by_lt_z q p
    (λ g. let m = times_more (q +ℤ pos 1) p d (omega (arith, ints)) in let n = one_more q d in absurd (omega (arith, ints)))
    (λ g. let same : p ≡ q = omega (arith, ints) in let times : p *ℤ pos d ≡ q *ℤ pos d = ap (λ (n : ℤ). n *ℤ pos d) same in omega (arith, ints)))
