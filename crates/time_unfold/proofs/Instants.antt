-- A timestamp means exactly one instant, `unfolded`.
use Rattle.std.proofs.Common.{◌≡◌, ℕ, ◌^◌, ◌<◌, ℤ, pos, neg_ℤ, ◌*ℤ◌, ◌+ℤ◌, ◌-ℤ◌, sym, ◌∙◌, arith, lit<}
use Rattle.std.proofs.lemmas.Int.{ints}
use Rattle.std.specs.Int.{int_div_euclid, int_rem_euclid}
use Rattle.time_unfold.proofs.Floors.{euclid, rest_below, rest_natural, rest_only, same_rest, neg_times}
use Rattle.time_unfold.specs.Time.{Unfolds, unfolded}

-- if t - first is reduced modulo d and added to `first`, the result is equal to t modulo d
around : (t : ℕ) (first : ℤ) (d : ℕ) → 0 < d → t < d → int_rem_euclid (first +ℤ int_rem_euclid (pos t -ℤ first) (pos d)) (pos d) ≡ pos t
around t first d some small =
    let q = int_div_euclid (pos t -ℤ first) (pos d) in
    let split = euclid (pos t -ℤ first) d some in
    let back : neg_ℤ q *ℤ pos d ≡ neg_ℤ (q *ℤ pos d) = neg_times q d in
    rest_only (first +ℤ int_rem_euclid (pos t -ℤ first) (pos d)) (neg_ℤ q) (pos t) d some (omega (arith, ints)) (omega (arith, ints)) (omega (arith, ints))

pub unfolded-unfolds : (t : ℕ) (arrival : ℤ) → t < 2 ^ 32 → Unfolds t arrival (unfolded t arrival)
unfolding unfolded
unfolded-unfolds t arrival small =
    let first = arrival -ℤ pos (2 ^ 31) in
    let some : 0 < 2 ^ 32 = lit< tt in
    let natural = rest_natural (pos t -ℤ first) (2 ^ 32) in
    let below = rest_below (pos t -ℤ first) (2 ^ 32) some in
    record {
      low_bits = around t first (2 ^ 32) some small;
      from = omega (arith, ints);
      to = omega (arith, ints);
    }

pub one_unfolded : (t : ℕ) (arrival x y : ℤ) → Unfolds t arrival x → Unfolds t arrival y → x ≡ y
one_unfolded t arrival x y u v =
    same_rest x y (2 ^ 32) (lit< tt) (u.low_bits ∙ sym v.low_bits) (omega (arith, ints)) (omega (arith, ints))
