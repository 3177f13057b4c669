use Rattle.std.proofs.Common.{◌≡◌, ◌+◌, ◌*◌, ◌/◌, ◌%◌, ◌≤◌, ℤ, pos, negsuc, ◌≤ℤ◌, ap, arith, w64, to_z, to_z-of_z}
use Rattle.std.proofs.lemmas.Int.{ints}
use lib.IntN.{nat_abs}
use Rattle.avtp_text.specs.state.SampleLines.{StartsAt}
use Rattle.avtp_text.proofs.sample_line.start_of.Goals as goal

starts : (z : ℤ) → pos 100000000 ≤ℤ z → z ≤ℤ pos 9223372036854775807 → StartsAt z (to_z w64 (nat_abs z / 100000000 * 100000000))
starts (pos n) large fits =
    let long : 100000000 ≤ n = omega (arith, ints, large) in
    let most : n ≤ 9223372036854775807 = omega (arith, ints, fits) in
    let small : n / 100000000 * 100000000 ≤ 9223372036854775807 = omega (arith, most) in
    let whole : n ≡ n / 100000000 * 100000000 + n % 100000000 = omega arith in
    record {
      high = n / 100000000;
      low = n % 100000000;
      some = omega (arith, long);
      from = omega (arith, ints, small);
      small = omega arith;
      at = ap pos whole;
    }
starts (negsuc n) large fits = absurd (omega (arith, ints, large))

pub returns : goal.returns
returns c = rw (to_z-of_z c.ranges.instant) (starts c.args.instant (omega (arith, ints)) (omega (arith, ints, c.ranges.instant)))
