-- `instant_at` is the only instant of a sample on a line.
use Rattle.std.proofs.Common.{◌≡◌, ◌<◌, ℤ, pos, ◌-ℤ◌, ◌*ℤ◌, arith}
use Rattle.std.proofs.lemmas.Int.{ints}
use Rattle.time_unfold.specs.declared.line.Line.{Line}
use Rattle.time_unfold.specs.Lines.{IsAt, floor_of, instant_at}
use Rattle.time_unfold.proofs.Floors.{floor_below, floor_above, floor_only}

pub instant_at-at : (line : Line) (k : ℤ) → 0 < line.den → IsAt line k (instant_at line k)
instant_at-at line k some =
    let steps = k *ℤ pos line.num in
    let from : instant_at line k -ℤ line.base ≡ floor_of steps line.den = omega (arith, ints) in
    record {
      not_after = rw from (floor_below steps line.den some);
      last = rw from (floor_above steps line.den some);
    }

pub one_at : (line : Line) (k x y : ℤ) → IsAt line k x → IsAt line k y → x ≡ y
one_at line k x y a b =
    let same = floor_only (k *ℤ pos line.num) (x -ℤ line.base) (y -ℤ line.base) line.den a.not_after a.last b.not_after b.last in
    omega (arith, ints)
