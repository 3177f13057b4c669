-- If an instant is before the end of the previous batch, no samples are missing.
use Rattle.std.proofs.Common.{◌≡◌, ℕ, ◌*◌, ◌<◌, ◌≤◌, ℤ, pos, negsuc, ◌+ℤ◌, ◌-ℤ◌, ◌*ℤ◌, ◌<ℤ◌, refl, sym, arith}
use Rattle.std.proofs.Math.Nat.{div-eq_of_lt}
use Rattle.std.proofs.lemmas.Int.{ints}
use Rattle.time_unfold.proofs.Floors.{times_more}
use Rattle.time_unfold.specs.declared.line.Line.{Line}
use Rattle.time_unfold.specs.Lines.{floor_of}
use Rattle.device_rack.specs.RawOutput.{at_least_0, samples_in}
use Rattle.device_rack.proofs.previous.Previous.missing.Goals as goal

none_below : (z : ℤ) (d : ℕ) → z <ℤ pos d → at_least_0 (floor_of z d) ≡ 0
none_below (pos n) d below = let less : n < d = omega (arith, ints) in div-eq_of_lt less
none_below (negsuc n) d below = refl

none_before : (line : Line) (span : ℤ) → 1 ≤ line.num → span <ℤ pos 0 → samples_in line span ≡ 0
none_before line span some before =
    let less = times_more (pos 2 *ℤ span) (pos 0) line.den (omega (arith, ints)) in
    none_below (pos 2 *ℤ span *ℤ pos line.den +ℤ pos line.num) (2 * line.num) (omega (arith, ints))

pub returns-then-next-self : goal.returns-then-next-self
returns-then-next-self c =
    sym (none_before c.args.self.now.line (c.args.next -ℤ c.args.self.now.end) c.args.self.now.some_num (omega (arith, ints)))
