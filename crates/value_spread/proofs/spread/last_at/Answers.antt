use Rattle.std.proofs.Common.{◌-◌, ◌+◌, arith}
use Rattle.std.proofs.lemmas.Int.{ints}
use Rattle.value_spread.proofs.Buckets.{above-zero, below-side, up-to-side, last-high, last-low}
use Rattle.value_spread.proofs.spread.last_at.Goals as goal

pub overflow_cast-result : goal.overflow_cast-result
overflow_cast-result c = omega (arith, ints, c.first_in.ensures, below-side (3711 - c.args.place) (omega arith))

pub overflow_sub-result-else-place-lt-SIDE : goal.overflow_sub-result-else-place-lt-SIDE
overflow_sub-result-else-place-lt-SIDE c = omega (arith, c.first_in-else-place-lt-SIDE.ensures, above-zero (c.args.place + 1 - 3712) (omega (arith, c.if-place-lt-SIDE.false)))

pub overflow_cast-result-else-place-lt-SIDE : goal.overflow_cast-result-else-place-lt-SIDE
overflow_cast-result-else-place-lt-SIDE c = omega (arith, ints, c.first_in-else-place-lt-SIDE.ensures, up-to-side (c.args.place + 1 - 3712) (omega (arith, c.requires)))

pub returns-then-place-lt-SIDE : goal.returns-then-place-lt-SIDE
returns-then-place-lt-SIDE c = omega (arith, ints, c.first_in.ensures, below-side (3711 - c.args.place) (omega arith), last-low c.args.place c.if-place-lt-SIDE.true)

pub returns-else-place-lt-SIDE : goal.returns-else-place-lt-SIDE
returns-else-place-lt-SIDE c = omega (arith, ints, c.first_in-else-place-lt-SIDE.ensures, up-to-side (c.args.place + 1 - 3712) (omega (arith, c.requires)), last-high c.args.place c.if-place-lt-SIDE.false)
