use Rattle.std.proofs.Common.{◌-◌, arith}
use Rattle.std.proofs.lemmas.Int.{ints}
use Rattle.value_spread.proofs.Buckets.{place-high, place-low}
use Rattle.value_spread.proofs.spread.place_of.Goals as goal

pub returns-then-value-lt0 : goal.returns-then-value-lt0
returns-then-value-lt0 c = place-low c.args.value (c.unsigned_abs.result - 1) c.bucket_of.result (omega (arith, ints, c.unsigned_abs.ensures.value, c.if-value-lt0.true)) c.bucket_of.ensures

pub returns-else-value-lt0 : goal.returns-else-value-lt0
returns-else-value-lt0 c = place-high c.args.value c.unsigned_abs-else-value-lt0.result c.bucket_of-else-value-lt0.result (omega (arith, ints, c.unsigned_abs-else-value-lt0.ensures.value, c.if-value-lt0.false)) c.bucket_of-else-value-lt0.ensures
