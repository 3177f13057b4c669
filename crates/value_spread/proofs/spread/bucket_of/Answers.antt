use Rattle.value_spread.proofs.Buckets.{in-narrow, in-octave, shifted}
use Rattle.value_spread.proofs.spread.bucket_of.Goals as goal

pub returns-then-magnitude-lt-NARROW : goal.returns-then-magnitude-lt-NARROW
returns-then-magnitude-lt-NARROW c = in-narrow c.args.magnitude c.if-magnitude-lt-NARROW.true

pub overflow_sub-shift : goal.overflow_sub-shift
overflow_sub-shift c = shifted c.args.magnitude c.ilog2-shift.result c.if-magnitude-lt-NARROW.false c.ilog2-shift.ensures.next_power_gt

pub returns : goal.returns
returns c = in-octave c.args.magnitude c.ilog2-shift.result c.if-magnitude-lt-NARROW.false c.requires c.ilog2-shift.ensures.power_le c.ilog2-shift.ensures.next_power_gt
