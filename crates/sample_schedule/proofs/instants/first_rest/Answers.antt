use Rattle.std.proofs.Common.{◌≡◌, pos, ◌∙◌, arith, to_z, of_z}
use Rattle.std.proofs.lemmas.Int.{ints}
use Rattle.std.specs.Int.{w128}
use lib.IntN.{nat_abs}
use Rattle.sample_schedule.proofs.Carried.{product_is}
use Rattle.sample_schedule.proofs.instants.first_rest.Goals as goal

pub returns : goal.returns
returns c =
    let from : c.from.result ≡ c.batch.inside.from = omega (arith, ints) in
    let steps = product_is c.batch.inside.from c.batch.inside.line.num c.from.result c.from-2.result (omega (arith, ints)) (omega arith) from c.from-2.ensures in
    let den : to_z w128 (of_z w128 c.from-3.result) ≡ pos c.batch.inside.line.den = omega (arith, ints) in
    let natural : pos (nat_abs (to_z w128 (of_z w128 c.rem_euclid.result))) ≡ c.rem_euclid.result = omega (arith, ints) in
    rw (← c.batch.view_is) (natural ∙ rw (steps, den) at c.rem_euclid.ensures.value)
