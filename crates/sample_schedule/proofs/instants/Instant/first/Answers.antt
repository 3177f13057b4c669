use Rattle.std.proofs.Common.{◌≡◌, ap, arith, w64, to_z, of_z}
use Rattle.std.proofs.lemmas.Int.{ints}
use Rattle.sample_schedule.specs.Batches.{Presented}
use Rattle.sample_schedule.proofs.Carried.{first_is_rest}
use Rattle.sample_schedule.proofs.instants.Instant.first.Goals as goal

pub starting-requires-2 : goal.starting-requires-2
starting-requires-2 c =
    let same : to_z w64 (of_z w64 c.instant.result) ≡ c.instant.result = omega (arith, ints) in
    let den = ap (λ (b : Presented). b.line.den) c.batch.view_is in
    rw same (first_is_rest c.args.batch.now c.instant.result c.first_rest.result (omega (arith, den)) c.instant.ensures c.first_rest.ensures)
