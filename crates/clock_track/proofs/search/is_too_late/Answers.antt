-- Proves the case in which the first timestamp is a point and is more than one nominal sample after the instant.
use Rattle.std.proofs.Common.{◌≡◌, w64, to_z, of_z, subst, arith}
use Rattle.std.proofs.lemmas.Int.{ints}
use Rattle.clock_track.specs.declared.pair.Pair.{Pair}
use Rattle.clock_track.specs.Rows.{pair_of, timestamp}
use Rattle.clock_track.specs.Search.{IsAfter}
use Rattle.clock_track.specs.Views.{row_of}
use Rattle.clock_track.proofs.TooLate.{late-none}
use Rattle.clock_track.proofs.search.is_too_late.Goals as goal

pub returns-else-first-ge-POINTS_END : goal.returns-else-first-ge-POINTS_END
returns-else-first-ge-POINTS_END c true_is before =
    let instant : to_z w64 (of_z w64 c.args.query.now.instant) ≡ c.args.query.now.instant = omega (arith, ints) in
    let after : IsAfter c.pair_of.result c.args.query.now.rate c.args.query.now.instant = rw instant at (c.is_after.ensures.0 true_is) in
    let same : c.pair_of.result ≡ pair_of c.args.row.now.shift (row_of c.args.row.now.points) (timestamp (row_of c.args.row.now.points) 0) (timestamp (row_of c.args.row.now.points) 0) =
    rw c.timestamp-first.ensures at c.pair_of.ensures.value in
    late-none c.args.row.now.shift (row_of c.args.row.now.points) before c.args.query.now.rate c.args.query.now.instant
    (subst (λ (p : Pair). IsAfter p c.args.query.now.rate c.args.query.now.instant) same after)
