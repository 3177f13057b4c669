use Rattle.std.proofs.Common.{◌≡◌, ◌+ℤ◌, pos, arith}
use Rattle.std.proofs.lemmas.Int.{ints}
use Rattle.clock_track.specs.Rows.{pair_of, timestamp}
use Rattle.clock_track.specs.state.Bounds.{Widens}
use Rattle.clock_track.specs.Views.{row_of}
use Rattle.clock_track.proofs.Outside.{all-inside, pairs-empty, pairs-late, pairs-wide}
use Rattle.clock_track.proofs.search.bounds_of.Goals as goal

pub returns-then-count-eq0 : goal.returns-then-count-eq0
returns-then-count-eq0 c = pairs-empty c.args.row.now.shift (row_of c.args.row.now.points) c.no_bounds.result (omega arith)

pub returns-then-first-ge-POINTS_END : goal.returns-then-first-ge-POINTS_END
returns-then-first-ge-POINTS_END c =
    pairs-late c.args.row.now.shift (row_of c.args.row.now.points) c.bounds_inside-inside.result
    (all-inside c.args.row.now.shift (row_of c.args.row.now.points) c.bounds_inside-inside.result c.timestamps-count.result c.timestamps-count.ensures c.bounds_inside-inside.ensures) (omega arith)

pub returns : goal.returns
returns c =
    let same : c.pair_of-pair.result ≡ pair_of c.args.row.now.shift (row_of c.args.row.now.points) (timestamp (row_of c.args.row.now.points) 0) (timestamp (row_of c.args.row.now.points) 0) =
    rw c.timestamp-first.ensures at c.pair_of-pair.ensures.value in
    let within = c.longest_period.ensures.within in
    let low = c.pair_of-pair.ensures.small.later.from in
    let high = c.pair_of-pair.ensures.small.later.to in
    let from = c.widened.ensures.from in
    let to = c.widened.ensures.to in
    let wider : Widens c.bounds_inside-inside.result c.widened.result c.pair_of-pair.result.later (c.pair_of-pair.result.later +ℤ pos c.longest_period.result) = record {
      earliest = c.widened.ensures.earliest;
      from = omega (arith, ints);
      latest = c.widened.ensures.latest;
      to = omega (arith, ints);
    } in
    pairs-wide c.args.row.now.shift (row_of c.args.row.now.points) c.bounds_inside-inside.result c.widened.result c.pair_of-pair.result c.longest_period.result
    (all-inside c.args.row.now.shift (row_of c.args.row.now.points) c.bounds_inside-inside.result c.timestamps-count.result c.timestamps-count.ensures c.bounds_inside-inside.ensures)
    wider same c.longest_period.ensures.value
