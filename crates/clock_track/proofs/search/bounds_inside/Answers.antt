use Rattle.clock_track.specs.Views.{row_of}
use Rattle.clock_track.proofs.Outside.{inside-more}
use Rattle.clock_track.proofs.search.bounds_inside.Goals as goal

pub loop-i-preserved : goal.loop-i-preserved
loop-i-preserved c =
    inside-more c.args.row.now.shift (row_of c.args.row.now.points) c.loop-i.bounds c.widened_by-bounds.result c.args.first c.loop-i.i c.joined-pair.result c.timestamp.result
    c.timestamp-in-loop-i.result c.loop-i.invariant c.timestamp.ensures c.timestamp-in-loop-i.ensures c.joined-pair.ensures.value c.widened_by-bounds.ensures.pair c.widened_by-bounds.ensures.others
