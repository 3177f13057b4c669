use Rattle.std.proofs.Common.{◌-◌}
use Rattle.clock_track.specs.state.Bounds.{HasInside}
use Rattle.clock_track.specs.Views.{row_of}
use Rattle.clock_track.proofs.search.bounds_inside.Given as goal

-- the pairs before index `i` are within the bounds
abbrev pub invariant-loop-i : goal.invariant-loop-i
invariant-loop-i l = HasInside l.row.shift (row_of l.row.points) l.bounds l.first l.i

abbrev pub decreases-loop-i : goal.decreases-loop-i
decreases-loop-i l = l.end - l.i
