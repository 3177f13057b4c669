use Rattle.std.proofs.Common.{◌≡◌, ◌≤◌, length, take}
use Rattle.std.specs.List.{filter_map}
use Rattle.time_unfold.specs.Stamps.{find_last}
use Rattle.clock_track.specs.Rows.{across, used}
use Rattle.clock_track.specs.state.Search.{test_of}
use Rattle.clock_track.specs.Views.{row_of}
use Rattle.clock_track.proofs.search.latest_across.Given as goal

-- the result is among the pairs of the first `left` packets
abbrev pub invariant-loop-left : goal.invariant-loop-left
invariant-loop-left g l = record {
  within : l.left ≤ length (g.R.Rows.rows l.rows);
  same : find_last (test_of l.query) (filter_map (across l.row.shift (row_of l.row.points)) (used (take l.left (g.R.Rows.rows l.rows))))
      ≡ find_last (test_of l.query) (filter_map (across l.row.shift (row_of l.row.points)) (used (g.R.Rows.rows l.rows)));
}

abbrev pub decreases-loop-left : goal.decreases-loop-left
decreases-loop-left g l = l.left
