use Rattle.std.proofs.Common.{◌≡◌, ◌-◌, ◌≤◌}
use Rattle.std.specs.List.{filter_map, range_with_len}
use Rattle.time_unfold.specs.Stamps.{find_last}
use Rattle.clock_track.specs.Rows.{inside}
use Rattle.clock_track.specs.state.Search.{test_of}
use Rattle.clock_track.specs.Views.{row_of}
use Rattle.clock_track.proofs.search.latest_between.Given as goal

-- the result is among the pairs before index `left`
abbrev pub invariant-loop-left : goal.invariant-loop-left
invariant-loop-left l = record {
  within : l.left ≤ l.end;
  same : find_last (test_of l.query) (filter_map (inside l.row.shift (row_of l.row.points)) (range_with_len l.first (l.left - l.first)))
      ≡ find_last (test_of l.query) (filter_map (inside l.row.shift (row_of l.row.points)) (range_with_len l.first (l.end - l.first)));
}

abbrev pub decreases-loop-left : goal.decreases-loop-left
decreases-loop-left l = l.left
