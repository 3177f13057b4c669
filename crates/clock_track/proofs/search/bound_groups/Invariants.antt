use Rattle.std.proofs.Common.{◌+◌, ◌-◌, ◌*◌, ◌≤◌, vec_len}
use Rattle.clock_track.specs.state.Bounds.{AreGroups}
use Rattle.clock_track.specs.Views.{row_of}
use Rattle.clock_track.proofs.search.bound_groups.Given as goal

-- `groups` holds the bounds of the groups so far
abbrev pub invariant-loop-groups : goal.invariant-loop-groups
invariant-loop-groups l = record {
  few : 32 * vec_len l.groups ≤ l.pairs + 31;
  has : AreGroups l.row.shift (row_of l.row.points) l.groups.items;
}

abbrev pub decreases-loop-groups : goal.decreases-loop-groups
decreases-loop-groups l = l.pairs - 32 * vec_len l.groups
