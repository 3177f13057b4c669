use Rattle.std.proofs.Common.{◌≡◌, ◌≤◌, length, drop}
use Rattle.clock_track.specs.Rows.{used}
use Rattle.clock_track.proofs.over.recent.Given as goal

-- the number of rows from index `start` on that give points is `found`
abbrev pub invariant-loop-start : goal.invariant-loop-start
invariant-loop-start l = record {
  within : l.start ≤ length l.rows;
  found : length (used (drop l.start l.rows)) ≡ l.found;
  few : l.found ≤ 64;
}

abbrev pub decreases-loop-start : goal.decreases-loop-start
decreases-loop-start l = l.start
