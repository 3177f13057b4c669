use Rattle.std.proofs.Common.{◌≡◌, ◌+◌, ◌-◌, ◌≤◌}
use Rattle.sample_schedule.specs.Instants.{IsInstantOf}
use Rattle.am824_gateway.specs.Pieces.{going_on, is_nominal}
use Rattle.am824_gateway.proofs.piece.count_piece.Given as goal

abbrev pub invariant-loop-count : goal.invariant-loop-count
invariant-loop-count l =
    record {
      value : going_on (is_nominal l.rate l.batch l.fn.instant.j) l.count (l.limit - l.count) ≡ going_on (is_nominal l.rate l.batch l.fn.instant.j) 1 (l.limit - 1);
      some : 1 ≤ l.count;
      most : l.count ≤ l.limit;
      after : l.instant.j ≡ l.fn.instant.j + l.count;
      is : IsInstantOf l.instant l.batch;
    }

abbrev pub decreases-loop-count : goal.decreases-loop-count
decreases-loop-count l = l.limit - l.count
