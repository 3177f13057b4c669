use Rattle.std.proofs.Common.{◌≡◌, ◌-◌, ◌≤◌, ◌++◌, length}
use Rattle.std.specs.List.{list_any}
use Rattle.sample_schedule.specs.Instants.{IsInstantOf}
use Rattle.talk_plan.specs.Plan.{interval_of}
use Rattle.am824_gateway.specs.Pieces.{block_after, is_late, pieces_from, pieces_of}
use Rattle.am824_gateway.proofs.piece.cut_by_instants.Given as goal

abbrev pub invariant-loop-instant : goal.invariant-loop-instant
invariant-loop-instant l =
    record {
      pieces : l.pieces.list.items ++ pieces_from l.fn.to l.shape l.batch (l.batch.count - length l.pieces.list.items) l.instant.j l.next ≡ pieces_of l.fn.to l.shape l.batch l.block;
      block : l.next ≡ block_after (interval_of l.shape.rate) l.block l.pieces.list.items;
      late : l.late ≡ list_any (is_late l.batch) l.pieces.list.items;
      few : length l.pieces.list.items ≤ l.instant.j;
      within : l.instant.j ≤ l.batch.count;
      is : IsInstantOf l.instant l.batch;
    }

abbrev pub decreases-loop-instant : goal.decreases-loop-instant
decreases-loop-instant l = l.batch.count - l.instant.j
