use Rattle.std.proofs.Common.{◌≡◌, ◌+◌, ◌≤◌, []}
use Rattle.std.specs.List.{AllByRecursion}
use Rattle.std.specs.Vec.{vec_capacity, vec_len}
use Rattle.sorted_keys.proofs.blocks.spare_blocks.Given as goal

abbrev pub invariant-loop-i : goal.invariant-loop-i
invariant-loop-i l = record {
  spare : AllByRecursion (λ block. block ≡ []) l.spare.items;
  count : vec_len l.spare ≡ l.i;
  capacity : l.count + 1 ≤ vec_capacity l.spare;
}
