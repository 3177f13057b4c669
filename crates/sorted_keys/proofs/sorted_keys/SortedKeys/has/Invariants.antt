use Rattle.std.proofs.Common.{◌≡◌, ◌≤◌, length, take}
use Rattle.std.specs.List.{list_any}
use Rattle.sorted_keys.specs.Keys.{is_key}
use Rattle.sorted_keys.specs.state.Keys.{all_keys}
use Rattle.sorted_keys.proofs.sorted_keys.SortedKeys.has.Given as goal

-- none of the blocks that were searched so far has the wanted key
abbrev pub invariant-loop-end : goal.invariant-loop-end
invariant-loop-end l = record {
  within : l.end ≤ length l.self-inside.blocks.items;
  same : list_any (is_key l.instant l.seq) (all_keys (take l.end l.self-inside.blocks.items)) ≡ list_any (is_key l.instant l.seq) l.self.list;
}

abbrev pub decreases-loop-end : goal.decreases-loop-end
decreases-loop-end l = l.end
