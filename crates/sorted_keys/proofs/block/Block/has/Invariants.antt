use Rattle.std.proofs.Common.{◌≡◌, ◌≤◌, ◌≤ℤ◌, length, take}
use Rattle.std.specs.List.{AllByRecursion, list_any}
use Rattle.sorted_keys.specs.Keys.{is_key}
use Rattle.sorted_keys.proofs.block.Block.has.Given as goal

-- none of the keys that were searched so far is the wanted key
abbrev pub invariant-loop-end : goal.invariant-loop-end
invariant-loop-end l = record {
  within : l.end ≤ length l.self-inside.keys.items;
  not_later : AllByRecursion (λ k. k.instant ≤ℤ l.instant) (take l.end l.self-inside.keys.items);
  same : list_any (is_key l.instant l.seq) (take l.end l.self-inside.keys.items) ≡ list_any (is_key l.instant l.seq) l.self;
}

abbrev pub decreases-loop-end : goal.decreases-loop-end
decreases-loop-end l = l.end
