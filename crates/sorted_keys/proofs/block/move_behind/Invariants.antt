use Rattle.std.proofs.Common.{◌≡◌, ◌+◌, ◌≤◌, ◌++◌, length}
use Rattle.std.specs.VecDeque.{deque_capacity}
use Rattle.sorted_keys.proofs.block.move_behind.Given as goal

abbrev pub invariant-loop-keys : goal.invariant-loop-keys
invariant-loop-keys l = record {
  all : l.keys.items ++ l.others.items ≡ l.fn.keys.items ++ l.fn.others.items;
  left : l.count ≤ length l.keys.items;
  room : length l.keys.items + length l.others.items ≤ l.count + deque_capacity l.others;
  capacity : deque_capacity l.keys ≡ deque_capacity l.fn.keys;
  others : deque_capacity l.others ≡ deque_capacity l.fn.others;
}

abbrev pub decreases-loop-keys : goal.decreases-loop-keys
decreases-loop-keys l = length l.keys.items
