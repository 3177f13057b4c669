use Rattle.std.proofs.Common.{◌≡◌, ◌++◌, take, drop}
use Rattle.std.specs.List.{find}
use Rattle.listener_pair.specs.Pairs.{without_first}
use Rattle.listener_pair.specs.state.Window.{takes_by}
use Rattle.listener_pair.proofs.window.find_partner.Given as goal

-- no batch before index `i` passes the test
abbrev pub invariant-loop-i : goal.invariant-loop-i
invariant-loop-i l = record {
  found : find (takes_by l.side l.x) l.waiting.items ≡ find (takes_by l.side l.x) (drop l.i l.waiting.items);
  left : without_first (takes_by l.side l.x) l.waiting.items ≡ take l.i l.waiting.items ++ without_first (takes_by l.side l.x) (drop l.i l.waiting.items);
}
