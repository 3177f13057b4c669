use Rattle.std.proofs.Common.{◌≡◌, ◌+◌, ◌-◌, ◌≤◌, ◌++◌, ℕ, List, length, take}
use Rattle.pcap_frames.specs.Reading.{taken}
use Rattle.listener.specs.state.Feeding.{CanFeed, HasGiven}
use Rattle.listener.proofs.capture.feed_piece.Given as goal

abbrev pub invariant-loop-used : goal.invariant-loop-used
invariant-loop-used l = record {
  within : l.used ≤ length l.piece;
  bounded : taken l.listener.reader ≤ taken l.fn.listener.reader + l.used;
  ready : CanFeed l.listener;
  plan : l.listener.listener.plan ≡ l.fn.listener.listener.plan;
  given : (bytes : List ℕ) → HasGiven bytes l.fn.list.items l.fn.listener → HasGiven (bytes ++ take l.used l.piece) l.list.items l.listener;
}

abbrev pub decreases-loop-used : goal.decreases-loop-used
decreases-loop-used l = length l.piece - l.used
