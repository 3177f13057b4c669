use Rattle.std.proofs.Common.{◌≡◌, ◌+◌, ◌-◌, ◌≤◌, ◌++◌, List, ℕ, None, length, take, map}
use Rattle.pcap_frames.specs.Pieces.{kept}
use Rattle.pcap_frames.specs.Reading.{HasRead, held, taken}
use Rattle.pcap_frames.proofs.pieces.read_piece.Given as goal

abbrev pub invariant-loop-used : goal.invariant-loop-used
invariant-loop-used l = record {
  within : l.used ≤ length l.piece;
  bounded : taken l.reader ≤ taken l.fn.reader + l.used;
  free : held l.reader ≡ None;
  read : (bytes : List ℕ) → HasRead l.fn.reader bytes (map kept l.fn.records.items) → HasRead l.reader (bytes ++ take l.used l.piece) (map kept l.records.items);
}

abbrev pub decreases-loop-used : goal.decreases-loop-used
decreases-loop-used l = length l.piece - l.used
