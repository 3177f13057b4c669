use Rattle.std.proofs.Common.{◌≡◌, ◌≤◌, None, length, take, map}
use Rattle.pcap_frames.specs.Pieces.{joined, kept}
use Rattle.pcap_frames.specs.Reading.{HasRead, held, taken}
use Rattle.pcap_frames.proofs.pieces.read_pieces.Given as goal

abbrev pub invariant-loop-piece : goal.invariant-loop-piece
invariant-loop-piece l = record {
  bounded : taken l.reader ≤ length (joined (take l.piece-index l.pieces));
  free : held l.reader ≡ None;
  read : HasRead l.reader (joined (take l.piece-index l.pieces)) (map kept l.records.items);
}
