use Rattle.std.proofs.Common.{◌+◌, length, arith, ap, length-append, take}
use Rattle.pcap_frames.specs.Pieces.{joined}
use Rattle.pcap_frames.proofs.Joined.{joined_more, joined_within}
use Rattle.pcap_frames.proofs.pieces.read_pieces.Goals as goal

pub read_piece-requires : goal.read_piece-requires
read_piece-requires c =
    let more = joined_more _ _ _ c.loop-piece-test.true c.piece-item.is in
    let within = joined_within c.args.pieces.now (c.loop-piece.piece-index + 1) in
    record {
      bounded = omega (arith, ap length more, length-append (joined (take c.loop-piece.piece-index c.args.pieces.now)) c.piece-item.result, within, ap length c.as_slice.ensures);
      free = c.loop-piece.invariant.free;
    }
