use Rattle.std.proofs.Common.{sym}
use Rattle.gateway_command.proofs.Putting.{piece_size}
use Rattle.gateway_command.proofs.turning.PieceFrameSpelled.size.Goals as goal

pub returns : goal.returns
returns c = let p = c.args.self.now in sym (piece_size p.gateway.now p.index p.turn p.piece)
