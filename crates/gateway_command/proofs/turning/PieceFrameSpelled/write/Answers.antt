use Rattle.std.proofs.Common.{◌∙◌}
use Rattle.gateway_command.proofs.Putting.{piece_size, piece_written}
use Rattle.gateway_command.proofs.turning.PieceFrameSpelled.write.Goals as goal

pub write-requires : goal.write-requires
write-requires c = let p = c.args.self.now in record { turn = p.piece; room = c.requires ∙ piece_size p.gateway.now p.index p.turn p.piece }

pub returns : goal.returns
returns c = let p = c.args.self.now in piece_written p.gateway.now p.index p.turn c.write.new.out c.write.ensures
