use Rattle.std.proofs.Common.{◌≡◌, ◌*◌, ◌∙◌, arith}
use Rattle.am824_gateway.specs.Labels.{value_in, value_out}
use Rattle.am824_gateway.proofs.packet.Stream.write.Goals as goal

pub turn_values-requires : goal.turn_values-requires
turn_values-requires c =
    let s = c.args.self.now in
    let n = c.args.piece.count in
    let before : n * (value_in s.to * s.shape.channels) ≡ n * s.shape.channels * value_in s.to = omega arith in
    let after : n * (value_out s.to * s.shape.channels) ≡ n * s.shape.channels * value_out s.to = omega arith in
    rw c.from.ensures record {
      size = c.requires.size ∙ before;
      room = omega (arith, after, c.split_at_mut-headers.ensures.back_len, c.requires.room, c.headers_size.ensures);
    }
