use Rattle.std.proofs.Common.{arith}
use Rattle.std.proofs.lemmas.List.{length-take}
use Rattle.talker.proofs.TurnLemmas.{turn_within}
use Rattle.talker.proofs.talker.write_front.Goals as goal

pub slice_bounds-write_frame-end-2 : goal.slice_bounds-write_frame-end-2
slice_bounds-write_frame-end-2 c =
    let within = turn_within c.args.source.now c.args.turn c.requires.sending.source_is c.requires.sending.sends in
    omega (arith, within, length-take c.args.turn.size c.args.out.now)

pub write_frame-requires : goal.write_frame-requires
write_frame-requires c =
    let within = turn_within c.args.source.now c.args.turn c.requires.sending.source_is c.requires.sending.sends in
    record { sending = c.requires.sending; room = omega (arith, within, c.requires.room, length-take c.args.turn.size c.args.out.now) }

pub slice_bounds-write_frame-end : goal.slice_bounds-write_frame-end
slice_bounds-write_frame-end c =
    let within = turn_within c.args.source.now c.args.turn c.requires.sending.source_is c.requires.sending.sends in
    omega (arith, within, c.requires.room)
