use Rattle.std.proofs.Common.{refl, ◌∙◌}
use Rattle.talker.specs.state.Talking.{stream_in}
use Rattle.talker.proofs.StreamLemmas.{packets_in}
use Rattle.talker.proofs.TurnLemmas.{beside_is, clock_sized}
use Rattle.talker.proofs.talker.write_frame.Goals as goal

pub write-requires-clause-room : goal.write-requires-clause-room
write-requires-clause-room c =
    let s = stream_in c.args.source.now in
    let by = beside_is c.args.source.now c.args.clock.now c.in-Some.clock (packets_in s) c.in-Some.is c.requires.sending.source_is refl
    c.requires.sending.clock_is in
    c.requires.room ∙ (rw c.if-turn.true at c.requires.sending.sends.size) ∙ clock_sized s c.in-Some.clock c.args.turn.number by
