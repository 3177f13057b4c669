use Rattle.std.proofs.Common.{◌≡◌, ◌<◌, Some, refl, arith}
use Rattle.std.specs.Prelude.{slice_get}
use Rattle.talker.specs.Frames.{numbered_frames}
use Rattle.talker.specs.state.Talking.{stream_in}
use Rattle.talker.specs.state.Turns.{turn_frame}
use Rattle.talker.proofs.StreamLemmas.{at_number, count_of, packets_in}
use Rattle.talker.proofs.talker.Talker.packet.Goals as goal

pub turn-turn-requires : goal.turn-turn-requires
turn-turn-requires c =
    let count = count_of (stream_in c.self.inside.source) in
    let known = rw (← c.self.view_is) at c.requires in
    record { source_is = c.self.invariant.source; known = omega arith }

pub lend-requires : goal.lend-requires
lend-requires c = rw (← c.self.view_is) c.turn-turn.ensures.sends

pub returns : goal.returns
returns c =
    let s = stream_in c.self.inside.source in
    let count = count_of s in
    let known = rw (← c.self.view_is) at c.requires in
    let below : c.args.n < packets_in s = omega arith in
    let at : slice_get (numbered_frames s) c.args.n ≡ Some (turn_frame s c.turn-turn.result) = rw (c.turn-turn.ensures.clock_is, c.turn-turn.ensures.number_is)
    (at_number s c.args.n below) in (
      (refl, (λ _. tt), c.lend.follows.holds-at-none),
      record {
        frame = rw c.lend.ensures.lent.frame (rw (← c.self.view_is) at);
        fits = c.lend.ensures.lent.fits;
        size = c.lend.ensures.lent.size;
        after = tt;
      },
    )
