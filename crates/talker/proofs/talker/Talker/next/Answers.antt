use Rattle.std.proofs.Common.{Some, refl, sym, ap, ◌∙◌}
use Rattle.talker.specs.Frames.{SentFrame}
use Rattle.talker.specs.Talking.{Talking}
use Rattle.talker.specs.Turns.{IsTurn}
use Rattle.talker.proofs.TurnLemmas.{frame_next, sending}
use Rattle.talker.proofs.talker.Talker.next.Goals as goal

pub lend-requires : goal.lend-requires
lend-requires c = rw c.go_on.ensures (sending c.args.self.now c.in_ok-turn.turn c.in_ok-turn.ensures.turn).sends

pub returns : goal.returns
returns c =
    let t : Talking = c.args.self.now in
    let is : IsTurn t c.in_ok-turn.turn = c.in_ok-turn.ensures.turn in
    let lent = rw c.go_on.ensures at c.lend.ensures.lent.frame in (
      (refl, (λ _. tt), c.lend.follows.holds-at-none ∙ c.go_on.ensures),
      record {
        frame = ap (λ (f : SentFrame). Some f) (lent ∙ sym (sending t c.in_ok-turn.turn is).same) ∙ sym (frame_next t c.in_ok-turn.turn is).next;
        fits = c.lend.ensures.lent.fits;
        size = c.lend.ensures.lent.size;
        after = tt;
      },
    )
