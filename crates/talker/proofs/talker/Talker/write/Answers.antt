use Rattle.std.proofs.Common.{ℕ, ◌+◌, subst}
use Rattle.talk_clock.specs.Streams.{IsClockOf}
use Rattle.talker.specs.Talking.{Talking}
use Rattle.talker.specs.state.Talking.{input_in, plan_in}
use Rattle.talker.proofs.TurnLemmas.{sending, sent_next}
use Rattle.talker.proofs.talker.Talker.write.Goals as goal

pub write_frame-requires : goal.write_frame-requires
write_frame-requires c =
    let t : Talking = record {
      plan = plan_in c.self.inside.source;
      input = input_in
          c.self.inside.source;
      given = c.self.inside.given_clocks + c.self.inside.given_packets;
    } in
    let is = c.self.invariant in
    let source = c.self.inside.source in
    record {
      sending = record {
        source_is = is.source;
        clock_is = subst (λ (n : ℕ). IsClockOf c.self.inside.clock (plan_in source) n) is.packets is.clock;
        sends = (sending t c.args.turn (rw (← c.self.view_is) at c.requires.turn)).sends;
      };
      room = c.requires.room;
    }

pub returns : goal.returns
returns c =
    let t : Talking = record {
      plan = plan_in c.self.inside.source;
      input = input_in
          c.self.inside.source;
      given = c.self.inside.given_clocks + c.self.inside.given_packets;
    } in
    rw (← c.self.view_is) (sent_next t c.args.turn c.write_frame.new.out (rw (← c.self.view_is) at c.requires.turn) c.write_frame.ensures)
