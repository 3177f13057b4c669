use Rattle.std.proofs.Common.{◌≡◌, ◌<◌, pos, refl, sym, ap, ◌∙◌, arith}
use Rattle.std.proofs.lemmas.Int.{ints}
use mir.Val.{of_z, to_z}
use mir.Syntax.{w64}
use Rattle.talk_clock.specs.Clock.{clock_arrival}
use Rattle.talker.specs.state.Talking.{plan_in, stream_in}
use Rattle.talker.proofs.StreamLemmas.{clocks_in, count_clock}
use Rattle.talker.proofs.TalkLemmas.{clock_sent_as, source_is}
use Rattle.talker.proofs.TurnLemmas.{beside_is, clock_sized}
use Rattle.talker.proofs.talker.Talker.clock_turn.Goals as goal

pub arrival-requires : goal.arrival-requires
arrival-requires c =
    let t = c.self.invariant in
    let by = beside_is c.self.inside.source c.self.inside.clock c.in-Some.clock c.self.inside.packets c.in-Some.is t.source t.packets t.clock in
    let count = count_clock (stream_in c.self.inside.source) in
    let known = rw (← c.self.view_is) at c.requires in
    record { clock = by.clock; known = omega (arith, by.count) }

pub frame_size-requires : goal.frame_size-requires
frame_size-requires c =
    let t = c.self.invariant in
    let by = beside_is c.self.inside.source c.self.inside.clock c.in-Some.clock c.self.inside.packets c.in-Some.is t.source t.packets t.clock in
    let count = count_clock (stream_in c.self.inside.source) in
    let known = rw (← c.self.view_is) at c.requires in
    record { clock = by.clock; known = omega (arith, by.count) }

pub returns : goal.returns
returns c =
    let t = c.self.invariant in
    let source = c.self.inside.source in
    let s = stream_in source in
    let clock = c.in-Some.clock in
    let by = beside_is source c.self.inside.clock clock c.self.inside.packets c.in-Some.is t.source t.packets t.clock in
    let count = count_clock s in
    let known = rw (← c.self.view_is) at c.requires in
    let below : c.args.m < clocks_in s = omega arith in
    let sent = clock_sent_as (plan_in source) s clock c.args.m (source_is source t.source) by below in
    let at : to_z w64 (of_z w64 c.arrival.result) ≡ pos (clock_arrival clock.crf clock.plan c.args.m) = omega (arith, ints, sent.early) in
    rw (← c.self.view_is) (record {
      sends = record {
        known = below;
        arrival = at ∙ sym (ap pos (by.arrival c.args.m));
        size = c.frame_size.ensures ∙ sym (clock_sized s clock c.args.m by);
      };
      number_is = refl;
      clock_is = refl;
    })
