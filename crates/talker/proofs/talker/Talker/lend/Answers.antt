use Rattle.std.proofs.Common.{◌≡◌, ◌≤◌, length, refl, subst, sym, ap, rules, take, List, ℕ, ◌∙◌, arith}
use Rattle.std.proofs.lemmas.Grind.{common_steps}
use Rattle.std.proofs.lemmas.Int.{ints}
use mir.Val.{of_z, to_z}
use mir.Syntax.{w64}
use Rattle.pcap_frames.specs.Capture.{HasSpelling}
use Rattle.talker.specs.Frames.{SentFrame, capture_style, record_of}
use Rattle.talk_clock.specs.Streams.{IsClockOf}
use Rattle.talker.specs.state.Talking.{plan_in, stream_in}
use Rattle.talker.specs.Turns.{frame_in}
use Rattle.talker.specs.state.Turns.{SendsPacket, turn_frame}
use Rattle.talker.proofs.TalkLemmas.{source_is}
use Rattle.talker.proofs.TurnLemmas.{framed, turn_early, turn_fits, turn_most}
use Rattle.talker.proofs.talker.Talker.lend.Goals as goal

pub write_front-requires : goal.write_front-requires
write_front-requires c =
    let is = c.self.invariant in
    let source = c.self.inside.source in
    record {
      sending = record {
        source_is = is.source;
        clock_is = subst (λ (n : ℕ). IsClockOf c.self.inside.clock (plan_in source) n) is.packets is.clock;
        sends = rw (← c.self.view_is) at c.requires;
      };
      room = search rules;
    }

pub returns : goal.returns
returns c =
    let source = c.self.inside.source in
    let s = stream_in source in
    let turn = c.args.turn in
    let of = source_is source c.self.invariant.source in
    let sends : SendsPacket s turn = rw (← c.self.view_is) at c.requires in
    let most = turn_most (plan_in source) s turn of sends in
    let kept : c.as_slice.result.now ≡ c.write_front.new.out = grind (arith, common_steps) in
    let made : take turn.size c.as_slice.result.now ≡ (turn_frame s turn).bytes = rw kept c.write_front.ensures in
    let at : to_z w64 (of_z w64 turn.arrival) ≡ turn.arrival = (let early = turn_early (plan_in source) s turn of
    sends in omega (arith, ints, early.is, early.early)) in
    let same : record {
      arrival = to_z w64 (of_z w64 turn.arrival);
      number = turn.number;
      clock = turn.clock;
      bytes = take turn.size
          c.as_slice.result.now;
    } ≡ turn_frame s turn = rw at (ap (frame_in turn) made ∙ framed s turn sends) in
    let size : length (take turn.size c.as_slice.result.now) ≤ 1518 = (let e = ap (λ (xs : List ℕ). length xs) made in omega (arith, e, sends.size, most)) in (
      (refl, (λ _. tt), c.self.view_is),
      record {
        lent = record {
          frame = rw (← c.self.view_is) same;
          fits = let P : SentFrame → Type 0 = λ f. HasSpelling capture_style (record_of f) in subst P (sym same) (turn_fits (plan_in source) s turn of sends);
          size = size;
        };
        after = tt;
      },
    )
