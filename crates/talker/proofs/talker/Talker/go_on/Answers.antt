use Rattle.std.proofs.Common.{◌≡◌, ◌+◌, ℕ, arith}
use Rattle.talker.specs.state.Frames.{left_of}
use Rattle.talker.specs.state.Talking.{input_in, plan_in, stream_in}
use Rattle.talker.specs.Turns.{frame_in}
use Rattle.talker.proofs.SourceLemmas.{few_packets}
use Rattle.talker.proofs.StreamLemmas.{frames_of}
use Rattle.talker.proofs.TalkLemmas.{moved, source_is, went_on}
use Rattle.talker.proofs.TurnLemmas.{clock_turn, frame_next, packet_turn}
use Rattle.talker.proofs.talker.Talker.go_on.Goals as goal

pub invariant_of-self : goal.invariant_of-self
invariant_of-self c =
    let t = c.self.invariant in
    let s = stream_in c.self.inside.source in
    let a : ℕ = c.self.inside.given_clocks in
    let b : ℕ = c.self.inside.given_packets in
    let is = frame_next (record { plan = plan_in c.self.inside.source; input = input_in c.self.inside.source; given = a + b }) c.args.turn
    (rw (← c.self.view_is) at c.requires) in
    let next = clock_turn (plan_in c.self.inside.source) s a b (frame_in c.args.turn is.bytes) (source_is c.self.inside.source t.source)
    (omega (arith, t.clocks, t.given_clocks)) (omega (arith, t.packets, t.given_packets)) t.left is.next c.if-turn.true in
    record {
      source = t.source;
      packets = t.packets;
      clock = t.clock;
      clocks = t.clocks;
      given_packets = t.given_packets;
      given_clocks = omega (arith, t.clocks, next.more);
      left = moved (frames_of s) (left_of s (a + 1) b) (omega arith) next.step.next;
      room = t.room;
    }

pub overflow_add-self-else-turn : goal.overflow_add-self-else-turn
overflow_add-self-else-turn c =
    let t = c.self.invariant in
    let s = stream_in c.self.inside.source in
    omega (arith, t.packets, t.given_packets, few_packets c.self.inside.source t.source)

pub invariant_of-self-else-turn : goal.invariant_of-self-else-turn
invariant_of-self-else-turn c =
    let t = c.self.invariant in
    let s = stream_in c.self.inside.source in
    let a : ℕ = c.self.inside.given_clocks in
    let b : ℕ = c.self.inside.given_packets in
    let is = frame_next (record { plan = plan_in c.self.inside.source; input = input_in c.self.inside.source; given = a + b }) c.args.turn
    (rw (← c.self.view_is) at c.requires) in
    let next = packet_turn (plan_in c.self.inside.source) s a b (frame_in c.args.turn is.bytes) (source_is c.self.inside.source t.source)
    (omega (arith, t.clocks, t.given_clocks)) (omega (arith, t.packets, t.given_packets)) t.left is.next c.if-turn.false in
    record {
      source = t.source;
      packets = t.packets;
      clock = t.clock;
      clocks = t.clocks;
      given_packets = omega (arith, t.packets, next.more);
      given_clocks = t.given_clocks;
      left = moved (frames_of s) (left_of s a (b + 1)) (omega arith) next.step.next;
      room = t.room;
    }

pub returns-then-turn : goal.returns-then-turn
returns-then-turn c =
    let t = c.self.invariant in
    let plan = plan_in c.self.inside.source in
    let s = stream_in c.self.inside.source in
    let a : ℕ = c.self.inside.given_clocks in
    let b : ℕ = c.self.inside.given_packets in
    let is = frame_next (record { plan = plan_in c.self.inside.source; input = input_in c.self.inside.source; given = a + b }) c.args.turn
    (rw (← c.self.view_is) at c.requires) in
    let next = clock_turn plan s a b (frame_in c.args.turn is.bytes) (source_is c.self.inside.source t.source)
    (omega (arith, t.clocks, t.given_clocks)) (omega (arith, t.packets, t.given_packets)) t.left is.next c.if-turn.true in
    let order : a + 1 + b ≡ a + b + 1 = omega arith in
    rw (← c.self.view_is, order) (went_on (record { plan = plan; input = input_in c.self.inside.source; given = a + b }) next.step.below)

pub returns-else-turn : goal.returns-else-turn
returns-else-turn c =
    let t = c.self.invariant in
    let plan = plan_in c.self.inside.source in
    let s = stream_in c.self.inside.source in
    let a : ℕ = c.self.inside.given_clocks in
    let b : ℕ = c.self.inside.given_packets in
    let is = frame_next (record { plan = plan_in c.self.inside.source; input = input_in c.self.inside.source; given = a + b }) c.args.turn
    (rw (← c.self.view_is) at c.requires) in
    let next = packet_turn plan s a b (frame_in c.args.turn is.bytes) (source_is c.self.inside.source t.source)
    (omega (arith, t.clocks, t.given_clocks)) (omega (arith, t.packets, t.given_packets)) t.left is.next c.if-turn.false in
    let order : a + (b + 1) ≡ a + b + 1 = omega arith in
    rw (← c.self.view_is, order) (went_on (record { plan = plan; input = input_in c.self.inside.source; given = a + b }) next.step.below)
