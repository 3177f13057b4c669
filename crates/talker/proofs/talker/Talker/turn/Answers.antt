use Rattle.std.proofs.Common.{◌≡◌, ◌≢◌, ◌+◌, ◌<◌, ◌≤◌, true, false, ℕ, Some, length, refl, arith}
use Rattle.std.specs.Prelude.{slice_get}
use Rattle.talker.specs.state.Talking.{IsClockFirst, input_in, plan_in, stream_in}
use Rattle.talker.specs.state.Turns.{SendsPacket, turn_frame}
use Rattle.talker.proofs.StreamLemmas.{count_all, count_clock, frames_of, packets_in}
use Rattle.talker.proofs.TalkLemmas.{clock_step, ended, later, packet_step, sooner, source_is}
use Rattle.talker.proofs.TurnLemmas.{is_turn}
use Rattle.talker.proofs.talker.Talker.turn.Goals as goal

below : (b packets : ℕ) → b ≤ packets → b ≢ packets → b < packets
below b packets most other = omega arith

pub clock_turn-requires : goal.clock_turn-requires
clock_turn-requires c =
    let t = c.self.invariant in
    let plan = plan_in c.self.inside.source in
    let s = stream_in c.self.inside.source in
    let of = source_is c.self.inside.source t.source in
    let soon = sooner c.self.inside.clock plan s c.self.inside.packets c.self.inside.given_clocks c.self.inside.given_packets of t.packets t.clock
    (c.if-clock_is_first.ensures.0 refl) in
    rw (← c.self.view_is) (omega (arith, soon.0, count_clock s))

pub returns-then-clock_is_first-clause-turn : goal.returns-then-clock_is_first-clause-turn
returns-then-clock_is_first-clause-turn c =
    let t = c.self.invariant in
    let plan = plan_in c.self.inside.source in
    let s = stream_in c.self.inside.source in
    let of = source_is c.self.inside.source t.source in
    let a : ℕ = c.self.inside.given_clocks in
    let b : ℕ = c.self.inside.given_packets in
    let soon = sooner c.self.inside.clock plan s c.self.inside.packets a b of t.packets t.clock (c.if-clock_is_first.ensures.0 refl) in
    let step = clock_step plan s a b of soon.0 soon.1 t.left in
    let sends : SendsPacket s c.clock_turn.result = rw (← c.self.view_is) at c.clock_turn.ensures.sends in
    let at : slice_get (frames_of s) (a + b) ≡ Some (turn_frame s c.clock_turn.result) = rw (c.clock_turn.ensures.clock_is, c.clock_turn.ensures.number_is)
    step.at in
    rw (← c.self.view_is) (is_turn (record { plan = plan; input = input_in c.self.inside.source; given = a + b }) c.clock_turn.result of sends at)

pub returns-then-n-self-clause-end : goal.returns-then-n-self-clause-end
returns-then-n-self-clause-end c =
    let t = c.self.invariant in
    let plan = plan_in c.self.inside.source in
    let s = stream_in c.self.inside.source in
    let of = source_is c.self.inside.source t.source in
    let a : ℕ = c.self.inside.given_clocks in
    let b : ℕ = c.self.inside.given_packets in
    let other : ¬ IsClockFirst c.self.inside.clock s a b = λ first. absurd (let e : false ≡ true = c.if-clock_is_first.ensures.1 first in cc) in
    let last = ended c.self.inside.clock plan s c.self.inside.packets a b of t.packets t.clock other c.if-n-self.true
    (omega (arith, t.clocks, t.given_clocks)) in
    let count = count_all s in
    let all : a + b ≡ length (frames_of s) = omega (arith, count, last, c.if-n-self.true, t.packets) in
    rw (← c.self.view_is) all

pub returns-clause-turn : goal.returns-clause-turn
returns-clause-turn c =
    let t = c.self.invariant in
    let plan = plan_in c.self.inside.source in
    let s = stream_in c.self.inside.source in
    let of = source_is c.self.inside.source t.source in
    let a : ℕ = c.self.inside.given_clocks in
    let b : ℕ = c.self.inside.given_packets in
    let other : ¬ IsClockFirst c.self.inside.clock s a b = λ first. absurd (let e : false ≡ true = c.if-clock_is_first.ensures.1 first in cc) in
    let more : b < c.self.inside.packets = below b c.self.inside.packets t.given_packets c.if-n-self.false in
    let known : b < packets_in s = omega (arith, more, t.packets) in
    let soon = later c.self.inside.clock plan s c.self.inside.packets a b of t.packets t.clock other more in
    let step = packet_step plan s a b of known soon t.left in
    let at : slice_get (frames_of s) (a + b) ≡ Some (turn_frame s c.turn.result) = rw (c.turn.ensures.clock_is, c.turn.ensures.number_is) step.at in
    rw (← c.self.view_is) (is_turn (record { plan = plan; input = input_in c.self.inside.source; given = a + b }) c.turn.result of c.turn.ensures.sends at)
