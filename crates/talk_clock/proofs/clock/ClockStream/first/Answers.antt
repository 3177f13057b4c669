use Rattle.std.proofs.Common.{refl, arith}
use Rattle.talk_clock.proofs.ClockLemmas.{few_points, first_within}
use Rattle.talk_clock.proofs.clock.ClockStream.first.Goals as goal

pub overflow_mul-result : goal.overflow_mul-result
overflow_mul-result c =
    let clock = c.args.self.now in
    let within = first_within clock c.args.m c.requires.clock c.requires.known in
    let few = few_points clock c.requires.clock in
    rw c.from.ensures (omega (arith, within, few))

pub returns : goal.returns
returns c =
    let known = first_within c.args.self.now c.args.m c.requires.clock c.requires.known in
    rw c.from.ensures (record { value = refl; known = record { clock = c.requires.clock; known = known } })
