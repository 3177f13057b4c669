use Rattle.std.proofs.Common.{arith}
use Rattle.talk_clock.proofs.ClockLemmas.{point_within}
use Rattle.talk_clock.proofs.clock.ClockStream.place.Goals as goal

pub overflow_mul-frame : goal.overflow_mul-frame
overflow_mul-frame c =
    let at = point_within c.args.self.now c.args.s c.requires.clock c.requires.known in
    rw c.spacing.ensures.value (omega (arith, at.small))
