use Rattle.std.proofs.Common.{arith, rules, ap}
use Rattle.capture_hearing.proofs.HearingTo.{goes_still, sound_on, sound_over, goes_out, goes_then, goes_over, pull_none}
use Rattle.capture_hearing.specs.Hearing.{pull_at}
use Rattle.capture_hearing.proofs.hearing.Hearing.next.Goals as goal

pub loop-shown-init : goal.loop-shown-init
loop-shown-init g c = record { going = c.requires.1; on = goes_still (λ begun first fresh earlier was. was) c.requires.0 (omega arith) }

pub invariant_of-self : goal.invariant_of-self
invariant_of-self g c = record { sound = sound_on c.loop-shown.self.sound c.next_out.ensures }

pub invariant_of-self-in_default-stage : goal.invariant_of-self-in_default-stage
invariant_of-self-in_default-stage g c = record { sound = sound_on c.loop-shown.self.sound c.next_out.ensures }

pub invariant_of-self-in-Showing : goal.invariant_of-self-in-Showing
invariant_of-self-in-Showing g c = record { sound = sound_over c.in-Showing.end c.in-Showing.is (sound_on c.loop-shown.self.sound c.next_out.ensures) }

pub returns-in-Some : goal.returns-in-Some
returns-in-Some g c =
    let before = c.loop-shown.invariant in
    record {
      on = goes_then before.on (goes_out before.on.live c.loop-shown.self.sound before.going c.in-Some.ensures);
      ended = (search rules);
    }

pub returns-in-Showing : goal.returns-in-Showing
returns-in-Showing g c =
    let before = c.loop-shown.invariant in
    record {
      on = rw (c.pull_of.ensures, pull_none c.in-Showing.end) (goes_then before.on (goes_over before.on.live c.loop-shown.self.sound c.in-Showing.end c.in-Showing.is c.in_default.ensures));
      ended = (search rules);
    }

pub returns-in-Err : goal.returns-in-Err
returns-in-Err g c =
    let before = c.loop-shown.invariant in
    record {
      on = goes_then before.on (goes_then (goes_out before.on.live c.loop-shown.self.sound before.going c.in_default.ensures) c.in-Err.ensures.on);
      ended = ap pull_at c.in-Err.ensures.stage;
    }

pub loop-shown-preserved : goal.loop-shown-preserved
loop-shown-preserved g c =
    let before = c.loop-shown.invariant in
    record {
      going = c.in-Ok.ensures.stage.0;
      on = goes_then before.on (goes_then (goes_out before.on.live c.loop-shown.self.sound before.going c.in_default.ensures) c.in-Ok.ensures.on);
    }
