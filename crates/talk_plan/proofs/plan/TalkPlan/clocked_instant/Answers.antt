use Rattle.std.proofs.Common.{ℕ, ◌/◌, ◌-◌, ◌<◌, ◌≤◌, sym, ◌∙◌, arith}
use Rattle.talk_plan.specs.Stamps.{beat_of}
use Rattle.talk_plan.specs.Plan.{spacing_of}
use Rattle.talk_plan.specs.Timing.{event_of, nominal_instant, run_of, run_start}
use Rattle.talk_plan.proofs.BeatLemmas.{computed, rising, stamped_early}
use Rattle.talk_plan.proofs.StampLemmas.{is_beat}
use Rattle.talk_plan.proofs.plan.TalkPlan.clocked_instant.Goals as goal

pub returns-then-event-spacing : goal.returns-then-event-spacing
unfolding nominal_instant
returns-then-event-spacing c =
    let plan = c.args.self.now in
    let early : event_of plan c.args.n c.args.i < spacing_of c.args.crf.now
    plan.rate = omega (arith, c.event-event.ensures.value, c.spacing-spacing.ensures.value) in
    c.instant.ensures.value ∙ sym (stamped_early (beat_of c.args.crf.now plan) (run_start plan (run_of plan c.args.n)) (event_of plan c.args.n c.args.i) early)

pub overflow_sub-period : goal.overflow_sub-period
overflow_sub-period c =
    let plan = c.args.self.now in
    let m : ℕ = c.event-event.result / spacing_of c.args.crf.now plan.rate in
    let is = is_beat plan c.args.crf.now c.requires.frame.packet.talked c.requires.clock in
    let more = rising (beat_of c.args.crf.now plan) (m - 1) m is (omega arith) in
    let same = c.spacing-spacing.ensures.value in
    rw (c.offset.ensures, c.offset-offset.ensures, same) more

pub returns : goal.returns
returns c =
    let plan = c.args.self.now in
    let crf = c.args.crf.now in
    let late : spacing_of crf plan.rate ≤ event_of plan c.args.n
    c.args.i = omega (arith, c.event-event.ensures.value, c.spacing-spacing.ensures.value, c.if-event-spacing.false) in
    rw c.run_start.ensures.value
    (computed (beat_of crf plan) (run_start plan (run_of plan c.args.n)) (event_of plan c.args.n c.args.i) c.offset-offset.result c.offset.result c.part.result
    late
    (rw (← c.event-event.ensures.value, ← c.spacing-spacing.ensures.value) c.offset-offset.ensures)
    (rw (← c.event-event.ensures.value, ← c.spacing-spacing.ensures.value) c.offset.ensures)
    (rw (← c.event-event.ensures.value, ← c.spacing-spacing.ensures.value) c.part.ensures.value))
