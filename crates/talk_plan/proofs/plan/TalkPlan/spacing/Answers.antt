use Rattle.std.proofs.Common.{refl}
use Rattle.talk_plan.specs.Plan.{spacing_of}
use Rattle.talk_plan.proofs.StampLemmas.{is_beat}
use Rattle.talk_plan.proofs.plan.TalkPlan.spacing.Goals as goal

pub returns-clause-value : goal.returns-clause-value
unfolding spacing_of
returns-clause-value c = rw (c.from.ensures, c.from-2.ensures, c.pull_down.ensures.value, c.from-3.ensures, c.pull_up.ensures.value) refl

pub returns-clause-some : goal.returns-clause-some
unfolding spacing_of
returns-clause-some c =
    rw (c.from.ensures, c.from-2.ensures, c.pull_down.ensures.value, c.from-3.ensures, c.pull_up.ensures.value)
    (is_beat c.args.self.now c.args.crf.now c.requires.plan c.requires.clock).some
