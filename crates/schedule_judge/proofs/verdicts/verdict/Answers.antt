use Rattle.std.proofs.Common.{◌≡◌, Result, Ok, Err, sym, ap, ◌∙◌, arith, w64, to_z, of_z}
use Rattle.std.proofs.lemmas.Int.{ints}
use Rattle.sample_schedule.specs.Batches.{Presented}
use Rattle.sample_schedule.specs.declared.shown.Reason.{Reason}
use Rattle.sample_schedule.specs.Verdicts.{timed, verdict}
use Rattle.sample_schedule.proofs.VerdictLemmas.{verdict-waiting}
use Rattle.schedule_judge.proofs.verdicts.verdict.Goals as goal

pub returns-in-Ok-clause-judged : goal.returns-in-Ok-clause-judged
returns-in-Ok-clause-judged c clock prefix earlier lines known e =
    let is : Ok c.in-Ok.batch ≡ timed clock c.args.plan.now prefix c.args.item =
    sym c.in-Ok.is ∙ c.timed.ensures clock prefix lines known in
    let now : to_z w64 (of_z w64 c.args.now) ≡ c.args.now = omega (arith, ints) in
    let judged = rw now at c.judge.ensures.judged in
    judged ∙ verdict-waiting c.args.plan.now c.args.now earlier c.args.place c.in-Ok.batch c.args.waiting.now.list e
    ∙ ap (λ (r : Result Presented Reason). verdict c.args.plan.now c.args.now earlier c.args.place r) is

pub returns-in-Err-clause-judged : goal.returns-in-Err-clause-judged
unfolding verdict
returns-in-Err-clause-judged c clock prefix earlier lines known e =
    let is : Err c.in-Err.reason ≡ timed clock c.args.plan.now prefix c.args.item =
    sym c.in-Err.is ∙ c.timed.ensures clock prefix lines known in
    ap (λ (r : Result Presented Reason). verdict c.args.plan.now c.args.now earlier c.args.place r) is
