use Rattle.std.proofs.Common.{List, sym, subst}
use Rattle.sample_schedule.specs.declared.entry.Entry.{Entry}
use Rattle.sample_schedule.specs.declared.shown.Shown.{Shown}
use Rattle.schedule_judge.specs.state.Judge.{HasGiven}
use Rattle.sample_schedule.specs.Verdicts.{Clock}
use Rattle.schedule_judge.proofs.GivenLemmas.{given-all, given-more, given-on}
use Rattle.schedule_judge.proofs.JudgeLemmas.{keeps-all}
use Rattle.schedule_judge.proofs.whole.give_all.Goals as goal

pub loop-shown-preserved : goal.loop-shown-preserved
loop-shown-preserved c = record {
  given = λ (clock : Clock) (entries : List Entry). λ h.
      let here = c.loop-shown.invariant.given clock entries h in
      subst (λ (l : List Shown). HasGiven clock entries l c.next_out.new.self) (sym c.in_ok-push.ensures.items)
      (given-more clock entries c.loop-shown.list.items c.in-Some.shown c.loop-shown.judge c.next_out.new.self here (c.in-Some.ensures.given clock entries _ here.stands) (c.in-Some.ensures.stands clock entries _ here.stands) c.in-Some.ensures.keeps);
  keeps = keeps-all _ _ _ c.loop-shown.invariant.keeps c.in-Some.ensures.keeps;
}

pub returns : goal.returns
returns c = record {
  given = λ clock entries h.
      let here = c.loop-shown.invariant.given clock entries h in
      given-on clock entries c.loop-shown.list.items c.loop-shown.judge c.next_out.new.self here (c.in_default.ensures.stands clock entries _ here.stands) c.in_default.ensures.keeps;
  all = λ clock entries h.
      let here = c.loop-shown.invariant.given clock entries h in
      given-all clock entries c.loop-shown.list.items c.loop-shown.judge c.next_out.new.self here (c.in_default.ensures.given clock entries _ here.stands) c.in_default.ensures.keeps;
  idle = c.in_default.ensures.idle;
  keeps = keeps-all _ _ _ c.loop-shown.invariant.keeps c.in_default.ensures.keeps;
}
