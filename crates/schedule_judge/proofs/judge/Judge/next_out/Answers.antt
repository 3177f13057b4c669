-- If the list has ended and all entries are judged, the next item is the first waiting batch.
use Rattle.std.proofs.Common.{ℕ, List, ap, rules, ◌∙◌}
use Rattle.std.specs.Prelude.{slice_get}
use Rattle.sample_schedule.specs.declared.entry.Entry.{Entry}
use Rattle.sample_schedule.specs.declared.shown.Shown.{Shown}
use Rattle.sample_schedule.specs.Verdicts.{Clock}
use Rattle.schedule_judge.specs.Judge.{StandsFor}
use Rattle.schedule_judge.proofs.JudgeLemmas.{keeps-all, none-more, out-keeps}
use Rattle.schedule_judge.proofs.judge.Judge.next_out.Goals as goal

pub returns-then-not-take_ahead : goal.returns-then-not-take_ahead
returns-then-not-take_ahead c =
    let keeps = keeps-all _ _ _ c.loop-shown.invariant.keeps (keeps-all _ _ _ c.give_or_judge.ensures.keeps c.take_ahead.ensures.keeps) in
    let ready = λ (clock : Clock) (entries : List Entry) (given : ℕ) (st : StandsFor clock entries given c.args.self.now).
    c.take_ahead.ensures.stands clock entries given (none-more clock entries given _ (c.in_default.ensures.stands clock entries given (c.loop-shown.invariant.stands clock entries given st))) in
    record {
      given = λ clock entries given st.
          c.give_last.ensures.given clock entries given (ready clock entries given st) ∙ ap (λ (o : List Shown). slice_get o given) (out-keeps clock entries _ _ keeps);
      stands = λ clock entries given st. c.give_last.ensures.stands clock entries given (ready clock entries given st);
      idle = search rules;
      empty = search rules;
      keeps = keeps-all _ _ _ keeps c.give_last.ensures.keeps;
      less = search rules;
    }
