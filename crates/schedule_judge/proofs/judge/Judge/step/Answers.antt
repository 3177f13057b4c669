use Rattle.std.proofs.Common.{◌+◌, rules, ap, sym, subst, ◌∙◌}
use Rattle.sample_schedule.specs.declared.entry.Entry.TheVariants.{Item as OfItem}
use Rattle.schedule_judge.specs.Judge.{JudgeState, StandsFor, taken}
use Rattle.schedule_judge.proofs.JudgeLemmas.{takes}
use Rattle.schedule_judge.proofs.JudgeSound.{taken-put}
use Rattle.schedule_judge.proofs.judge.Judge.step.Goals as goal

pub returns : goal.returns
returns c = record {
  stands = λ clock entries given st.
      let here = subst (λ (s : JudgeState). StandsFor clock entries given s) (sym c.self.view_is) st in
      takes clock entries given (OfItem c.args.item) _ _ _ here (ap (λ (s : JudgeState). s.closed) c.self.view_is ∙ c.requires.ready.open) (ap (λ (s : JudgeState). s.current) c.self.view_is ∙ c.requires.ready.idle)
      (c.note_item.ensures _ entries here.noted) c.put.ensures;
  plan = search rules;
  taken = taken-put _ _ _ (ap (λ (s : JudgeState). s.current) c.self.view_is ∙ c.requires.ready.idle) c.put.ensures ∙ ap (λ (s : JudgeState). taken s + 1) c.self.view_is;
  «open» = search rules;
}
