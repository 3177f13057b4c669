use Rattle.std.proofs.Common.{ap, rules, sym, subst, ◌∙◌}
use Rattle.schedule_judge.specs.Judge.{JudgeState, StandsFor}
use Rattle.schedule_judge.proofs.JudgeLemmas.{closes}
use Rattle.schedule_judge.proofs.judge.Judge.close.Goals as goal

pub returns : goal.returns
returns c = record {
  stands = λ clock entries given st.
      closes clock entries given _ (subst (λ (s : JudgeState). StandsFor clock entries given s) (sym c.self.view_is) st)
      (ap (λ (s : JudgeState). s.closed) c.self.view_is ∙ c.requires.open);
  same = search rules;
}
