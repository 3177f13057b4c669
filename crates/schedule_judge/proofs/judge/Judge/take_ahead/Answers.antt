-- The first entry of the delay line becomes the current one.
use Rattle.std.proofs.Common.{refl, ap, sym, subst, ◌∙◌, rules}
use Rattle.schedule_judge.specs.Judge.{JudgeState, StandsFor}
use Rattle.schedule_judge.proofs.JudgeLemmas.{advances}
use Rattle.schedule_judge.proofs.JudgeSound.{popped}
use Rattle.schedule_judge.proofs.judge.Judge.take_ahead.Goals as goal

pub returns-in-Some : goal.returns-in-Some
returns-in-Some c = record {
  stands = λ clock entries given st.
      let here = subst (λ (s : JudgeState). StandsFor clock entries given s) (sym c.self.view_is) st in
      subst (λ (s : JudgeState). StandsFor clock entries given s) (sym c.judge_next.ensures)
      (advances clock entries given _ c.in-Some.next _ _ here c.if-not-self.false (ap (λ (s : JudgeState). s.current) c.self.view_is ∙ c.requires) (popped c.self.inside.ahead.items c.in-Some.next _ c.pop_front.new.self c.in-Some.ensures.items c.in-Some.ensures.value) refl);
  keeps = search rules;
  less = search rules;
  none = search rules;
  shorter = search rules;
}
