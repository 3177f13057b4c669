use Rattle.std.proofs.Common.{◌≡◌, ap, sym, ◌∙◌, None, Some, rules}
use Rattle.schedule_judge.specs.Judge.{JudgeState}
use Rattle.schedule_judge.proofs.JudgeLemmas.{last-given, nothing-due, nothing-last}
use Rattle.schedule_judge.proofs.judge.Judge.give_last.Goals as goal

pub returns : goal.returns
returns c =
    let ended = ap (λ (s : JudgeState). s.closed) (sym c.self.view_is) ∙ c.if-not-self.false in
    let waits = ap (λ (s : JudgeState). s.waiting) (sym c.self.view_is) ∙ c.in_ok-first.ensures.hands.list in
    let same = ap (λ (s : JudgeState). record s { waiting = c.take_first.new.self.list }) c.self.view_is in
    record {
      given = λ clock entries given st. ap Some c.present.ensures ∙ sym (last-given clock entries given _ _ c.in_ok-first.first st ended c.requires.idle (c.requires.over ended) waits same).next;
      stands = λ clock entries given st. (last-given clock entries given _ _ c.in_ok-first.first st ended c.requires.idle (c.requires.over ended) waits same).stands;
      idle = search rules;
      empty = search rules;
      keeps = search rules;
      less = search rules;
    }

pub returns-in_err-first : goal.returns-in_err-first
returns-in_err-first c =
    let ended = ap (λ (s : JudgeState). s.closed) (sym c.self.view_is) ∙ c.if-not-self.false in
    let empty = ap (λ (s : JudgeState). s.waiting) (sym c.self.view_is) ∙ c.in_err-first.ensures.none in
    let none : c.from_residual.result ≡ None = search rules in
    record {
      given = λ clock entries given st. none ∙ sym (nothing-last clock entries given _ st ended c.requires.idle (c.requires.over ended) empty);
      stands = λ clock entries given st. search rules;
      idle = search rules;
      empty = search rules;
      keeps = search rules;
      less = search rules;
    }

pub returns-then-not-self : goal.returns-then-not-self
returns-then-not-self c = record {
  given = λ clock entries given st.
      sym (nothing-due clock entries given _ st (ap (λ (s : JudgeState). s.closed) (sym c.self.view_is) ∙ c.if-not-self.true) c.requires.idle);
  stands = λ clock entries given st. search rules;
  idle = search rules;
  empty = search rules;
  keeps = search rules;
  less = search rules;
}
