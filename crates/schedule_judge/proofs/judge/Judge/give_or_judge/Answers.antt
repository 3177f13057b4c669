use Rattle.std.proofs.Common.{◌≡◌, ◌<ℤ◌, Some, ap, sym, subst, ◌∙◌, rules, arith, w64, to_z, of_z}
use Rattle.std.proofs.lemmas.Int.{ints}
use Rattle.schedule_judge.specs.Judge.{JudgeState}
use Rattle.schedule_judge.proofs.JudgeLemmas.{due-given, some-current}
use Rattle.schedule_judge.proofs.judge.Judge.give_or_judge.Goals as goal

pub returns-in-Some : goal.returns-in-Some
returns-in-Some c =
    let now : to_z w64 (of_z w64 c.self.inside.time) ≡ c.self.inside.time = omega (arith, ints) in
    let early = subst (λ (s : JudgeState). c.in-Some.first.instant <ℤ s.time) c.self.view_is (rw now at c.in-Some.ensures.due) in
    let some = some-current _ _ c.self.view_is (sym c.if-is_none.ensures) in
    let waits = ap (λ (s : JudgeState). s.waiting) (sym c.self.view_is) ∙ c.in-Some.ensures.hands.list in
    let same = ap (λ (s : JudgeState). record s { waiting = c.take_due.new.self.list }) c.self.view_is in
    record {
      next = λ clock entries given st. (due-given clock entries given _ _ c.in-Some.first st some waits early same).next ∙ ap Some (sym c.present.ensures);
      stands = λ clock entries given st. (due-given clock entries given _ _ c.in-Some.first st some waits early same).stands;
      keeps = search rules;
      less = search rules;
      ahead = search rules;
      idle = tt;
    }
