use Rattle.std.proofs.Common.{◌+◌, rules, ◌≡◌, ap, sym, subst, ◌∙◌, arith, w64, to_z, of_z}
use Rattle.std.proofs.lemmas.Int.{ints}
use Rattle.sample_schedule.specs.declared.entry.Entry.TheVariants.{Clock as OfClock}
use Rattle.clock_track.specs.Views.{row_of}
use Rattle.schedule_judge.specs.Judge.{JudgeState, StandsFor, taken}
use Rattle.schedule_judge.proofs.JudgeLemmas.{takes}
use Rattle.schedule_judge.proofs.JudgeSound.{taken-put}
use Rattle.schedule_judge.proofs.judge.Judge.step_clock.Goals as goal

pub returns : goal.returns
returns c = record {
  stands = λ clock entries given st.
      let here = subst (λ (s : JudgeState). StandsFor clock entries given s) (sym c.self.view_is) st in
      let arrival : to_z w64 (of_z w64 c.args.arrival) ≡ c.args.arrival = omega (arith, ints) in
      takes clock entries given (OfClock c.args.arrival (row_of c.args.points.now)) _ _ _ here (ap (λ (s : JudgeState). s.closed) c.self.view_is ∙ c.requires.ready.open) (ap (λ (s : JudgeState). s.current) c.self.view_is ∙ c.requires.ready.idle)
      (c.note_points.ensures _ entries c.args.arrival here.noted) (rw arrival at c.put.ensures);
  plan = search rules;
  taken = taken-put _ _ _ (ap (λ (s : JudgeState). s.current) c.self.view_is ∙ c.requires.ready.idle) c.put.ensures ∙ ap (λ (s : JudgeState). taken s + 1) c.self.view_is;
  «open» = search rules;
}
