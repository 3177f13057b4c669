use Rattle.std.proofs.Common.{◌≡◌, ◌^◌, ◌<◌, ℤ, ap, sym, subst, ◌∙◌, arith, w64, to_z, of_z}
use Rattle.std.proofs.lemmas.Int.{ints}
use Rattle.std.specs.Int.{int_max}
use Rattle.schedule_judge.specs.Judge.{JudgeState, taken}
use Rattle.schedule_judge.specs.state.Judge.{pending_arrival}
use Rattle.schedule_judge.proofs.JudgeSound.{next-is, sound-next}
use Rattle.schedule_judge.proofs.judge.Judge.judge_next.Goals as goal

pub invariant_of-self : goal.invariant_of-self
invariant_of-self c = (sound-next _ _ c.self.inside.waiting c.args.next _ c.self.invariant (ap (λ (s : JudgeState). s.current) c.self.view_is ∙ c.requires.idle) (subst (λ (s : JudgeState). taken s < 2 ^ 62) (sym c.self.view_is) c.requires.taken) c.requires.pending)

pub returns : goal.returns
returns c =
    let before : to_z w64 (of_z w64 c.self.inside.time) ≡ c.self.inside.time = omega (arith, ints) in
    let arrival : to_z w64 (of_z w64 c.arrival.result) ≡ pending_arrival c.args.next = let e = c.arrival.ensures in omega (arith, ints) in
    let again : to_z w64 (of_z w64 c.max-self-inside.result) ≡ c.max-self-inside.result = omega (arith, ints) in
    let is : to_z w64 (of_z w64 c.max-self-inside.result) ≡ int_max c.self.inside.time (pending_arrival c.args.next) =
    again ∙ c.max-self-inside.ensures.value ∙ ap (λ (z : ℤ). int_max z (to_z w64 (of_z w64 c.arrival.result))) before ∙ ap (λ (z : ℤ). int_max c.self.inside.time z) arrival in
    next-is _ _ _ c.args.next c.self.view_is is
