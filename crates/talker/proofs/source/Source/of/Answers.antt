use Rattle.std.proofs.Common.{inl, refl, rules, subst, sym, ◌∙◌}
use Rattle.talk_plan.specs.declared.plan.TalkKind.{TalkKind}
use Rattle.talk_plan.specs.Plan.{IsPlanOf}
use Rattle.talker.proofs.SourceLemmas.{video_fault}
use Rattle.talker.proofs.source.Source.of.Goals as goal

pub returns-in-Some : goal.returns-in-Some
returns-in-Some c =
    let is = video_fault c.args.plan c.args.input.now c.in-H264.last_stamp (subst (λ (k : TalkKind). IsPlanOf k c.args.plan) c.in-H264.is c.requires.valid) c.in-H264.is c.requires.limit in
    let found = is ∙ sym c.units_fault.ensures ∙ c.in-Some.is in
    record { made = tt; accepted = tt; fault = rw found refl; only = inl found }

pub returns-in_err-stream-in-H264 : goal.returns-in_err-stream-in-H264
returns-in_err-stream-in-H264 c =
    let is = video_fault c.args.plan c.args.input.now c.in-H264.last_stamp (subst (λ (k : TalkKind). IsPlanOf k c.args.plan) c.in-H264.is c.requires.valid) c.in-H264.is c.requires.limit in
    let none = is ∙ sym c.units_fault.ensures ∙ c.in_default.is in
    record { made = search rules; accepted = search rules; fault = rw none tt; only = search rules }

pub returns-in_ok-stream-in-H264 : goal.returns-in_ok-stream-in-H264
returns-in_ok-stream-in-H264 c =
    let is = video_fault c.args.plan c.args.input.now c.in-H264.last_stamp (subst (λ (k : TalkKind). IsPlanOf k c.args.plan) c.in-H264.is c.requires.valid) c.in-H264.is c.requires.limit in
    let none = is ∙ sym c.units_fault.ensures ∙ c.in_default.is in
    record { made = search rules; accepted = none; fault = rw none tt; only = tt }
