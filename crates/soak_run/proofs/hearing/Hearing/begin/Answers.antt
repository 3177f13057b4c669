use Rattle.std.proofs.Common.{refl}
use Rattle.soak_run.proofs.HearingLemmas.{not_ended, not_over, shown_none}
use Rattle.soak_run.proofs.hearing.Hearing.begin.Goals as goal

pub invariant_of-result : goal.invariant_of-result
invariant_of-result c = record {
  deliverable = c.requires.deliverable;
  few = c.requires.few;
  closed = c.in_ok-listener.ensures.open;
  stands = ∣ (shown_none c.in_ok-listener.listener c.in_ok-listener.ensures.stands).stands ∣₁;
}

pub returns : goal.returns
returns c = record {
  stage = refl;
  none = record {
    talker = refl;
    deliveries = refl;
    plan = refl;
    shows = shown_none c.in_ok-listener.listener c.in_ok-listener.ensures.stands;
    given_all = λ e. absurd (not_over _ refl e);
    whole = λ e. absurd (not_ended _ refl e);
  };
  plan = c.in_ok-listener.ensures.plan;
  talker = refl;
  deliveries = refl;
}
