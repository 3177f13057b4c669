use Rattle.std.proofs.Common.{[], refl, rules, sym, ap, ◌∙◌, arith}
use Rattle.clock_track.specs.Rows.{clock_spot}
use Rattle.listener.specs.declared.heard.Counts.{Counts}
use Rattle.listener.proofs.Listened.{stands_begun}
use Rattle.listener.proofs.record_listener.RecordListener.begin.Goals as goal

pub invariant_of-result : goal.invariant_of-result
invariant_of-result c = (
  record {
    records = [];
    given = 0;
    stands = stands_begun c.args.plan c.in_ok-units.units c.in_ok-judge.judge c.none.result (c.in_ok-judge.ensures.plan ∙ c.schedule_plan.ensures) c.in_ok-judge.ensures.open
        (c.in_ok-judge.ensures.stands clock_spot (λ asks. refl)) c.in_ok-units.ensures.stands c.in_ok-units.ensures.none c.none.ensures;
    few = omega (arith, ap (λ (n : Counts). n.frames) c.none.ensures);
  },
  sym c.in_ok-judge.ensures.open,
  λ rests. absurd cc,
)

pub returns : goal.returns
returns c = record {
  stands = stands_begun c.args.plan c.in_ok-units.units c.in_ok-judge.judge c.none.result (c.in_ok-judge.ensures.plan ∙ c.schedule_plan.ensures) c.in_ok-judge.ensures.open
      (c.in_ok-judge.ensures.stands clock_spot (λ asks. refl)) c.in_ok-units.ensures.stands c.in_ok-units.ensures.none c.none.ensures;
  plan = refl;
  «open» = refl;
  idle = search rules;
  none = ap (λ (n : Counts). n.frames) c.none.ensures;
}
