use Rattle.std.proofs.Common.{refl, sym, ap, ◌∙◌, arith, append-nil}
use Rattle.std.proofs.Math.Logic.{∥∥₁_elim, ∥∥₁_map}
use Rattle.std.specs.Coded.{le_prop}
use Rattle.soak_run.specs.state.Hearing.{closed_at}
use Rattle.soak_run.proofs.HearingLemmas.{giving_by, going_on, left_on, open_at, records_few, shows_all, shows_item, shows_still, stands_on}
use Rattle.soak_run.proofs.hearing.HearingReceiver.next.Goals as goal
use Rattle.avtp_base.proofs.Results.{fine_match, wrong_match}

-- ---- an item was due

pub invariant_of-self : goal.invariant_of-self
invariant_of-self c =
    let self = c.loop-shown.self in
    let out = c.next_out.ensures in
    record { deliverable = self.deliverable; few = self.few; closed = out.keeps.closed ∙ self.closed; stands = ∥∥₁_map self.stands (stands_on _ (out.stands _)) }

pub returns-in-Some-clause-gave : goal.returns-in-Some-clause-gave
returns-in-Some-clause-gave c begun items gave =
    let self = c.loop-shown.self in
    let out = c.in-Some.ensures in
    let h = c.loop-shown.invariant.shows begun items gave in
    record {
      talker = h.talker;
      deliveries = h.deliveries;
      plan = out.keeps.plan ∙ h.plan;
      shows = shows_item out.keeps h.shows c.in-Some.shown (out.given _) (out.stands _);
      given_all = h.given_all;
      whole = λ e. absurd (going_on self.stage c.loop-shown.invariant.going e);
    }

pub returns-in-Some-clause-left : goal.returns-in-Some-clause-left
returns-in-Some-clause-left c =
    let self = c.loop-shown.self in
    let less = ∥∥₁_elim self.stands le_prop (left_on 1 (c.in-Some.ensures.stands _) self.deliveries.now (records_few self.talker self.deliveries.now self.given)) in
    omega (arith, less, c.loop-shown.invariant.left)

-- ---- all was shown

pub invariant_of-self-in-Showing : goal.invariant_of-self-in-Showing
invariant_of-self-in-Showing c =
    let self = c.loop-shown.self in
    let out = c.next_out.ensures in
    record { deliverable = self.deliverable; few = self.few; closed = out.keeps.closed ∙ self.closed ∙ ap closed_at c.in-Showing.is; stands = ∥∥₁_map self.stands (stands_on _ (out.stands _)) }

pub returns-in-Showing-clause-gave : goal.returns-in-Showing-clause-gave
returns-in-Showing-clause-gave c begun items gave =
    let self = c.loop-shown.self in
    let out = c.in_default.ensures in
    let h = c.loop-shown.invariant.shows begun items gave in
    rw (append-nil items) (record {
      talker = h.talker;
      deliveries = h.deliveries;
      plan = out.keeps.plan ∙ h.plan;
      shows = shows_still out.keeps h.shows (out.stands _);
      given_all = λ e. h.given_all (ap closed_at c.in-Showing.is);
      whole = λ e. shows_all out.keeps h.shows (out.given _);
    })

pub returns-in-Showing-clause-left : goal.returns-in-Showing-clause-left
returns-in-Showing-clause-left c =
    let self = c.loop-shown.self in
    let less = ∥∥₁_elim self.stands le_prop (left_on 0 (c.in_default.ensures.stands _) self.deliveries.now (records_few self.talker self.deliveries.now self.given)) in
    omega (arith, less, c.loop-shown.invariant.left)

-- ---- no item was due, and the hearing went on

pub invariant_of-self-in_default-stage : goal.invariant_of-self-in_default-stage
invariant_of-self-in_default-stage c =
    let self = c.loop-shown.self in
    let out = c.next_out.ensures in
    record { deliverable = self.deliverable; few = self.few; closed = out.keeps.closed ∙ self.closed; stands = ∥∥₁_map self.stands (stands_on _ (out.stands _)) }

pub go_on-requires : goal.go_on-requires
go_on-requires c = record {
  giving = giving_by c.loop-shown.self.stage c.loop-shown.invariant.going c.in_default-stage.not-Showing;
  idle = c.in_default.ensures.idle;
}

pub invariant_of-self-then-is_err : goal.invariant_of-self-then-is_err
invariant_of-self-then-is_err c =
    let next = c.go_on.new.self in
    let giving = wrong_match c.go_on.result _ _ (sym c.is_err.ensures.value ∙ c.if-is_err.true) c.go_on.ensures.on in
    record { deliverable = next.deliverable; few = next.few; closed = next.closed ∙ open_at next.stage giving; stands = next.stands }

pub returns-then-is_err : goal.returns-then-is_err
returns-then-is_err c =
    let self = c.loop-shown.self in
    let out = c.in_default.ensures in
    let next = c.go_on.new.self in
    let went = c.go_on.ensures in
    record {
      gave = λ begun items gave.
          let before = c.loop-shown.invariant.shows begun items gave in
          let h = went.shows begun items (record {
            talker = before.talker;
            deliveries = before.deliveries;
            plan = out.keeps.plan ∙ before.plan;
            shows = shows_still out.keeps before.shows (out.stands _);
            given_all = before.given_all;
            whole = λ e. absurd (going_on self.stage c.loop-shown.invariant.going e);
          }) in
          rw (append-nil items) (record { talker = h.talker; deliveries = h.deliveries; plan = h.plan; shows = h.shows; given_all = λ e. absurd cc; whole = λ e. absurd cc });
      left =
          let less = ∥∥₁_elim self.stands le_prop (left_on 0 (out.stands _) self.deliveries.now (records_few self.talker self.deliveries.now self.given)) in
          omega (arith, less, went.left, c.loop-shown.invariant.left);
      ended = refl;
    }

pub loop-shown-preserved : goal.loop-shown-preserved
loop-shown-preserved c =
    let self = c.loop-shown.self in
    let out = c.in_default.ensures in
    let went = c.go_on.ensures in
    let going = fine_match c.go_on.result _ _ (sym c.is_err.ensures.value ∙ c.if-is_err.false) went.on in
    record {
      going = going.0;
      left =
          let less = ∥∥₁_elim self.stands le_prop (left_on 0 (out.stands _) self.deliveries.now (records_few self.talker self.deliveries.now self.given)) in
          omega (arith, less, went.left, c.loop-shown.invariant.left);
      shows = λ begun items h.
          let before = c.loop-shown.invariant.shows begun items h in
          went.shows begun items (record {
            talker = before.talker;
            deliveries = before.deliveries;
            plan = out.keeps.plan ∙ before.plan;
            shows = shows_still out.keeps before.shows (out.stands _);
            given_all = before.given_all;
            whole = λ e. absurd (going_on self.stage c.loop-shown.invariant.going e);
          });
    }

pub loop-shown-smaller : goal.loop-shown-smaller
loop-shown-smaller c = (fine_match c.go_on.result _ _ (sym c.is_err.ensures.value ∙ c.if-is_err.false) c.go_on.ensures.on).1
