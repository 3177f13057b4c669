use Rattle.std.proofs.Common.{◌≡◌, ◌+◌, pos, refl, rules, sym, subst, ◌∙◌, arith}
use Rattle.std.specs.Prelude.{All}
use Rattle.std.proofs.lemmas.List.Elements.{All-get_or}
use Rattle.std.proofs.Math.Logic.{∥∥₁_elim, ∥∥₁_map}
use Rattle.std.specs.Coded.{le_prop}
use Rattle.talker.specs.Talking.{Talking}
use Rattle.soak_run.specs.declared.hearing.Stage.TheVariants.{Showing, Ended}
use Rattle.soak_run.specs.state.Hearing.{IsDeliverable}
use Rattle.soak_run.proofs.HearingLemmas.{frames_few, left_on, not_ended, not_over, open_at, records_few, same_step, shows_closed, shows_next, shows_same, stands_on, step_next, steps_on, steps_over}
use Rattle.soak_run.proofs.hearing.Hearing.go_on.Goals as goal

pub deliver-requires : goal.deliver-requires
deliver-requires c =
    let self = c.args.self.now in
    record {
      deliverable = All-get_or (IsDeliverable self.talker) self.deliveries.now self.given (pos 0, 0) c.if-self.true self.deliverable;
      ready = record {
        opened = self.closed ∙ open_at self.stage c.requires.giving;
        idle = c.requires.idle;
        few = ∥∥₁_elim self.stands le_prop (frames_few self.talker self.deliveries.now self.given self.listener c.if-self.true self.few);
      };
    }

-- ---- a delivery was given

pub invariant_of-self-then-self : goal.invariant_of-self-then-self
invariant_of-self-then-self c =
    let self = c.args.self.now in
    let took = c.in_ok-deliver.ensures in
    record {
      deliverable = subst (λ (t : Talking). All (IsDeliverable t) self.deliveries.now) (sym took.talker) self.deliverable;
      few = self.few;
      closed = took.takes.still_open ∙ sym (open_at self.stage c.requires.giving);
      stands = ∥∥₁_map self.stands (stands_on 0 (same_step (step_next _ _ _ took.talker c.if-self.true took.takes.stands)));
    }

pub returns-in_ok-deliver : goal.returns-in_ok-deliver
returns-in_ok-deliver c =
    let self = c.args.self.now in
    let took = c.in_ok-deliver.ensures in
    let within = records_few c.deliver.new.talker self.deliveries.now (self.given + 1) in
    let less = ∥∥₁_elim self.stands le_prop (left_on 0 (same_step (step_next _ _ _ took.talker c.if-self.true took.takes.stands)) self.deliveries.now within) in
    record {
      shows = λ begun items h. record {
        talker = took.talker ∙ h.talker;
        deliveries = h.deliveries;
        plan = took.takes.plan ∙ h.plan;
        shows = shows_next _ _ _ took.talker c.if-self.true took.takes.stands (self.closed ∙ open_at self.stage c.requires.giving) took.takes.still_open took.takes.plan h.shows;
        given_all = λ e. absurd (not_over self.stage c.requires.giving e);
        whole = λ e. absurd (not_ended self.stage c.requires.giving e);
      };
      left = omega (arith, less);
      on = steps_on self.stage self.deliveries.now self.given c.requires.giving c.if-self.true;
    }

-- ---- no delivery was given, because memory ran out

pub returns-in_err-deliver : goal.returns-in_err-deliver
returns-in_err-deliver c =
    let self = c.args.self.now in
    let took = c.in_err-deliver.ensures in
    record {
      shows = λ begun items h. record {
        talker = took.talker ∙ h.talker;
        deliveries = h.deliveries;
        plan = took.takes.plan ∙ h.plan;
        shows = shows_same _ _ took.talker took.takes.same h.shows;
        given_all = λ e. absurd (not_over self.stage c.requires.giving e);
        whole = λ e. absurd (not_ended self.stage c.requires.giving e);
      };
      left = rw took.takes.same (omega arith);
      on = search rules;
    }

-- ---- the end

pub invariant_of-self-else-self : goal.invariant_of-self-else-self
invariant_of-self-else-self c =
    let self = c.args.self.now in
    record { deliverable = self.deliverable; few = self.few; closed = c.close.ensures.closed; stands = ∥∥₁_map self.stands (stands_on 0 (same_step (c.close.ensures.stands _))) }

pub returns-else-self : goal.returns-else-self
returns-else-self c =
    let self = c.args.self.now in
    let close = c.close.ensures in
    let less = ∥∥₁_elim self.stands le_prop (left_on 0 (same_step (close.stands _)) self.deliveries.now (records_few self.talker self.deliveries.now self.given)) in
    record {
      shows = λ begun items h. record {
        talker = h.talker;
        deliveries = h.deliveries;
        plan = close.plan ∙ h.plan;
        shows = shows_closed (self.closed ∙ open_at self.stage c.requires.giving) close.plan close.closed (close.stands _) h.shows;
        given_all = λ e. c.if-self.false;
        whole = λ e. absurd (let x : Showing ≡ Ended = e in cc);
      };
      left = omega (arith, less);
      on = (refl, steps_over self.stage self.deliveries.now self.given c.requires.giving);
    }
