use Rattle.std.proofs.Common.{◌≡◌, ◌++◌, ◌∷◌, [], true, List, Option, Some, None, map, refl, rules, sym, subst}
use Rattle.std.specs.Option.{option_to_list}
use Rattle.clock_track.specs.Rows.{clock_spot}
use Rattle.sample_schedule.specs.declared.item.Item.{Item}
use Rattle.std.specs.Prelude.{◌==◌}
use Rattle.crf_format.specs.Crf.{crf_subtype}
use Rattle.cvf_format.specs.Assembly.{StandsFor}
use Rattle.cvf_format.specs.WholeOrBroken.{Event}
use Rattle.packet_journal.specs.Deliveries.{Delivery}
use Rattle.listener.specs.Gathering.{Gathered, HasUnits, item_entry, left}
use Rattle.listener.proofs.Made.{events_same}
use Rattle.sample_schedule.specs.declared.entry.Entry.{Entry}
use Rattle.sample_schedule.specs.declared.entry.Entry.TheVariants.{Clock as OfClock}
use Rattle.listener.specs.Items.{clock_row, given_by, made_entry}
use Rattle.listener.specs.Listening.{Judges}
use Rattle.listener.specs.state.Views.{delivery_shape}
use Rattle.listener.proofs.Further.{arrival_kept}
use Rattle.listener.proofs.Judging.{clock_given, judges_entry, judges_first, judges_given}
use Rattle.listener.proofs.record_listener.take_delivery.Goals as goal

-- a delivery of the clock leaves the units as they are
has_same : (ds : List Delivery) (d : Delivery) (units : Gathered) → d.subtype ≡ crf_subtype → HasUnits ds units → HasUnits (ds ++ d ∷ []) units
has_same ds d units e has =
    let clock : (d.subtype == crf_subtype) ≡ true = rw e refl in
    record { assembly = subst (λ (es : List Event). StandsFor units.assembly es) (sym (events_same ds d clock)) has.assembly }

pub returns-then-delivery-eq-CRF : goal.returns-then-delivery-eq-CRF
returns-then-delivery-eq-CRF c =
    let d = delivery_shape c.args.delivery.now in
    record {
      units = λ ds has. has_same ds d c.args.units.now c.if-delivery-eq-CRF.true has;
      judges = λ ds entries given has j.
          subst (λ (l : List Entry). Judges (entries ++ l) given c.step_clock.new.self c.args.units.now) (sym (clock_given ds d c.if-delivery-eq-CRF.true))
          (judges_entry entries given c.args.judge.now c.step_clock.new.self c.args.units.now (OfClock d.arrival (clock_row d)) c.requires.ready.none
          (λ es n s. rw (← c.clock_points.ensures.exact) (rw (arrival_kept c.args.delivery.now.arrival c.args.delivery.now.timely) at (c.step_clock.ensures.stands _ es n s))) j);
      same = search rules;
      plan = search rules;
      opened = search rules;
    }

pub returns-in-Some : goal.returns-in-Some
returns-in-Some c =
    let first : c.in_ok-first.field-0 ≡ Some c.in-Some.first = cc in
    record {
      units = search rules;
      judges = λ ds entries given has j.
          let more = map made_entry (given_by ds (delivery_shape c.args.delivery.now)) in
          let gives = subst (λ (o : Option Item). map item_entry (option_to_list o ++ left c.take_delivery.new.self) ≡ more) first (c.in_ok-first.ensures.gives ds has) in
          judges_first entries given c.args.judge.now c.step.new.self c.args.units.now c.take_delivery.new.self c.in-Some.first more c.requires.ready.none gives (λ es n s. c.step.ensures.stands clock_spot es n s) j;
      same = search rules;
      plan = search rules;
      opened = search rules;
    }

pub returns-in_default : goal.returns-in_default
returns-in_default c =
    let nothing : c.in_ok-first.field-0 ≡ None = cc in
    record {
      units = search rules;
      judges = λ ds entries given has j.
          let more = map made_entry (given_by ds (delivery_shape c.args.delivery.now)) in
          let gives = subst (λ (o : Option Item). map item_entry (option_to_list o ++ left c.take_delivery.new.self) ≡ more) nothing (c.in_ok-first.ensures.gives ds has) in
          judges_given entries given c.args.judge.now c.args.units.now c.take_delivery.new.self more c.requires.ready.none gives j;
      same = search rules;
      plan = search rules;
      opened = search rules;
    }
