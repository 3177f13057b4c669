use Rattle.std.proofs.Common.{◌+◌, ◌++◌, ◌∷◌, [], refl, rules, sym, subst, ap, ◌∙◌, arith, map}
use Rattle.std.specs.Prelude.{◌==◌, not}
use Rattle.avtp_header.specs.Numbers.{crf_subtype}
use Rattle.pcap_frames.specs.Reading.{shown}
use Rattle.packet_journal.specs.Deliveries.{Delivery, delivery, is_delivered}
use Rattle.listener.specs.declared.heard.Counts.{Counts}
use Rattle.listener.specs.Gathering.{HasUnits}
use Rattle.listener.specs.Heard.{deliveries_of, entries_so_far_in}
use Rattle.listener.specs.Items.{given_by, made_entry}
use Rattle.listener.specs.Listening.{Judges, ListenState, StandsFor, is_closed}
use Rattle.listener.specs.state.Listening.{with_record}
use Rattle.listener.specs.state.Views.{delivery_shape}
use Rattle.listener.proofs.Further.{chosen, not_chosen}
use Rattle.listener.proofs.Listened.{judge_open, judges_open, packets_few, stands_with, still_rests, stands_without, taken_few}
use Rattle.listener.proofs.record_listener.RecordListener.take_record.Goals as goal

pub with_record-self-inside-requires-clause-within : goal.with_record-self-inside-requires-clause-within
with_record-self-inside-requires-clause-within c =
    let sound = c.self.invariant.0 in packets_few sound.records sound.given _ sound.stands

pub with_record-self-inside-requires-in-Some-clause-within : goal.with_record-self-inside-requires-in-Some-clause-within
with_record-self-inside-requires-in-Some-clause-within c =
    let sound = c.self.invariant.0 in packets_few sound.records sound.given _ sound.stands

pub take_delivery-requires : goal.take_delivery-requires
take_delivery-requires c =
    let sound = c.self.invariant.0 in
    record {
      ready = record {
        opened = judge_open sound.records sound.given _ sound.stands (ap is_closed c.self.view_is ∙ c.requires.open);
        idle = search rules;
        none = search rules;
        few = omega (arith, taken_few sound.records sound.given _ sound.stands, c.requires.few, ap (λ (l : ListenState). l.counts.frames) c.self.view_is);
      };
    }

pub returns-in-None : goal.returns-in-None
returns-in-None c = record {
  stands = λ records given stands.
      let st = subst (StandsFor records given) (sym c.self.view_is) stands in
      let read = shown c.args.held.now in
      let opened = ap is_closed c.self.view_is ∙ c.requires.open in
      let out = not_chosen (is_delivered c.self.inside.plan.stream c.self.inside.plan.clock read.bytes) (delivery (c.self.inside.counts.frames + 1) read) c.in-None.ensures in
      stands_without records read given _ _ st opened out refl opened refl refl c.with_record-self-inside.ensures;
  frames = ap (λ (n : Counts). n.frames) c.with_record-self-inside.ensures ∙ ap (λ (l : ListenState). l.counts.frames + 1) c.self.view_is;
  plan = search rules;
  «open» = search rules;
  same = search rules;
}

pub invariant_of-self : goal.invariant_of-self
invariant_of-self c =
    let sound = c.self.invariant.0 in
    let read = shown c.args.held.now in
    let opened = ap is_closed c.self.view_is ∙ c.requires.open in
    let out = not_chosen (is_delivered c.self.inside.plan.stream c.self.inside.plan.clock read.bytes) (delivery (c.self.inside.counts.frames + 1) read) c.in-None.ensures in (
      record {
        records = sound.records ++ read ∷ [];
        given = sound.given;
        stands = stands_without sound.records read sound.given _ _ sound.stands opened out refl opened refl refl c.with_record-self-inside.ensures;
        few = omega (arith, c.requires.few, ap (λ (l : ListenState). l.counts.frames) c.self.view_is, ap (λ (n : Counts). n.frames) c.with_record-self-inside.ensures);
      },
      c.self.invariant.1,
      λ rests. still_rests _ _ refl refl refl (c.self.invariant.2 rests),
    )

pub returns-in_ok-take_delivery-in-Some : goal.returns-in_ok-take_delivery-in-Some
returns-in_ok-take_delivery-in-Some c = record {
  stands = λ records given stands.
      let st = subst (StandsFor records given) (sym c.self.view_is) stands in
      let read = shown c.args.held.now in
      let number = c.self.inside.counts.frames + 1 in
      let plan = c.self.inside.plan in
      let opened = ap is_closed c.self.view_is ∙ c.requires.open in
      let here = chosen (is_delivered plan.stream plan.clock read.bytes) (delivery_shape c.in-Some.delivery) (delivery number read) c.in-Some.ensures in
      let ds = deliveries_of plan records in
      let es = entries_so_far_in plan records in
      let ok = c.in_ok-take_delivery-in-Some.ensures in
      stands_with records read given _ _ st opened here.0 refl opened ok.plan ok.opened
      (subst (λ (d : Delivery). HasUnits (ds ++ d ∷ []) c.take_delivery.new.units) here.1 (ok.units ds (st.units opened)))
      (subst (λ (d : Delivery). Judges (es ++ map made_entry (given_by ds d)) given c.take_delivery.new.judge c.take_delivery.new.units) here.1 (ok.judges ds es given (st.units opened) (judges_open records given _ st opened)))
      (c.with_record-self-inside-in-Some.ensures ∙ ap (λ (d : Delivery). with_record c.self.inside.counts (not (d.subtype == crf_subtype))) here.1);
  frames = ap (λ (n : Counts). n.frames) c.with_record-self-inside-in-Some.ensures ∙ ap (λ (l : ListenState). l.counts.frames + 1) c.self.view_is;
  plan = search rules;
  «open» = search rules;
  same = search rules;
}

pub invariant_of-self-in-Some : goal.invariant_of-self-in-Some
invariant_of-self-in-Some c =
    let sound = c.self.invariant.0 in
    let st = sound.stands in
    let records = sound.records in
    let given = sound.given in
    let read = shown c.args.held.now in
    let number = c.self.inside.counts.frames + 1 in
    let plan = c.self.inside.plan in
    let opened = ap is_closed c.self.view_is ∙ c.requires.open in
    let here = chosen (is_delivered plan.stream plan.clock read.bytes) (delivery_shape c.in-Some.delivery) (delivery number read) c.in-Some.ensures in
    let ds = deliveries_of plan records in
    let es = entries_so_far_in plan records in
    let ok = c.in_ok-take_delivery-in-Some.ensures in (
      record {
        records = records ++ read ∷ [];
        given = given;
        stands = stands_with records read given _ _ st opened here.0 refl opened ok.plan ok.opened
            (subst (λ (d : Delivery). HasUnits (ds ++ d ∷ []) c.take_delivery.new.units) here.1 (ok.units ds (st.units opened)))
            (subst (λ (d : Delivery). Judges (es ++ map made_entry (given_by ds d)) given c.take_delivery.new.judge c.take_delivery.new.units) here.1 (ok.judges ds es given (st.units opened) (judges_open records given _ st opened)))
            (c.with_record-self-inside-in-Some.ensures ∙ ap (λ (d : Delivery). with_record c.self.inside.counts (not (d.subtype == crf_subtype))) here.1);
        few = omega (arith, c.requires.few, ap (λ (l : ListenState). l.counts.frames) c.self.view_is, ap (λ (n : Counts). n.frames) c.with_record-self-inside-in-Some.ensures);
      },
      c.self.invariant.1 ∙ (judge_open records given _ st opened ∙ sym ok.opened),
      λ rests. absurd cc,
    )
