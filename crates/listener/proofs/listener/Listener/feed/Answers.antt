use Rattle.std.proofs.Common.{◌≡◌, ◌++◌, Some, None, length, take, rules, sym, subst, ap, ◌∙◌, arith}
use Rattle.std.proofs.lemmas.List.{length-take-le}
use Rattle.avtp_base.specs.declared.refusal.Refusal.{Refusal}
use Rattle.pcap_frames.specs.Capture.{whole_records}
use Rattle.pcap_frames.specs.Reading.{held, taken}
use Rattle.pcap_frames.proofs.Fields.{certain_is}
use Rattle.pcap_frames.proofs.Held.{uncertain}
use Rattle.pcap_frames.proofs.Lent.{holds_accepted}
use Rattle.listener.specs.Feeding.{Feeding, StandsFor}
use Rattle.listener.proofs.Fed.{accepted, heard_here, heard_on, held_few, held_some, if_none, lent_nothing, lent_some, none_held, other_quiet, stands_fed, stands_refused}
use Rattle.listener.proofs.listener.Listener.feed.Goals as goal
use Rattle.avtp_base.proofs.Results.{not_some}

-- ---- a record that lies whole in the piece

pub take_lent-requires-clause-few : goal.take_lent-requires-clause-few
take_lent-requires-clause-few c =
    let next = c.in-Some.ensures.next in
    let some = lent_some c.self.inside.reader c.args.piece.now c.in-Some.size c.in-Some.ensures.within next in
    let counted = c.self.invariant.counted (holds_accepted _ _ _ _ next.whole) in
    omega (arith, counted, some, c.in-Some.ensures.within, c.requires.bounded, ap (λ (f : Feeding). taken f.reader) c.self.view_is)

pub invariant_of-self : goal.invariant_of-self
invariant_of-self c =
    let sound = c.self.invariant in
    let next = c.in-Some.ensures.next in
    let some = lent_some c.self.inside.reader c.args.piece.now c.in-Some.size c.in-Some.ensures.within next in
    let counted = sound.counted (holds_accepted _ _ _ _ next.whole) in
    let bytes = sound.bytes ++ take c.in-Some.size c.args.piece.now in
    let quiet = not_some c.self.inside.next (sym c.is_some.ensures ∙ c.if-is_some.false) in
    let heard = c.in-Ok.ensures.hears.heard sound.bytes sound.given (heard_here sound.bytes sound.given _ sound.stands c.if-self.false quiet) in
    let long : length (take c.in-Some.size c.args.piece.now) ≡ c.in-Some.size = length-take-le c.in-Some.size c.args.piece.now c.in-Some.ensures.within in
    record {
      bytes = bytes;
      given = sound.given;
      stands = stands_fed bytes sound.given c.take_lent.new.reader c.take_lent.new.listener c.put_next.new.self c.put_next.new.next c.self.inside.out_of_memory heard c.in-Ok.ensures.passed.free
          c.put_next.ensures.given c.put_next.ensures.stands c.put_next.ensures.keeps.plan c.put_next.ensures.keeps.closed;
      counted = λ unrefused. omega (arith, counted, some, long, c.put_next.ensures.keeps.frames, c.in-Ok.ensures.hears.frames, c.in-Ok.ensures.passed.counted);
      idle = λ none. if_none c.put_next.new.next c.put_next.ensures.idle none;
      spent = λ memory. absurd (let no = c.if-self.false in cc);
    }

pub returns-in-Ok : goal.returns-in-Ok
returns-in-Ok c = record {
  within = search rules;
  nothing =
      let some = lent_some c.self.inside.reader c.args.piece.now c.in-Some.size c.in-Some.ensures.within c.in-Some.ensures.next in
      let quiet = not_some c.self.inside.next (sym c.is_some.ensures ∙ c.if-is_some.false) in
      let quiet_now : c.args.self.now.next ≡ None = ap (λ (f : Feeding). f.next) (sym c.self.view_is) ∙ quiet in
      lent_nothing c.in-Some.size c.args.piece.now c.args.self.now.next some c.in-Some.ensures.within quiet_now;
  stands = λ bytes given stands.
      let st = subst (StandsFor bytes given) (sym c.self.view_is) stands in
      let quiet = not_some c.self.inside.next (sym c.is_some.ensures ∙ c.if-is_some.false) in
      let heard = c.in-Ok.ensures.hears.heard bytes given (heard_here bytes given _ st c.if-self.false quiet) in
      stands_fed (bytes ++ take c.in-Some.size c.args.piece.now) given c.take_lent.new.reader c.take_lent.new.listener c.put_next.new.self c.put_next.new.next c.self.inside.out_of_memory heard c.in-Ok.ensures.passed.free
      c.put_next.ensures.given c.put_next.ensures.stands c.put_next.ensures.keeps.plan c.put_next.ensures.keeps.closed;
  uncertain = λ quiet bytes given stands.
      let st = subst (StandsFor bytes given) (sym c.self.view_is) stands in
      let accepted = c.in-Ok.ensures.passed.refusal ∙ holds_accepted _ _ _ _ c.in-Some.ensures.next.whole in
      uncertain c.take_lent.new.reader (bytes ++ take c.in-Some.size c.args.piece.now) _ accepted (c.in-Ok.ensures.passed.read bytes (whole_records bytes) (st.read c.if-self.false));
  refused = search rules;
  memory = search rules;
  lasting = search rules;
  stopped = search rules;
  plan = search rules;
  «open» = search rules;
  bounded = search rules;
  taken = search rules;
}

-- ---- a record that the reader holds

pub take_held-requires-clause-few : goal.take_held-requires-clause-few
take_held-requires-clause-few c some =
    let sound = c.self.invariant in
    let read = sound.stands.read c.if-self.false in
    let took = held_some c.self.inside.reader c.feed.new.self sound.bytes c.args.piece.now c.in-Ok-feed.taken read c.in-Ok-feed.ensures.read some in
    let counted = sound.counted (accepted c.self.inside.reader.refusal c.in-Ok-feed.taken c.in-Ok-feed.ensures.lasting) in
    omega (arith, counted, took, c.in-Ok-feed.ensures.within, c.requires.bounded, ap (λ (f : Feeding). taken f.reader) c.self.view_is)

pub invariant_of-self-in-Ok-take_held : goal.invariant_of-self-in-Ok-take_held
invariant_of-self-in-Ok-take_held c =
    let sound = c.self.invariant in
    let bytes = sound.bytes ++ take c.in-Ok-feed.taken c.args.piece.now in
    let quiet = not_some c.self.inside.next (sym c.is_some.ensures ∙ c.if-is_some.false) in
    let heard = c.in-Ok-take_held.ensures.hears.heard bytes sound.given (heard_on sound.bytes (take c.in-Ok-feed.taken c.args.piece.now) sound.given _ c.feed.new.self sound.stands c.if-self.false quiet c.in-Ok-feed.ensures.read) in
    let few = held_few c.self.inside.reader c.feed.new.self sound.bytes c.args.piece.now c.in-Ok-feed.taken (sound.stands.read c.if-self.false) c.in-Ok-feed.ensures.read in
    let counted = sound.counted (accepted c.self.inside.reader.refusal c.in-Ok-feed.taken c.in-Ok-feed.ensures.lasting) in
    record {
      bytes = bytes;
      given = sound.given;
      stands = stands_fed bytes sound.given c.take_held.new.reader c.take_held.new.listener c.put_next-in-Ok-take_held.new.self c.put_next-in-Ok-take_held.new.next c.self.inside.out_of_memory heard c.in-Ok-take_held.ensures.free
          c.put_next-in-Ok-take_held.ensures.given c.put_next-in-Ok-take_held.ensures.stands c.put_next-in-Ok-take_held.ensures.keeps.plan c.put_next-in-Ok-take_held.ensures.keeps.closed;
      counted = λ unrefused. omega (arith, counted, few, c.put_next-in-Ok-take_held.ensures.keeps.frames, c.in-Ok-take_held.ensures.hears.frames, c.in-Ok-take_held.ensures.read.0, c.in-Ok-feed.ensures.taken);
      idle = λ none. if_none c.put_next-in-Ok-take_held.new.next c.put_next-in-Ok-take_held.ensures.idle none;
      spent = λ memory. absurd (let no = c.if-self.false in cc);
    }

pub returns-in-Ok-take_held : goal.returns-in-Ok-take_held
returns-in-Ok-take_held c = record {
  within = search rules;
  nothing =
      let sound = c.self.invariant in
      let free = none_held c.self.inside.reader sound.bytes (sound.stands.read c.if-self.false) in
      let quiet = not_some c.self.inside.next (sym c.is_some.ensures ∙ c.if-is_some.false) in
      let quiet_now : c.args.self.now.next ≡ None = ap (λ (f : Feeding). f.next) (sym c.self.view_is) ∙ quiet in
      other_quiet (c.in-Ok-feed.taken ≡ 0) (length c.args.piece.now ≡ 0) (held c.self.inside.reader) c.args.self.now.next free quiet_now c.in-Ok-feed.ensures.nothing;
  stands = λ bytes given stands.
      let st = subst (StandsFor bytes given) (sym c.self.view_is) stands in
      let quiet = not_some c.self.inside.next (sym c.is_some.ensures ∙ c.if-is_some.false) in
      let heard = c.in-Ok-take_held.ensures.hears.heard (bytes ++ take c.in-Ok-feed.taken c.args.piece.now) given (heard_on bytes (take c.in-Ok-feed.taken c.args.piece.now) given _ c.feed.new.self st c.if-self.false quiet c.in-Ok-feed.ensures.read) in
      stands_fed (bytes ++ take c.in-Ok-feed.taken c.args.piece.now) given c.take_held.new.reader c.take_held.new.listener c.put_next-in-Ok-take_held.new.self c.put_next-in-Ok-take_held.new.next c.self.inside.out_of_memory heard c.in-Ok-take_held.ensures.free
      c.put_next-in-Ok-take_held.ensures.given c.put_next-in-Ok-take_held.ensures.stands c.put_next-in-Ok-take_held.ensures.keeps.plan c.put_next-in-Ok-take_held.ensures.keeps.closed;
  uncertain = search rules;
  refused = search rules;
  memory = search rules;
  lasting = search rules;
  stopped = search rules;
  plan = search rules;
  «open» = search rules;
  bounded = search rules;
  taken = search rules;
}

pub invariant_of-self-in-Err-feed : goal.invariant_of-self-in-Err-feed
invariant_of-self-in-Err-feed c =
    let sound = c.self.invariant in
    record {
      bytes = sound.bytes ++ c.args.piece.now;
      given = sound.given;
      stands = stands_refused sound.bytes c.args.piece.now sound.given _ c.feed.new.self c.in-Err-feed.refusal sound.stands c.if-self.false c.in-Err-feed.ensures.stopped c.in-Err-feed.ensures.stays_refused;
      counted = λ unrefused. absurd (let refused = c.in-Err-feed.ensures.stays_refused in cc);
      idle = sound.idle;
      spent = sound.spent;
    }

pub returns-in-Err-feed : goal.returns-in-Err-feed
returns-in-Err-feed c = record {
  within = search rules;
  nothing = search rules;
  stands = λ bytes given stands.
      let st = subst (StandsFor bytes given) (sym c.self.view_is) stands in
      stands_refused bytes c.args.piece.now given _ c.feed.new.self c.in-Err-feed.refusal st c.if-self.false c.in-Err-feed.ensures.stopped c.in-Err-feed.ensures.stays_refused;
  uncertain = search rules;
  refused = λ refusal same bytes more given stands.
      let st = subst (StandsFor bytes given) (sym c.self.view_is) stands in
      let one : c.in-Err-feed.refusal ≡ refusal = cc in
      let first = (certain_is _ _ (c.in-Err-feed.ensures.refused bytes more (whole_records bytes) (st.read c.if-self.false)).certain).0 in
      first ∙ ap (λ (r : Refusal). Some r) one;
  memory = search rules;
  lasting = search rules;
  stopped = search rules;
  plan = search rules;
  «open» = search rules;
  bounded = search rules;
  taken = search rules;
}
