use Rattle.std.proofs.Common.{◌≡◌, None, rules, sym, ap, ◌∙◌, subst, arith}
use Rattle.std.specs.Prelude.{slice_get}
use Rattle.pcap_frames.specs.Capture.{whole_records}
use Rattle.listener.specs.Feeding.{Feeding, StandsFor}
use Rattle.listener.proofs.Fed.{if_none, stands_quiet}
use Rattle.listener.proofs.Listened.{out_same}
use Rattle.listener.proofs.listener.Listener.end.Goals as goal

pub invariant_of-self : goal.invariant_of-self
invariant_of-self c =
    let sound = c.self.invariant in
    let quiet : c.self.inside.next ≡ None = ap (λ (f : Feeding). f.next) c.self.view_is ∙ c.requires.quiet in
    let here = c.close.ensures.stands (whole_records sound.bytes) sound.given (stands_quiet sound.bytes sound.given _ sound.stands quiet) in
    record {
      bytes = sound.bytes;
      given = sound.given;
      stands = record {
        read = sound.stands.read;
        stands = c.next_out.ensures.stands (whole_records sound.bytes) sound.given here;
        next = c.next_out.ensures.given (whole_records sound.bytes) sound.given here
            ∙ ap (λ o. slice_get o sound.given) (sym (out_same c.close.new.self c.next_out.new.self (whole_records sound.bytes) c.next_out.ensures.keeps.plan c.next_out.ensures.keeps.closed));
      };
      counted = λ unrefused. omega (arith, sound.counted unrefused, c.close.ensures.frames, c.next_out.ensures.keeps.frames);
      idle = λ none. if_none c.next_out.result c.next_out.ensures.idle none;
      spent = λ memory. absurd (let no = c.if-self.false in cc);
    }

pub returns : goal.returns
returns c = record {
  stands = λ bytes given stands.
      let st = subst (StandsFor bytes given) (sym c.self.view_is) stands in
      let quiet : c.self.inside.next ≡ None = ap (λ (f : Feeding). f.next) c.self.view_is ∙ c.requires.quiet in
      let here = c.close.ensures.stands (whole_records bytes) given (stands_quiet bytes given _ st quiet) in
      record {
        read = st.read;
        stands = c.next_out.ensures.stands (whole_records bytes) given here;
        next = c.next_out.ensures.given (whole_records bytes) given here
            ∙ ap (λ o. slice_get o given) (sym (out_same c.close.new.self c.next_out.new.self (whole_records bytes) c.next_out.ensures.keeps.plan c.next_out.ensures.keeps.closed));
      };
  refused = search rules;
  ended = search rules;
  lasting = search rules;
  plan = search rules;
}
