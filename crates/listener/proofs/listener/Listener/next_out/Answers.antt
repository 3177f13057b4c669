use Rattle.std.proofs.Common.{◌≡◌, ◌+◌, Option, Some, sym, ap, ◌∙◌, subst, arith, length}
use Rattle.std.specs.Prelude.{slice_get}
use Rattle.std.specs.Option.{option_to_list}
use Rattle.pcap_frames.specs.Capture.{whole_records}
use Rattle.sample_schedule.specs.declared.shown.Shown.{Shown}
use Rattle.listener.specs.Listening.{StandsFor as RecordsStandFor}
use Rattle.listener.proofs.Fed.{if_none}
use Rattle.listener.proofs.Listened.{out_same}
use Rattle.listener.proofs.listener.Listener.next_out.Goals as goal

pub invariant_of-self-2 : goal.invariant_of-self-2
invariant_of-self-2 c =
    let sound = c.self.invariant in
    let some : Some c.in_ok-shown.shown ≡ c.self.inside.next = cc in
    let here : RecordsStandFor (whole_records sound.bytes) (sound.given + 1) c.self.inside.listener =
    subst (λ (o : Option Shown). RecordsStandFor (whole_records sound.bytes) (sound.given + length (option_to_list o)) c.self.inside.listener) (sym some) sound.stands.stands in
    record {
      bytes = sound.bytes;
      given = sound.given + 1;
      stands = record {
        read = sound.stands.read;
        stands = c.next_out.ensures.stands (whole_records sound.bytes) (sound.given + 1) here;
        next = c.next_out.ensures.given (whole_records sound.bytes) (sound.given + 1) here
            ∙ ap (λ o. slice_get o (sound.given + 1)) (sym (out_same c.self.inside.listener c.next_out.new.self (whole_records sound.bytes) c.next_out.ensures.keeps.plan c.next_out.ensures.keeps.closed));
      };
      counted = λ unrefused. omega (arith, sound.counted unrefused, c.next_out.ensures.keeps.frames);
      idle = λ none. if_none c.next_out.result c.next_out.ensures.idle none;
      spent = λ memory. let none = sound.spent memory in absurd cc;
    }
