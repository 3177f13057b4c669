use Rattle.std.proofs.Common.{◌≡◌, ◌∙◌, sym, arith, length, rules, refl}
use Rattle.avtp_base.proofs.Results.{not_some}
use Rattle.pcap_frames.proofs.Fields.{released}
use Rattle.pcap_frames.proofs.Ends.{gives_up, free_held}
use Rattle.pcap_frames.proofs.Steps.{releases_none}
use Rattle.pcap_frames.proofs.reader.Reader.release.Goals as goal

pub returns-then-not-is_whole : goal.returns-then-not-is_whole
returns-then-not-is_whole c =
    let is = sym c.is_whole.ensures ∙ c.if-not-is_whole.true in
    record { answer = sym is; releases = releases_none _ (not_some _ is); still = λ none. refl; style = refl }

pub invariant_of-self : goal.invariant_of-self
invariant_of-self c =
    let is = sym c.is_whole.ensures ∙ c.if-not-is_whole.false in
    let some = rw (← c.self.view_is) at is in
    record {
      room = omega arith;
      bounded = search rules;
      reading = released _ _ _ _ _ _ some c.clear.ensures.items;
    }

pub returns : goal.returns
returns c =
    let is = sym c.is_whole.ensures ∙ c.if-not-is_whole.false in
    let some = rw (← c.self.view_is) at is in
    let size : c.len.result ≡ length c.self.inside.part.items = search rules in
    rw (← c.self.view_is) (record {
      answer = sym some;
      releases = record {
        given_up = λ bytes records h. rw size (gives_up _ _ _ _ _ bytes records some c.clear.ensures.items h);
        free = free_held _ _ _ _ c.clear.ensures.items;
        counted = omega (arith, size);
        refusal = refl;
      };
      still = λ none. absurd cc;
      style = refl;
    })
