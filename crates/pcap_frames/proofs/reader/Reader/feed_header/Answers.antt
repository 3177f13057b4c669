use Rattle.std.proofs.Common.{◌∙◌, sym, ap, Some, arith, rules, refl, is_some, subst, List, ℕ, ◌++◌}
use Rattle.std.proofs.lemmas.List.{take-append-drop}
use Rattle.pcap_frames.specs.Reading.{HasRead}
use Rattle.pcap_frames.proofs.Fields.{file_whole, file_short, file_style, opened, in_header, still_in_header, short_only}
use Rattle.pcap_frames.proofs.Steps.{reading, header_goes_on, header_ends, header_refuses}
use Rattle.pcap_frames.proofs.reader.Reader.feed_header.Goals as goal

pub style_at-self-inside-requires : goal.style_at-self-inside-requires
style_at-self-inside-requires c =
    let whole = file_whole _ (sym c.file_refusal.ensures ∙ c.in-None.is) in
    omega arith

pub invariant_of-self : goal.invariant_of-self
invariant_of-self c =
    let this = rw (← c.self.view_is) at c.requires in
    record {
      room = omega arith;
      bounded = search rules;
      reading = opened _ _ _ _ this.accepted (ap is_some c.style_at-self-inside.ensures ∙ file_style _ (sym c.file_refusal.ensures ∙ c.in-None.is)) c.clear.ensures.items;
    }

pub invariant_of-self-then-refusal : goal.invariant_of-self-then-refusal
invariant_of-self-then-refusal c =
    let this = rw (← c.self.view_is) at c.requires in
    let room = this.bounded in
    let old = in_header _ _ _ _ this.accepted this.styled c.self.invariant.reading in
    let why = sym c.file_refusal.ensures ∙ c.in-Some.is in
    record {
      room = omega arith;
      bounded = omega arith;
      reading = still_in_header _ _ _ _ this.accepted this.styled (rw (← c.as_slice-header.ensures.value) (record {
        begins = old.begins;
        accepted = short_only _ _ why c.if-refusal.true;
        partial = file_short _ _ why c.if-refusal.true;
      }));
    }

pub returns-in-None : goal.returns-in-None
returns-in-None c =
    let this = rw (← c.self.view_is) at c.requires in
    let old = in_header _ _ _ _ this.accepted this.styled c.self.invariant.reading in
    let all = sym c.file_refusal.ensures ∙ c.in-None.is in
    let whole = rw (c.as_slice-header.ensures.value, c.gather-taken.ensures.moved) at all in
    let long = file_whole _ whole in
    let is = rw (c.as_slice-header.ensures.value, c.gather-taken.ensures.moved) at c.style_at-self-inside.ensures in
    let grown = rw c.gather-taken.ensures.moved at c.gather-taken.ensures.grown in
    record {
      some = λ more. omega (arith, more, old.partial, c.gather-taken.ensures.taken);
      end = λ less. ap is_some c.style_at-self-inside.ensures ∙ file_style _ (sym c.file_refusal.ensures ∙ c.in-None.is);
      steps = record {
        within = omega arith;
        counted = rw (c.clear.ensures.items, ← c.self.view_is) (omega arith);
        bounded = rw (c.clear.ensures.items, ← c.self.view_is) (omega arith);
        read = λ bytes records h.
            let before = rw (← c.self.view_is) at h in
            header_ends _ _ _ _ _ _ _ _ _ this.accepted this.styled whole (omega arith) is c.clear.ensures.items before;
        accepted = this.accepted;
        refused = tt;
        stopped = tt;
      };
    }

pub returns-in-Some : goal.returns-in-Some
returns-in-Some c =
    let this = rw (← c.self.view_is) at c.requires in
    let old = in_header _ _ _ _ this.accepted this.styled c.self.invariant.reading in
    let some = sym c.file_refusal.ensures ∙ c.in-Some.is in
    let why = rw (c.as_slice-header.ensures.value, c.gather-taken.ensures.moved) at some in
    record {
      some = λ more. omega (arith, more, old.partial, c.gather-taken.ensures.taken);
      end = λ less.
          let some = sym c.file_refusal.ensures ∙ c.in-Some.is in
          let why = rw c.as_slice-header.ensures.value at some in
          let short = file_short _ _ why c.if-refusal.true in
          absurd (omega arith);
      steps = record {
        within = omega arith;
        counted = rw (← c.self.view_is) (omega arith);
        bounded = rw (← c.self.view_is) (omega arith);
        read = λ bytes records h.
            let before = rw (← c.self.view_is) at h in
            rw c.gather-taken.ensures.moved (header_goes_on _ _ _ _ _ _ _ _ this.accepted this.styled why (still_in_header _ _ _ _ this.accepted this.styled (record {
              begins = old.begins;
              accepted = short_only _ _ why c.if-refusal.true;
              partial = file_short _ _ why c.if-refusal.true;
            })) before);
        accepted = this.accepted;
        refused = tt;
        stopped = tt;
      };
    }

pub returns-in-Some-2 : goal.returns-in-Some-2
returns-in-Some-2 c =
    let this = rw (← c.self.view_is) at c.requires in
    let some = sym c.file_refusal.ensures ∙ c.in-Some.is in
    let why = rw (c.as_slice-header.ensures.value, c.gather-taken.ensures.moved) at some in
    record {
      some = tt;
      end = tt;
      steps = record {
        within = tt;
        counted = tt;
        bounded = rw (← c.self.view_is) (omega arith);
        read = tt;
        accepted = tt;
        refused = refl;
        stopped = λ bytes records h.
            let before = rw (← c.self.view_is) at h in
            subst (λ (p : List ℕ). HasRead (reading (Some c.in-Some.refusal) c.self.inside.style c.self.inside.start c.gather-taken.new.part.items) (bytes ++ p) records)
            (take-append-drop c.gather-taken.result c.args.piece.now)
            (header_refuses _ _ _ _ _ _ _ _ _ _ this.accepted this.styled why c.if-refusal.false before);
      };
    }
