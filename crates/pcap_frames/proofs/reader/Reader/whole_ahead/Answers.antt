use Rattle.std.proofs.Common.{◌≡◌, ◌∙◌, length, rules, sym, subst, take, ℕ}
use Rattle.std.proofs.lemmas.List.{nil_from_length}
use Rattle.std.specs.Prelude.{IfSome}
use Rattle.pcap_frames.specs.Reading.{IsNext, Reading}
use Rattle.pcap_frames.proofs.Lent.{ahead_next, none_next}
use Rattle.pcap_frames.proofs.reader.Reader.whole_ahead.Goals as goal
use Rattle.avtp_base.proofs.Results.{not_some}

pub returns : goal.returns
returns c =
    let accepted = not_some _ (sym c.is_some.ensures ∙ c.if-is_some.false) in
    let none : length c.self.inside.part.items ≡ 0 = search rules in
    let untaken = nil_from_length c.self.inside.part.items none in
    record {
      within = c.whole_size.ensures.whole;
      next = subst (λ (r : Reading). IfSome c.whole_size.result (λ (size : ℕ). IsNext r (take size c.args.piece.now))) c.self.view_is
          (ahead_next _ _ c.in_ok-style.style _ _ _ _ accepted (search rules) untaken c.whole_size.ensures.size c.whole_size.ensures.limit c.whole_size.ensures.whole);
      none = λ none size ahead.
          let next = rw (← c.self.view_is) at ahead in
          none_next _ c.in_ok-style.style _ size (search rules) (c.whole_size.ensures.none none _) next;
    }
