use Rattle.std.proofs.Common.{◌≡◌, ◌∙◌, Some, ap, sym, subst, rules}
use Rattle.std.specs.Result.{result_err}
use Rattle.listener.specs.Feeding.{IsQuiet}
use Rattle.listener_pair.specs.Matching.{wanted}
use Rattle.capture_pair.specs.Feeding.{FedPair, KeepsOther, StandsFor}
use Rattle.capture_pair.proofs.Fed.{ended-pair, open-side, other-ended}
use Rattle.capture_pair.proofs.pair.Pair.end.Goals as goal

pub returns : goal.returns
returns c = record {
  stands = λ bytes others given short s.
      let pair : FedPair = record { a = c.self.inside.a.listener; b = c.self.inside.b.listener; matching = c.self.inside.matching } in
      let w : wanted pair.matching ≡ Some c.args.which = ap (λ (p : FedPair). wanted p.matching) c.self.view_is ∙ c.requires.wanted in
      ended-pair c.args.which (result_err c.end_on-answer.result) bytes others given pair c.end_on-answer.new.a.listener c.end_on-answer.new.b.listener c.fill_both.new.a.listener c.fill_both.new.b.listener c.fill_both.new.matching w
      (open-side c.args.which (IsQuiet pair.a) (IsQuiet pair.b) pair c.self.invariant w) c.end_on-answer.ensures short c.fill_both.ensures.pairs (subst (StandsFor bytes others given) (sym c.self.view_is) s);
  refused = search rules;
  ended = search rules;
  lasting = search rules;
  other =
      let pair : FedPair = record { a = c.self.inside.a.listener; b = c.self.inside.b.listener; matching = c.self.inside.matching } in
      subst (λ (p : FedPair). KeepsOther c.args.which p (record { a = c.fill_both.new.a.listener; b = c.fill_both.new.b.listener; matching = c.fill_both.new.matching })) c.self.view_is
      (other-ended c.args.which (result_err c.end_on-answer.result) pair c.end_on-answer.new.a.listener c.end_on-answer.new.b.listener c.fill_both.new.a.listener c.fill_both.new.b.listener c.fill_both.new.matching c.end_on-answer.ensures c.fill_both.ensures.stays.kept_a c.fill_both.ensures.stays.kept_b);
}
