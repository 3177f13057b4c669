use Rattle.std.proofs.Common.{◌≡◌, ◌∙◌, Some, ap, sym, subst, rules}
use Rattle.listener.specs.Feeding.{IsQuiet}
use Rattle.listener_pair.specs.Matching.{wanted}
use Rattle.capture_pair.specs.Feeding.{FedPair, KeepsOther, StandsFor}
use Rattle.capture_pair.proofs.Fed.{fed-a, fed-b, open-side, other-fed, refused-on, uncertain-on}
use Rattle.capture_pair.proofs.pair.Pair.feed.Goals as goal

pub returns : goal.returns
returns c = record {
  within = search rules;
  nothing = search rules;
  stands_a = λ is bytes others given short s.
      let pair : FedPair = record { a = c.self.inside.a.listener; b = c.self.inside.b.listener; matching = c.self.inside.matching } in
      let w : wanted pair.matching ≡ Some c.args.which = ap (λ (p : FedPair). wanted p.matching) c.self.view_is ∙ c.requires.wanted in
      fed-a c.args.which c.args.piece.now c.feed_on-answer.result bytes others given pair c.feed_on-answer.new.a.listener c.feed_on-answer.new.b.listener c.fill_both.new.a.listener c.fill_both.new.b.listener c.fill_both.new.matching is w
      (open-side c.args.which (IsQuiet pair.a) (IsQuiet pair.b) pair c.self.invariant w) c.feed_on-answer.ensures short c.fill_both.ensures.pairs (subst (StandsFor bytes others given) (sym c.self.view_is) s);
  stands_b = λ is bytes others given short s.
      let pair : FedPair = record { a = c.self.inside.a.listener; b = c.self.inside.b.listener; matching = c.self.inside.matching } in
      let w : wanted pair.matching ≡ Some c.args.which = ap (λ (p : FedPair). wanted p.matching) c.self.view_is ∙ c.requires.wanted in
      fed-b c.args.which c.args.piece.now c.feed_on-answer.result bytes others given pair c.feed_on-answer.new.a.listener c.feed_on-answer.new.b.listener c.fill_both.new.a.listener c.fill_both.new.b.listener c.fill_both.new.matching is w
      (open-side c.args.which (IsQuiet pair.a) (IsQuiet pair.b) pair c.self.invariant w) c.feed_on-answer.ensures short c.fill_both.ensures.pairs (subst (StandsFor bytes others given) (sym c.self.view_is) s);
  uncertain =
      let pair : FedPair = record { a = c.self.inside.a.listener; b = c.self.inside.b.listener; matching = c.self.inside.matching } in
      uncertain-on c.args.which c.args.piece.now c.feed_on-answer.result pair _ c.feed_on-answer.new.a.listener c.feed_on-answer.new.b.listener c.feed_on-answer.ensures c.self.view_is;
  refused = λ refusal is bytes others more given s.
      let pair : FedPair = record { a = c.self.inside.a.listener; b = c.self.inside.b.listener; matching = c.self.inside.matching } in
      refused-on c.args.which c.args.piece.now c.feed_on-answer.result refusal bytes others more given pair c.feed_on-answer.new.a.listener c.feed_on-answer.new.b.listener c.feed_on-answer.ensures is (subst (StandsFor bytes others given) (sym c.self.view_is) s);
  lasting = search rules;
  memory = search rules;
  other =
      let pair : FedPair = record { a = c.self.inside.a.listener; b = c.self.inside.b.listener; matching = c.self.inside.matching } in
      subst (λ (p : FedPair). KeepsOther c.args.which p (record { a = c.fill_both.new.a.listener; b = c.fill_both.new.b.listener; matching = c.fill_both.new.matching })) c.self.view_is
      (other-fed c.args.which c.args.piece.now c.feed_on-answer.result pair c.feed_on-answer.new.a.listener c.feed_on-answer.new.b.listener c.fill_both.new.a.listener c.fill_both.new.b.listener c.fill_both.new.matching c.feed_on-answer.ensures c.fill_both.ensures.stays.kept_a c.fill_both.ensures.stays.kept_b);
  taken = search rules;
}
