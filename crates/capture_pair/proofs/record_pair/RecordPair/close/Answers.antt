use Rattle.std.proofs.Common.{◌≡◌, ◌∙◌, Some, ap, sym, subst, rules}
use Rattle.listener.specs.Listening.{IsIdle as IsIdleListener}
use Rattle.listener_pair.specs.Matching.{wanted}
use Rattle.capture_pair.specs.Pairing.{PairState, StandsFor}
use Rattle.capture_pair.proofs.Taking.{closed-pair, open-side}
use Rattle.capture_pair.proofs.record_pair.RecordPair.close.Goals as goal

pub returns : goal.returns
returns c = record {
  stands = λ records others given s.
      let pair : PairState = record { a = c.self.inside.a.listener; b = c.self.inside.b.listener; matching = c.self.inside.matching } in
      let w : wanted pair.matching ≡ Some c.args.which = ap (λ (p : PairState). wanted p.matching) c.self.view_is ∙ c.requires.wanted in
      closed-pair c.args.which records others given pair c.close.new.a.listener c.close.new.b.listener c.fill_both.new.a.listener c.fill_both.new.b.listener c.fill_both.new.matching w
      (open-side c.args.which (IsIdleListener pair.a) (IsIdleListener pair.b) pair c.self.invariant.0 w) c.close.ensures c.self.invariant.1 c.self.invariant.2 c.fill_both.ensures.pairs (subst (StandsFor records others given) (sym c.self.view_is) s);
  closed = search rules;
}
