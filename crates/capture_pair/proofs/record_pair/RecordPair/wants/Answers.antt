use Rattle.std.proofs.Common.{◌∙◌, ap, sym, subst, rules}
use Rattle.listener.specs.Listening.{IsIdle as IsIdleListener, is_closed}
use Rattle.listener_pair.specs.Matching.{IsIdle}
use Rattle.capture_pair.specs.Pairing.{EndsAreClosed, PairState}
use Rattle.capture_pair.proofs.Filling.{closed-of}
use Rattle.capture_pair.proofs.record_pair.RecordPair.wants.Goals as goal

pub returns : goal.returns
returns c = record {
  wanted = search rules;
  «open» = search rules;
  closed = λ none through.
      let pair : PairState = record { a = c.self.inside.a.listener; b = c.self.inside.b.listener; matching = c.self.inside.matching } in
      let idle : IsIdle pair.matching = subst (λ (p : PairState). IsIdle p.matching) (sym c.self.view_is) through in
      let closed = closed-of (is_closed pair.a) (is_closed pair.b) (IsIdleListener pair.a) (IsIdleListener pair.b) pair.matching c.self.invariant.0 (sym c.wants.ensures ∙ none) idle in
      (ap (λ (p : PairState). is_closed p.a) (sym c.self.view_is) ∙ closed.0, ap (λ (p : PairState). is_closed p.b) (sym c.self.view_is) ∙ closed.1);
  ends = subst EndsAreClosed c.self.view_is (record { a = c.self.invariant.0.over_a; b = c.self.invariant.0.over_b });
}
