use Rattle.std.proofs.Common.{◌∙◌, ap, sym, subst, rules}
use Rattle.listener.specs.Feeding.{IsQuiet, is_ended}
use Rattle.listener_pair.specs.Matching.{IsIdle}
use Rattle.capture_pair.specs.Feeding.{FedPair}
use Rattle.capture_pair.proofs.Filling.{closed-of}
use Rattle.capture_pair.proofs.pair.Pair.wants.Goals as goal

pub returns : goal.returns
returns c = record {
  wanted = search rules;
  «open» = search rules;
  closed = λ none through.
      let pair : FedPair = record { a = c.self.inside.a.listener; b = c.self.inside.b.listener; matching = c.self.inside.matching } in
      let idle : IsIdle pair.matching = subst (λ (p : FedPair). IsIdle p.matching) (sym c.self.view_is) through in
      let closed = closed-of (is_ended pair.a) (is_ended pair.b) (IsQuiet pair.a) (IsQuiet pair.b) pair.matching c.self.invariant (sym c.wants.ensures ∙ none) idle in
      (ap (λ (p : FedPair). is_ended p.a) (sym c.self.view_is) ∙ closed.0, ap (λ (p : FedPair). is_ended p.b) (sym c.self.view_is) ∙ closed.1);
}
