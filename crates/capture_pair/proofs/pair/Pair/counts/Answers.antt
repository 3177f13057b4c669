use Rattle.std.proofs.Common.{◌∙◌, ap, sym, subst}
use Rattle.listener.specs.Feeding.{IsQuiet}
use Rattle.listener_pair.specs.Differences.{counts_of}
use Rattle.listener_pair.specs.Matching.{IsIdle}
use Rattle.capture_pair.specs.Feeding.{FedPair, StandsFor, known_by}
use Rattle.capture_pair.proofs.Fed.{counted}
use Rattle.capture_pair.proofs.pair.Pair.counts.Goals as goal

pub returns : goal.returns
returns c through bytes others given short s =
    let pair : FedPair = record { a = c.self.inside.a.listener; b = c.self.inside.b.listener; matching = c.self.inside.matching } in
    let idle : IsIdle pair.matching = subst (λ (p : FedPair). IsIdle p.matching) (sym c.self.view_is) through in
    counted bytes others given pair (IsQuiet pair.a) (IsQuiet pair.b) c.counts.result short (subst (StandsFor bytes others given) (sym c.self.view_is) s) c.self.invariant idle (c.counts.ensures idle)
    ∙ ap (λ (p : FedPair). counts_of (known_by p bytes others)) c.self.view_is
