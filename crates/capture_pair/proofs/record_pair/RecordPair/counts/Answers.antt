use Rattle.std.proofs.Common.{◌∙◌, ap, sym, subst}
use Rattle.listener.specs.Listening.{IsIdle as IsIdleListener}
use Rattle.listener_pair.specs.Differences.{counts_of}
use Rattle.listener_pair.specs.Matching.{IsIdle}
use Rattle.capture_pair.specs.Pairing.{PairState, StandsFor, known_by}
use Rattle.capture_pair.proofs.Taking.{counted}
use Rattle.capture_pair.proofs.record_pair.RecordPair.counts.Goals as goal

pub returns : goal.returns
returns c through records others given s =
    let pair : PairState = record { a = c.self.inside.a.listener; b = c.self.inside.b.listener; matching = c.self.inside.matching } in
    let idle : IsIdle pair.matching = subst (λ (p : PairState). IsIdle p.matching) (sym c.self.view_is) through in
    counted records others given pair (IsIdleListener pair.a) (IsIdleListener pair.b) c.counts.result (subst (StandsFor records others given) (sym c.self.view_is) s) c.self.invariant.0 c.self.invariant.1 c.self.invariant.2 idle (c.counts.ensures idle)
    ∙ ap (λ (p : PairState). counts_of (known_by p records others)) c.self.view_is
