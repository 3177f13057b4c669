use Rattle.std.proofs.Common.{◌≡◌, None, rules, sym, subst, ◌∙◌}
use Rattle.std.specs.Prelude.{slice_get}
use Rattle.listener.specs.Listening.{ListenState, StandsFor, out}
use Rattle.listener.proofs.Listened.{nothing_out}
use Rattle.listener.proofs.record_listener.RecordListener.put_next.Goals as goal

pub returns-then-self : goal.returns-then-self
returns-then-self c = record {
  given = λ records given stands.
      let st = subst (StandsFor records given) (sym c.self.view_is) stands in
      c.requires ∙ subst (λ (l : ListenState). None ≡ slice_get (out l records) given) c.self.view_is (nothing_out records given _ st (c.self.invariant.2 c.if-self.true));
  stands = search rules;
  idle = search rules;
  keeps = search rules;
  less = search rules;
}
