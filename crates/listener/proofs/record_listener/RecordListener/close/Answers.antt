use Rattle.std.proofs.Common.{refl, rules, sym, subst, ap, ◌∙◌}
use Rattle.listener.specs.Gathering.{left}
use Rattle.listener.specs.Listening.{ListenState, StandsFor, is_closed}
use Rattle.listener.proofs.Listened.{stands_closed}
use Rattle.listener.proofs.record_listener.RecordListener.close.Goals as goal

pub invariant_of-self : goal.invariant_of-self
invariant_of-self c =
    let sound = c.self.invariant.0 in (
      record {
        records = sound.records;
        given = sound.given;
        stands = stands_closed sound.records sound.given _ _ sound.stands (ap is_closed c.self.view_is ∙ c.requires.open) refl refl refl (ap (λ (l : ListenState). left l.units) c.self.view_is ∙ c.requires.idle.none) c.end.ensures.gives refl;
        few = sound.few;
      },
      c.self.invariant.1,
      λ rests. absurd cc,
    )

pub returns : goal.returns
returns c = record {
  stands = λ records given stands.
      let st = subst (StandsFor records given) (sym c.self.view_is) stands in
      stands_closed records given _ _ st (ap is_closed c.self.view_is ∙ c.requires.open) refl refl refl (ap (λ (l : ListenState). left l.units) c.self.view_is ∙ c.requires.idle.none) c.end.ensures.gives refl;
  plan = search rules;
  frames = search rules;
  closed = search rules;
  work = search rules;
}
