use Rattle.std.proofs.Common.{refl, sym, subst, arith}
use Rattle.cvf_format.specs.Assembly.{StandsFor}
use Rattle.listener.specs.Gathering.{Gathered}
use Rattle.listener.specs.Units.{events}
use Rattle.listener.proofs.Gathered.{end_gives, sound_ended}
use Rattle.listener.proofs.units.Units.end.Goals as goal

pub invariant_of-self : goal.invariant_of-self
invariant_of-self c = (sound_ended _ c.cut-self-inside.new.self c.self.invariant.0 c.cut-self-inside.ensures.stands, c.cut-self-inside.ensures.marks, omega arith)

pub returns : goal.returns
returns c = record {
  gives = λ ds has.
      let here = subst (λ (a : Gathered). StandsFor a.assembly (events ds)) (sym c.self.view_is) has.assembly in
      end_gives ds _ (c.cut-self-inside.ensures.stands (events ds) here) refl refl refl;
}
