use Rattle.std.proofs.Common.{refl, arith, Some}
use Rattle.cvf_format.specs.declared.piece.Lost.TheVariants.{Broken}
use Rattle.listener.proofs.Gathered.{sound_cut}
use Rattle.listener.proofs.units.Units.cut.Goals as goal

pub invariant_of-self : goal.invariant_of-self
invariant_of-self c = (
  sound_cut c.args.item _ (record { assembly = c.cut-self-inside.new.self; why = Broken; taken = 0; own = Some c.args.item }) c.self.invariant.0 c.requires
      (record { stands = c.cut-self-inside.ensures.stands; why = refl; taken = refl; own = refl }),
  c.cut-self-inside.ensures.marks,
  omega arith,
)
