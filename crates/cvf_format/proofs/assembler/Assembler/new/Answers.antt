use Rattle.std.proofs.Common.{refl}
use Rattle.cvf_format.proofs.AssemblyLemmas.{stands_none}
use Rattle.cvf_format.proofs.assembler.Assembler.new.Goals as goal

pub returns : goal.returns
returns c = stands_none _ c.in_ok-with_capacity-2.ensures.items c.in_ok-with_capacity-3.ensures.items refl
