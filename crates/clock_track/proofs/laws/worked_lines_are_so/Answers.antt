use Rattle.std.proofs.Common.{refl}
use Rattle.avtp_base.specs.Octets.{bits}
use Rattle.clock_track.proofs.laws.worked_lines_are_so.Goals as goal

pub returns-clause-own : goal.returns-clause-own
unfolding bits
returns-clause-own c = refl

pub returns-clause-other : goal.returns-clause-other
unfolding bits
returns-clause-other c = refl

pub returns-clause-before : goal.returns-clause-before
unfolding bits
returns-clause-before c = refl

pub returns-clause-restarted : goal.returns-clause-restarted
unfolding bits
returns-clause-restarted c = refl
