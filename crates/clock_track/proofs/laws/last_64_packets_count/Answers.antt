use Rattle.std.proofs.Common.{refl}
use Rattle.avtp_base.specs.Octets.{bits}
use Rattle.clock_track.proofs.laws.last_64_packets_count.Goals as goal

pub returns-clause-last : goal.returns-clause-last
unfolding bits
returns-clause-last c = refl

pub returns-clause-dropped : goal.returns-clause-dropped
unfolding bits
returns-clause-dropped c = refl
