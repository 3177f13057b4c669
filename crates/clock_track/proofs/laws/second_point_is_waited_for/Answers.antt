use Rattle.std.proofs.Common.{refl}
use Rattle.clock_track.proofs.Latest.{by_now, not_yet}
use Rattle.clock_track.proofs.laws.second_point_is_waited_for.Goals as goal

pub returns-clause-before : goal.returns-clause-before
returns-clause-before c = not_yet

pub returns-clause-behind : goal.returns-clause-behind
returns-clause-behind c = by_now

pub returns-clause-spot : goal.returns-clause-spot
returns-clause-spot c instant = refl
