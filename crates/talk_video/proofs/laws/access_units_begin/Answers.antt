use Rattle.std.proofs.Common.{refl}
use Rattle.talk_video.proofs.UnitLaws.{begins_where, begun_where, same_or_next}
use Rattle.talk_video.proofs.laws.access_units_begin.Goals as goal

pub returns-clause-first : goal.returns-clause-first
returns-clause-first c = λ bytes units. refl

pub returns-clause-further : goal.returns-clause-further
returns-clause-further c = same_or_next

pub returns-clause-next : goal.returns-clause-next
returns-clause-next c = λ bytes units i. ((λ e. begun_where bytes units i e), (λ both. begins_where bytes units i both.0 both.1))
