use Rattle.talk_video.proofs.UnitLaws.{place_by, place_is, whole}
use Rattle.talk_video.proofs.laws.units_are_carried.Goals as goal

pub returns-clause-place : goal.returns-clause-place
returns-clause-place c = λ units n i k. ((λ e. place_is units n i k e), (λ both. place_by units n i k both.0 both.1))

pub returns-clause-whole : goal.returns-clause-whole
returns-clause-whole c = whole
