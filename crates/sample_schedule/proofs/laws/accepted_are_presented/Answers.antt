use Rattle.sample_schedule.proofs.LawLemmas.{accepted-presented}
use Rattle.sample_schedule.proofs.laws.accepted_are_presented.Goals as goal

pub returns : goal.returns
returns c clock plan entries = accepted-presented clock plan entries
