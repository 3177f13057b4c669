use Rattle.sample_schedule.proofs.VerdictLemmas.{copies-stand}
use Rattle.sample_schedule.proofs.laws.copies_wait.Goals as goal

pub returns : goal.returns
returns c = copies-stand
