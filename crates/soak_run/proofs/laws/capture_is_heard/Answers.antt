use Rattle.soak_run.proofs.HeardLemmas.{reads_back, reads_whole, shown_of_bytes}
use Rattle.soak_run.proofs.laws.capture_is_heard.Goals as goal

pub returns-clause-records : goal.returns-clause-records
returns-clause-records c = reads_back

pub returns-clause-refusal : goal.returns-clause-refusal
returns-clause-refusal c = reads_whole

pub returns-clause-shown : goal.returns-clause-shown
returns-clause-shown c = shown_of_bytes
