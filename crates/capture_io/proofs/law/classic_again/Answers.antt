use Rattle.capture_io.proofs.Respelled.{classic_same}
use Rattle.capture_io.proofs.law.classic_again.Goals as goal

pub returns : goal.returns
returns c = classic_same
