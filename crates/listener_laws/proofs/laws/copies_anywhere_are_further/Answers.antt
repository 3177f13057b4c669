use Rattle.listener_laws.proofs.Anywhere.{further_here}
use Rattle.listener_laws.proofs.laws.copies_anywhere_are_further.Goals as goal

pub returns : goal.returns
returns c = further_here
