use Rattle.listener_laws.proofs.Anywhere.{welcome_here}
use Rattle.listener_laws.proofs.laws.copies_anywhere_are_welcome.Goals as goal

pub returns : goal.returns
returns c = welcome_here
