use Rattle.listener.proofs.TrueHeadline.{further_flagged}
use Rattle.listener.proofs.laws.further_copies_are_repeats.Goals as goal

pub returns : goal.returns
returns c = further_flagged
