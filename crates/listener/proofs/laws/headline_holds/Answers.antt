use Rattle.listener.proofs.TrueHeadline.{headline}
use Rattle.listener.proofs.laws.headline_holds.Goals as goal

pub returns : goal.returns
returns c = headline
