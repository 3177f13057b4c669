use Rattle.soak_run.proofs.HeardLemmas.{keeps_headline}
use Rattle.soak_run.proofs.laws.deliveries_keep_headline.Goals as goal

pub returns : goal.returns
returns c = keeps_headline c.packet_again.ensures
