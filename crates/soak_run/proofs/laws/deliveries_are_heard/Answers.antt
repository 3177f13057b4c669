use Rattle.soak_run.proofs.HeardLemmas.{hears}
use Rattle.soak_run.proofs.laws.deliveries_are_heard.Goals as goal

pub returns : goal.returns
returns c = hears c.packet_again.ensures
