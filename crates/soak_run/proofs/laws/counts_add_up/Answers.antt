use Rattle.soak_run.proofs.HeardLemmas.{add_up}
use Rattle.soak_run.proofs.laws.counts_add_up.Goals as goal

pub returns : goal.returns
returns c = add_up c.packet_again.ensures
