use Rattle.listener.proofs.Counted.{counts-add-up}
use Rattle.listener.proofs.laws.each_packet_is_shown_once.Goals as goal

pub returns : goal.returns
returns c = counts-add-up
