use Rattle.listener.proofs.TrueOnce.{presented_once}
use Rattle.listener.proofs.laws.no_packet_twice.Goals as goal

pub returns : goal.returns
returns c = presented_once
