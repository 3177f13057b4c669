use Rattle.gateway_laws.proofs.Stamped.{stamped_presented}
use Rattle.gateway_laws.proofs.laws.stamped_packets_in_order_are_presented.Goals as goal

pub returns : goal.returns
returns c = stamped_presented
