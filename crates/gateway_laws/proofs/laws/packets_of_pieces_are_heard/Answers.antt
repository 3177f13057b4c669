use Rattle.gateway_laws.proofs.Carried.{gateway_heard}
use Rattle.gateway_laws.proofs.laws.packets_of_pieces_are_heard.Goals as goal

pub returns : goal.returns
returns c = gateway_heard
