use Rattle.gateway_laws.proofs.InOrder.{all_presented}
use Rattle.gateway_laws.proofs.laws.items_in_order_are_presented.Goals as goal

pub returns : goal.returns
returns c = all_presented
