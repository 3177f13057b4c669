use Rattle.gateway_laws.proofs.Scanned.{none_found, shape_found}
use Rattle.gateway_laws.proofs.laws.captures_of_pieces_can_be_turned.Goals as goal

pub returns-clause-fault : goal.returns-clause-fault
returns-clause-fault c = none_found

pub returns-clause-shape : goal.returns-clause-shape
returns-clause-shape c = shape_found
