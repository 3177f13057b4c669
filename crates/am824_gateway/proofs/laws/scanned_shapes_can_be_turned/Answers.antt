use Rattle.am824_gateway.proofs.Scanned.{scanned_fits}
use Rattle.am824_gateway.proofs.laws.scanned_shapes_can_be_turned.Goals as goal

pub returns : goal.returns
returns c = scanned_fits
