use Rattle.gateway_laws.proofs.Kept.{all_kept}
use Rattle.gateway_laws.proofs.laws.captures_of_pieces_are_kept.Goals as goal

pub returns : goal.returns
returns c = all_kept
