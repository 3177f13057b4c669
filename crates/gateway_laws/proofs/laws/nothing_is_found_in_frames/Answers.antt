use Rattle.gateway_laws.proofs.Noted.{none_found}
use Rattle.gateway_laws.proofs.laws.nothing_is_found_in_frames.Goals as goal

pub returns : goal.returns
returns c = none_found
