use Rattle.gateway_laws.proofs.Heard.{heard_carry}
use Rattle.gateway_laws.proofs.laws.frames_carry_the_pieces.Goals as goal

pub returns : goal.returns
returns c = heard_carry
