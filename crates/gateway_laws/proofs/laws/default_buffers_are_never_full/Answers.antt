use Rattle.gateway_laws.proofs.Room.{has_room}
use Rattle.gateway_laws.proofs.laws.default_buffers_are_never_full.Goals as goal

pub returns : goal.returns
returns c = has_room
