use Rattle.listener.proofs.TrueTimely.{welcome_shown}
use Rattle.listener.proofs.laws.known_and_in_time_is_presented.Goals as goal

pub returns : goal.returns
returns c = welcome_shown
