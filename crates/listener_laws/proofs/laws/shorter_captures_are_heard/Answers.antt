use Rattle.listener_laws.proofs.Shorter.{shorter_heard}
use Rattle.listener_laws.proofs.laws.shorter_captures_are_heard.Goals as goal

pub returns : goal.returns
returns c = shorter_heard
