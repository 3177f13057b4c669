use Rattle.std.proofs.Common.{refl}
use Rattle.listen_command.proofs.receiving.ReceivingReceiver.take_back.Goals as goal

pub returns-clause-gave : goal.returns-clause-gave
returns-clause-gave g c begun items gave = (gave.0, gave.1, rw (c.take_back.ensures.source, c.take_back.ensures.listener, c.take_back.ensures.stage) gave.2)

pub returns-clause-left : goal.returns-clause-left
returns-clause-left g c = rw (c.take_back.ensures.source, c.take_back.ensures.listener, c.take_back.ensures.stage) refl

pub returns-clause-ended : goal.returns-clause-ended
returns-clause-ended g c = rw (c.take_back.ensures.source, c.take_back.ensures.stage) refl
