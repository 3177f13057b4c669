use Rattle.capture_hearing.proofs.HearingTo.{live_by, ended_live}
use Rattle.listen_command.proofs.receiving.ReceivingReceiver.next.Goals as goal

pub next-requires : goal.next-requires
next-requires g c = live_by _ _ c.requires

pub returns-clause-gave : goal.returns-clause-gave
returns-clause-gave g c begun items gave = (gave.0, gave.1, c.next.ensures.on.shows _ begun.hearing.now.source begun.hearing.now.listener items gave.2)

pub returns-clause-left : goal.returns-clause-left
returns-clause-left g c = c.next.ensures.on.left

pub returns-clause-ended : goal.returns-clause-ended
returns-clause-ended g c = ended_live _ _ _ c.next.ensures.on.live c.next.ensures.ended
