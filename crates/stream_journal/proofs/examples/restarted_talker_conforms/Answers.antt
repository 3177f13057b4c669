use Rattle.std.proofs.Common.{refl}
use Rattle.stream_journal.proofs.Restarted.{conforms, no_head}
use Rattle.stream_journal.proofs.examples.restarted_talker_conforms.Goals as goal

pub returns-clause-conforms : goal.returns-clause-conforms
returns-clause-conforms c = conforms

pub returns-clause-heads : goal.returns-clause-heads
returns-clause-heads c = record { before = refl; between = no_head; behind = refl }
