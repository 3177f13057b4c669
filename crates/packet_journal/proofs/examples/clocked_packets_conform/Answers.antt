use Rattle.std.proofs.Common.{arith}
use Rattle.packet_journal.proofs.Silent.{clocked_conform}
use Rattle.packet_journal.proofs.examples.clocked_packets_conform.Goals as goal

pub returns : goal.returns
returns c = clocked_conform ((c.clocked_talkers_conform.ensures 48000).1 (omega arith, omega arith))
