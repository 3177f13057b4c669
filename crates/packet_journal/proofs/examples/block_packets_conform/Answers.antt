use Rattle.packet_journal.proofs.Blocks.{blocks_conform}
use Rattle.packet_journal.proofs.examples.block_packets_conform.Goals as goal

pub returns : goal.returns
returns c = blocks_conform c.block_talkers_conform.ensures.eighth
