use Rattle.stream_journal.proofs.Blocks.{eighth_conform, sixteenth_conform}
use Rattle.stream_journal.proofs.examples.block_talkers_conform.Goals as goal

pub returns-clause-eighth : goal.returns-clause-eighth
returns-clause-eighth c = eighth_conform

pub returns-clause-sixteenth : goal.returns-clause-sixteenth
returns-clause-sixteenth c = sixteenth_conform
