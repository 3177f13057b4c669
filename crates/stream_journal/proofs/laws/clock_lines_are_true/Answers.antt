use Rattle.stream_journal.proofs.TrueLines.{one_spot, spot_sample, true_lines, true_spot}
use Rattle.stream_journal.proofs.laws.clock_lines_are_true.Goals as goal

pub returns-clause-pairs : goal.returns-clause-pairs
returns-clause-pairs c clock shift rows is all = true_lines clock shift rows is all

pub returns-clause-spot : goal.returns-clause-spot
returns-clause-spot c j shift instant rows is all = true_spot j shift instant rows is all

pub returns-clause-one : goal.returns-clause-one
returns-clause-one c j n head x y agrees known e a b = one_spot j n head x y agrees known e a b

pub returns-clause-sample : goal.returns-clause-sample
returns-clause-sample c j n k head spot e a = spot_sample j n k head spot e a
