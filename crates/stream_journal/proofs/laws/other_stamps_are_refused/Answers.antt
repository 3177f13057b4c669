use Rattle.stream_journal.proofs.TrueHeads.{candidate_is, refuses}
use Rattle.stream_journal.proofs.laws.other_stamps_are_refused.Goals as goal

pub returns-clause-candidate : goal.returns-clause-candidate
returns-clause-candidate c = candidate_is

pub returns-clause-refused : goal.returns-clause-refused
returns-clause-refused c j lead copy far k stamp is un of other = refuses j is lead copy far k stamp un of other
