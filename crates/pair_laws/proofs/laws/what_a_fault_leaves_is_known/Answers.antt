use Rattle.capture_pair.proofs.Stays.{all-known, fault-a, fault-b}
use Rattle.pair_laws.proofs.laws.what_a_fault_leaves_is_known.Goals as goal

pub returns-clause-a : goal.returns-clause-a
returns-clause-a c = fault-a

pub returns-clause-b : goal.returns-clause-b
returns-clause-b c = fault-b

pub returns-clause-both : goal.returns-clause-both
returns-clause-both c = all-known
