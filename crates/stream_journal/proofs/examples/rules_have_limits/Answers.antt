use Rattle.stream_journal.proofs.Limits.{few, not_one, pulls, steady}
use Rattle.stream_journal.proofs.examples.rules_have_limits.Goals as goal

pub returns-clause-pull : goal.returns-clause-pull
returns-clause-pull c = pulls

pub returns-clause-steady : goal.returns-clause-steady
returns-clause-steady c = steady

pub returns-clause-one : goal.returns-clause-one
returns-clause-one c = not_one

pub returns-clause-few : goal.returns-clause-few
returns-clause-few c = few
