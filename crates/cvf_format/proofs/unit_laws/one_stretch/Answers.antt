use Rattle.cvf_format.proofs.RuleLemmas.{only_stretch}
use Rattle.cvf_format.proofs.unit_laws.one_stretch.Goals as goal

pub returns-clause-one : goal.returns-clause-one
returns-clause-one c = only_stretch
