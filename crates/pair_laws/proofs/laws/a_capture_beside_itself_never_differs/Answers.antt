use Rattle.pair_laws.proofs.Beside.{beside-itself, counts-beside}
use Rattle.pair_laws.proofs.Told.{shown-told}
use Rattle.pair_laws.proofs.laws.a_capture_beside_itself_never_differs.Goals as goal

pub returns-clause-beside : goal.returns-clause-beside
returns-clause-beside c list is = record { differ = beside-itself list is; matched = counts-beside list is }

pub returns-clause-presented : goal.returns-clause-presented
returns-clause-presented c = shown-told
