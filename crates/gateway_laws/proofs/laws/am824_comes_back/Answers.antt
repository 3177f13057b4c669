use Rattle.gateway_laws.proofs.Returned.{comes_back, comes_back_by_default}
use Rattle.gateway_laws.proofs.laws.am824_comes_back.Goals as goal

pub returns-clause-heard : goal.returns-clause-heard
returns-clause-heard c = comes_back

pub returns-clause-by_default : goal.returns-clause-by_default
returns-clause-by_default c = comes_back_by_default
