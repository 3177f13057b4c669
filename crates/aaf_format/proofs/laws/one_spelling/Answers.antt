use Rattle.aaf_format.proofs.AafLemmas.{aaf_only}
use Rattle.aaf_format.proofs.laws.one_spelling.Goals as goal

pub returns : goal.returns
returns c = λ bytes v fits s plain len. aaf_only bytes v fits s plain len
