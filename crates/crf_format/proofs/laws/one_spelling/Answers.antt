use Rattle.crf_format.proofs.CrfLemmas.{crf_only}
use Rattle.crf_format.proofs.laws.one_spelling.Goals as goal

pub returns : goal.returns
returns c = λ bytes v fits s plain len. crf_only bytes v fits s plain len
