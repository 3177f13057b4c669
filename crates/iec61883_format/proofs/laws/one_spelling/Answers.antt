use Rattle.iec61883_format.proofs.IecLemmas.{iec_only}
use Rattle.iec61883_format.proofs.laws.one_spelling.Goals as goal

pub returns : goal.returns
returns c = λ bytes v fits s plain len. iec_only bytes v fits s plain len
