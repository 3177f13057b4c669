use Rattle.avtp_header.proofs.HeaderLemmas.{header_only}
use Rattle.avtp_header.proofs.laws.one_spelling.Goals as goal

pub returns : goal.returns
returns c = λ bytes h fits s long plain. header_only bytes h fits s long plain
