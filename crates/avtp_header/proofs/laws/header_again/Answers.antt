use Rattle.avtp_header.proofs.HeaderLemmas as lemmas
use Rattle.avtp_header.proofs.laws.header_again.Goals as goal

pub returns : goal.returns
returns c = λ h trail fits. lemmas.header_again h trail fits
