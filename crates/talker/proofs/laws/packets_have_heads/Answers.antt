use Rattle.talker.proofs.TalkLemmas.{plan_heads}
use Rattle.talker.proofs.laws.packets_have_heads.Goals as goal

pub returns : goal.returns
returns c = λ plan input n p behind same. plan_heads plan input n p behind same
