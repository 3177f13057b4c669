use Rattle.talker.proofs.TalkLemmas.{plan_keeps}
use Rattle.talker.proofs.laws.journal_conforms.Goals as goal

pub returns-clause-conforms : goal.returns-clause-conforms
returns-clause-conforms c = λ plan input p id limit. (plan_keeps plan input p limit).conforms id

pub returns-clause-regular : goal.returns-clause-regular
returns-clause-regular c = λ plan input p limit. (plan_keeps plan input p limit).regular
