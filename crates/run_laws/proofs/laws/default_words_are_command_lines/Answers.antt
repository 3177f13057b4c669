use Rattle.std.proofs.Common.{refl}
use Rattle.run_laws.proofs.Words.{default_id, listens, plan_is, talks}
use Rattle.run_laws.proofs.laws.default_words_are_command_lines.Goals as goal

pub returns-clause-listen : goal.returns-clause-listen
returns-clause-listen c = listens

pub returns-clause-listener : goal.returns-clause-listener
returns-clause-listener c = λ id name. refl

pub returns-clause-talk : goal.returns-clause-talk
returns-clause-talk c = talks

pub returns-clause-plan : goal.returns-clause-plan
returns-clause-plan c = plan_is

pub returns-clause-id : goal.returns-clause-id
returns-clause-id c = default_id
