use Rattle.avtp_words.proofs.Rules.{lack}
use Rattle.avtp_words.proofs.rule.lacks.Goals as goal

pub returns : goal.returns
returns c = lack c.args.words.now c.args.options.now c.has_one.result c.has_one.ensures
