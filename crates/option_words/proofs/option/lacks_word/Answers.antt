use Rattle.option_words.proofs.Steps.{not_contained}
use Rattle.option_words.proofs.option.lacks_word.Goals as goal

pub returns : goal.returns
returns c = not_contained c.args.words.now c.args.name.now c.contains.result c.contains.ensures
