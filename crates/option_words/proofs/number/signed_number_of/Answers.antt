use Rattle.std.proofs.Common.{arith, rules}
use Rattle.option_words.proofs.Numbers.{unfit}
use Rattle.option_words.proofs.number.signed_number_of.Goals as goal

pub returns-in_ok-number_of-in-None : goal.returns-in_ok-number_of-in-None
returns-in_ok-number_of-in-None c = record {
  spelled = search rules;
  size = search rules;
  none = unfit c.args.word.now c.in_ok-number_of-in-None.field-0 c.try_from.result c.ok.result (omega arith) c.in_ok-number_of-in-None.ensures.spelled c.try_from.ensures c.ok.ensures.value c.in-None.ensures;
}
