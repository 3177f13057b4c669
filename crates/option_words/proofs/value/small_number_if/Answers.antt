use Rattle.std.proofs.Common.{subst, arith, ◌^◌}
use Rattle.option_words.specs.Values.{IsReadIf}
use Rattle.option_words.proofs.Numbers.{read_if}
use Rattle.option_words.proofs.value.small_number_if.Goals as goal

pub returns : goal.returns
returns c = subst (λ v. IsReadIf (2 ^ 32) v c.ok.result) c.in_ok-word.ensures (read_if c.in_ok-word.word.now c.in_ok-number_of.field-0 c.try_from.result c.ok.result (omega arith) c.in_ok-number_of.ensures.spelled c.try_from.ensures c.ok.ensures.value)
