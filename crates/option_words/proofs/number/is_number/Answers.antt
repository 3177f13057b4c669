use Rattle.std.proofs.Common.{arith}
use Rattle.option_words.proofs.Numbers.{is_number-then, is_number-else}
use Rattle.option_words.proofs.number.is_number.Goals as goal

pub returns-then-low-n : goal.returns-then-low-n
returns-then-low-n c = is_number-then c.args.low c.args.high c.in-Some.n c.args.word.now c.if-low-n.true c.in-Some.ensures.spelled (omega arith) (omega arith)

pub returns-else-low-n : goal.returns-else-low-n
returns-else-low-n c = is_number-else c.args.low c.args.high c.in-Some.n c.args.word.now c.if-low-n.false c.in-Some.ensures.spelled (omega arith) (omega arith)
