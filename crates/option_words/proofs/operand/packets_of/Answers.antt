use Rattle.std.proofs.Common.{◌≡◌, arith, rules}
use Rattle.option_words.proofs.Numbers.{spells_one, where_none}
use Rattle.option_words.proofs.operand.packets_of.Goals as goal

pub returns-in_err-n : goal.returns-in_err-n
returns-in_err-n c = record {
  spelled = search rules;
  none = where_none c.from_residual.result (λ n is. c.in_err-n.ensures.none n (omega (arith, is.most)) is.spelled);
}

pub returns-else-n-le-MAX_PACKETS : goal.returns-else-n-le-MAX_PACKETS
returns-else-n-le-MAX_PACKETS c = record {
  spelled = tt;
  none = λ n is.
      let same : n ≡ c.in_ok-n.n = spells_one c.args.word.now n c.in_ok-n.n (omega (arith, is.most)) (omega arith) c.in_ok-n.ensures.spelled is.spelled in
      absurd (omega (arith, is.most, same));
}
