use Rattle.std.proofs.Common.{◌≡◌, arith, rules}
use Rattle.option_words.proofs.Numbers.{below_none, where_none, spells_one}
use Rattle.option_words.proofs.number.negative_of.Goals as goal

pub returns-in_err-n : goal.returns-in_err-n
returns-in_err-n c = record {
  spelled = search rules;
  size = search rules;
  none = where_none c.from_residual.result (below_none c.args.digits.now (λ n some small e. c.in_err-n.ensures.none n (omega (arith, small)) e));
}

pub returns-then-n-eq0 : goal.returns-then-n-eq0
returns-then-n-eq0 c = record {
  spelled = tt;
  size = tt;
  none = below_none c.args.digits.now (λ m some small e. absurd (omega (arith, some, c.if-n-eq0.true, spells_one c.args.digits.now m c.in_ok-n.n (omega (arith, small)) (omega arith) c.in_ok-n.ensures.spelled e)));
}

pub returns-in-Err : goal.returns-in-Err
returns-in-Err c = record {
  spelled = tt;
  size = tt;
  none = below_none c.args.digits.now (λ m some small e.
      let same : m ≡ c.in_ok-n.n = spells_one c.args.digits.now m c.in_ok-n.n (omega (arith, small)) (omega arith) c.in_ok-n.ensures.spelled e in
      c.in-Err.ensures (omega (arith, small, same)));
}
