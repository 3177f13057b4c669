use Rattle.std.proofs.Common.{subst, arith, ◌∙◌, ◌^◌}
use Rattle.option_words.specs.Values.{IsRead}
use Rattle.option_words.proofs.Numbers.{number_is}
use Rattle.option_words.proofs.value.number_after.Goals as goal

pub returns-in-Some : goal.returns-in-Some
returns-in-Some c = subst (λ v. IsRead (2 ^ 64) c.args.default v c.unwrap_or.result) c.in-Some.ensures (record {
  absent = tt;
  read = λ n small e. c.unwrap_or.ensures ∙ number_is c.in-Some.word.now c.number_of.result c.args.default n (omega (arith, c.unwrap_or.ensures)) c.number_of.ensures.spelled c.number_of.ensures.none small e;
})
