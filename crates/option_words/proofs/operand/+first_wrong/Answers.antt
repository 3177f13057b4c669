use Rattle.std.proofs.lemmas.Grind.{common_steps}
use Rattle.std.proofs.Common.{string_bytes, subst, sym, rules, arith}
use Rattle.option_words.specs.Operands.{IsOperand}
use Rattle.option_words.specs.Word.{texts}
use Rattle.option_words.proofs.Operands.{later, missing_of, other, all_unnamed, all_named}
use Rattle.option_words.proofs.operand.+first_wrong.Goals as goal

pub returns-then-takes_all : goal.returns-then-takes_all
returns-then-takes_all t c = record {
  wrong = rw c.in-Some-Some.ensures.cases.0 (all_unnamed c.in-Some-Some.operand.now c.in-Some-Some.operands.now (texts c.args.words.now) c.first_unnamed.result (sym c.if-takes_all.ensures) c.first_unnamed.ensures.some);
  within = grind (arith, common_steps);
  none = let words = c.in-Some-Some.ensures'.cases.0 in
      let named = rw words at c.first_unnamed.ensures.none in
      rw (c.in-Some-Some.ensures.cases.0, words) (all_named c.in-Some-Some.operand.now c.in-Some-Some.operands.now (string_bytes c.in-Some-Some.word.now) (texts c.in-Some-Some.rest.now) c.first_unnamed.result (sym c.if-takes_all.ensures) named);
}

pub returns-in-Some : goal.returns-in-Some
returns-in-Some t c = record {
  wrong = let operands = c.in-Some-Some.ensures.cases.0 in
      let words = c.in-Some-Some.ensures'.cases.0 in
      rw (operands, words) (later c.in-Some-Some.operand.now c.in-Some-Some.operands.now (string_bytes c.in-Some-Some.word.now) (texts c.in-Some-Some.rest.now) c.in-Some.place (sym c.if-takes_all.ensures) (subst (IsOperand c.in-Some-Some.operand.now) c.as_str.ensures.value (c.accepts.ensures.0 c.if-accepts.true)) c.in-Some.ensures.wrong);
  within = search rules;
  none = tt;
}

pub returns-else-accepts : goal.returns-else-accepts
returns-else-accepts t c = record {
  wrong = let operands = c.in-Some-Some.ensures.cases.0 in
      let words = c.in-Some-Some.ensures'.cases.0 in
      rw (operands, words) (other c.in-Some-Some.operand.now c.in-Some-Some.operands.now (string_bytes c.in-Some-Some.word.now) (texts c.in-Some-Some.rest.now) (λ is. let yes = c.if-accepts.ensures.1 (subst (IsOperand c.in-Some-Some.operand.now) (sym c.as_str.ensures.value) is) in cc));
  within = omega arith;
  none = tt;
}

pub returns-in_default-2 : goal.returns-in_default-2
returns-in_default-2 t c = record {
  wrong = rw c.in_default.ensures.cases.0 (missing_of c.in_default.field-0-0.0.now c.in_default.field-0-0.1.now c.args.words.now c.in_default.ensures'.cases);
  within = omega arith;
  none = tt;
}
