use Rattle.std.proofs.Common.{arith}
use Rattle.std.proofs.lemmas.Result.{err_from_is_err_and}
use Rattle.option_words.specs.Tables.{rows_of}
use Rattle.option_words.specs.Word.{texts}
use Rattle.option_words.proofs.Lines.{stops_of_options, stops_of_operands, rest_to, rest_within, words_after}
use Rattle.option_words.proofs.operand.first_operand.Goals as goal

pub returns-in_err-place : goal.returns-in_err-place
returns-in_err-place c =
    let p = err_from_is_err_and c.from_residual.result c.from_residual.ensures.1 in
    record {
      ok = rw p.1 tt;
      within = rw p.1 tt;
      err = rw (p.1, p.2) (stops_of_options (rows_of c.args.rows.now) c.args.operands.now (texts c.args.words.now) c.in_err-place.field-0.0 c.in_err-place.ensures.err);
      err_within = rw (p.1, p.2) c.in_err-place.ensures.err_within;
    }

pub returns-in-Some : goal.returns-in-Some
returns-in-Some c = record {
  ok = tt;
  within = tt;
  err = let after = words_after c.args.words.now c.in_ok-place.place in
      let wrong = rw after at c.in-Some.ensures.wrong in
      stops_of_operands (rows_of c.args.rows.now) c.args.operands.now (texts c.args.words.now) c.in_ok-place.place c.in-Some.wrong c.in_ok-place.ensures.ok wrong;
  err_within = omega (arith, c.in-Some.ensures.within, c.in_ok-place.ensures.ok_within);
}

pub returns-in-None : goal.returns-in-None
returns-in-None c =
    let after = words_after c.args.words.now c.in_ok-place.place in
    let operands = rw after at c.in-None.ensures.none in
    let rest = rest_to (rows_of c.args.rows.now) c.args.operands.now (texts c.args.words.now) c.in_ok-place.place c.in_ok-place.ensures.ok operands in
    record { ok = rest; within = rest_within (rows_of c.args.rows.now) c.args.operands.now c.args.words.now c.in_ok-place.place rest; err = tt; err_within = tt }
