use Rattle.std.proofs.Common.{sym, refl}
use Rattle.std.proofs.lemmas.Result.{err_from_is_err_and}
use Rattle.avtp_words.specs.Grammar.{show_form}
use Rattle.option_words.specs.Word.{texts}
use Rattle.avtp_words.proofs.Commands.{offence_after, show_operand, show_is}
use Rattle.avtp_words.proofs.command.read_show.Goals as goal

pub returns-in_err-place : goal.returns-in_err-place
returns-in_err-place c =
    let p = err_from_is_err_and c.from_residual.result c.from_residual.ensures.1 in
    record { ok = rw p.1 tt; err = rw (p.1, p.2) (offence_after show_form (texts c.args.words.now) c.in_err-place.field-0.0.position refl c.in_err-place.ensures.err) }

pub unreachable-requires : goal.unreachable-requires
unreachable-requires c = show_operand (texts c.args.words.now) c.in_ok-place.place c.in_ok-place.ensures.ok (sym c.in_default.ensures)

pub returns : goal.returns
returns c = record {
  ok = show_is c.args.words.now c.in_ok-place.place c.in-Some.file.now c.number_after-limit.result c.in_ok-place.ensures.ok (sym c.in-Some.ensures) c.number_after-limit.ensures;
  err = tt;
}
