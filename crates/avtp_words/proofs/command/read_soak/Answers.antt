use Rattle.std.proofs.Common.{sym, refl}
use Rattle.std.proofs.lemmas.Result.{err_from_is_err_and}
use Rattle.avtp_words.specs.Grammar.{soak_form}
use Rattle.option_words.specs.Word.{texts}
use Rattle.avtp_words.proofs.Commands.{offence_after, soak_is, soak_number, soak_stands}
use Rattle.avtp_words.proofs.command.read_soak.Goals as goal

pub returns-in_err-place : goal.returns-in_err-place
returns-in_err-place c =
    let p = err_from_is_err_and c.from_residual.result c.from_residual.ensures.1 in
    record { ok = rw p.1 tt; err = rw (p.1, p.2) (offence_after soak_form (texts c.args.words.now) c.in_err-place.field-0.0.position refl c.in_err-place.ensures.err) }

pub unreachable-requires : goal.unreachable-requires
unreachable-requires c = soak_stands (texts c.args.words.now) c.in_ok-place.place c.in_ok-place.ensures.ok (sym c.in_default.ensures)

pub unreachable-requires-in_default-packets_of : goal.unreachable-requires-in_default-packets_of
unreachable-requires-in_default-packets_of c = soak_number (texts c.args.words.now) c.in_ok-place.place c.in-Some.number.now c.in_ok-place.ensures.ok (sym c.in-Some.ensures) c.in_default-packets_of.ensures.none

pub returns : goal.returns
returns c = record {
  ok = soak_is (texts c.args.words.now) c.in_ok-place.place c.in-Some.number.now c.in-Some-packets_of.packets c.in_ok-place.ensures.ok (sym c.in-Some.ensures) c.in-Some-packets_of.ensures.spelled;
  err = tt;
}
