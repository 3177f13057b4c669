use Rattle.std.proofs.Common.{◌≡◌, ◌+◌, drop, sym, refl}
use Rattle.std.proofs.lemmas.Result.{err_from_is_err_and}
use Rattle.avtp_words.specs.Grammar.{listen_form, listening_of}
use Rattle.option_words.specs.Word.{texts, IsId}
use Rattle.option_words.proofs.Lines.{words_after}
use Rattle.avtp_words.proofs.Commands.{offence_after, listen_stands, listen_id, listen_says}
use Rattle.avtp_words.proofs.listen.read_words.Goals as goal

pub returns-in_err-place : goal.returns-in_err-place
returns-in_err-place c =
    let p = err_from_is_err_and c.from_residual.result c.from_residual.ensures.1 in
    record { ok = rw p.1 tt; err = rw (p.1, p.2) (offence_after listen_form (texts c.args.words.now) c.in_err-place.field-0.0.position refl c.in_err-place.ensures.err) }

pub unreachable-requires : goal.unreachable-requires
unreachable-requires c = listen_stands (texts c.args.words.now) c.in_ok-place.place c.in_ok-place.ensures.ok (sym c.in_default.ensures)

pub unreachable-requires-in_default-id_of : goal.unreachable-requires-in_default-id_of
unreachable-requires-in_default-id_of c = listen_id (texts c.args.words.now) c.in_ok-place.place c.in-Some.id.now c.in_ok-place.ensures.ok (sym c.in-Some.ensures) c.in_default-id_of.ensures.none

pub returns : goal.returns
returns c = record {
  ok = let asked = listening_of c.read_options.result in
      let stream : IsId c.in-Some.id.now asked.listener.stream = rw c.read_options.ensures.stream_is c.in-Some-id_of.ensures.spelled in
      let files : drop (c.in_ok-place.place + 1) (texts c.args.words.now) ≡ asked.files = rw c.read_options.ensures.files_are (sym (words_after c.args.words.now (c.in_ok-place.place + 1))) in
      listen_says c.args.words.now c.in_ok-place.place c.in-Some.id.now asked c.in_ok-place.ensures.ok (sym c.in-Some.ensures) stream files c.read_options.ensures.read;
  err = tt;
}
