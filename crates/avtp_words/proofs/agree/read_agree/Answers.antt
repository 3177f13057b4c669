use Rattle.std.proofs.Common.{refl}
use Rattle.std.proofs.lemmas.Result.{err_from_is_err_and}
use Rattle.avtp_words.specs.Grammar.{agree_form, agreeing_of}
use Rattle.option_words.specs.Word.{texts}
use Rattle.avtp_words.proofs.Commands.{agree_says, are_operands, offence_after}
use Rattle.avtp_words.proofs.agree.read_agree.Goals as goal

pub returns-in_err-place : goal.returns-in_err-place
returns-in_err-place c =
    let p = err_from_is_err_and c.from_residual.result c.from_residual.ensures.1 in
    record { ok = rw p.1 tt; err = rw (p.1, p.2) (offence_after agree_form (texts c.args.words.now) c.in_err-place.field-0.0.position refl c.in_err-place.ensures.err) }

pub stream_and_two-stream-requires : goal.stream_and_two-stream-requires
stream_and_two-stream-requires c = are_operands agree_form c.args.words.now c.in_ok-place.place c.in_ok-place.ensures.ok

pub returns : goal.returns
returns c = record {
  ok = let names = c.stream_and_two-stream.result in
      agree_says c.args.words.now c.in_ok-place.place names.stream (agreeing_of (record { listener = c.listener_after-listener.result; a = names.first; b = names.second }))
      c.in_ok-place.ensures.ok c.stream_and_two-stream.ensures c.listener_after-listener.ensures.stream_is c.listener_after-listener.ensures.read;
  err = tt;
}
