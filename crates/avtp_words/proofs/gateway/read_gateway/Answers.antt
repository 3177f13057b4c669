use Rattle.std.proofs.Common.{◌∷◌, ◌∙◌, codes, refl, sym}
use Rattle.std.proofs.lemmas.Result.{err_from_is_err_and}
use Rattle.avtp_words.specs.Grammar.{gateway_form, turning_of}
use Rattle.option_words.specs.Word.{texts}
use Rattle.avtp_words.proofs.Commands.{are_operands, gateway_says, offence_after, offence_of_output, offence_without_to}
use Rattle.option_words.proofs.Settings.{same-false, same-true}
use Rattle.avtp_words.proofs.gateway.read_gateway.Goals as goal

pub returns-in_err-place : goal.returns-in_err-place
returns-in_err-place c =
    let p = err_from_is_err_and c.from_residual.result c.from_residual.ensures.1 in
    record { ok = rw p.1 tt; err = rw (p.1, p.2) (offence_after gateway_form (texts c.args.words.now) c.in_err-place.field-0.0.position refl c.in_err-place.ensures.err) }

pub returns-in_default : goal.returns-in_default
returns-in_default c = record {
  ok = tt;
  err = offence_without_to c.args.words.now c.in_ok-place.place c.in_ok-place.ensures.ok c.in_default.ensures.none;
}

pub stream_and_two-stream-requires : goal.stream_and_two-stream-requires
stream_and_two-stream-requires c = are_operands gateway_form c.args.words.now c.in_ok-place.place c.in_ok-place.ensures.ok

pub returns-then-eq : goal.returns-then-eq
returns-then-eq c =
    let names = c.stream_and_two-stream.result in
    let asked = turning_of (record { listener = c.listener_after-listener.result; to = c.in-Some.to; id = c.id_after-id.result; input = names.first; output = names.second }) in
    let says = gateway_says c.args.words.now c.in_ok-place.place names.stream asked c.in_ok-place.ensures.ok c.stream_and_two-stream.ensures c.listener_after-listener.ensures.stream_is c.listener_after-listener.ensures.read c.in-Some.ensures.spelled c.id_after-id.ensures in
    record { ok = tt; err = offence_of_output (codes "gateway" ∷ texts c.args.words.now) asked says (λ keeps. keeps.apart (same-true asked.input asked.output (sym c.eq.ensures ∙ c.if-eq.true))) }

pub returns : goal.returns
returns c =
    let names = c.stream_and_two-stream.result in
    let asked = turning_of (record { listener = c.listener_after-listener.result; to = c.in-Some.to; id = c.id_after-id.result; input = names.first; output = names.second }) in
    let says = gateway_says c.args.words.now c.in_ok-place.place names.stream asked c.in_ok-place.ensures.ok c.stream_and_two-stream.ensures c.listener_after-listener.ensures.stream_is c.listener_after-listener.ensures.read c.in-Some.ensures.spelled c.id_after-id.ensures in
    record { ok = (says, record { apart = same-false asked.input asked.output (sym c.eq.ensures ∙ c.if-eq.false) }); err = tt }
