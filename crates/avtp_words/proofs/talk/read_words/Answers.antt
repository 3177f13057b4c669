use Rattle.std.proofs.Common.{codes, sym, refl, ap, ◌∙◌, Some, List, ℕ, ◌≡◌, ◌+◌, slice_get}
use Rattle.std.proofs.lemmas.Result.{err_from_is_err_and}
use Rattle.avtp_words.specs.Grammar.{talk_form, talking_of}
use Rattle.option_words.specs.Word.{texts}
use Rattle.avtp_words.proofs.Commands.{offence_after, first_stands, second_stands, talk_says}
use Rattle.option_words.proofs.Steps.{contained}
use Rattle.avtp_words.proofs.talk.read_words.Goals as goal

pub returns-in_err-place : goal.returns-in_err-place
returns-in_err-place c =
    let p = err_from_is_err_and c.from_residual.result c.from_residual.ensures.1 in
    record { ok = rw p.1 tt; err = rw (p.1, p.2) (offence_after talk_form (texts c.args.words.now) c.in_err-place.field-0.0.position refl c.in_err-place.ensures.err) }

pub unreachable-requires : goal.unreachable-requires
unreachable-requires c = first_stands (texts c.args.words.now) c.in_ok-place.place c.in_ok-place.ensures.ok (sym c.in_default.ensures)

pub unreachable-requires-in_default-word_at : goal.unreachable-requires-in_default-word_at
unreachable-requires-in_default-word_at c = second_stands (texts c.args.words.now) c.in_ok-place.place c.in_ok-place.ensures.ok (sym c.in_default-word_at.ensures)

pub returns : goal.returns
returns c = record {
  ok = let input : slice_get (texts c.args.words.now) c.in_ok-place.place ≡ Some c.read_options.result.input.now = sym c.in-Some.ensures ∙ ap (λ (word : List ℕ). Some word) (sym c.read_options.ensures.input_is) in
      let output : slice_get (texts c.args.words.now) (c.in_ok-place.place + 1) ≡ Some c.read_options.result.output.now = sym c.in-Some-word_at.ensures ∙ ap (λ (word : List ℕ). Some word) (sym c.read_options.ensures.output_is) in
      talk_says c.args.words.now c.in_ok-place.place c.contains-sparse.result c.contains-last_stamp.result (talking_of c.read_options.result) c.in_ok-place.ensures.ok input output
      (contained c.args.words.now (codes "--sparse") c.contains-sparse.result c.contains-sparse.ensures) (contained c.args.words.now (codes "--last-stamp") c.contains-last_stamp.result c.contains-last_stamp.ensures)
      (rw c.read_options.ensures.kind_is c.kind_after-kind.ensures) c.read_options.ensures.read;
  err = tt;
}
