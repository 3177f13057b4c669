use Rattle.std.proofs.Common.{◌≡◌, true, subst, ◌∙◌}
use Rattle.option_words.specs.state.Number.{BeginsAsNumber}
use Rattle.option_words.proofs.Numbers.{spelled, unread, begins-decimal}
use Rattle.option_words.proofs.number.number_of.Goals as goal

pub returns-then-begins_as_number : goal.returns-then-begins_as_number
returns-then-begins_as_number c = record {
  spelled =
      spelled c.args.word.now c.parse.result c.ok.result c.parse.ensures.value.0 c.ok.ensures.value
      (subst BeginsAsNumber c.as_bytes.ensures.value (c.begins_as_number.ensures.0 c.if-begins_as_number.true));
  none = unread c.args.word.now c.parse.result c.ok.result c.parse.ensures.value.0 c.ok.ensures.value;
}

pub returns-else-begins_as_number : goal.returns-else-begins_as_number
returns-else-begins_as_number c = record {
  spelled = tt;
  none = λ n small e.
      let begins = begins-decimal c.as_bytes.result.now n small (c.as_bytes.ensures.value ∙ e) in
      let yes : c.begins_as_number.result ≡ true = c.begins_as_number.ensures.1 begins in cc;
}
