use Rattle.std.proofs.Common.{◌≡◌, ℕ, List, String, get_or, string_bytes, below_more, arith, subst, sym, ◌∙◌, ap}
use Rattle.std.proofs.lemmas.List.{get_or-map, length-map}
use Rattle.option_words.specs.Word.{texts, IsName}
use Rattle.option_words.proofs.operand.first_unnamed.Goals as goal

pub loop-place-preserved : goal.loop-place-preserved
loop-place-preserved c = below_more (λ k. (d : List ℕ) → IsName (get_or (texts c.args.words.now) k d)) _ c.loop-place.invariant (λ d.
    let here : get_or (texts c.args.words.now) c.loop-place.place d ≡ c.as_str.result.now = get_or-map string_bytes c.args.words.now c.loop-place.place c.index-words-place.result d c.loop-place-test.true ∙ ap string_bytes (sym c.index-words-place.is) ∙ sym c.as_str.ensures.value in
    subst IsName (sym here) (c.is_name.ensures.0 c.if-not-is_name.false))

pub returns : goal.returns
returns c = record {
  some = tt;
  none = λ k d lt. c.loop-place.invariant k (omega (arith, length-map {A = String _} {B = List ℕ} c.args.words.now string_bytes)) d;
}
