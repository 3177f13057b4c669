use Rattle.std.proofs.Common.{◌≡◌, length}
use Rattle.option_words.specs.Values.{value_after}
use Rattle.option_words.specs.Word.{texts}
use Rattle.option_words.proofs.option.word_after.Given as goal

abbrev pub invariant-loop-word : goal.invariant-loop-word
invariant-loop-word l = value_after l.name (texts l.left) ≡ value_after l.name (texts l.words)

abbrev pub decreases-loop-word : goal.decreases-loop-word
decreases-loop-word l = length l.left
