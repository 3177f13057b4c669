use Rattle.std.proofs.Common.{ℕ, List, ◌<◌, get_or}
use Rattle.option_words.specs.Word.{texts, IsName}
use Rattle.option_words.proofs.operand.first_unnamed.Given as goal

abbrev pub invariant-loop-place : goal.invariant-loop-place
invariant-loop-place l = (k : ℕ) → k < l.place → (d : List ℕ) → IsName (get_or (texts l.words) k d)
