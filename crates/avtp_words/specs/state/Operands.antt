-- Only private functions and proofs use these definitions. The operands of a command: the words after
-- its options.
use Rattle.std.specs.Prelude.{◌≡◌, ℕ, List, [], ◌∷◌}
use Rattle.option_words.specs.declared.operand.Operand.{Operand}
use Rattle.option_words.specs.declared.operand.Operand.TheVariants.{Id, Name}
use Rattle.option_words.specs.Word.{IsId}

-- the operands of a command about a stream and two captures
abbrev pub stream_operands : List Operand
stream_operands = Id ∷ Name ∷ Name ∷ []

-- `words` name a stream and two captures.
pub record NameStreamAndTwo (words : List (List ℕ)) (stream : ℕ) (first second : List ℕ) : Type 0 where
  pub id : List ℕ
  pub spelled : words ≡ id ∷ first ∷ second ∷ []
  pub is : IsId id stream
