-- The operands of a command: the words after its options.
use Rattle.std.specs.Prelude.{ℕ, List, [], ◌∷◌, ⊤, All}
use Rattle.option_words.specs.declared.operand.Operand.{Operand}
use Rattle.option_words.specs.declared.operand.Operand.TheVariants.{Id, Name, Names, Packets}
use Rattle.option_words.specs.Number.{IsNumber}
use Rattle.option_words.specs.Word.{IsId, IsName}

-- soak: the maximum number of packets
abbrev pub most_packets : ℕ
most_packets = 1000000

-- `word` is valid as this operand: a stream ID, the name of a file, or a number of packets
abbrev pub IsOperand : Operand → List ℕ → Type 0
IsOperand Id word = (id : ℕ) × IsId word id
IsOperand Name word = IsName word
IsOperand Names word = IsName word
IsOperand Packets word = (n : ℕ) × IsNumber 0 most_packets word n

-- Each word is valid at its position, and no word is missing or left over. `Names` takes all remaining words, at least
-- one.
abbrev pub AreOperands : List Operand → List (List ℕ) → Type 0
AreOperands [] [] = ⊤
AreOperands [] (word ∷ words) = ⊥
AreOperands (operand ∷ operands) [] = ⊥
AreOperands (Id ∷ operands) (word ∷ words) = IsOperand Id word × AreOperands operands words
AreOperands (Name ∷ operands) (word ∷ words) = IsOperand Name word × AreOperands operands words
AreOperands (Names ∷ operands) (word ∷ words) = All IsName (word ∷ words)
AreOperands (Packets ∷ operands) (word ∷ words) = IsOperand Packets word × AreOperands operands words
