-- Only private functions and proofs use these definitions.
use Rattle.std.specs.Prelude.{Bool, true, false}
use Rattle.option_words.specs.declared.operand.Operand.{Operand}
use Rattle.option_words.specs.declared.operand.Operand.TheVariants.{Id, Name, Names, Packets}

-- the operand takes all remaining words
abbrev pub takes_all : Operand → Bool
takes_all Id = false
takes_all Name = false
takes_all Names = true
takes_all Packets = false
