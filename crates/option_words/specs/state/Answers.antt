-- Only private functions and proofs use these definitions. What the calls that read words answer: a
-- value, or that there is none.
use Rattle.std.specs.Prelude.{◌≡◌, ◌≢◌, ℕ, ℤ, ◌^◌, ◌<◌, ◌≤◌, List, length, decimal, Option, IfSome, IfNone, All, unsigned_abs, Result, IfOk, IfErr, String}
use Rattle.std.specs.Fmt.{signed_decimal}
use Rattle.option_words.specs.declared.option.Takes.{Takes}
use Rattle.option_words.specs.declared.operand.Operand.{Operand}
use Rattle.option_words.specs.Operands.{AreOperands}
use Rattle.option_words.specs.Word.{IsName, texts}
use Rattle.option_words.specs.Options.{Row}
use Rattle.option_words.specs.Lines.{StopsAt}
use Rattle.std.specs.declared.alloc.Global.{Global}
use Rattle.option_words.specs.state.Steps.{EndsOptions, IsFirstUnnamed, IsTakenAt, LacksValue, StopsOptions}
use Rattle.option_words.specs.declared.option.Takes.TheVariants as takes

-- the result is the number below 2^64 that the word spells, or none if the word spells no such number
pub record FindsNumber (word : List ℕ) (result : Option ℕ) : Type 0 where
  pub spelled : IfSome result (λ n. word ≡ decimal n)
  pub none : IfNone result ((n : ℕ) → n < 2 ^ 64 → word ≢ decimal n)

-- the result is the number of a magnitude below 2^63 that the word spells, or none if the word spells no such number
pub record FindsSigned (word : List ℕ) (result : Option ℤ) : Type 0 where
  pub spelled : IfSome result (λ z. word ≡ signed_decimal z)
  pub size : IfSome result (λ z. unsigned_abs z < 2 ^ 63)
  pub none : IfNone result ((z : ℤ) → unsigned_abs z < 2 ^ 63 → word ≢ signed_decimal z)

-- the result is the index of the first word that is not a name, or none if all words are names
pub record FindsUnnamed (words : List (String Global)) (result : Option ℕ) : Type 0 where
  pub some : IfSome result (IsFirstUnnamed (texts words))
  pub none : IfNone result (All IsName (texts words))

-- the result is the index of the first word that is wrong for the operands, or none if no word is
pub record FindsWrong (operands : List Operand) (words : List (String Global)) (result : Option ℕ) : Type 0 where
  pub wrong : IfSome result (StopsAt (AreOperands operands) (texts words))
  pub within : IfSome result (λ place. place ≤ length words)
  pub none : IfNone result (AreOperands operands (texts words))

-- the result is the number of words that an option's value takes at `place`, or none if the value is missing or wrong
pub record FindsValue (takes : Takes) (words : List (String Global)) (place : ℕ) (result : Option ℕ) : Type 0 where
  pub some : IfSome result (IsTakenAt takes (texts words) place)
  pub none : IfNone result (LacksValue takes (texts words) place)

-- At `Ok`, the result is the number of words that belong to options. At `Err`, it is the index of the first wrong word.
pub record EndsOrStops (rows : List Row) (words : List (String Global)) (result : Result ℕ ℕ) : Type 0 where
  pub ok : IfOk result (EndsOptions rows (texts words))
  pub ok_within : IfOk result (λ place. place ≤ length words)
  pub err : IfErr result (StopsOptions rows (texts words))
  pub err_within : IfErr result (λ place. place ≤ length words)
