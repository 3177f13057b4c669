-- The words after a command, and the first wrong word.
use Rattle.std.specs.Prelude.{◌≡◌, ℕ, ◌+◌, ◌≤◌, List, [], ◌∷◌, ◌++◌, flat_map, length, Result, IfOk, IfErr, String}
use Rattle.option_words.specs.declared.operand.Operand.{Operand}
use Rattle.option_words.specs.Operands.{AreOperands}
use Rattle.option_words.specs.Options.{Row, Setting, words_of, AreSettings}
use Rattle.std.specs.declared.alloc.Global.{Global}
use Rattle.option_words.specs.Word.{texts}

-- `words` begin a line of `L`: for some list `more`, which can be empty, `words ++ more` is a line of `L`
pub record Begins (L : List (List ℕ) → Type 0) (words : List (List ℕ)) : Type 0 where
  pub more : List (List ℕ)
  pub whole : L (words ++ more)

-- If a word follows the words `before`, no line of `L` begins with `before` and this word. If no word follows, the
-- words `before` are not a line of `L`.
abbrev pub Stops : (List (List ℕ) → Type 0) → List (List ℕ) → List (List ℕ) → Type 0
Stops L before [] = L before → ⊥
Stops L before (next ∷ _) = Begins L (before ++ next ∷ []) → ⊥

-- The first wrong word is at index `place`. The words before index `place` begin a line of `L`. The words up to and
-- including index `place` begin no line of `L`. If there are only `place` words, a word is missing. If a word is
-- missing, `words` begin a line of `L`, but are not a whole line.
pub record StopsAt (L : List (List ℕ) → Type 0) (words : List (List ℕ)) (place : ℕ) : Type 0 where
  pub before : List (List ℕ)
  pub rest : List (List ℕ)
  pub split : words ≡ before ++ rest
  pub here : place ≡ length before
  pub begins : Begins L before
  pub stops : Stops L before rest

-- the words after a command: options, then the operands
pub record IsRest (rows : List Row) (operands : List Operand) (words : List (List ℕ)) : Type 0 where
  pub settings : List Setting
  pub names : List (List ℕ)
  pub spelled : words ≡ flat_map words_of settings ++ names
  pub options : AreSettings rows settings
  pub named : AreOperands operands names

-- The words after a command: options, then the operands. The first operand is at index `place`.
pub record IsRestTo (rows : List Row) (operands : List Operand) (words : List (List ℕ)) (place : ℕ) : Type 0 where
  pub rest : IsRest rows operands words
  pub here : place ≡ length (flat_map words_of rest.settings)

-- At `Ok`, the result is the index of the first operand. At `Err`, it is the index of the first wrong word, which is the
-- number of words if a word is missing.
pub record FindsFirstOperand (rows : List Row) (operands : List Operand) (words : List (String Global)) (result : Result ℕ ℕ) : Type 0 where
  pub ok : IfOk result (IsRestTo rows operands (texts words))
  pub within : IfOk result (λ place. place ≤ length words)
  pub err : IfErr result (StopsAt (IsRest rows operands) (texts words))
  pub err_within : IfErr result (λ place. place ≤ length words)
