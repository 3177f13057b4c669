-- What is read from the value of an option.
use Rattle.std.specs.Prelude.{◌≡◌, ℕ, ℤ, ◌^◌, ◌<◌, List, [], ◌∷◌, decimal, Option, None, Some, if◌then◌else◌, IfSome, IfNone, slice_get, unsigned_abs}
use Rattle.std.specs.Fmt.{signed_decimal}
use Rattle.std.specs.Str.{bytes_eq}
use Rattle.aaf_format.specs.declared.aaf.AafFormat.{AafFormat}
use Rattle.option_words.specs.Word.{IsId}
use Rattle.option_words.specs.Options.{format_name}

-- the word directly after the first `name` in the list, if any
abbrev pub value_after : List ℕ → List (List ℕ) → Option (List ℕ)
value_after name [] = None
value_after name (word ∷ words) = if bytes_eq word name then slice_get words 0 else value_after name words

-- What is read from `word`: the number below `bound` that it spells, or `default` if there is no word.
pub record IsRead (bound default : ℕ) (word : Option (List ℕ)) (n : ℕ) : Type 0 where
  pub absent : IfNone word (n ≡ default)
  pub read : IfSome word (λ word. (k : ℕ) → k < bound → word ≡ decimal k → n ≡ k)

-- What is read from `word`: the number below `bound` that it spells, or `None` if there is no word.
pub record IsReadIf (bound : ℕ) (word : Option (List ℕ)) (given : Option ℕ) : Type 0 where
  pub absent : IfNone word (given ≡ None)
  pub read : IfSome word (λ word. (k : ℕ) → k < bound → word ≡ decimal k → given ≡ Some k)

-- What is read from `word`: the stream ID that it spells, or `default` if there is no word.
pub record IsReadId (default : ℕ) (word : Option (List ℕ)) (n : ℕ) : Type 0 where
  pub absent : IfNone word (n ≡ default)
  pub read : IfSome word (λ word. (id : ℕ) → IsId word id → n ≡ id)

-- What is read from `word`: the stream ID that it spells, or `None` if there is no word.
pub record IsReadIdIf (word : Option (List ℕ)) (given : Option ℕ) : Type 0 where
  pub absent : IfNone word (given ≡ None)
  pub read : IfSome word (λ word. (id : ℕ) → IsId word id → given ≡ Some id)

-- What is read from `word`: the number, possibly negative, that it spells, or `default` if there is no word.
pub record IsReadSigned (default : ℤ) (word : Option (List ℕ)) (z : ℤ) : Type 0 where
  pub absent : IfNone word (z ≡ default)
  pub read : IfSome word (λ word. (k : ℤ) → unsigned_abs k < 2 ^ 63 → word ≡ signed_decimal k → z ≡ k)

-- What is read from `word`: the format that it names, or `default` if there is no word.
pub record IsReadFormat (default : AafFormat) (word : Option (List ℕ)) (format : AafFormat) : Type 0 where
  pub absent : IfNone word (format ≡ default)
  pub read : IfSome word (λ word. (named : AafFormat) → word ≡ format_name named → format ≡ named)

-- the result is the value that `Is` names, or none if there is no such value
pub record Finds {T : Type 0} (Is : T → Type 0) (result : Option T) : Type 0 where
  pub spelled : IfSome result Is
  pub none : IfNone result ((x : T) → Is x → ⊥)
