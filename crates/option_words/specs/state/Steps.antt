-- Only private functions and proofs use these definitions. The steps over the options and the operands.
use Rattle.std.specs.Prelude.{◌≡◌, ℕ, ◌+◌, ◌<◌, List, [], ◌++◌, flat_map, length, false, Option, Some, option_to_list, IfSome, slice_get, get_or, take, All}
use Rattle.option_words.specs.declared.option.Takes.{Takes}
use Rattle.option_words.specs.Word.{BeginsWithDash, IsName}
use Rattle.option_words.specs.Options.{Row, Setting, words_of, AreSettings, IsTaken, IsValue, stands_alone}
use Rattle.option_words.specs.Lines.{Begins, Stops}
use Rattle.option_words.specs.declared.option.Takes.TheVariants as takes

-- If the option takes a value, the word at index `place` is a value that the option takes, and `len` is 1. If the
-- option takes no value, `len` is 0.
pub record IsTakenAt (takes : Takes) (words : List (List ℕ)) (place len : ℕ) : Type 0 where
  pub value : Option (List ℕ)
  pub taken : IsTaken takes value
  pub here : IfSome value (λ word. slice_get words place ≡ Some word)
  pub size : len ≡ length (option_to_list value)

-- The option takes a value, but the word at index `place` is missing or is not a value that the option takes.
pub record LacksValue (takes : Takes) (words : List (List ℕ)) (place : ℕ) : Type 0 where
  pub wanted : stands_alone takes ≡ false
  pub none : IfSome (slice_get words place) (λ word. IsValue takes word → ⊥)

-- the words are options and nothing else
pub record AreOptions (rows : List Row) (words : List (List ℕ)) : Type 0 where
  pub settings : List Setting
  pub spelled : words ≡ flat_map words_of settings
  pub options : AreSettings rows settings

-- the words are options, followed by any number of names
pub record IsTail (rows : List Row) (words : List (List ℕ)) : Type 0 where
  pub settings : List Setting
  pub names : List (List ℕ)
  pub spelled : words ≡ flat_map words_of settings ++ names
  pub options : AreSettings rows settings
  pub named : All IsName names

-- the words before index `place` are options
pub record AreOptionsTo (rows : List Row) (words : List (List ℕ)) (place : ℕ) : Type 0 where
  pub settings : List Setting
  pub rest : List (List ℕ)
  pub split : words ≡ flat_map words_of settings ++ rest
  pub here : place ≡ length (flat_map words_of settings)
  pub options : AreSettings rows settings

-- the words before index `place` are options, and no option begins at index `place`
pub record EndsOptions (rows : List Row) (words : List (List ℕ)) (place : ℕ) : Type 0 where
  pub options : AreOptionsTo rows words place
  pub ends : IfSome (slice_get words place) (λ word. BeginsWithDash word → ⊥)

-- The first wrong word among the options is at index `place`. The words before the wrong word begin a list of options.
-- The words up to and including the wrong word do not begin a list of options followed by names. If there are only
-- `place` words, the words are not a list of options followed by names.
pub record StopsOptions (rows : List Row) (words : List (List ℕ)) (place : ℕ) : Type 0 where
  pub before : List (List ℕ)
  pub rest : List (List ℕ)
  pub split : words ≡ before ++ rest
  pub here : place ≡ length before
  pub begins : Begins (AreOptions rows) before
  pub stops : Stops (IsTail rows) before rest

-- the word at index `place` is the first that is not a name
pub record IsFirstUnnamed (words : List (List ℕ)) (place : ℕ) : Type 0 where
  pub within : place < length words
  pub named : All IsName (take place words)
  pub here : IsName (get_or words place []) → ⊥
