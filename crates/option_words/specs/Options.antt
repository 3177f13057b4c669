-- The options of a command: those that it knows, and those that a command line gives.
use Rattle.std.specs.Prelude.{◌≡◌, ◌≢◌, ℕ, ℤ, List, ◌∷◌, Bool, true, false, IsTrue, Option, Some, None, option_to_list, option_and_then, IsSomeAnd, All, AllPairs, codes, ◌⊎◌}
use Rattle.std.specs.List.{find}
use Rattle.std.specs.Str.{bytes_eq}
use Rattle.aaf_format.specs.declared.aaf.AafFormat.{AafFormat}
use Rattle.aaf_format.specs.declared.aaf.AafFormat.TheVariants.{Float32, Int32, Int24, Int16}
use Rattle.option_words.specs.declared.option.Takes.{Takes}
use Rattle.option_words.specs.declared.option.Takes.TheVariants.{Number, Signed, Id, Kind, Format, Name, Silence, OutFormat, Nothing}
use Rattle.option_words.specs.Number.{IsNumber, IsSigned}
use Rattle.option_words.specs.Word.{BeginsWithDash, IsId, IsName}

-- an option that a command knows: its name, and which values it takes
pub record Row : Type 0 where
  pub name : List ℕ
  pub takes : Takes

-- the row of the option named `name` in the table of a command, if there is such a row
abbrev pub row_named : List Row → List ℕ → Option Row
row_named rows name = find (λ row. bytes_eq row.name name) rows

-- an option that a command line gives: its name, and its value, if any
pub record Setting : Type 0 where
  pub name : List ℕ
  pub value : Option (List ℕ)

-- the words of an option on the command line: its name, then its value, if any
abbrev pub words_of : Setting → List (List ℕ)
words_of s = s.name ∷ option_to_list s.value

-- the word that names a sample format
abbrev pub format_name : AafFormat → List ℕ
format_name Int16 = codes "int16"
format_name Int24 = codes "int24"
format_name Int32 = codes "int32"
format_name Float32 = codes "float32"

-- `word` is a value that an option of this type takes
abbrev pub IsValue : Takes → List ℕ → Type 0
IsValue (Number low high) word = (n : ℕ) × IsNumber low high word n
IsValue (Signed most) word = (z : ℤ) × IsSigned most word z
IsValue Id word = (id : ℕ) × IsId word id
IsValue Kind word = (word ≡ codes "aaf") ⊎ ((word ≡ codes "am824") ⊎ (word ≡ codes "h264"))
IsValue Format word = (format : AafFormat) × (word ≡ format_name format)
IsValue Name word = IsName word
IsValue Silence word = (word ≡ codes "zero") ⊎ (word ≡ codes "am824")
IsValue OutFormat word = (word ≡ codes "am824") ⊎ (word ≡ codes "aaf")
IsValue Nothing word = ⊥

-- the option takes no value
abbrev pub stands_alone : Takes → Bool
stands_alone (Number low high) = false
stands_alone (Signed most) = false
stands_alone Id = false
stands_alone Kind = false
stands_alone Format = false
stands_alone Name = false
stands_alone Silence = false
stands_alone OutFormat = false
stands_alone Nothing = true

-- An option is given with a value that it takes, or without a value if it takes none.
abbrev pub IsTaken : Takes → Option (List ℕ) → Type 0
IsTaken takes None = IsTrue (stands_alone takes)
IsTaken takes (Some word) = IsValue takes word

-- the option is in the table, and is given with a value that its row takes, or without a value if its row takes none
pub record IsSetting (rows : List Row) (s : Setting) : Type 0 where
  pub dash : BeginsWithDash s.name
  pub value : IsSomeAnd (row_named rows s.name) (λ row. IsTaken row.takes s.value)

-- The options are in any order, and each option is given at most once. Each option is in the table. An option that
-- takes a value has a valid value, and an option that takes none has none.
pub record AreSettings (rows : List Row) (settings : List Setting) : Type 0 where
  pub each : All (IsSetting rows) settings
  pub once : AllPairs (λ s t. s.name ≢ t.name) settings

-- the value of the option named `name`, if that option is given and has a value
abbrev pub value_in : List ℕ → List Setting → Option (List ℕ)
value_in name settings = option_and_then (λ s. s.value) (find (λ s. bytes_eq s.name name) settings)
