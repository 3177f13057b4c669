-- Words, each as the list of its bytes.
use Rattle.std.specs.Prelude.{◌≡◌, ◌≢◌, ℕ, ◌<◌, ◌^◌, List, [], ◌∷◌, Ok, map, string_bytes, String}
use Rattle.std.specs.Int.{w64, to_be_bytes}
use Rattle.std.specs.declared.alloc.Global.{Global}
use Rattle.hex.specs.Hex.{decode_sized}

-- the bytes of each word
abbrev pub texts : List (String Global) → List (List ℕ)
texts words = map string_bytes words

-- the word begins with `-`, as each option does
abbrev pub BeginsWithDash : List ℕ → Type 0
BeginsWithDash [] = ⊥
BeginsWithDash (first ∷ _) = first ≡ 45

-- the word can be a file's name: it is not empty and does not begin with `-`
abbrev pub IsName : List ℕ → Type 0
IsName [] = ⊥
IsName (first ∷ _) = first ≢ 45

-- `word` spells the stream ID `id` in sixteen hexadecimal digits, in lower or upper case, the most significant first
pub record IsId (word : List ℕ) (id : ℕ) : Type 0 where
  pub fits : id < 2 ^ 64
  pub digits : decode_sized word 8 ≡ Ok (to_be_bytes w64 id)
