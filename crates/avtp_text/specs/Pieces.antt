-- The pieces that lines are made of.
use Rattle.std.specs.Prelude.{List, ℕ, Bool, [], ◌++◌, codes, decimal, if◌then◌else◌}
use Rattle.std.specs.Int.{w64, to_be_bytes}
use Rattle.hex.specs.Hex.{encode_lower}
use Rattle.avtp_base.specs.declared.refusal.Refusal.{Refusal}
use Rattle.avtp_base.specs.Field.{name_of}

-- the byte that ends a line
abbrev pub newline : List ℕ
newline = codes "\n"

-- a bit as a digit
abbrev pub flag_text : Bool → List ℕ
flag_text flag = if flag then codes "1" else codes "0"

-- a stream ID as sixteen hexadecimal digits
unfoldable pub id_text : ℕ → List ℕ
id_text id = encode_lower (to_be_bytes w64 id)

-- the text of a refusal: the field's name, its offset, and `short` if the part that should hold the field is too short
unfoldable pub refusal_text : Refusal → List ℕ
refusal_text r = name_of r.field ++ codes " at " ++ decimal r.at ++ (if r.short then codes " short" else [])
