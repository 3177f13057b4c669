-- The table of a command's options in the code, as the list of its rows.
use Rattle.std.specs.Prelude.{ℕ, ◌^◌, List, [], ◌∷◌, map, Bool, true, false, nat_le, nat_lt, ◌&&◌, nat_eq}
use Rattle.std.specs.List.{list_all}
use Rattle.option_words.specs.declared.option.Takes.{Takes}
use Rattle.option_words.specs.declared.option.Takes.TheVariants.{Number, Signed, Id, Kind, Format, Name, Silence, OutFormat, Nothing}
use Rattle.option_words.specs.declared.option.OptionRow.{OptionRow}
use Rattle.option_words.specs.Options.{Row}
use Rattle.option_words.specs.declared.option.Takes.TheVariants as takes

-- a row of the code's table, with plain bytes instead of its borrowed name
abbrev pub row_of : OptionRow → Row
row_of row = record { name = row.name.now; takes = row.takes }

-- the rows of the code's table, with plain bytes instead of their borrowed names
abbrev pub rows_of : List OptionRow → List Row
rows_of rows = map row_of rows

-- If the option takes a number, the option's range is not empty, and all numbers in the range fit 64 bits.
abbrev pub is_sound : Takes → Bool
is_sound (Number low high) = nat_le low high && nat_lt high (2 ^ 64)
is_sound (Signed most) = nat_lt most (2 ^ 63)
is_sound Id = true
is_sound Kind = true
is_sound Format = true
is_sound Name = true
is_sound Silence = true
is_sound OutFormat = true
is_sound Nothing = true

-- the word begins with `--`, as the name of each option does; no value of an option begins with `--`
abbrev pub begins_with_dashes : List ℕ → Bool
begins_with_dashes [] = false
begins_with_dashes (first ∷ []) = false
begins_with_dashes (first ∷ second ∷ _) = nat_eq first 45 && nat_eq second 45

-- the name of each option begins with `--`, and `is_sound` holds for the values of each option
abbrev pub are_sound : List Row → Bool
are_sound rows = list_all (λ row. begins_with_dashes row.name && is_sound row.takes) rows
