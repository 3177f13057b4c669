-- Files in memory, as a list of names with their bytes.
use Rattle.std.specs.Prelude.{ℕ, Bool, List, Option, option_map, find, bytes_eq, string_bytes, String}
use Rattle.std.specs.Global.{Vec, Global}

-- the entry has this name
abbrev pub has_name : List ℕ → String Global × Vec ℕ → Bool
has_name name entry = bytes_eq (string_bytes entry.0) name

-- the bytes of the first entry with the name
abbrev pub bytes_under : List (String Global × Vec ℕ) → List ℕ → Option (List ℕ)
bytes_under entries name = option_map (λ entry. entry.1.items) (find (has_name name) entries)
