-- Only private functions and proofs use these definitions. Files in memory, as a list of names with
-- their bytes.
use Rattle.std.specs.Prelude.{◌≡◌, ◌≢◌, ◌↔◌, ◌≤◌, ℕ, Bool, IsTrue, List, ◌++◌, Some, option_map, unwrap_or, find, String, vec_capacity}
use Rattle.std.specs.Global.{Vec, Global}
use Rattle.avtp_memory.specs.Room.{kept_within, FitsRoom}
use Rattle.avtp_memory.specs.NamedFiles.{has_name, bytes_under}

-- The file `name` now has these bytes, and every other file is unchanged.
pub record SetsFile (old new : List (String Global × Vec ℕ)) (name bytes : List ℕ) : Type 0 where
  pub set : bytes_under new name ≡ Some bytes
  pub others : (other : List ℕ) → other ≢ name → bytes_under new other ≡ bytes_under old other

-- `piece` was appended to the file, and every other file is unchanged
abbrev pub GrowsFile : List (String Global × Vec ℕ) → List (String Global × Vec ℕ) → List ℕ → List ℕ → Type 0
GrowsFile old new name piece =
    (before : List ℕ) × (bytes_under old name ≡ Some before) × SetsFile old new name (before ++ piece)

-- every file is unchanged
abbrev pub KeepsNamed : List (String Global × Vec ℕ) → List (String Global × Vec ℕ) → Type 0
KeepsNamed old new = (name : List ℕ) → bytes_under new name ≡ bytes_under old name

-- the first entry with the name has memory for this number of bytes
abbrev pub capacity_under : List (String Global × Vec ℕ) → List ℕ → ℕ
capacity_under entries name = unwrap_or (option_map (λ entry. vec_capacity entry.1) (find (has_name name) entries)) 0

-- each file has memory for at least as many bytes as before
abbrev pub KeepsCapacity : List (String Global × Vec ℕ) → List (String Global × Vec ℕ) → Type 0
KeepsCapacity old new = (name : List ℕ) → capacity_under old name ≤ capacity_under new name

-- The file keeps as much of `piece` as fits its room. `fits` tells whether the whole piece fits. Every other file is
-- unchanged.
pub record KeepsWithin (old new : List (String Global × Vec ℕ)) (name : List ℕ) (room : ℕ) (piece : List ℕ) (fits : Bool) : Type 0 where
  pub before : List ℕ
  pub was : bytes_under old name ≡ Some before
  pub keeps : SetsFile old new name (kept_within room before piece)
  pub fitting : IsTrue fits ↔ FitsRoom room before piece
