-- What contracts see of files in memory.
use Rattle.std.specs.Prelude.{◌≡◌, ◌≢◌, ◌↔◌, ℕ, Bool, IsTrue, List, [], Option, Some, drop, option_map, unwrap_or, string_bytes, String}
use Rattle.std.specs.Global.{Vec, Global}
use Rattle.avtp_memory.specs.declared.memory_files.MemoryFiles.{MemoryFiles}
use Rattle.avtp_memory.specs.declared.open_file.OpenFile.{OpenFile}
use Rattle.avtp_files.specs.Entries.{entry_at}
use Rattle.avtp_base.specs.Files.{Files, Open, Slots}
use Rattle.avtp_memory.specs.NamedFiles.{bytes_under}
use Rattle.avtp_memory.specs.Room.{kept_within, FitsRoom}

-- the bytes of each file, by name
abbrev pub files_in : MemoryFiles → Files
files_in held = bytes_under held.files.entries.items

-- an open file as contracts see it, with the bytes that are left to read
abbrev pub open_in : List (String Global × Vec ℕ) → OpenFile → Open
open_in entries file =
    record { made = file.made; name = Some (string_bytes file.name); left = Some (drop file.place (unwrap_or (bytes_under entries (string_bytes file.name)) [])) }

-- the open files by slot
abbrev pub slots_in : MemoryFiles → Slots
slots_in held k = option_map (open_in held.files.entries.items) (entry_at held.live.entries.items k)

-- each file has room for this number of bytes when the file is made
abbrev pub room_in : MemoryFiles → ℕ
room_in held = held.room

-- The named file keeps as much of `piece` as fits its room. `fits` tells whether the whole piece fits. Every other file
-- is unchanged.
pub record KeepsPart (old new : Files) (named : Option (List ℕ)) (room : ℕ) (piece : List ℕ) (fits : Bool) : Type 0 where
  pub name : List ℕ
  pub is_named : named ≡ Some name
  pub before : List ℕ
  pub was : old name ≡ Some before
  pub keeps : new name ≡ Some (kept_within room before piece)
  pub others : (other : List ℕ) → other ≢ name → new other ≡ old other
  pub fitting : IsTrue fits ↔ FitsRoom room before piece
