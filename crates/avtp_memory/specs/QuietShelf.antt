-- What contracts see of a quiet shelf.
use Rattle.std.specs.Prelude.{◌≡◌, ◌&&◌, ℕ, Bool, IsTrue, List, [], Option, Some, None, Result, Ok, IfOk, IfSome, OnErr, OnOk, length, min}
use Rattle.avtp_base.specs.declared.failed.Failed.{Failed}
use Rattle.avtp_base.specs.declared.failed.OpenFault.{OpenFault}
use Rattle.avtp_files.specs.declared.shelf.Slot.{Slot}
use Rattle.avtp_memory.specs.declared.quiet_shelf.QuietShelf.{QuietShelf}
use Rattle.avtp_memory.specs.Asked.{StandsForNames}
use Rattle.avtp_base.specs.Files.{Files, Slots, left_in, name_in, IsOpened, KeepsFiles, PutsFile}
use Rattle.avtp_memory.specs.MemoryFiles.{files_in, slots_in, room_in, KeepsPart}
use Rattle.avtp_memory.specs.Room.{told_while}

-- the kept bytes of each file, by name
abbrev pub kept_files : QuietShelf → Files
kept_files shelf = files_in shelf.held

-- the greatest number of bytes that the shelf keeps of a file that is made
abbrev pub room_of : QuietShelf → ℕ
room_of shelf = room_in shelf.held

-- all written bytes were kept
abbrev pub keeps_all : QuietShelf → Bool
keeps_all shelf = shelf.all

-- the kept files; `None` once some written bytes were not kept
abbrev pub files_of : QuietShelf → Option Files
files_of shelf = told_while (keeps_all shelf) (kept_files shelf)

-- the open files by slot
abbrev pub slots_of : QuietShelf → Slots
slots_of shelf = slots_in shelf.held

-- The shelf was possibly asked for these names, in this order. The list begins with the kept names. If all names were
-- kept, no other names follow.
abbrev pub asked_of : QuietShelf → List (List ℕ) → Type 0
asked_of shelf = StandsForNames shelf.asked

-- The named file keeps as much of the piece as fits its room. Every other file is unchanged. If the whole piece does
-- not fit, `keeps_all` becomes false; otherwise `keeps_all` is unchanged.
abbrev pub KeepsPiece : QuietShelf → QuietShelf → Option (List ℕ) → List ℕ → Type 0
KeepsPiece old new name piece =
    (fits : Bool) × KeepsPart (kept_files old) (kept_files new) name (room_of old) piece fits × (keeps_all new ≡ (keeps_all old && fits))

-- ---- what a call does in addition to what it does on every shelf

-- Three things are unchanged: the kept bytes, `keeps_all`, and the room that each file gets when it is made.
pub record KeepsKept (old new : QuietShelf) : Type 0 where
  pub kept : KeepsFiles (Some (kept_files old)) (Some (kept_files new))
  pub all : keeps_all new ≡ keeps_all old
  pub room : room_of new ≡ room_of old

-- At `Ok` a kept file with this name was opened, and all its kept bytes are left to read. What the shelf keeps is
-- unchanged.
pub record OpensQuietly (old new : QuietShelf) (name : List ℕ) (result : Result Slot OpenFault) : Type 0 where
  pub found : IfOk result (λ slot. IsOpened (Some (kept_files old)) (slots_of new slot.0) name)
  pub keeps : KeepsKept old new

-- If the result is `Ok`, the file with this name was made, and no byte of the file is kept yet. If the result is `Err`,
-- the kept bytes of every file are unchanged.
pub record MakesQuietly (old new : QuietShelf) (name : List ℕ) (result : Result Slot OpenFault) : Type 0 where
  pub kept : OnOk result (PutsFile (Some (kept_files old)) (Some (kept_files new)) name [])
  pub as_before : OnErr result (KeepsFiles (Some (kept_files old)) (Some (kept_files new)))
  pub all : keeps_all new ≡ keeps_all old
  pub room : room_of new ≡ room_of old

-- Slot k was read into a buffer of `room` bytes. All unread bytes were moved, or `room` bytes if more than `room` bytes
-- were unread.
pub record ReadsQuietly (old new : QuietShelf) (k room : ℕ) (result : Result ℕ Failed) : Type 0 where
  pub whole : IfSome (left_in (slots_of old) k) (λ left. result ≡ Ok (min (length left) room))
  pub keeps : KeepsKept old new

-- A write to slot k took the whole piece. The file keeps as much of the piece as fits its room.
pub record WritesQuietly (old new : QuietShelf) (k : ℕ) (piece : List ℕ) (result : Result ℕ Failed) : Type 0 where
  pub whole : result ≡ Ok (length piece)
  pub kept : KeepsPiece old new (name_in (slots_of old) k) piece
  pub room : room_of new ≡ room_of old

-- A new shelf of these files: all written bytes were kept, no file is open, and no name was asked for. A file that is
-- made has room for `size` bytes.
pub record IsNew (shelf : QuietShelf) (named : Files) (size : ℕ) : Type 0 where
  pub files : kept_files shelf ≡ named
  pub all : IsTrue (keeps_all shelf)
  pub room : room_of shelf ≡ size
  pub closed : (k : ℕ) → slots_of shelf k ≡ None
  pub asked : asked_of shelf []
