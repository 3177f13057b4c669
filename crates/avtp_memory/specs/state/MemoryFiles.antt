-- Only private functions and proofs use these definitions. What contracts see of files in memory.
use Rattle.std.specs.Prelude.{◌≡◌, ◌≤◌, ℕ, Bool, true, List, [], length, take, min, Some, None, option_map, option_and_then, refl, IsSome, IfSome, IfOk, OnOk, OnErr, IsErrOf, Result}
use Rattle.std.specs.Io.KnownBytes.{Consumes, IsAtEnd}
use Rattle.avtp_base.specs.declared.failed.NoMemory.{NoMemory}
use Rattle.avtp_base.specs.declared.failed.OpenFault.{OpenFault}
use Rattle.avtp_base.specs.declared.failed.OpenFault.TheVariants as open_fault
use Rattle.avtp_base.specs.Files.{Files, file_of, left_in, name_in, KeepsFiles, KeepsOthers, KeepsSlots, KeepsOtherFiles, KeepsOthersFiles, PutsFile, IsOpened, IsMade, AppendsTo}
use Rattle.avtp_files.specs.declared.shelf.Slot.{Slot}
use Rattle.avtp_files.specs.Entries.{entry_at}
use Rattle.avtp_memory.specs.declared.memory_files.MemoryFiles.{MemoryFiles}
use Rattle.avtp_memory.specs.MemoryFiles.{KeepsPart, files_in, open_in, room_in, slots_in}

-- if a file is open in slot k, contracts see the file's name and the bytes that are still to be read
pub told_of_live : (held : MemoryFiles) (k : ℕ) → IsSome (slots_in held k) → IsSome (name_in (slots_in held) k) × IsSome (left_in (slots_in held) k)
told_of_live held k live =
    elim (entry_at held.live.entries.items k) as (λ e. IsSome (option_map (open_in held.files.entries.items) e) → IsSome (option_and_then (λ o. o.name) (option_map (open_in held.files.entries.items) e)) × IsSome (option_and_then (λ o. o.left) (option_map (open_in held.files.entries.items) e))) [
      | None ↦ λ h. absurd cc
      | Some file ↦ λ _. (refl, refl)
    ] live

-- ---- calls

-- The files are these, and no file is open. A file that is made gets memory for `size` bytes.
pub record HoldsFiles (held : MemoryFiles) (named : Files) (size : ℕ) : Type 0 where
  pub files : files_in held ≡ named
  pub closed : (k : ℕ) → slots_in held k ≡ None
  pub room : room_in held ≡ size

-- At `Ok` the file with this name was opened for reading in a slot that was free. At `Missing` no file has the name. All
-- files are unchanged, and at `Err` all slots, too.
pub record OpensFile (old new : MemoryFiles) (name : List ℕ) (result : Result Slot OpenFault) : Type 0 where
  pub opened : IfOk result (λ slot. IsOpened (Some (files_in old)) (slots_in new slot.0) name)
  pub fresh : IfOk result (λ slot. slots_in old slot.0 ≡ None)
  pub others : IfOk result (λ slot. KeepsOthers (slots_in old) (slots_in new) slot.0)
  pub refused : OnErr result (KeepsSlots (slots_in old) (slots_in new))
  pub missing : IsErrOf result open_fault.Missing → files_in old name ≡ None
  pub not_failed : IsErrOf result open_fault.Failed → ⊥
  pub files : KeepsFiles (Some (files_in old)) (Some (files_in new))
  pub room : room_in new ≡ room_in old

-- At `Ok` the file with this name is empty, and open for writing in a slot that was free. At `Err` all files and slots
-- are unchanged.
pub record MakesFile (old new : MemoryFiles) (name : List ℕ) (result : Result Slot NoMemory) : Type 0 where
  pub made : IfOk result (λ slot. IsMade (Some (files_in old)) (slots_in new slot.0) name)
  pub fresh : IfOk result (λ slot. slots_in old slot.0 ≡ None)
  pub others : IfOk result (λ slot. KeepsOthersFiles (slots_in old) (slots_in new) slot.0 name)
  pub emptied : OnOk result (PutsFile (Some (files_in old)) (Some (files_in new)) name [])
  pub refused : OnErr result (KeepsSlots (slots_in old) (slots_in new))
  pub files : OnErr result (KeepsFiles (Some (files_in old)) (Some (files_in new)))
  pub room : room_in new ≡ room_in old

-- At most `most` unread bytes of slot k were moved to the front of a buffer that has `size` bytes. The slot keeps its
-- file, and nothing else changed.
pub record ReadsFile (old new : MemoryFiles) (k most size : ℕ) (buffer : List ℕ) (n : ℕ) : Type 0 where
  pub within : n ≤ length buffer
  pub moved : Consumes (left_in (slots_in old) k) (left_in (slots_in new) k) (take n buffer)
  pub at_end : n ≡ 0 → IsAtEnd (left_in (slots_in new) k)
  pub whole : IfSome (left_in (slots_in old) k) (λ left. n ≡ min (length left) (min size most))
  pub same : option_map file_of (slots_in new k) ≡ option_map file_of (slots_in old k)
  pub others : KeepsOthers (slots_in old) (slots_in new) k
  pub files : KeepsFiles (Some (files_in old)) (Some (files_in new))
  pub room : room_in new ≡ room_in old

-- At `Ok` the piece was appended to the file in slot k. At `Err` nothing changed.
pub record AppendsPiece (old new : MemoryFiles) (k : ℕ) (piece : List ℕ) (result : Result Unit NoMemory) : Type 0 where
  pub appended : OnOk result (AppendsTo (Some (files_in old)) (Some (files_in new)) (name_in (slots_in old) k) piece)
  pub live : option_map (λ o. o.made) (slots_in new k) ≡ Some true
  pub slots : KeepsOtherFiles (slots_in old) (slots_in new) (name_in (slots_in old) k)
  pub refused : OnErr result (KeepsSlots (slots_in old) (slots_in new))
  pub files : OnErr result (KeepsFiles (Some (files_in old)) (Some (files_in new)))
  pub room : room_in new ≡ room_in old

-- The file in slot k keeps as much of the piece as fits its room. `fits` says whether the whole piece fits.
pub record KeepsFront (old new : MemoryFiles) (k : ℕ) (piece : List ℕ) (fits : Bool) : Type 0 where
  pub kept : KeepsPart (files_in old) (files_in new) (name_in (slots_in old) k) (room_in old) piece fits
  pub live : option_map (λ o. o.made) (slots_in new k) ≡ Some true
  pub slots : KeepsOtherFiles (slots_in old) (slots_in new) (name_in (slots_in old) k)
  pub room : room_in new ≡ room_in old

-- Slot k was closed, and nothing else changed.
pub record FreesSlot (old new : MemoryFiles) (k : ℕ) : Type 0 where
  pub ended : slots_in new k ≡ None
  pub others : KeepsOthers (slots_in old) (slots_in new) k
  pub files : KeepsFiles (Some (files_in old)) (Some (files_in new))
  pub room : room_in new ≡ room_in old
