-- What each call of a shelf does, depending on the result of the call. A statement about names, files or what is left
-- to read applies only if the shelf shows them.
use Rattle.std.specs.Prelude.{◌≡◌, ℕ, ◌≤◌, ◌<◌, true, List, [], ◌∷◌, length, take, None, Some, IfOk, IsErrOf, OnErr, OnOk, Result, option_map}
use Rattle.std.specs.Io.KnownBytes.{ReadConsumes}
use Rattle.avtp_base.specs.declared.failed.Failed.{Failed}
use Rattle.avtp_base.specs.declared.failed.OpenFault.{OpenFault}
use Rattle.avtp_base.specs.declared.failed.OpenFault.TheVariants as open_fault
use Rattle.avtp_files.specs.declared.shelf.Slot.{Slot}
use Rattle.avtp_base.specs.Faults.{IsCounted, IsOpenCounted, IsOpeningCounted, IsReadCounted}
use Rattle.avtp_base.specs.Files.{Slots, file_of, left_in, name_in, IsMissing, KeepsFiles, KeepsOthers, KeepsSlots, KeepsOtherFiles, PutsFile, IsOpened, IsMade, KeepsOthersFiles, AppendsTo}
use Rattle.avtp_base.specs.States.{Asks, AsksNothing, ShelfState}

-- slot k is live, and its file was made for writing
abbrev pub IsMadeIn : Slots → ℕ → Type 0
IsMadeIn slots k = option_map (λ o. o.made) (slots k) ≡ Some true

-- If the result is `Ok`, the file with this name was opened for reading in a slot that was free, and every other slot
-- is unchanged. If the result is `Err`, every slot is unchanged. `Missing` means that the shelf shows its files and
-- none has the name. If the result is `Failed`, a reading fault was counted, at the opening. All files are unchanged,
-- and the shelf was asked for exactly this name.
pub record OpensInSlot (before after : ShelfState) (name : List ℕ) (result : Result Slot OpenFault) : Type 0 where
  pub opened : IfOk result (λ slot. IsOpened before.files (after.slots slot.0) name)
  pub fresh : IfOk result (λ slot. before.slots slot.0 ≡ None)
  pub others : IfOk result (λ slot. KeepsOthers before.slots after.slots slot.0)
  pub refused : OnErr result (KeepsSlots before.slots after.slots)
  pub missing : IsErrOf result open_fault.Missing → IsMissing before.files name
  pub files : KeepsFiles before.files after.files
  pub reading : IsOpeningCounted before.reading_faults after.reading_faults result
  pub writing : after.writing_faults ≡ before.writing_faults
  pub asked : Asks (name ∷ []) before after

-- At `Ok` the file with this name is now empty, and open for writing in a slot that was free. Every other slot keeps
-- its file, and the unread bytes change only in slots of this file. At `Err` every file and slot is unchanged. At
-- `Failed` a writing fault was counted. `Missing` is never returned. Whatever the result, the shelf was asked for
-- exactly this name.
pub record MakesInSlot (before after : ShelfState) (name : List ℕ) (result : Result Slot OpenFault) : Type 0 where
  pub made : IfOk result (λ slot. IsMade before.files (after.slots slot.0) name)
  pub fresh : IfOk result (λ slot. before.slots slot.0 ≡ None)
  pub others : IfOk result (λ slot. KeepsOthersFiles before.slots after.slots slot.0 name)
  pub emptied : OnOk result (PutsFile before.files after.files name [])
  pub refused : OnErr result (KeepsSlots before.slots after.slots)
  pub files : OnErr result (KeepsFiles before.files after.files)
  pub not_missing : IsErrOf result open_fault.Missing → ⊥
  pub writing : IsOpenCounted before.writing_faults after.writing_faults result
  pub reading : after.reading_faults ≡ before.reading_faults
  pub asked : Asks (name ∷ []) before after

-- If the result is `Ok(n)`, the next n unread bytes of slot k were moved to the front of the buffer. If the result is
-- `Err`, no byte was moved, and a reading fault was counted, at these unread bytes. The slot keeps its file, and nothing
-- else changed.
pub record ReadsBytes (before after : ShelfState) (k : ℕ) (result : Result ℕ Failed) (buffer : List ℕ) : Type 0 where
  pub within : IfOk result (λ n. n ≤ length buffer)
  pub moved : ReadConsumes (left_in before.slots k) (left_in after.slots k) result buffer
  pub same : option_map file_of (after.slots k) ≡ option_map file_of (before.slots k)
  pub others : KeepsOthers before.slots after.slots k
  pub files : KeepsFiles before.files after.files
  pub reading : IsReadCounted before.reading_faults after.reading_faults (left_in before.slots k) result
  pub writing : after.writing_faults ≡ before.writing_faults
  pub asked : AsksNothing before after

-- At `Ok(n)` the first n bytes of the piece, at least one, were appended to the file in slot k. That file was made for
-- writing. The slot stays open, and every slot keeps its file. What is left to read changes only in slots of this file.
-- If the result is `Err`, nothing changed, except that a writing fault was counted.
pub record WritesBytes (before after : ShelfState) (k : ℕ) (piece : List ℕ) (result : Result ℕ Failed) : Type 0 where
  pub some : IfOk result (λ n. 0 < n)
  pub within : IfOk result (λ n. n ≤ length piece)
  pub appended : IfOk result (λ n. AppendsTo before.files after.files (name_in before.slots k) (take n piece))
  pub live : IsMadeIn after.slots k
  pub slots : KeepsOtherFiles before.slots after.slots (name_in before.slots k)
  pub refused : OnErr result (KeepsSlots before.slots after.slots)
  pub files : OnErr result (KeepsFiles before.files after.files)
  pub writing : IsCounted before.writing_faults after.writing_faults result
  pub reading : after.reading_faults ≡ before.reading_faults
  pub asked : AsksNothing before after

-- Slot k was closed, and nothing else changed.
pub record ClosesSlot (before after : ShelfState) (k : ℕ) : Type 0 where
  pub ended : after.slots k ≡ None
  pub others : KeepsOthers before.slots after.slots k
  pub files : KeepsFiles before.files after.files
  pub reading : after.reading_faults ≡ before.reading_faults
  pub writing : after.writing_faults ≡ before.writing_faults
  pub asked : AsksNothing before after
