-- A file that is written through a buffer.
use Rattle.std.specs.Prelude.{◌≡◌, ◌≢◌, ◌≤◌, ◌⊎◌, ℕ, List, [], ◌∷◌, ◌++◌, Option, None, Some, IfOk, IsErrOf, IsSome, OnErr, OnOk, Result, option_map}
use Rattle.avtp_base.specs.declared.failed.Failed.{Failed}
use Rattle.avtp_base.specs.declared.failed.OpenFault.{OpenFault}
use Rattle.avtp_base.specs.declared.failed.OpenFault.TheVariants as open_fault
use Rattle.avtp_base.specs.Faults.{IsCounted, IsOpenCounted}
use Rattle.avtp_files.specs.ShelfCalls.{IsMadeIn}
use Rattle.avtp_base.specs.Files.{Files, Slots, file_of, left_in, name_in, KeepsFiles, KeepsOtherFiles, KeepsSlots, PutsFile}
use Rattle.avtp_base.specs.States.{Asks, AsksNothing, ShelfState}

-- A file that is written through a buffer: its slot, and the buffered bytes.
pub record Writing : Type 0 where
  pub slot : ℕ
  pub waiting : List ℕ

-- Between the states `before` and `after`, the file `name` was made and opened in the writer's slot, which was free.
-- `bytes` are the bytes of the file followed by the buffered bytes. All other files are unchanged, if the shelf shows
-- them. All other slots are unchanged, with one exception: if this file is open in a slot, the bytes that remain to be
-- read in the slot can change.
pub record IsWriting (before after : ShelfState) (writer : Writing) (name bytes : List ℕ) : Type 0 where
  pub held : List ℕ
  pub split : bytes ≡ held ++ writer.waiting
  pub put : PutsFile before.files after.files name held
  pub free : before.slots writer.slot ≡ None
  pub made : IsMadeIn after.slots writer.slot
  pub named : IsSome before.files → name_in after.slots writer.slot ≡ Some name
  pub same : (j : ℕ) → j ≢ writer.slot → option_map file_of (after.slots j) ≡ option_map file_of (before.slots j)
  pub left : IsSome before.files → (j : ℕ) → j ≢ writer.slot → name_in before.slots j ≢ Some name → left_in after.slots j ≡ left_in before.slots j
  pub reading : after.reading_faults ≡ before.reading_faults

-- The writer's file is still open, and possibly some buffered bytes were written to it. If the shelf failed, the count
-- of writing faults rose. No reading fault was counted, and no name was asked for.
pub record WritesSlot (before after : ShelfState) (old new : Writing) (result : Result Unit Failed) : Type 0 where
  pub slot : new.slot ≡ old.slot
  pub made : IsMadeIn after.slots old.slot
  pub slots : KeepsOtherFiles before.slots after.slots (name_in before.slots old.slot)
  pub reading : after.reading_faults ≡ before.reading_faults
  pub counted : IsCounted before.writing_faults after.writing_faults result
  pub asked : AsksNothing before after

-- The writer's file is open, and its empty buffer can hold `count` bytes.
pub record CanHold (slots : Slots) (writer : Writing) (count : ℕ) : Type 0 where
  pub made : IsMadeIn slots writer.slot
  pub size : count ≤ 65536

-- With `Ok` the bytes `bytes` were added to the writer's file. If the result is `Err`, the shelf failed, and nothing
-- was added.
pub record AddsBytes (before after : ShelfState) (old new : Writing) (bytes : List ℕ) (result : Result Unit Failed) : Type 0 where
  pub added : OnOk result ((begun : ShelfState) (name all : List ℕ) → IsWriting begun before old name all → IsWriting begun after new name (all ++ bytes))
  pub kept : OnErr result ((begun : ShelfState) (name all : List ℕ) → IsWriting begun before old name all → IsWriting begun after new name all)
  pub writes : WritesSlot before after old new result

-- ---- what is left unchanged

-- the file was not made: all files, all slots and the count of reading faults are unchanged
pub record NotMade (before after : ShelfState) : Type 0 where
  pub files : KeepsFiles before.files after.files
  pub slots : KeepsSlots before.slots after.slots
  pub reading : after.reading_faults ≡ before.reading_faults

-- If the result is `Ok`, the file `name` was made, and the writer's buffer is empty. At `Err` the file was not made. If
-- the result is `Failed`, the count of writing faults rose. Whatever the result, the shelf was asked for the name.
pub record CreatesFile (before after : ShelfState) (name : List ℕ) (result : Result Writing OpenFault) : Type 0 where
  pub begun : IfOk result (λ writer. IsWriting before after writer name [])
  pub not_made : OnErr result (NotMade before after)
  pub not_missing : IsErrOf result open_fault.Missing → ⊥
  pub counted : IsOpenCounted before.writing_faults after.writing_faults result
  pub asked : Asks (name ∷ []) before after

-- The file `name` now contains a prefix of `bytes`. All other files are unchanged, if the shelf shows them.
pub record PutsPrefix (old new : Option Files) (name bytes : List ℕ) : Type 0 where
  pub prefix : List ℕ
  pub rest : List ℕ
  pub split : bytes ≡ prefix ++ rest
  pub put : PutsFile old new name prefix

-- The file `name` is unchanged, or now contains a prefix of the given bytes. All other files are unchanged, if the
-- shelf shows them.
abbrev pub MakesPrefix : Option Files → Option Files → List ℕ → List ℕ → Type 0
MakesPrefix old new name bytes = KeepsFiles old new ⊎ PutsPrefix old new name bytes

-- In every slot, the same file stays open, or the slot stays free. If the shelf shows its files, the bytes that are
-- still to be read change only in slots where the file `name` is open.
pub record KeepsSlotsBut (files : Option Files) (old new : Slots) (name : List ℕ) : Type 0 where
  pub same : (j : ℕ) → option_map file_of (new j) ≡ option_map file_of (old j)
  pub left : IsSome files → (j : ℕ) → name_in old j ≢ Some name → left_in new j ≡ left_in old j

-- The writer's file was closed, and contains a prefix of all bytes that were added. No other file has changed since
-- this file was made. The writer's slot is free again. The other slots are unchanged, with one exception: if this file
-- is open in a slot, the bytes that remain to be read in the slot can have changed. If the shelf failed, the count of
-- writing faults rose. No reading fault was counted, and no name was asked for.
pub record ClosesFile (before after : ShelfState) (writer : Writing) (result : Result Unit Failed) : Type 0 where
  pub prefix : (begun : ShelfState) (name all : List ℕ) → IsWriting begun before writer name all → PutsPrefix begun.files after.files name all
  pub slots : (begun : ShelfState) (name all : List ℕ) → IsWriting begun before writer name all → KeepsSlotsBut begun.files begun.slots after.slots name
  pub reading : after.reading_faults ≡ before.reading_faults
  pub counted : IsCounted before.writing_faults after.writing_faults result
  pub asked : AsksNothing before after

-- The writer's file was closed. If nothing failed, the file contains all bytes that were added.
pub record FinishesFile (before after : ShelfState) (writer : Writing) (result : Result Unit Failed) : Type 0 where
  pub put : OnOk result ((begun : ShelfState) (name all : List ℕ) → IsWriting begun before writer name all → PutsFile begun.files after.files name all)
  pub closes : ClosesFile before after writer result
