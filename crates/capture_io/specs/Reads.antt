-- What reading leaves unchanged on a shelf, and which names are asked for.
use Rattle.std.specs.Prelude.{◌≡◌, ℕ, ◌≤◌, List, [], ◌∷◌, None, Some, IfOk, IsErrOf, IsSome, OnErr, Result, option_map}
use Rattle.avtp_base.specs.declared.failed.OpenFault.{OpenFault}
use Rattle.avtp_base.specs.declared.failed.OpenFault.TheVariants as open_fault
use Rattle.avtp_base.specs.Faults.{IsOpeningCounted}
use Rattle.avtp_base.specs.Files.{IsMissing, KeepsFiles, KeepsOthers, KeepsSlots, file_of, name_in}
use Rattle.avtp_base.specs.States.{Asks, AsksNothing, ShelfState}

-- A call that only reads. Every file, every slot and the count of writing faults are unchanged. The count of reading
-- faults did not fall. The names `names` were asked for, in this order.
pub record OnlyReads (before after : ShelfState) (names : List (List ℕ)) : Type 0 where
  pub files : KeepsFiles before.files after.files
  pub slots : KeepsSlots before.slots after.slots
  pub reading : before.reading_faults.count ≤ after.reading_faults.count
  pub writing : after.writing_faults ≡ before.writing_faults
  pub asked : Asks names before after

-- ---- while the file of one slot is open

-- The file in slot k was read, and is still open there. `now` is the slot's number after the call, and equals k. No
-- name was asked for. Nothing is changed except slot k and the count of reading faults.
pub record ReadsSlot (before after : ShelfState) (k now : ℕ) : Type 0 where
  pub slot : now ≡ k
  pub files : KeepsFiles before.files after.files
  pub live : IsSome (after.slots k)
  pub same : option_map file_of (after.slots k) ≡ option_map file_of (before.slots k)
  pub others : KeepsOthers before.slots after.slots k
  pub reading : before.reading_faults.count ≤ after.reading_faults.count
  pub writing : after.writing_faults ≡ before.writing_faults
  pub asked : AsksNothing before after

-- Slot k was free. The name was asked for, its file was opened in slot k, and possibly some of the file was read. All
-- files, all other slots and the count of writing faults are unchanged. If the shelf shows its files, the slot has the
-- name.
pub record OpensSlot (before after : ShelfState) (name : List ℕ) (k : ℕ) : Type 0 where
  pub free : before.slots k ≡ None
  pub files : KeepsFiles before.files after.files
  pub live : IsSome (after.slots k)
  pub named : IsSome before.files → name_in after.slots k ≡ Some name
  pub others : KeepsOthers before.slots after.slots k
  pub reading : before.reading_faults.count ≤ after.reading_faults.count
  pub writing : after.writing_faults ≡ before.writing_faults
  pub asked : Asks (name ∷ []) before after

-- If the result is `Ok(x)`, the file `name` was opened in the slot with the number `slot x`. If the result is `Err`,
-- the file was not opened, and no file or slot changed. `Missing` means that the shelf shows its files and none of them
-- has the name. If the result is `Failed`, one more reading fault was counted, at the opening.
pub record TriesOpen {T : Type 0} (slot : T → ℕ) (before after : ShelfState) (name : List ℕ) (result : Result T OpenFault) : Type 0 where
  pub opened : IfOk result (λ file. OpensSlot before after name (slot file))
  pub refused : OnErr result (OnlyReads before after (name ∷ []))
  pub missing : IsErrOf result open_fault.Missing → IsMissing before.files name
  pub counted : IsOpeningCounted before.reading_faults after.reading_faults result
