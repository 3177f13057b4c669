-- A capture that is written to a file of a shelf while other files are read.
use Rattle.std.specs.Prelude.{◌≡◌, ◌≢◌, ◌*◌, ◌^◌, ◌≤◌, ◌≤ℤ◌, ◌<ℤ◌, ℕ, ℤ, pos, List, [], ◌∷◌, ◌++◌, length, Option, None, Some, IfOk, IsErrOf, IsSome, OnErr, OnOk, Result, option_map}
use Rattle.pcap_frames.specs.declared.style.Order.TheVariants.{Little}
use Rattle.pcap_frames.specs.declared.style.Style.{Style}
use Rattle.pcap_frames.specs.declared.style.Unit.TheVariants.{Nano}
use Rattle.pcap_frames.specs.Capture.{Record, capture_spelling}
use Rattle.avtp_base.specs.declared.failed.Failed.{Failed}
use Rattle.avtp_base.specs.declared.failed.OpenFault.{OpenFault}
use Rattle.avtp_base.specs.declared.failed.OpenFault.TheVariants as open_fault
use Rattle.avtp_base.specs.Faults.{IsCounted, IsOpenCounted}
use Rattle.avtp_base.specs.Files.{Files, KeepsFiles, Slots, file_of, left_in, name_in, PutsFile}
use Rattle.avtp_base.specs.States.{Asks, AsksNothing, ShelfState}
use Rattle.avtp_files.specs.ShelfCalls.{IsMadeIn}
use Rattle.capture_io.specs.Writing.{NotMade, PutsPrefix, WritesSlot, Writing}

-- the style of every capture that is written: little-endian, with nanoseconds
abbrev pub written_style : Style
written_style = record { order = Little; unit = Nano }

-- the record of a frame that is captured whole
abbrev pub whole_record : ℤ → List ℕ → Record
whole_record arrival frame = record { arrival = arrival; orig_len = length frame; bytes = frame }

-- the bytes of a capture of these records
abbrev pub capture_bytes : List Record → List ℕ
capture_bytes records = capture_spelling written_style records

-- ---- the file that is written

-- The file `name` was made when the shelf had the files `files`, and is open in the writer's slot. `bytes` are the
-- bytes of the file followed by the buffered bytes. If the shelf shows its files, all other files are unchanged.
pub record HoldsFile (files : Option Files) (shelf : ShelfState) (writer : Writing) (name bytes : List ℕ) : Type 0 where
  pub held : List ℕ
  pub split : bytes ≡ held ++ writer.waiting
  pub put : PutsFile files shelf.files name held
  pub made : IsMadeIn shelf.slots writer.slot
  pub named : IsSome files → name_in shelf.slots writer.slot ≡ Some name

-- the bytes of the file and then the buffered bytes make up a capture of these records
abbrev pub HoldsCapture : Option Files → ShelfState → Writing → List ℕ → List Record → Type 0
HoldsCapture files shelf writer name records = HoldsFile files shelf writer name (capture_bytes records)

-- ---- all other slots

-- In every slot except slot k, the same file stays open, or the slot stays free. If the shelf shows its files, the
-- bytes that are still to be read change only in slots where the file `name` is open.
pub record KeepsBeside (files : Option Files) (old new : Slots) (k : ℕ) (name : List ℕ) : Type 0 where
  pub same : (j : ℕ) → j ≢ k → option_map file_of (new j) ≡ option_map file_of (old j)
  pub left : IsSome files → (j : ℕ) → j ≢ k → name_in old j ≢ Some name → left_in new j ≡ left_in old j

-- Opening, reading and closing other files keeps a capture that is being written. Two steps that keep all slots except
-- the writer's keep these slots together, too.
pub record KeepsCaptures : Type 0 where
  pub kept : (files : Option Files) (s t : ShelfState) (w : Writing) (name : List ℕ) (records : List Record) → HoldsCapture files s w name records
      → KeepsFiles s.files t.files → t.slots w.slot ≡ s.slots w.slot → HoldsCapture files t w name records
  pub beside : (files : Option Files) (a b c : Slots) (k : ℕ) (name : List ℕ) → KeepsBeside files a b k name → KeepsBeside files b c k name
      → KeepsBeside files a c k name

-- ---- calls

-- If the result is `Ok`, the file `name` was made for a capture that has no record so far. If the result is `Err`, the
-- file was not made. If the result is `Failed`, the count of writing faults rose. Whatever the result, the name was
-- asked for.
pub record BeginsCapture (before after : ShelfState) (name : List ℕ) (result : Result Writing OpenFault) : Type 0 where
  pub begun : IfOk result (λ writer. HoldsCapture before.files after writer name [])
  pub fresh : IfOk result (λ writer. before.slots writer.slot ≡ None)
  pub beside : IfOk result (λ writer. KeepsBeside before.files before.slots after.slots writer.slot name)
  pub not_made : OnErr result (NotMade before after)
  pub not_missing : IsErrOf result open_fault.Missing → ⊥
  pub reading : after.reading_faults ≡ before.reading_faults
  pub counted : IsOpenCounted before.writing_faults after.writing_faults result
  pub asked : Asks (name ∷ []) before after

-- The capture's file is open, and a frame with this arrival can be added: the arrival is from 0 to below 2^32 seconds,
-- and the frame has at most 65,520 bytes.
pub record CanAdd (slots : Slots) (writer : Writing) (arrival : ℤ) (frame : List ℕ) : Type 0 where
  pub made : IsMadeIn slots writer.slot
  pub begun : pos 0 ≤ℤ arrival
  pub ended : arrival <ℤ pos (2 ^ 32 * 1000000000)
  pub size : length frame ≤ 65520

-- With `Ok` the record `r` was appended to the capture. If the result is `Err`, the shelf failed, and the capture is
-- unchanged. Whatever the result, buffered bytes may have been written to the file.
pub record AddsRecord (before after : ShelfState) (old new : Writing) (r : Record) (result : Result Unit Failed) : Type 0 where
  pub added : OnOk result ((files : Option Files) (name : List ℕ) (records : List Record) → HoldsCapture files before old name records → HoldsCapture files after new name (records ++ r ∷ []))
  pub kept : OnErr result ((files : Option Files) (name : List ℕ) (records : List Record) → HoldsCapture files before old name records → HoldsCapture files after new name records)
  pub writes : WritesSlot before after old new result

-- The file was closed, and contains a prefix of the capture. The writer's slot is free. If the shelf failed, the count
-- of writing faults rose. No reading fault was counted, and no name was asked for.
pub record ClosesCapture (before after : ShelfState) (writer : Writing) (result : Result Unit Failed) : Type 0 where
  pub prefix : (files : Option Files) (name : List ℕ) (records : List Record) → HoldsCapture files before writer name records → PutsPrefix files after.files name (capture_bytes records)
  pub free : (files : Option Files) (name : List ℕ) (records : List Record) → HoldsCapture files before writer name records → after.slots writer.slot ≡ None
  pub beside : (files : Option Files) (name : List ℕ) (records : List Record) → HoldsCapture files before writer name records → KeepsBeside files before.slots after.slots writer.slot name
  pub reading : after.reading_faults ≡ before.reading_faults
  pub counted : IsCounted before.writing_faults after.writing_faults result
  pub asked : AsksNothing before after

-- The capture was finished: its file was closed. If nothing failed, the file contains the whole capture.
pub record FinishesCapture (before after : ShelfState) (writer : Writing) (result : Result Unit Failed) : Type 0 where
  pub put : OnOk result ((files : Option Files) (name : List ℕ) (records : List Record) → HoldsCapture files before writer name records → PutsFile files after.files name (capture_bytes records))
  pub closes : ClosesCapture before after writer result
