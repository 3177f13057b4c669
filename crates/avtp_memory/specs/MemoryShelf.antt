-- What contracts see of a shelf in memory.
use Rattle.std.specs.Prelude.{◌≡◌, ◌↔◌, ◌^◌, ◌-◌, ℕ, List, [], None, Contains, Result, IfOk, IfSome, IsErr, IsErrOf, Some, length, min}
use Rattle.avtp_base.specs.Faults.{ReadingFaults}
use Rattle.avtp_base.specs.declared.failed.Failed.{Failed}
use Rattle.avtp_base.specs.declared.failed.FaultPlace.TheVariants as fault_place
use Rattle.avtp_base.specs.declared.failed.OpenFault.{OpenFault}
use Rattle.avtp_base.specs.declared.failed.OpenFault.TheVariants as open_fault
use Rattle.avtp_files.specs.declared.shelf.Slot.{Slot}
use Rattle.avtp_memory.specs.declared.memory_shelf.MemoryShelf.{MemoryShelf}
use Rattle.avtp_memory.specs.Calls.{next_number}
use Rattle.avtp_memory.specs.Asked.{StandsForNames}
use Rattle.avtp_base.specs.Files.{Files, Slots, left_in}
use Rattle.avtp_memory.specs.MemoryFiles.{files_in, slots_in}

-- the bytes of each file, by name
abbrev pub files_of : MemoryShelf → Files
files_of shelf = files_in shelf.held

-- the open files by slot
abbrev pub slots_of : MemoryShelf → Slots
slots_of shelf = slots_in shelf.held

-- The shelf can have been asked for exactly the given names, in this order. The given names begin with the kept names.
-- If all names were kept, the given names are the kept names.
abbrev pub asked_of : MemoryShelf → List (List ℕ) → Type 0
asked_of shelf = StandsForNames shelf.asked

-- the number of calls counted so far; it stops at the greatest 64-bit number
abbrev pub calls : MemoryShelf → ℕ
calls shelf = shelf.calls.count

-- the numbers of the calls that fail, counted from 1
abbrev pub failing_calls : MemoryShelf → List ℕ
failing_calls shelf = shelf.calls.fails.items

-- the greatest number of bytes that a call moves
abbrev pub most : MemoryShelf → ℕ
most shelf = shelf.most

-- the reading faults so far; once a reading fault was counted, the place of the last one is shown
abbrev pub reading_of : MemoryShelf → ReadingFaults
reading_of shelf = record { count = shelf.reading_faults; last = shelf.last_fault }

-- the count of writing faults so far
abbrev pub writing_count : MemoryShelf → ℕ
writing_count shelf = shelf.writing_faults

-- the number of the next call is one of `failing_calls`
abbrev pub IsToFail : MemoryShelf → Type 0
IsToFail shelf = Contains (failing_calls shelf) (next_number (calls shelf))

-- One more call was counted. The failing calls, and the greatest number of bytes that a call moves, are unchanged.
pub record CountsCall (old new : MemoryShelf) : Type 0 where
  pub next : calls new ≡ next_number (calls old)
  pub fails : failing_calls new ≡ failing_calls old
  pub most : most new ≡ most old

-- ---- the effects of a call beyond its effects on every shelf

-- A call to open a file. The call returned `Failed` if and only if its number is one of `failing_calls`. If it returned
-- `Failed`, the place of the fault is shown. The call was counted.
pub record OpensByNumber (old new : MemoryShelf) (result : Result Slot OpenFault) : Type 0 where
  pub failed : IsErrOf result open_fault.Failed ↔ IsToFail old
  pub place : IsErrOf result open_fault.Failed → (reading_of new).last ≡ Some fault_place.Opening
  pub call : CountsCall old new

-- A call to make a file. The call returned `Failed` if and only if its number is one of `failing_calls`. The call was
-- counted.
pub record MakesByNumber (old new : MemoryShelf) (result : Result Slot OpenFault) : Type 0 where
  pub failed : IsErrOf result open_fault.Failed ↔ IsToFail old
  pub call : CountsCall old new

-- A read of slot k into a buffer of `room` bytes. The read failed if and only if its number is one of `failing_calls`.
-- If the read did not fail, the number of moved bytes is the least of three numbers: the number of bytes that remained
-- to be read, `room`, and the greatest number of bytes that a call moves. If the read failed, the place of the fault is
-- shown. The call was counted.
pub record ReadsByNumber (old new : MemoryShelf) (k room : ℕ) (result : Result ℕ Failed) : Type 0 where
  pub whole : IfOk result (λ n. IfSome (left_in (slots_of old) k) (λ left. n ≡ min (length left) (min room (most old))))
  pub failed : IsErr result ↔ IsToFail old
  pub place : IsErr result → IfSome (left_in (slots_of old) k) (λ left. (reading_of new).last ≡ Some (fault_place.Reading (length left)))
  pub call : CountsCall old new

-- A write of `piece`. If the number of the write is one of `failing_calls`, the write failed. If the result is `Ok`,
-- the number of bytes taken is the lesser of two: the length of the piece, and the greatest number of bytes that a call
-- moves. The call was counted.
pub record WritesByNumber (old new : MemoryShelf) (piece : List ℕ) (result : Result ℕ Failed) : Type 0 where
  pub whole : IfOk result (λ n. n ≡ min (length piece) (most old))
  pub failed : IsToFail old → IsErr result
  pub call : CountsCall old new

-- No call was counted. The greatest number of bytes that a call moves is unchanged.
pub record KeepsNumber (old new : MemoryShelf) : Type 0 where
  pub calls : calls new ≡ calls old
  pub most : most new ≡ most old

-- ---- shelves that are made

-- A new shelf of these files: no file is open, no name was asked for, and no call or fault was counted. The calls whose
-- numbers are in `failing` fail. No number limits how many bytes a call moves.
pub record IsNew (shelf : MemoryShelf) (named : Files) (failing : List ℕ) : Type 0 where
  pub files : files_of shelf ≡ named
  pub closed : (k : ℕ) → slots_of shelf k ≡ None
  pub asked : asked_of shelf []
  pub fails : failing_calls shelf ≡ failing
  pub calls : calls shelf ≡ 0
  pub most : most shelf ≡ 2 ^ 64 - 1
  pub reading : reading_of shelf ≡ record { count = 0; last = None }
  pub writing : writing_count shelf ≡ 0

-- A call of the new shelf moves at most n bytes. Everything else is as in the old shelf.
pub record SetsMost (old new : MemoryShelf) (n : ℕ) : Type 0 where
  pub files : files_of new ≡ files_of old
  pub slots : (k : ℕ) → slots_of new k ≡ slots_of old k
  pub asked : new.asked ≡ old.asked
  pub fails : failing_calls new ≡ failing_calls old
  pub calls : calls new ≡ calls old
  pub most : most new ≡ n
  pub reading : reading_of new ≡ reading_of old
  pub writing : writing_count new ≡ writing_count old
