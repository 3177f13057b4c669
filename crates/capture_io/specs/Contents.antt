-- A file that is read whole.
use Rattle.std.specs.Prelude.{◌≡◌, ◌++◌, ◌∷◌, ◌<◌, ◌≤◌, ℕ, List, [], length, take, Some, Result, IfOk, IsErrOf}
use Rattle.avtp_base.specs.Faults.{FailsAt, ReadingFaults}
use Rattle.avtp_base.specs.declared.failed.FaultPlace.{FaultPlace}
use Rattle.avtp_base.specs.declared.failed.FaultPlace.TheVariants as fault_place
use Rattle.avtp_base.specs.declared.failed.OpenFault.{OpenFault}
use Rattle.avtp_base.specs.declared.failed.OpenFault.TheVariants as open_fault
use Rattle.avtp_base.specs.Files.{Files, IsMissing}
use Rattle.avtp_base.specs.States.{ShelfState}
use Rattle.capture_io.specs.declared.contents.Contents.{Contents}
use Rattle.capture_io.specs.declared.end.Stop.{Stop}
use Rattle.capture_io.specs.declared.end.Stop.TheVariants as stop
use Rattle.capture_io.specs.Ends.{CountsStop}
use Rattle.capture_io.specs.Reads.{OnlyReads}

-- Which prefix of a file with these bytes was read. If the reading stopped at the end of the file, the prefix is the
-- whole file. If the reading stopped at a fault, the prefix is within the limit, and `fault` holds of the fault's place,
-- which is right after the prefix. If the reading stopped at the limit, the prefix is the first `limit` bytes of a longer
-- file.
abbrev pub IsContents : ℕ → List ℕ → (FaultPlace → Type 0) → Stop → List ℕ → Type 0
IsContents limit bytes fault stop.End prefix = (bytes ≡ prefix) × (length prefix ≤ limit)
IsContents limit bytes fault stop.Fault prefix =
    (rest : List ℕ) × (bytes ≡ prefix ++ rest) × fault (fault_place.Reading (length rest)) × (length prefix ≤ limit)
IsContents limit bytes fault stop.Limit prefix = (limit < length bytes) × (prefix ≡ take limit bytes)

-- What happened to the reading faults when a file was read whole. If opening or reading the file failed, one more fault
-- was counted; otherwise the faults are unchanged.
pub record IsWholeCounted (before after : ReadingFaults) (result : Result Contents OpenFault) : Type 0 where
  pub never_falls : before.count ≤ after.count
  pub stopped : IfOk result (λ contents. CountsStop (Some contents.stop) before after)
  pub missing : IsErrOf result open_fault.Missing → after ≡ before
  pub memory : IsErrOf result open_fault.Memory → after ≡ before
  pub failed : IsErrOf result open_fault.Failed → FailsAt before after fault_place.Opening

-- With `Ok` the file `name` was opened, read and closed again. The reading went to the end of the file, to a fault or
-- to the limit. With `Err` the file could not be opened, or memory ran out. In either case the call only reads, and
-- asks for exactly this name.
pub record ReadsContents (before after : ShelfState) (limit : ℕ) (name : List ℕ) (result : Result Contents OpenFault) : Type 0 where
  -- if the shelf shows its files, the bytes that were read are the prefix of the file that `IsContents` describes
  pub read : IfOk result (λ contents. (files : Files) → before.files ≡ Some files → (bytes : List ℕ) × (files name ≡ Some bytes) × IsContents limit bytes (FailsAt before.reading_faults after.reading_faults) contents.stop contents.bytes.items)
  pub bounded : IfOk result (λ contents. length contents.bytes.items ≤ limit)
  -- the shelf shows its files, and none of them has the name
  pub missing : IsErrOf result open_fault.Missing → IsMissing before.files name
  pub counted : IsWholeCounted before.reading_faults after.reading_faults result
  pub keeps : OnlyReads before after (name ∷ [])
