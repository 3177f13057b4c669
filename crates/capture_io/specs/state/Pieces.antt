-- Only private functions and proofs use these definitions. A file that is read in pieces, up to a
-- limit.
use Rattle.std.specs.Prelude.{◌≡◌, ◌+◌, ◌<◌, ◌≤◌, ℕ, List, [], length, Option, Some, None, IfOk, IfSome, IsSome, Result}
use Rattle.avtp_base.specs.Faults.{FailsAt}
use Rattle.avtp_base.specs.declared.failed.NoMemory.{NoMemory}
use Rattle.avtp_base.specs.declared.failed.OpenFault.{OpenFault}
use Rattle.avtp_base.specs.Files.{Files, Slots, left_in}
use Rattle.avtp_base.specs.States.{ShelfState}
use Rattle.capture_io.specs.declared.contents.Contents.{Contents}
use Rattle.capture_io.specs.declared.end.Stop.{Stop}
use Rattle.capture_io.specs.Contents.{IsContents}
use Rattle.capture_io.specs.state.Contents.{stop_of}
use Rattle.capture_io.specs.Ends.{CountsStop}
use Rattle.capture_io.specs.Reads.{ReadsSlot, TriesOpen}
use Rattle.capture_io.specs.Pieces.{Piecing, HasTaken}

-- `prefix` was taken from the front of a file that is open on the shelf
abbrev pub HasTakenOf : ℕ → List ℕ → ShelfState → Piecing → List ℕ → Type 0
HasTakenOf limit bytes shelf pieces prefix = HasTaken limit bytes (left_in shelf.slots pieces.slot) pieces prefix

-- the file is open, and no byte is buffered
abbrev pub IsDrained : Slots → Piecing → Type 0
IsDrained slots pieces = IsSome (slots pieces.slot) × (pieces.waiting ≡ [])

-- At `Ok` the file `name` was opened, at most `limit` of its bytes may be read, and none was read yet. If the result is
-- `Err`, the file was not opened.
pub record OpensPieces (before after : ShelfState) (limit : ℕ) (name : List ℕ) (result : Result Piecing OpenFault) : Type 0 where
  pub begun : IfOk result (λ pieces. (files : Files) → before.files ≡ Some files → (bytes : List ℕ) × (files name ≡ Some bytes) × HasTakenOf limit bytes after pieces [])
  pub nothing : IfOk result (λ pieces. (pieces.waiting ≡ []) × (pieces.left ≡ limit))
  pub tries : TriesOpen (λ (pieces : Piecing). pieces.slot) before after name result

-- A read that began with an empty buffer. At `None` some bytes are buffered now, at most `old.left` of them. If the
-- result is `Some`, the reading stopped, and the bytes taken are all bytes that were read. If a fault stopped the
-- reading, one more reading fault was counted; otherwise the faults are unchanged.
pub record ReadsPiece (before after : ShelfState) (old new : Piecing) (result : Option Stop) : Type 0 where
  pub more : result ≡ None → (limit : ℕ) (bytes prefix : List ℕ) → HasTakenOf limit bytes before old prefix → HasTakenOf limit bytes after new prefix
  pub stopped : IfSome result (λ stop. (limit : ℕ) (bytes prefix : List ℕ) → HasTakenOf limit bytes before old prefix → IsContents limit bytes (FailsAt before.reading_faults after.reading_faults) stop prefix)
  pub bounded : length new.waiting + new.left ≤ old.left
  pub some : result ≡ None → 0 < length new.waiting
  pub none : IsSome result → new.waiting ≡ []
  pub counted : CountsStop result before.reading_faults after.reading_faults
  pub reads : ReadsSlot before after old.slot new.slot

-- No byte of the file had been taken before. All pieces were read and joined, up to the end of the file, a fault or the
-- limit.
pub record JoinsPieces (before after : ShelfState) (old new : Piecing) (result : Result Contents NoMemory) : Type 0 where
  pub read : IfOk result (λ contents. (limit : ℕ) (bytes : List ℕ) → HasTakenOf limit bytes before old [] → IsContents limit bytes (FailsAt before.reading_faults after.reading_faults) contents.stop contents.bytes.items)
  pub bounded : IfOk result (λ contents. length contents.bytes.items ≤ old.left)
  pub counted : CountsStop (stop_of result) before.reading_faults after.reading_faults
  pub reads : ReadsSlot before after old.slot new.slot
