-- The records of a capture, one after the other.
use Rattle.std.specs.Prelude.{◌≡◌, ◌++◌, ◌+◌, ◌*◌, ◌<◌, ◌≤◌, ℕ, Bool, true, false, List, [], ◌∷◌, length, IfOk, IfSome, IsSome, Option, Some, None, Result, option_to_list}
use Rattle.avtp_base.specs.Faults.{FailsAt}
use Rattle.avtp_base.specs.declared.failed.FaultPlace.{FaultPlace}
use Rattle.avtp_base.specs.declared.failed.OpenFault.{OpenFault}
use Rattle.avtp_base.specs.Files.{Files, left_in}
use Rattle.avtp_base.specs.States.{ShelfState}
use Rattle.pcap_frames.specs.Capture.{Record}
use Rattle.capture_io.specs.declared.end.End.{End}
use Rattle.capture_io.specs.Ends.{CountsFault, EndsAt}
use Rattle.capture_io.specs.Formats.{records_in}
use Rattle.capture_io.specs.Pieces.{Piecing, HasTaken}
use Rattle.capture_io.specs.Reader.{CaptureReading, HasRead, held, refusal_of}
use Rattle.capture_io.specs.Reads.{ReadsSlot, TriesOpen}

-- A source of records: the pieces of its file, the reader that takes the pieces, and the end of the reading once the
-- reading has ended.
pub record Sourcing : Type 0 where
  pub pieces : Piecing
  pub reader : CaptureReading
  pub ended : Option End

-- the slot of a source's file
abbrev pub slot_of : Sourcing → ℕ
slot_of source = source.pieces.slot

-- the bytes of a source's file that are still to be read, if the shelf shows these bytes
abbrev pub remains_of : ShelfState → Sourcing → Option (List ℕ)
remains_of shelf source = left_in shelf.slots (slot_of source)

-- the record that a source holds
abbrev pub held_in : Sourcing → Option Record
held_in source = held source.reader

-- The reader has taken a prefix of a file with these bytes. At most `limit` bytes of the file may be read. The reader
-- has refused nothing, and has released the records `records`.
pub record HasFed (limit : ℕ) (bytes : List ℕ) (remains : Option (List ℕ)) (source : Sourcing) (records : List Record) : Type 0 where
  pub prefix : List ℕ
  pub taken : HasTaken limit bytes remains source.pieces prefix
  pub accepted : refusal_of source.reader ≡ None
  pub read : HasRead source.reader prefix records

-- The source has delivered these records from a file with these bytes. At most `limit` bytes of the file may be read.
-- `remains` is what is left to read. If the source holds a record, that record is the last of `records`. The reading
-- has not ended.
pub record HasGiven (limit : ℕ) (bytes : List ℕ) (remains : Option (List ℕ)) (source : Sourcing) (records : List Record) : Type 0 where
  pub going : source.ended ≡ None
  pub before : List Record
  pub fed : HasFed limit bytes remains source before
  pub given : records ≡ before ++ option_to_list (held_in source)

-- The source has delivered these records from a file with these bytes. At most `limit` bytes of the file may be read.
-- For the source's slot, the shelf shows the bytes that are still to be read. The reading has not ended.
abbrev pub HasGivenOf : ℕ → List ℕ → ShelfState → Sourcing → List Record → Type 0
HasGivenOf limit bytes shelf source records = HasGiven limit bytes (remains_of shelf source) source records

-- The reading of a file with these bytes ends at `how`, and these are the records before that end.
pub record EndsAfter (limit : ℕ) (bytes : List ℕ) (fault : FaultPlace → Type 0) (how : End) (records : List Record) : Type 0 where
  pub prefix : List ℕ
  pub ends : EndsAt limit (Some bytes) fault how prefix
  pub whole : records_in prefix ≡ records

-- a measure of the remaining work; the measure falls with each piece that is read and with each byte that is taken
abbrev pub to_do : Sourcing → ℕ
to_do source = 2 * source.pieces.left + length source.pieces.waiting

-- If the result is `Ok`, the capture `name` was opened, at most `limit` of its bytes may be read, and no record was
-- delivered yet. At `Err` the capture was not opened.
pub record OpensSource (before after : ShelfState) (limit : ℕ) (name : List ℕ) (result : Result Sourcing OpenFault) : Type 0 where
  -- if the shelf shows the file's bytes, no record in these bytes was delivered yet
  pub begun : IfOk result (λ source. (files : Files) → before.files ≡ Some files → (bytes : List ℕ) × (files name ≡ Some bytes) × HasGivenOf limit bytes after source [])
  pub going : IfOk result (λ source. (source.ended ≡ None) × (to_do source ≤ 2 * limit))
  pub tries : TriesOpen slot_of before after name result

-- If the result is `None`, the next record was read and is held now. If `result` is not `None`, the reading ended after
-- the delivered records, and `result` is how it ended. If a fault ended the reading, one more reading fault was counted.
-- If the reading had ended before the call, the call returns the same end again.
pub record GivesNext (before after : ShelfState) (old new : Sourcing) (result : Option End) : Type 0 where
  pub given : result ≡ None → (limit : ℕ) (bytes : List ℕ) (records : List Record) → HasGivenOf limit bytes before old records
      → (next : Record) × (held_in new ≡ Some next) × HasGivenOf limit bytes after new (records ++ next ∷ [])
  pub ends : IfSome result (λ how. (limit : ℕ) (bytes : List ℕ) (records : List Record) → HasGivenOf limit bytes before old records → EndsAfter limit bytes (FailsAt before.reading_faults after.reading_faults) how records)
  pub held : result ≡ None → IsSome (held_in new)
  pub less : result ≡ None → to_do new < to_do old
  pub ended : new.ended ≡ result
  pub lasting : IfSome old.ended (λ how. result ≡ Some how)
  pub counted : CountsFault old.ended result before.reading_faults after.reading_faults
  pub reads : ReadsSlot before after (slot_of old) (slot_of new)

-- The held record was released. If the next record is complete in the bytes that were read, that record is held now,
-- and nothing more was read. If `at_hand` is false, calling `next` after this call has the same effect as calling
-- `next` in place of this call.
pub record Advances (old new : Sourcing) (at_hand : Bool) : Type 0 where
  pub given : at_hand ≡ true → (shelf : ShelfState) → IsSome (shelf.slots (slot_of old)) → GivesNext shelf shelf old new None
  pub further : at_hand ≡ false → (before after : ShelfState) (next : Sourcing) (result : Option End) → GivesNext before after new next result → GivesNext before after old next result
  pub slot : slot_of new ≡ slot_of old
