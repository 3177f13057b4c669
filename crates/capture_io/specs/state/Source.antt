-- Only private functions and proofs use these definitions. The records of a capture, one after the
-- other.
use Rattle.std.specs.Prelude.{◌≡◌, ◌<◌, ◌≤◌, ⊤, ℕ, List, length, take, drop, IfSome, IsSome, Option, Some, None}
use Rattle.avtp_base.specs.Faults.{FailsAt}
use Rattle.avtp_base.specs.Files.{Slots}
use Rattle.avtp_base.specs.States.{ShelfState}
use Rattle.pcap_frames.specs.Capture.{Record}
use Rattle.capture_io.specs.declared.end.End.{End}
use Rattle.capture_io.specs.Ends.{CountsFault}
use Rattle.capture_io.specs.state.Reader.{IsNext, Releases, with_record}
use Rattle.capture_io.specs.Reads.{ReadsSlot}
use Rattle.capture_io.specs.Source.{Sourcing, slot_of, remains_of, held_in, HasFed, EndsAfter, to_do}

-- the reader has taken a prefix of a file that is open on the shelf, and has released these records
abbrev pub HasFedOf : ℕ → List ℕ → ShelfState → Sourcing → List Record → Type 0
HasFedOf limit bytes shelf source records = HasFed limit bytes (remains_of shelf source) source records

-- The state after a call that read a piece or took buffered bytes. If the reading continues, no further record was
-- released, and less work is left. If the reading ended, it ended after the released records, and `result` is how it
-- ended. If a fault ended the reading, one more reading fault was counted; otherwise the faults are unchanged.
pub record ReadsOn (before after : ShelfState) (old new : Sourcing) (result : Option End) : Type 0 where
  pub more : result ≡ None → (limit : ℕ) (bytes : List ℕ) (records : List Record) → HasFedOf limit bytes before old records → HasFedOf limit bytes after new records
  pub ends : IfSome result (λ how. (limit : ℕ) (bytes : List ℕ) (records : List Record) → HasFedOf limit bytes before old records → EndsAfter limit bytes (FailsAt before.reading_faults after.reading_faults) how records)
  pub less : result ≡ None → to_do new < to_do old
  pub counted : CountsFault None result before.reading_faults after.reading_faults
  pub reads : ReadsSlot before after (slot_of old) (slot_of new)

-- The source read on until it held a record, or the reading ended.
pub record ReadsRecord (before after : ShelfState) (old new : Sourcing) (result : Option End) : Type 0 where
  pub on : ReadsOn before after old new result
  pub held : result ≡ None → IsSome (held_in new)

-- the file is open, and no record is held
abbrev pub IsReady : Slots → Sourcing → Type 0
IsReady slots source = IsSome (slots (slot_of source)) × (held_in source ≡ None)

-- ---- a record that is lent

-- the source after its reader took the first `size` buffered bytes
abbrev pub holding : Sourcing → ℕ → Sourcing
holding source size = record source { pieces = record source.pieces { waiting = drop size source.pieces.waiting }; reader = with_record source.reader (take size source.pieces.waiting) }

-- The reading has not ended, and the first `size` buffered bytes are the next record.
pub record LiesAhead (source : Sourcing) (size : ℕ) : Type 0 where
  pub going : source.ended ≡ None
  pub within : size ≤ length source.pieces.waiting
  pub next : IsNext source.reader (take size source.pieces.waiting)

-- The result is the size of the next record if the buffered bytes begin with that whole record, and `None` otherwise.
pub record FindsAhead (source : Sourcing) (result : Option ℕ) : Type 0 where
  pub ahead : IfSome result (λ size. LiesAhead source size)
  pub none : result ≡ None → (size : ℕ) → LiesAhead source size → ⊥

-- The source, as contracts see it while the record in the first `size` buffered bytes is lent. If the argument is
-- `None`, the source lends no record.
abbrev pub lending : Option ℕ → Sourcing → Sourcing
lending None source = source
lending (Some size) source = holding source size

abbrev pub IsLending : Option ℕ → Sourcing → Type 0
IsLending None source = ⊤
IsLending (Some size) source = LiesAhead source size

-- The held record was released, and nothing else was done.
pub record GivesUp (old new : Sourcing) : Type 0 where
  pub pieces : new.pieces ≡ old.pieces
  pub reader : Releases old.reader new.reader
  pub ended : new.ended ≡ old.ended
