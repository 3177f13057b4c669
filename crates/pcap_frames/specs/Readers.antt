-- What the readers of all capture layouts have in common: what the bytes mean, what the state of a reader is, and what
-- the calls of a reader do.
use Rattle.std.specs.Prelude.{◌≡◌, ◌↔◌, ◌⊎◌, ℕ, ◌+◌, ◌<◌, ◌≤◌, List, ◌++◌, length, take, Option, None, Some, IfSome, IsSome, Result, Err, IfOk, IfErr, OnOk, OnErr, option_map, option_to_list}
use Rattle.std.specs.Result.{result_err}
use Rattle.avtp_base.specs.declared.refusal.Refusal.{Refusal}
use Rattle.pcap_frames.specs.declared.style.RecordView.{RecordView}
use Rattle.pcap_frames.specs.Capture.{Record}
use Rattle.pcap_frames.specs.Layout.{IsRecordTime}

-- What the bytes of a capture mean in one layout. `records` are the whole records before the first refusal. `refusal`
-- is the first refusal if the capture ends with these bytes. `certain` is the value of `refusal`, if no later bytes can
-- change it.
pub record Meaning : Type 0 where
  pub records : List ℕ → List Record
  pub refusal : List ℕ → Option Refusal
  pub certain : List ℕ → Option Refusal

-- The state of a reader between two calls. `has_read` holds for the bytes that the reader has taken and the records
-- that the reader has released, in order. `held` is the record that the reader holds. `taken` is the number of bytes
-- that the reader has taken. `refusal` is the refusal that the reader keeps returning.
pub record Progress : Type 1 where
  pub has_read : List ℕ → List Record → Type 0
  pub held : Option Record
  pub taken : ℕ
  pub refusal : Option Refusal

-- the reader took the bytes `more` next, and released no record
abbrev pub GoesOn : Progress → List ℕ → Progress → Type 0
GoesOn old more new = (bytes : List ℕ) (records : List Record) → old.has_read bytes records → new.has_read (bytes ++ more) records

-- The bytes hold exactly these records, and then show this refusal, whatever bytes follow.
pub record IsRefusedAfter (meaning : Meaning) (bytes : List ℕ) (records : List Record) (refusal : Refusal) : Type 0 where
  pub all : meaning.records bytes ≡ records
  pub certain : meaning.certain bytes ≡ Some refusal

-- What feeding a piece does. The reader takes bytes from the front of the piece, up to the end of one record or of the
-- piece. The reader takes no byte if and only if the piece is empty or a record is held. As soon as the bytes so far
-- determine the capture's first refusal, the call returns this refusal instead of a number of bytes, and every later
-- call returns it again.
pub record Feeds (meaning : Meaning) (old : Progress) (piece : List ℕ) (result : Result ℕ Refusal) (new : Progress) : Type 0 where
  pub within : IfOk result (λ n. n ≤ length piece)
  pub nothing : IfOk result (λ n. (n ≡ 0) ↔ ((length piece ≡ 0) ⊎ IsSome old.held))
  pub end : IfOk result (λ n. n < length piece → IsSome new.held)
  pub read : IfOk result (λ n. GoesOn old (take n piece) new)
  pub uncertain : IfOk result (λ n. (bytes : List ℕ) (records : List Record) → old.has_read bytes records → meaning.certain (bytes ++ take n piece) ≡ None)
  pub refused : IfErr result (λ refusal. (bytes more : List ℕ) (records : List Record) → old.has_read bytes records → IsRefusedAfter meaning ((bytes ++ piece) ++ more) records refusal)
  pub lasting : IfSome old.refusal (λ refusal. result ≡ Err refusal)
  pub stays_refused : IfErr result (λ refusal. new.refusal ≡ Some refusal)
  pub stays_accepted : OnOk result (new.refusal ≡ None)
  pub stopped : OnErr result (GoesOn old piece new)
  pub taken : IfOk result (λ n. new.taken ≡ old.taken + n)
  pub bounded : new.taken ≤ old.taken + length piece

-- The held record, if any, is released. No record is held now.
pub record Releases (old new : Progress) : Type 0 where
  pub given_up : (bytes : List ℕ) (records : List Record) → old.has_read bytes records → new.has_read bytes (records ++ option_to_list old.held)
  pub free : new.held ≡ None
  pub counted : new.taken ≡ old.taken
  pub refusal : new.refusal ≡ old.refusal

-- The result if the capture ends with the bytes taken so far. The released records and the held record are all records
-- of the capture. The result is the capture's first refusal, or `Ok` if there is none.
pub record Ends (meaning : Meaning) (reader : Progress) (result : Result Unit Refusal) : Type 0 where
  pub records : (bytes : List ℕ) (records : List Record) → reader.has_read bytes records → records ++ option_to_list reader.held ≡ meaning.records bytes
  pub refusal : (bytes : List ℕ) (records : List Record) → reader.has_read bytes records → result_err result ≡ meaning.refusal bytes
  pub lasting : IfSome reader.refusal (λ refusal. result ≡ Err refusal)

-- the record that a view shows, without its location in memory
abbrev pub shown : RecordView → Record
shown view = record { arrival = view.arrival; orig_len = view.orig_len; bytes = view.bytes.now }

-- A view of the held record, if any. The time in the view is one that a record can have.
pub record Views (held : Option Record) (view : Option RecordView) : Type 0 where
  pub exact : option_map shown view ≡ held
  pub time : IfSome view (λ v. IsRecordTime v.arrival)

-- What looking for the next record in a piece finds. `is_next` says which bytes are the whole next record. If the piece
-- begins with such bytes, the result is their number; otherwise the result is `None`.
pub record FindsNext (is_next : List ℕ → Type 0) (piece : List ℕ) (result : Option ℕ) : Type 0 where
  pub within : IfSome result (λ size. size ≤ length piece)
  pub next : IfSome result (λ size. is_next (take size piece))
  pub none : result ≡ None → (size : ℕ) → is_next (take size piece) → ⊥

-- `view` shows the held record, and the record's arrival is within the range that a capture can record
pub record IsView (held : Option Record) (view : RecordView) : Type 0 where
  pub exact : held ≡ Some (shown view)
  pub time : IsRecordTime view.arrival
