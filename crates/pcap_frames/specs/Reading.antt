-- What the state of a reader means: which bytes it has taken, and which records it has released.
use Rattle.std.specs.Prelude.{◌≡◌, ℕ, ◌+◌, ◌<◌, ◌≤◌, Bool, false, cond, ◌⊎◌, List, [], ◌++◌, length, IsSome, Option, Some, None, is_none, is_some, option_to_list, Result}
use Rattle.std.specs.Result.{result_err}
use Rattle.avtp_base.specs.declared.refusal.Refusal.{Refusal}
use Rattle.pcap_frames.specs.declared.style.Order.{Order}
use Rattle.pcap_frames.specs.declared.style.Style.{Style}
use Rattle.pcap_frames.specs.Layout.{number_at, certain, file_refusal, record_refusal}
use Rattle.pcap_frames.specs.Capture.{Record, Holds, IsCapture, IsRefused, record_of, style_of, whole_records, first_refusal}
use Rattle.pcap_frames.specs.Readers as readers
use Rattle.pcap_frames.specs.Readers.{Ends, Meaning, Progress, Releases}
pub use Rattle.pcap_frames.specs.Readers.{shown}

-- The state of a reader. `style` is the capture's style, or `None` until the file header is accepted. `start` is the
-- offset of the file header or record that is being read, and `part` are the bytes taken of that header or record.
-- `refusal` is the refusal that the reader has returned, if any.
pub record Reading : Type 0 where
  pub style : Option Style
  pub start : ℕ
  pub part : List ℕ
  pub refusal : Option Refusal

-- a reader that has taken nothing
abbrev pub nothing_read : Reading
nothing_read = record { style = None; start = 0; part = []; refusal = None }

-- how many bytes the reader has taken
abbrev pub taken : Reading → ℕ
taken r = r.start + length r.part

-- if the bytes are a whole record and nothing in it is refused, the record that the bytes spell
abbrev pub whole_record : Style → ℕ → List ℕ → Option Record
whole_record style start bytes = cond (is_none (record_refusal style.order start bytes)) (Some (record_of style bytes)) None

-- the record that a reader in this state holds: `part`, if that is a whole record and nothing is refused
abbrev pub held_by : Option Refusal → Option Style → ℕ → List ℕ → Option Record
held_by (Some refusal) style start part = None
held_by None None start part = None
held_by None (Some style) start part = whole_record style start part

-- the record that the reader holds
abbrev pub held : Reading → Option Record
held r = held_by r.refusal r.style r.start r.part

-- `part` are the bytes of a record that were taken so far. `part` contains nothing that is refused, and does not extend
-- past the end of the record.
pub record IsPart (order : Order) (start : ℕ) (part : List ℕ) : Type 0 where
  pub accepted : certain (record_refusal order start part) ≡ None
  pub within : (length part ≤ 16) ⊎ (length part ≤ 16 + number_at order 8 4 part)

-- `part` are the bytes of a file header that were taken so far, from the start of the capture on. `part` is not the
-- whole header, and nothing in it is refused.
pub record IsHeaderPart (start : ℕ) (part : List ℕ) : Type 0 where
  pub begins : start ≡ 0
  pub accepted : certain (file_refusal part) ≡ None
  pub partial : length part < 24

-- The invariant of a reader. If the reader has a refusal, the refused field is complete. Without a refusal, there are
-- two cases: if there is no style, `part` belongs to the file header; if there is a style, `part` belongs to a record.
abbrev pub IsReading : Option Refusal → Option Style → ℕ → List ℕ → Type 0
IsReading (Some refusal) style start part = refusal.short ≡ false
IsReading None None start part = IsHeaderPart start part
IsReading None (Some style) start part = IsPart style.order start part

-- The bytes are a capture of these records, followed by `part`, which begins at offset `start`.
pub record Follows (style : Style) (start : ℕ) (part bytes : List ℕ) (records : List Record) : Type 0 where
  pub front : List ℕ
  pub whole : bytes ≡ front ++ part
  pub capture : IsCapture style records front
  pub begins : length front ≡ start

-- Which bytes a reader in this state has taken, and which records it has released. A refusal of the reader is the first
-- refusal of the bytes. Without a refusal and without a style, the bytes are `part`. Without a refusal but with a
-- style, the bytes are a capture of the released records, followed by `part`.
abbrev pub StandsFor : Option Refusal → Option Style → ℕ → List ℕ → List ℕ → List Record → Type 0
StandsFor (Some refusal) style start part bytes records = IsRefused bytes records refusal
StandsFor None None start part bytes records = (records ≡ []) × (bytes ≡ part)
StandsFor None (Some style) start part bytes records = Follows style start part bytes records

-- The reader has taken these bytes and released these records, in order.
pub record HasRead (r : Reading) (bytes : List ℕ) (records : List Record) : Type 0 where
  pub style : r.style ≡ style_of bytes
  pub stands : StandsFor r.refusal r.style r.start r.part bytes records
  pub reading : IsReading r.refusal r.style r.start r.part

-- what the bytes of a classic pcap capture mean
abbrev pub meaning : Meaning
meaning = record { records = whole_records; refusal = first_refusal; certain = λ bytes. certain (first_refusal bytes) }

-- the state of the reader, as contracts see it
abbrev pub progress : Reading → Progress
progress r = record { has_read = HasRead r; held = held r; taken = taken r; refusal = r.refusal }

-- the reader took the bytes `more` next, and released no record
abbrev pub GoesOn : Reading → List ℕ → Reading → Type 0
GoesOn old more new = readers.GoesOn (progress old) more (progress new)

-- ---- a record that is borrowed

-- the reader after its `part` was replaced by these bytes
abbrev pub with_part : Reading → List ℕ → Reading
with_part r bytes = record r { part = bytes }

-- `bytes` is the next whole record, and none of its bytes was taken yet. After the reader has taken the bytes, it holds
-- the record.
pub record IsNext (r : Reading) (bytes : List ℕ) : Type 0 where
  pub untaken : r.part ≡ []
  pub reading : IsReading r.refusal r.style r.start bytes
  pub whole : IsSome (held (with_part r bytes))

-- These bytes are a borrowed record, which the reader skipped. The reader has taken these bytes, has released their
-- record, and holds no record.
pub record Passes (old : Reading) (bytes : List ℕ) (new : Reading) : Type 0 where
  pub read : (before : List ℕ) (records : List Record) → HasRead old before records → HasRead new (before ++ bytes) (records ++ option_to_list (held (with_part old bytes)))
  pub counted : taken new ≡ taken old + length bytes
  pub free : held new ≡ None
  pub style : new.style ≡ old.style
  pub refusal : new.refusal ≡ old.refusal
  pub exact : new ≡ record old { start = old.start + length bytes }

-- What the call `release` does. The result says whether a record was held. A held record is released; without one, the
-- reader is unchanged.
pub record LetsGo (old : Reading) (result : Bool) (new : Reading) : Type 0 where
  pub answer : result ≡ is_some (held old)
  pub releases : Releases (progress old) (progress new)
  pub still : result ≡ false → new ≡ old
  pub style : new.style ≡ old.style

-- ---- the end of a capture

-- The result if the capture ends with the bytes taken so far: its first refusal, or `Ok` if there is none. The released
-- records and the held record are all records before it.
pub record Finishes (r : Reading) (result : Result Unit Refusal) : Type 0 where
  pub exact : (bytes : List ℕ) (records : List Record) → HasRead r bytes records → Holds bytes (records ++ option_to_list (held r)) (result_err result)
  pub ends : Ends meaning (progress r) result
