-- Only private functions and proofs use these definitions. What the state of a reader of captures in
-- either layout means.
use Rattle.std.specs.Prelude.{◌≡◌, ℕ, ◌+◌, ◌<◌, ◌≤◌, ◌^◌, List, [], ◌++◌, length, take, Result, IfOk, IfErr, OnOk, Option, None, Some, option_to_list}
use Rattle.avtp_base.specs.declared.refusal.Refusal.{Refusal}
use Rattle.pcap_frames.specs.Capture.{Record}
use Rattle.pcap_frames.specs.Readers as readers
use Rattle.pcap_frames.specs.Readers.{Progress, IsRefusedAfter}
use Rattle.pcap_frames.specs.Reading as classic
use Rattle.pcapng_frames.specs.Reading as ng
use Rattle.capture_io.specs.declared.capture_reader.Format.{Format}
use Rattle.capture_io.specs.declared.capture_reader.Format.TheVariants.{Classic, Pcapng}
use Rattle.capture_io.specs.Formats.{meaning, meaning_of, records_in, refusal_in}
use Rattle.capture_io.specs.Reader.{CaptureReading, progress_by, refusal_of, held, HasRead}

abbrev pub nothing_read : CaptureReading
nothing_read = record { format = None; front = []; classic = classic.nothing_read; ng = ng.nothing_read }

-- how many bytes were taken
abbrev pub taken_by : Option Format → CaptureReading → ℕ
taken_by None r = length r.front
taken_by (Some format) r = (progress_by format r.classic r.ng).taken

abbrev pub taken : CaptureReading → ℕ
taken r = taken_by r.format r

-- the state of the reader, as contracts see it
abbrev pub progress : CaptureReading → Progress
progress r = record { has_read = HasRead r; held = held r; taken = taken r; refusal = refusal_of r }

-- Before the layout is known, fewer than four bytes are held back, and the readers of both layouts have taken nothing.
-- Once the layout is known, the reader of the other layout has taken nothing.
abbrev pub IsFront : Option Format → List ℕ → classic.Reading → ng.Reading → Type 0
IsFront None front c n = (length front < 4) × (c ≡ classic.nothing_read) × (n ≡ ng.nothing_read)
IsFront (Some Classic) front c n = n ≡ ng.nothing_read
IsFront (Some Pcapng) front c n = c ≡ classic.nothing_read

-- the reader of the other layout is unchanged
abbrev pub KeepsOther : Format → classic.Reading → classic.Reading → ng.Reading → ng.Reading → Type 0
KeepsOther Classic c c' n n' = n' ≡ n
KeepsOther Pcapng c c' n n' = c' ≡ c

-- the reader took the bytes `more` next, and released no record
abbrev pub GoesOn : CaptureReading → List ℕ → CaptureReading → Type 0
GoesOn old more new = readers.GoesOn (progress old) more (progress new)

-- the bytes show this refusal, after these records, whatever bytes follow
abbrev pub RefusedAfter : List ℕ → List Record → Refusal → Type 0
RefusedAfter bytes records refusal = IsRefusedAfter meaning bytes records refusal

-- What feeding a piece does. If the result is `Ok(n)`, the reader took n bytes from the front of the piece: at least
-- one, unless the piece is empty or a record is held. At `Err` the bytes so far, including the whole piece, are
-- refused.
pub record Feeds (old : CaptureReading) (piece : List ℕ) (result : Result ℕ Refusal) (new : CaptureReading) : Type 0 where
  pub within : IfOk result (λ n. n ≤ length piece)
  pub some : IfOk result (λ n. 0 < length piece → held old ≡ None → 0 < n)
  pub counted : IfOk result (λ n. taken new ≡ taken old + n)
  pub bounded : taken new ≤ taken old + length piece
  pub read : IfOk result (λ n. GoesOn old (take n piece) new)
  pub accepted : OnOk result (refusal_of new ≡ None)
  pub refused : IfErr result (λ refusal. (bytes more : List ℕ) (records : List Record) → HasRead old bytes records → RefusedAfter ((bytes ++ piece) ++ more) records refusal)

-- the held record was released
abbrev pub Releases : CaptureReading → CaptureReading → Type 0
Releases old new = readers.Releases (progress old) (progress new)

-- If the capture ends after these bytes, its records are `records` and then the held record, if any. The first refusal
-- of the capture is `refusal`.
pub record EndsHere (r : CaptureReading) (bytes : List ℕ) (records : List Record) (refusal : Option Refusal) : Type 0 where
  pub all : records_in bytes ≡ records ++ option_to_list (held r)
  pub first : refusal ≡ refusal_in bytes

-- ---- a record that is lent

-- The state of the reader after it has taken these bytes, which are the next record. The reader now holds the record
-- that it took.
abbrev pub with_by : Option Format → CaptureReading → List ℕ → CaptureReading
with_by None r bytes = r
with_by (Some Classic) r bytes = record r { classic = classic.with_part r.classic bytes }
with_by (Some Pcapng) r bytes = record r { ng = ng.with_block r.ng bytes }

abbrev pub with_record : CaptureReading → List ℕ → CaptureReading
with_record r bytes = with_by r.format r bytes

-- In a classic capture, these bytes are the next record. In a pcapng capture, the bytes are the block of the next
-- packet. None of the bytes was taken yet.
abbrev pub IsNextBy : Option Format → CaptureReading → List ℕ → Type 0
IsNextBy None r bytes = ⊥
IsNextBy (Some Classic) r bytes = classic.IsNext r.classic bytes
IsNextBy (Some Pcapng) r bytes = ng.IsNext r.ng bytes

abbrev pub IsNext : CaptureReading → List ℕ → Type 0
IsNext r bytes = IsNextBy r.format r bytes

-- `bytes` are the next record, and the reader can take them.
pub record CanPass (r : CaptureReading) (bytes : List ℕ) : Type 0 where
  pub next : IsNext r bytes
  pub bounded : taken r + length bytes ≤ 2 ^ 62

-- What feeding does to the reader of a layout that is known. The reader of the other layout is unchanged.
pub record FeedsFormat (format : Format) (c c' : classic.Reading) (n n' : ng.Reading) (piece : List ℕ) (result : Result ℕ Refusal) : Type 0 where
  pub fed : readers.Feeds (meaning_of format) (progress_by format c n) piece result (progress_by format c' n')
  pub other : KeepsOther format c c' n n'
