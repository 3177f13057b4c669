-- Only private functions and proofs use these definitions. What a reader of a classic capture holds,
-- and what is added to it.
use Rattle.std.specs.Prelude.{◌≡◌, ℕ, ◌+◌, ◌<◌, ◌≤◌, ◌^◌, false, List, [], ◌∷◌, ◌++◌, length, take, Result, IfOk, IfErr, OnOk, IfSome, IsSome, Option, Some, None}
use Rattle.avtp_base.specs.declared.refusal.Refusal.{Refusal}
use Rattle.pcap_frames.specs.declared.style.Order.{Order}
use Rattle.pcap_frames.specs.declared.style.Style.{Style}
use Rattle.pcap_frames.specs.Layout.{file_refusal, number_at, record_refusal}
use Rattle.pcap_frames.specs.Reading.{HasRead, Reading, IsPart, IsReading, held, progress}
use Rattle.pcap_frames.specs.Reading as reading
use Rattle.pcap_frames.specs.Capture.{Record}
use Rattle.pcap_frames.specs.state.Readers.{Steps}

-- The invariant of a reader whose buffer can hold `capacity` bytes of a record.
pub record IsReader (r : Reading) (capacity : ℕ) : Type 0 where
  pub room : 262160 ≤ capacity
  pub bounded : reading.taken r ≤ 2 ^ 62
  pub reading : IsReading r.refusal r.style r.start r.part

-- A reader of this style can take the bytes of a piece; before the end of the file header the style is `None`.
pub record IsBefore (style : Option Style) (r : Reading) (piece : List ℕ) : Type 0 where
  pub accepted : r.refusal ≡ None
  pub styled : r.style ≡ style
  pub bounded : reading.taken r + length piece ≤ 2 ^ 62

-- The size of the record that the bytes begin with, or `None` if they begin with no whole record.
pub record IsRecordSize (order : Order) (bytes : List ℕ) (found : Option ℕ) : Type 0 where
  pub size : IfSome found (λ n. n ≡ 16 + number_at order 8 4 bytes)
  pub limit : IfSome found (λ n. n ≤ 262160)
  pub whole : IfSome found (λ n. n ≤ length bytes)
  pub none : found ≡ None → (start : ℕ) → IsSome (record_refusal order start bytes)

-- Bytes of a piece can be added to the part of a record, and the memory has room for a whole record.
pub record CanFill (order : Order) (start : ℕ) (old piece : List ℕ) (capacity : ℕ) : Type 0 where
  pub part : IsPart order start old
  pub room : 262160 ≤ capacity
  pub bounded : start + length old + length piece ≤ 2 ^ 62

-- At `Ok`, bytes of a piece were taken of the file header: some if there were any, and all of them while there is no
-- style. At `Err` the bytes showed a refusal.
pub record TakesHeader (old : Reading) (piece : List ℕ) (result : Result ℕ Refusal) (new : Reading) : Type 0 where
  pub some : IfOk result (λ n. 0 < length piece → 0 < n)
  pub end : IfOk result (λ n. n < length piece → IsSome new.style)
  pub steps : Steps (progress old) piece result (progress new)

-- If the result is `Ok(n)`, the first n bytes of a piece were added to the part of a record, up to the end of the
-- record. At `Err` the bytes showed a refusal. The memory has room for a whole record.
pub record Fills (order : Order) (start : ℕ) (old piece : List ℕ) (result : Result ℕ Refusal) (new : List ℕ) (capacity : ℕ) : Type 0 where
  pub room : 262160 ≤ capacity
  pub within : IfOk result (λ n. n ≤ length piece)
  pub moved : IfOk result (λ n. new ≡ old ++ take n piece)
  pub part : OnOk result (IsPart order start new)
  pub whole : IfOk result (λ n. n < length piece → record_refusal order start new ≡ None)
  pub bounded : length new ≤ length old + length piece
  pub refused : IfErr result (λ refusal. (n : ℕ) × (record_refusal order start (old ++ take n piece) ≡ Some refusal) × (refusal.short ≡ false))

abbrev pub ending_by : Option Refusal → Option Style → ℕ → List ℕ → Option Refusal
ending_by (Some refusal) style start part = Some refusal
ending_by None None start part = file_refusal part
ending_by None (Some style) start [] = None
ending_by None (Some style) start (b ∷ part) = record_refusal style.order start (b ∷ part)

-- the first refusal, if the capture ends after the bytes taken so far
abbrev pub ending : Reading → Option Refusal
ending r = ending_by r.refusal r.style r.start r.part

-- At `Ok`, a reader took the whole piece, and each record that became whole was appended to the kept records `olds`,
-- which gives `news`.
pub record KeepsAll {E : Type 0} (old : Reading) (olds : List Record) (piece : List ℕ) (result : Result Unit E) (new : Reading) (news : List Record) : Type 0 where
  pub read : OnOk result ((bytes : List ℕ) → HasRead old bytes olds → HasRead new (bytes ++ piece) news)
  pub free : OnOk result (held new ≡ None)
  pub bounded : reading.taken new ≤ reading.taken old + length piece

-- At `Ok`, the record that a reader held, if any, was appended to the kept records `olds`, which gives `news`.
pub record KeepsHeld {E : Type 0} (old : Reading) (olds : List Record) (result : Result Unit E) (new : Reading) (news : List Record) : Type 0 where
  pub read : OnOk result ((bytes : List ℕ) → HasRead old bytes olds → HasRead new bytes news)
  pub free : OnOk result (held new ≡ None)
  pub taken : reading.taken new ≡ reading.taken old

-- A reader can take the bytes of a piece, and holds no record.
pub record CanKeep (r : Reading) (piece : List ℕ) : Type 0 where
  pub bounded : reading.taken r + length piece ≤ 2 ^ 62
  pub free : held r ≡ None
