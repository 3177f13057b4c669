-- Only private functions and proofs use these definitions. What the steps of feeding have in common,
-- whatever the layout of the capture.
use Rattle.std.specs.Prelude.{◌≡◌, ◌↔◌, ◌⊎◌, ℕ, ◌+◌, ◌<◌, ◌≤◌, ◌^◌, List, ◌++◌, length, take, Result, IfOk, IfErr, OnOk, OnErr, IsSome, Some, None}
use Rattle.avtp_base.specs.declared.refusal.Refusal.{Refusal}
use Rattle.pcap_frames.specs.Capture.{Record}
use Rattle.pcap_frames.specs.Readers.{Meaning, Progress, GoesOn, IsRefusedAfter}

-- A reader can take the bytes of a piece. Two things hold: the reader has no refusal, and the piece and the bytes that
-- were taken so far are together at most 2^62 bytes.
pub record Accepts (reader : Progress) (piece : List ℕ) : Type 0 where
  pub accepted : reader.refusal ≡ None
  pub bounded : reader.taken + length piece ≤ 2 ^ 62

-- What a step does with a piece. At `Ok(n)` the reader took n bytes from the front of the piece. At `Err` the reader
-- has a refusal, and has taken the whole piece.
pub record Steps (old : Progress) (piece : List ℕ) (result : Result ℕ Refusal) (new : Progress) : Type 0 where
  pub within : IfOk result (λ n. n ≤ length piece)
  pub counted : IfOk result (λ n. new.taken ≡ old.taken + n)
  pub bounded : new.taken ≤ old.taken + length piece
  pub read : IfOk result (λ n. GoesOn old (take n piece) new)
  pub accepted : OnOk result (new.refusal ≡ None)
  pub refused : IfErr result (λ refusal. new.refusal ≡ Some refusal)
  pub stopped : OnErr result (GoesOn old piece new)

-- The reader took steps up to the end of one record or of the piece. If a record was held, no step was taken.
pub record Advances (old : Progress) (piece : List ℕ) (result : Result ℕ Refusal) (new : Progress) : Type 0 where
  pub steps : Steps old piece result new
  pub nothing : IfOk result (λ n. (n ≡ 0) ↔ ((length piece ≡ 0) ⊎ IsSome old.held))
  pub end : IfOk result (λ n. n < length piece → IsSome new.held)

-- If a reader has no refusal, `certain` is `None` for the bytes taken. If a reader has a refusal, that refusal is the
-- first refusal of the capture, whatever bytes follow.
pub record IsSure (meaning : Meaning) (reader : Progress) : Type 0 where
  pub uncertain : reader.refusal ≡ None → (bytes : List ℕ) (records : List Record) → reader.has_read bytes records → meaning.certain bytes ≡ None
  pub refused : (why : Refusal) → reader.refusal ≡ Some why → (bytes more : List ℕ) (records : List Record) → reader.has_read bytes records
      → IsRefusedAfter meaning (bytes ++ more) records why
