-- A listener that is fed a capture's bytes, in pieces of any length.
use Rattle.std.specs.Prelude.{◌≡◌, ◌⊎◌, ◌↔◌, ◌+◌, ◌++◌, ◌≤◌, ℕ, Bool, false, true, List, [], length, slice_get, take, Option, None, Some, Result, Ok, Err, IfNone, IfOk, IsSome, OnErr, option_map}
use Rattle.std.specs.Option.{option_to_list}
use Rattle.std.specs.Result.{result_err}
use Rattle.avtp_base.specs.declared.refusal.Refusal.{Refusal}
use Rattle.pcap_frames.specs.Capture.{first_refusal, whole_records}
use Rattle.pcap_frames.specs.Layout.{certain}
use Rattle.pcap_frames.specs.Reading.{HasRead, Reading, taken}
use Rattle.sample_schedule.specs.declared.shown.Shown.{Shown}
use Rattle.listener.specs.declared.listener.ListenFault.{ListenFault}
use Rattle.listener.specs.declared.listener.ListenFault.TheVariants.{Refused, Memory}
use Rattle.listener.specs.declared.plan.ListenPlan.{ListenPlan}
use Rattle.listener.specs.Listening.{ListenState, StandsFor as RecordsStandFor, is_closed, out as out_of, work as listener_work}

-- A listener that is fed bytes. `reader` reads the records, and `listener` takes them. `next` is the item that is due
-- next. `out_of_memory` tells whether memory has run out.
pub record Feeding : Type 0 where
  pub reader : Reading
  pub listener : ListenState
  pub next : Option Shown
  pub out_of_memory : Bool

-- nothing is due
abbrev pub IsQuiet : Feeding → Type 0
IsQuiet fed = fed.next ≡ None

-- nothing is due, and memory has not run out, so the listener takes more bytes
pub record IsReady (fed : Feeding) : Type 0 where
  pub quiet : IsQuiet fed
  pub memory : fed.out_of_memory ≡ false

-- the capture has ended
abbrev pub is_ended : Feeding → Bool
is_ended fed = is_closed fed.listener

-- What is shown of the whole records in these bytes. While more bytes may follow, only items that are due are shown.
-- Once the capture has ended, all items are shown.
abbrev pub out : Feeding → List ℕ → List Shown
out fed bytes = out_of fed.listener (whole_records bytes)

-- The listener was fed `bytes`. The listener has returned the first `given` of the items that are shown of these bytes.
-- If memory ran out in a call of `feed`, `bytes` are the bytes before that call.
pub record StandsFor (bytes : List ℕ) (given : ℕ) (fed : Feeding) : Type 0 where
  pub read : fed.out_of_memory ≡ false → HasRead fed.reader bytes (whole_records bytes)
  pub stands : RecordsStandFor (whole_records bytes) (given + length (option_to_list fed.next)) fed.listener
  pub next : fed.next ≡ slice_get (out fed bytes) given

-- ---- what a piece adds

-- The bytes that a listener was fed after one more call of `feed`. The parameters are the bytes before the call, the
-- piece, and what `feed` returned.
abbrev pub bytes_after : List ℕ → List ℕ → Result ℕ ListenFault → List ℕ
bytes_after bytes piece (Ok n) = bytes ++ take n piece
bytes_after bytes piece (Err (Refused refusal)) = bytes ++ piece
bytes_after bytes piece (Err Memory) = bytes

-- `feed` returns that memory ran out
abbrev pub is_memory : Result ℕ ListenFault → Bool
is_memory (Ok n) = false
is_memory (Err (Refused refusal)) = false
is_memory (Err Memory) = true

-- at most this many items are still to be returned
abbrev pub work : Feeding → ℕ
work fed = listener_work fed.listener + length (option_to_list fed.next)

-- four things are unchanged: the records that were read, the plan, whether the capture has ended, and whether memory
-- has run out
pub record Keeps (old new : Feeding) : Type 0 where
  pub reader : new.reader ≡ old.reader
  pub plan : new.listener.plan ≡ old.listener.plan
  pub ended : is_ended new ≡ is_ended old
  pub memory : new.out_of_memory ≡ old.out_of_memory

-- ---- calls

-- A new listener of the plan `settings` was fed no bytes, and takes more bytes.
pub record Begins (settings : ListenPlan) (fed : Feeding) : Type 0 where
  pub stands : StandsFor [] 0 fed
  pub plan : fed.listener.plan ≡ settings
  pub «open» : is_ended fed ≡ false
  pub ready : IsReady fed
  pub none : taken fed.reader ≡ 0

-- What a call of `feed` does with a piece. `result` is what the call returns.
pub record Feeds (piece : List ℕ) (old new : Feeding) (result : Result ℕ ListenFault) : Type 0 where
  pub within : IfOk result (λ n. n ≤ length piece)
  -- no byte is taken if and only if the piece is empty or an item is due
  pub nothing : IfOk result (λ n. (n ≡ 0) ↔ ((length piece ≡ 0) ⊎ IsSome old.next))
  pub stands : (bytes : List ℕ) (given : ℕ) → StandsFor bytes given old → StandsFor (bytes_after bytes piece result) given new
  -- if the call succeeds, the bytes so far show no refusal
  pub uncertain : IsQuiet old
      → IfOk result (λ n. (bytes : List ℕ) (given : ℕ) → StandsFor bytes given old → certain (first_refusal (bytes ++ take n piece)) ≡ None)
  -- a refusal that is returned is the first refusal of the capture, whatever bytes follow
  pub refused : (refusal : Refusal) → result ≡ Err (Refused refusal)
      → (bytes more : List ℕ) (given : ℕ) → StandsFor bytes given old → first_refusal ((bytes ++ piece) ++ more) ≡ Some refusal
  pub memory : new.out_of_memory ≡ is_memory result
  -- once memory has run out, each call returns `Memory`
  pub lasting : old.out_of_memory ≡ true → result ≡ Err Memory
  pub stopped : OnErr result (IsQuiet new)
  pub plan : new.listener.plan ≡ old.listener.plan
  pub «open» : is_ended new ≡ false
  pub bounded : taken new.reader ≤ taken old.reader + length piece
  pub taken : IfOk result (λ n. taken new.reader ≡ taken old.reader + n)

-- The next item that is shown of the bytes so far is `item`. If it is `None`, nothing is due.
pub record GivesNext (old new : Feeding) (item : Option Shown) : Type 0 where
  pub given : (bytes : List ℕ) (given : ℕ) → StandsFor bytes given old → item ≡ slice_get (out old bytes) given
  pub stands : (bytes : List ℕ) (given : ℕ) → StandsFor bytes given old → StandsFor bytes (given + length (option_to_list item)) new
  pub quiet : IfNone item (IsQuiet new)
  pub keeps : Keeps old new
  pub less : work new + length (option_to_list item) ≤ work old

-- The capture has ended after the bytes so far, and `result` tells the capture's first refusal. If memory had run out,
-- nothing changed.
pub record Ends (old new : Feeding) (result : Result Unit ListenFault) : Type 0 where
  pub stands : (bytes : List ℕ) (given : ℕ) → StandsFor bytes given old → StandsFor bytes given new
  pub refused : old.out_of_memory ≡ false
      → (bytes : List ℕ) (given : ℕ) → StandsFor bytes given old → result_err result ≡ option_map Refused (first_refusal bytes)
  pub ended : old.out_of_memory ≡ false → is_ended new ≡ true
  pub lasting : old.out_of_memory ≡ true → (result ≡ Err Memory) × (new ≡ old)
  pub plan : new.listener.plan ≡ old.listener.plan
