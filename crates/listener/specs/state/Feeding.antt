-- Only private functions and proofs use these definitions. A listener that is fed a capture's bytes,
-- in pieces of any length.
use Rattle.std.specs.Prelude.{◌≡◌, ◌≤◌, ◌+◌, ◌++◌, ℕ, false, true, List, length, Option, None, OnErr, OnOk, Result}
use mathlib.Core.List.{IsPrefix}
use Rattle.avtp_base.specs.declared.refusal.Refusal.{Refusal}
use Rattle.pcap_frames.specs.Capture.{Record, first_refusal}
use Rattle.pcap_frames.specs.Reading.{HasRead, Reading, taken}
use Rattle.sample_schedule.specs.declared.shown.Shown.{Shown}
use Rattle.listener.specs.Listening.{IsIdle, ListenState, StandsFor as RecordsStandFor, is_closed}
use Rattle.listener.specs.Feeding.{Feeding, IsQuiet, IsReady, Keeps, StandsFor, is_ended, out}

-- `list` holds all items that the listener has returned of these bytes.
pub record HasGiven (bytes : List ℕ) (list : List Shown) (fed : Feeding) : Type 0 where
  pub stands : StandsFor bytes (length list) fed
  pub first : IsPrefix list (out fed bytes)

-- the capture has not ended, nothing is due, and memory has not run out
pub record CanFeed (fed : Feeding) : Type 0 where
  pub opened : is_ended fed ≡ false
  pub ready : IsReady fed

-- All items that are due were put into the list.
pub record GivesAll (list list' : List Shown) (fed fed' : Feeding) : Type 0 where
  pub given : (bytes : List ℕ) → HasGiven bytes list fed → HasGiven bytes list' fed'
  pub all : (bytes : List ℕ) → HasGiven bytes list fed → list' ≡ out fed' bytes
  pub quiet : IsQuiet fed'
  pub keeps : Keeps fed fed'

-- The whole piece was fed, or the part before the capture's first refusal, and all items that became due were put into
-- the list.
pub record FeedsPiece (piece : List ℕ) (list list' : List Shown) (fed fed' : Feeding) : Type 0 where
  pub given : (bytes : List ℕ) → HasGiven bytes list fed → HasGiven (bytes ++ piece) list' fed'
  pub plan : fed'.listener.plan ≡ fed.listener.plan
  pub ready : CanFeed fed'

-- The capture has ended, and `refusal` is its first refusal. The list of returned items stays valid.
pub record Stops (fed fed' : Feeding) (refusal : Option Refusal) : Type 0 where
  pub given : (bytes : List ℕ) (list : List Shown) → HasGiven bytes list fed → HasGiven bytes list fed'
  pub refused : (bytes : List ℕ) (given : ℕ) → StandsFor bytes given fed → refusal ≡ first_refusal bytes
  pub plan : fed'.listener.plan ≡ fed.listener.plan
  pub ended : is_ended fed' ≡ true

-- ---- between two calls

-- The reader has taken `bytes`, and each record that it returned was given to the listener. The first `given` items
-- were shown.
pub record HasHeard (bytes : List ℕ) (given : ℕ) (reader : Reading) (listener : ListenState) : Type 0 where
  pub records : List Record
  pub read : HasRead reader bytes records
  pub stands : RecordsStandFor records given listener

-- The listener was given the reader's next record, if there was one; `after` tells which bytes the reader has then
-- taken. At most `most` records were counted. If memory ran out, the listener is unchanged.
pub record HearsNext {A B : Type 0} (after : List ℕ → List ℕ) (most : ℕ) (reader reader' : Reading) (listener listener' : ListenState) (result : Result A B) : Type 0 where
  pub heard : OnOk result ((bytes : List ℕ) (given : ℕ) → HasHeard bytes given reader listener → HasHeard (after bytes) given reader' listener')
  pub frames : listener'.counts.frames ≤ listener.counts.frames + most
  pub plan : listener'.plan ≡ listener.plan
  pub opened : is_closed listener' ≡ false
  pub same : OnErr result (listener' ≡ listener)

-- The invariant of every listener. There is a list of bytes that leads to the listener's state. If these bytes were not
-- refused, the number of counted records is at most the number of bytes. If nothing is due, the listener has returned
-- all items that are shown of the bytes so far. Once memory has run out, nothing is due.
pub record IsSound (fed : Feeding) : Type 0 where
  pub bytes : List ℕ
  pub given : ℕ
  pub stands : StandsFor bytes given fed
  pub counted : fed.reader.refusal ≡ None → fed.listener.counts.frames ≤ taken fed.reader
  pub idle : IsQuiet fed → IsIdle fed.listener
  pub spent : fed.out_of_memory ≡ true → IsQuiet fed
