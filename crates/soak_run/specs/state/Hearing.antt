-- Only private functions and proofs use these definitions. A listener that hears deliveries one by
-- one, and how far it has come.
use Rattle.std.specs.Prelude.{◌≡◌, ◌<◌, ◌≤◌, All, ℕ, ◌+◌, ◌-◌, ◌^◌, ℤ, Bool, true, false, List, [], ◌∷◌, ◌++◌, length, map, take, Option, Some, None, Result, OnOk, OnErr}
use Rattle.avtp_base.specs.declared.failed.NoMemory.{NoMemory as WantOfMemory}
use Rattle.time_unfold.specs.Time.{IsArrival}
use Rattle.pcap_frames.specs.Capture.{Record}
use Rattle.sample_schedule.specs.declared.shown.Shown.{Shown}
use Rattle.listener.specs.Listening.{IsIdle, ListenState, StandsFor, is_closed, out}
use Rattle.presenter_ring.specs.declared.receiver.Pull.{Pull}
use Rattle.presenter_ring.specs.declared.receiver.Pull.TheVariants as pull
use Rattle.talker.specs.Frames.{stream_frames}
use Rattle.talker.specs.Journal.{stream_of}
use Rattle.talker.specs.Talking.{Talking}
use Rattle.soak_run.specs.declared.hearing.Stage.{Stage}
use Rattle.soak_run.specs.declared.hearing.Stage.TheVariants.{Giving, Showing, Ended, NoMemory}
use Rattle.soak_run.specs.Captured.{captured}

-- ---- stages

-- whether the listener is closed at this stage
abbrev pub closed_at : Stage → Bool
closed_at Giving = false
closed_at Showing = true
closed_at Ended = true
closed_at NoMemory = false

-- the answer with which the hearing ended; none if it has not ended
abbrev pub pull_at : Stage → Option Pull
pull_at Giving = None
pull_at Showing = None
pull_at Ended = Some pull.Done
pull_at NoMemory = Some pull.Memory

-- The number of steps that remain at stage `Giving`: one for each delivery that was not given yet, and one for the end.
-- At any other stage, no step remains.
abbrev pub steps_left : Stage → List (ℤ × ℕ) → ℕ → ℕ
steps_left Giving deliveries given = (length deliveries - given) + 1
steps_left stage deliveries given = 0

-- ---- deliveries

-- a delivery of one of the talker's packets, at a time that a capture can record
pub record IsDeliverable (talker : Talking) (delivery : ℤ × ℕ) : Type 0 where
  pub known : delivery.1 < length (stream_frames talker.plan talker.input)
  pub time : IsArrival delivery.0

-- deliveries of the talker's packets, few enough to be counted
pub record AreDeliverable (talker : Talking) (deliveries : List (ℤ × ℕ)) : Type 0 where
  pub deliverable : All (IsDeliverable talker) deliveries
  pub few : length deliveries ≤ 2 ^ 62

-- the records of the first `given` deliveries of the list
abbrev pub records_of : Talking → List (ℤ × ℕ) → ℕ → List Record
records_of talker deliveries given = map (captured (stream_of talker.plan talker.input)) (take given deliveries)

-- the listener is open and idle, and took fewer than 2^62 records, so giving it a record is permitted
pub record IsReady (listener : ListenState) : Type 0 where
  pub opened : is_closed listener ≡ false
  pub idle : IsIdle listener
  pub few : listener.counts.frames < 2 ^ 62

-- The listener was given the record `taken`, or there was no memory for this record.
pub record Takes (taken : Record) (old new : ListenState) (result : Result Unit WantOfMemory) : Type 0 where
  pub stands : OnOk result ((records : List Record) (given : ℕ) → StandsFor records given old → StandsFor (records ++ taken ∷ []) given new)
  pub same : OnErr result (new ≡ old)
  pub plan : new.plan ≡ old.plan
  pub still_open : is_closed new ≡ false

-- the talker can send the delivered packet, and giving its record to the listener is permitted
pub record CanDeliver (talker : Talking) (listener : ListenState) (delivery : ℤ × ℕ) : Type 0 where
  pub deliverable : IsDeliverable talker delivery
  pub ready : IsReady listener

-- The listener was given the record of a delivery, or there was no memory for this record. The talker is unchanged.
pub record Delivers (from to : Talking) (delivery : ℤ × ℕ) (old new : ListenState) (result : Result Unit WantOfMemory) : Type 0 where
  pub takes : Takes (captured (stream_of from.plan from.input) delivery) old new result
  pub talker : to ≡ from

-- ---- what was shown

-- how many items a listener has shown
abbrev pub shown_by : ListenState → ℕ
shown_by listener = listener.counts.presented + listener.counts.flagged

-- an upper bound on the number of items that the listener can still show: the number of deliveries minus the number of
-- items shown
abbrev pub left_of : List (ℤ × ℕ) → ListenState → ℕ
left_of deliveries listener = length deliveries - shown_by listener

-- The listener has shown these items of the records that it was given.
pub record Shows (records : List Record) (listener : ListenState) (items : List Shown) : Type 0 where
  pub stands : StandsFor records (shown_by listener) listener
  pub shown : items ≡ take (shown_by listener) (out listener records)
