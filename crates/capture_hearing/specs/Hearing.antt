-- A capture that is heard item by item, and what was shown of it so far.
use Rattle.std.specs.Prelude.{Bool, true, false, Option, None, Some, is_some, ◌≡◌, IsSome, ℕ, List, ◌+◌, ◌-◌, ◌^◌, ◌≤◌, ⊤, length, take, [], ◌++◌}
use mathlib.Core.List.{IsPrefix}
use Rattle.capture_io.specs.declared.end.End.{End}
use Rattle.presenter_ring.specs.declared.receiver.Pull.{Pull}
use Rattle.avtp_base.specs.declared.failed.FaultPlace.{FaultPlace}
use Rattle.avtp_base.specs.Files.{Open, Slots, left_in}
use Rattle.listener.specs.Listening.{ListenState, StandsFor, is_closed, out}
use Rattle.capture_io.specs.Source.{Sourcing, slot_of, to_do, EndsAfter, HasGiven}
use Rattle.pcap_frames.specs.Capture.{Record}
use Rattle.capture_io.specs.Formats.{records_in}
use Rattle.sample_schedule.specs.declared.shown.Shown.{Shown}
use Rattle.avtp_base.specs.Faults.{FailsAt}
use Rattle.avtp_base.specs.States.{ShelfState}
use Rattle.presenter_ring.specs.Pulls.{ending_of, items_of}
use Rattle.capture_io.specs.declared.end.End.TheVariants as end
use Rattle.presenter_ring.specs.declared.receiver.Pull.TheVariants as pull
use Rattle.run_report.specs.Reading.{ReadsCapture}
use Rattle.capture_hearing.specs.declared.hearing.Stage.{Stage}
use Rattle.capture_hearing.specs.declared.hearing.Stage.TheVariants.{Reading, Showing, Ended, NoMemory}
use Rattle.capture_hearing.specs.declared.hearing.Heard.{Heard}
use Rattle.capture_hearing.specs.declared.hearing.Heard.TheVariants as heard

-- ---- stages

-- if the reading ended in this way, all items are shown, not only those that were due
abbrev pub is_all : End → Bool
is_all end.Whole = true
is_all (end.Refused refusal) = true
is_all end.ReadFault = false
is_all end.Limit = false

abbrev pub closed_at : Stage → Bool
closed_at Reading = false
closed_at (Showing how) = is_all how
closed_at (Ended how) = is_all how
closed_at NoMemory = false

-- how the reading ended, if it has ended
abbrev pub read_end : Stage → Option End
read_end Reading = None
read_end (Showing how) = Some how
read_end (Ended how) = Some how
read_end NoMemory = None

-- what a receiver returns after the last item, given how the reading of the capture ended
abbrev pub pull_with : End → Pull
pull_with end.Whole = pull.Done
pull_with (end.Refused refusal) = pull.Refused refusal
pull_with end.ReadFault = pull.ReadFault
pull_with end.Limit = pull.Limit

-- what the hearing returned at its end, if it has ended
abbrev pub pull_at : Stage → Option Pull
pull_at Reading = None
pull_at (Showing how) = None
pull_at (Ended how) = Some (pull_with how)
pull_at NoMemory = Some pull.Memory

-- What a receiver returned at its end, if it has ended. If the receiver's file is not open, the receiver is treated as
-- if a read fault had ended it.
abbrev pub ended_at : Option Open → Stage → Option Pull
ended_at None stage = Some pull.ReadFault
ended_at (Some file) stage = pull_at stage

-- the result of the hearing, once it has ended
abbrev pub heard_at : Stage → ListenState → Heard
heard_at (Ended how) listener = heard.Ended how listener.counts
heard_at stage listener = heard.NoMemory

-- the stage is `Reading`, but the reading of the file has ended
abbrev pub has_stopped : Stage → Sourcing → Bool
has_stopped Reading source = is_some source.ended
has_stopped stage source = false

-- the file is open, and the hearing has not ended
abbrev pub IsGoing : Slots → Sourcing → Stage → Type 0
IsGoing slots source stage = IsSome (slots (slot_of source)) × (pull_at stage ≡ None)

-- the file is open, and its records are being read
abbrev pub IsAtReading : Slots → Sourcing → Stage → Type 0
IsAtReading slots source stage = IsSome (slots (slot_of source)) × (stage ≡ Reading)

-- `how` says how the reading ended. If a read fault or the limit ended the reading, the listener was left open. If
-- neither a read fault nor the limit ended the reading, the listener was closed.
pub record ClosesAt (how : End) (old new : ListenState) : Type 0 where
  pub stands : (records : List Record) (given : ℕ) → StandsFor records given old → StandsFor records given new
  pub plan : new.plan ≡ old.plan
  pub frames : new.counts.frames ≡ old.counts.frames
  pub closed : is_closed new ≡ is_all how

-- ---- how much is left

-- how much is still to be read; this number falls with each record
abbrev pub reads_left : Stage → Sourcing → ℕ
reads_left Reading source = to_do source + 1
reads_left stage source = 0

-- the remaining work of reading the file; 0 once its reading has ended
abbrev pub unread : Stage → Sourcing → ℕ
unread Reading source = to_do source
unread stage source = 0

-- The maximum number of items that can still be shown: the number of records that were taken or are unread, minus the
-- number of items that were shown.
abbrev pub left_of : Stage → Sourcing → ListenState → ℕ
left_of stage source listener = (listener.counts.frames + unread stage source) - (listener.counts.presented + listener.counts.flagged)

-- For some list of records, a new listener that was given these records has the state `listener`. The listener has
-- shown the first `given` items of these records.
pub record WasGiven (listener : ListenState) : Type 0 where
  pub records : List Record
  pub given : ℕ
  pub stands : StandsFor records given listener

-- `WasGiven` cannot be refuted
abbrev pub IsStable : ListenState → Type 0
IsStable listener = (WasGiven listener → ⊥) → ⊥

-- What holds of every hearing at this stage. At most 2^41 records were taken or are unread. If the reading of the file
-- has ended, the stage is not `Reading`. The listener is closed if and only if the reading ended at the capture's end
-- or at a refused field.
pub record IsSoundAt (stage : Stage) (source : Sourcing) (listener : ListenState) : Type 0 where
  pub bounded : listener.counts.frames + unread stage source ≤ 2 ^ 41
  pub going : has_stopped stage source ≡ false
  pub closed : is_closed listener ≡ closed_at stage
  pub stable : IsStable listener

-- ---- what was shown

-- The reading of a file of these bytes has reached this stage, after these records.
abbrev pub ReadTo : Stage → ℕ → List ℕ → (FaultPlace → Type 0) → Option (List ℕ) → Sourcing → List Record → Type 0
ReadTo Reading limit bytes fault remains source records = HasGiven limit bytes remains source records
ReadTo (Showing how) limit bytes fault remains source records = EndsAfter limit bytes fault how records
ReadTo (Ended how) limit bytes fault remains source records = EndsAfter limit bytes fault how records
ReadTo NoMemory limit bytes fault remains source records = ⊤

-- The reading of a file of these bytes has reached this stage, and these items of its records were shown. At the stage
-- `Ended`, these are all items that are shown of the records.
pub record IsShown (stage : Stage) (limit : ℕ) (bytes : List ℕ) (fault : FaultPlace → Type 0) (remains : Option (List ℕ)) (source : Sourcing) (listener : ListenState) (items : List Shown) : Type 0 where
  pub records : List Record
  pub first : IsPrefix records (records_in (take limit bytes))
  pub read : ReadTo stage limit bytes fault remains source records
  pub stands : StandsFor records (length items) listener
  pub given : IsPrefix items (out listener records)
  pub whole : (how : End) → stage ≡ Ended how → items ≡ out listener records

-- A capture was opened, a listener was made for it, and then these items were shown. The shelf changed only by reading
-- the capture.
pub record Shows (shelf shelf' : ShelfState)
    (old_source source : Sourcing) (old_listener listener : ListenState) (stage : Stage) (items : List Shown) : Type 0 where
  pub capture : ReadsCapture shelf shelf' (slot_of old_source) (slot_of source) (read_end stage)
  pub plan : listener.plan ≡ old_listener.plan
  pub shown : (limit : ℕ) (bytes : List ℕ) → HasGiven limit bytes (left_in shelf.slots (slot_of old_source)) old_source [] → StandsFor [] 0 old_listener → is_closed old_listener ≡ false
      → IsShown stage limit bytes (FailsAt shelf.reading_faults shelf'.reading_faults) (left_in shelf'.slots (slot_of source)) source listener items

-- The hearing moved on and showed `items`, after the items that it had shown earlier. The number of items that can
-- still be shown fell by at least the number of `items`. The file is still open.
pub record GoesOn (shelf shelf' : ShelfState) (old_source source : Sourcing) (old_listener listener : ListenState) (old_stage stage : Stage) (items : List Shown) : Type 0 where
  pub shows : (begun : ShelfState) (first : Sourcing) (fresh : ListenState) (earlier : List Shown)
      → Shows begun shelf first old_source fresh old_listener old_stage earlier → Shows begun shelf' first source fresh listener stage (earlier ++ items)
  pub live : IsSome (shelf'.slots (slot_of source))
  pub left : left_of stage source listener + length items ≤ left_of old_stage old_source old_listener

-- The hearing moved on and returned `answer`: the next item, or how the hearing ended.
pub record GivesPull (shelf shelf' : ShelfState) (old_source source : Sourcing) (old_listener listener : ListenState) (old_stage stage : Stage) (answer : Pull) : Type 0 where
  pub on : GoesOn shelf shelf' old_source source old_listener listener old_stage stage (items_of answer)
  pub ended : pull_at stage ≡ ending_of answer
