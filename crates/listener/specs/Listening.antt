-- A listener that takes a capture's records one at a time, and what it has shown of them.
use Rattle.std.specs.Prelude.{◌≡◌, ◌≤◌, ℕ, ◌+◌, ◌-◌, Bool, true, false, if◌then◌else◌, List, [], ◌∷◌, ◌++◌, length, map, slice_get, take, Option, Result, IfNone, OnErr, OnOk}
use Rattle.std.specs.Option.{option_to_list}
use Rattle.clock_track.specs.Rows.{clock_spot}
use Rattle.pcap_frames.specs.Capture.{Record}
use Rattle.sample_schedule.specs.declared.entry.Entry.{Entry}
use Rattle.sample_schedule.specs.declared.shown.Shown.{Shown}
use Rattle.sample_schedule.specs.Verdicts.{total_bytes}
use Rattle.schedule_judge.specs.Judge.{IsIdle as IsIdleJudge, JudgeState, StandsFor as JudgeStandsFor}
use Rattle.listener.specs.declared.heard.Counts.{Counts}
use Rattle.listener.specs.declared.plan.ListenPlan.{ListenPlan}
use Rattle.listener.specs.Gathering.{Gathered, HasUnits, item_entry, left}
use Rattle.listener.specs.Heard.{counts_of, deliveries_of, due_of, entries_in, entries_so_far_in, schedule_plan, shown_of}

-- A listener. `units` holds the units of its stream and the queued items of the last delivery, and `judge` judges the
-- items. `ended` tells whether the list of records has ended. `counts` has the numbers of records, of the stream's
-- records, of items presented, and of items flagged.
pub record ListenState : Type 0 where
  pub plan : ListenPlan
  pub units : Gathered
  pub judge : JudgeState
  pub ended : Bool
  pub counts : Counts

-- no more records follow
abbrev pub is_closed : ListenState → Bool
is_closed listener = listener.ended

-- What a listener shows of a list of records. While more records may follow, only items that are due are shown. If no
-- more records follow, all items are shown.
abbrev pub out : ListenState → List Record → List Shown
out listener records = if is_closed listener then shown_of listener.plan records else due_of listener.plan records

-- the entries of a list of records: all entries if no more records follow, otherwise those that are made so far
abbrev pub entries_by : Bool → ListenPlan → List Record → List Entry
entries_by ended plan records = if ended then entries_in plan records else entries_so_far_in plan records

-- all items that the listener shows of the records so far were returned
pub record IsIdle (listener : ListenState) : Type 0 where
  pub judge : IsIdleJudge listener.judge
  pub none : left listener.units ≡ []

-- The judge has taken a prefix of `entries`, and the other entries are queued. The first `given` of the items that the
-- judge shows were returned.
pub record Judges (entries : List Entry) (given : ℕ) (judge : JudgeState) (units : Gathered) : Type 0 where
  pub judged : List Entry
  pub stands : JudgeStandsFor clock_spot judged given judge
  pub all : judged ++ map item_entry (left units) ≡ entries

-- The listener has taken `records`, and has counted the records and the items. The listener shows a list of items for
-- these records; the first `given` items of this list were returned.
pub record StandsFor (records : List Record) (given : ℕ) (listener : ListenState) : Type 0 where
  pub plan : listener.judge.plan ≡ schedule_plan listener.plan
  pub units : is_closed listener ≡ false → HasUnits (deliveries_of listener.plan records) listener.units
  pub judges : Judges (entries_by (is_closed listener) listener.plan records) given listener.judge listener.units
  -- the judge is closed only if no more records follow and no item is queued
  pub ends : listener.judge.closed ≡ true → (is_closed listener ≡ true) × (left listener.units ≡ [])
  pub within : given ≤ length (out listener records)
  pub counts : listener.counts ≡ counts_of listener.plan records (take given (out listener records))

-- at most this many items are still to be shown: a listener shows at most one item for each record
abbrev pub work : ListenState → ℕ
work listener = listener.counts.frames - (listener.counts.presented + listener.counts.flagged)

-- the plan, the number of records, and whether more records may follow are unchanged
pub record Keeps (old new : ListenState) : Type 0 where
  pub plan : new.plan ≡ old.plan
  pub frames : new.counts.frames ≡ old.counts.frames
  pub closed : is_closed new ≡ is_closed old

-- ---- calls

-- A new listener of the plan `settings` has taken no record, and more records may follow.
pub record Begins (settings : ListenPlan) (listener : ListenState) : Type 0 where
  pub stands : StandsFor [] 0 listener
  pub plan : listener.plan ≡ settings
  pub «open» : is_closed listener ≡ false
  pub idle : IsIdle listener
  pub none : listener.counts.frames ≡ 0

-- The record `r` was taken after the earlier records, and is counted. If memory ran out, nothing changed.
pub record TakesRecord {A B : Type 0} (r : Record) (old new : ListenState) (result : Result A B) : Type 0 where
  pub stands : OnOk result ((records : List Record) (given : ℕ) → StandsFor records given old → StandsFor (records ++ r ∷ []) given new)
  pub frames : OnOk result (new.counts.frames ≡ old.counts.frames + 1)
  pub plan : new.plan ≡ old.plan
  pub «open» : is_closed new ≡ false
  pub same : OnErr result (new ≡ old)

-- The next item that is shown of the records so far is `item`. If it is `None`, all that is due was returned.
pub record GivesNext (old new : ListenState) (item : Option Shown) : Type 0 where
  pub given : (records : List Record) (given : ℕ) → StandsFor records given old → item ≡ slice_get (out old records) given
  pub stands : (records : List Record) (given : ℕ) → StandsFor records given old → StandsFor records (given + length (option_to_list item)) new
  pub idle : IfNone item (IsIdle new)
  pub keeps : Keeps old new
  pub less : work new + length (option_to_list item) ≤ work old

-- The list of records has ended. The records and the items that were returned are unchanged.
pub record Ends (old new : ListenState) : Type 0 where
  pub stands : (records : List Record) (given : ℕ) → StandsFor records given old → StandsFor records given new
  pub plan : new.plan ≡ old.plan
  pub frames : new.counts.frames ≡ old.counts.frames
  pub closed : is_closed new ≡ true
  pub work : work new ≡ work old

-- `n` batches wait for their presentation time. The waiting batches are within the plan's limits.
pub record HoldsWaiting (n : ℕ) (listener : ListenState) : Type 0 where
  pub held : n ≡ length listener.judge.waiting
  pub batches : n ≤ listener.plan.buffer
  pub bytes : total_bytes listener.judge.waiting ≤ listener.plan.room
