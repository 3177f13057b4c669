-- Only private functions and proofs use these definitions. A listener that was given a capture's
-- records one at a time, and what it has shown of them.
use Rattle.std.specs.Prelude.{◌≡◌, ◌<◌, ◌≤◌, ℕ, ◌+◌, ◌-◌, ◌^◌, Bool, true, false, cond, if◌then◌else◌, List, [], ◌∷◌, ◌++◌, length, map, slice_get, Option, Result, IfNone, OnErr, OnOk}
use Rattle.std.specs.Option.{option_to_list}
use Rattle.clock_track.specs.Rows.{clock_spot}
use Rattle.pcap_frames.specs.Capture.{Record}
use Rattle.sample_schedule.specs.declared.entry.Entry.{Entry}
use Rattle.sample_schedule.specs.declared.shown.Shown.{Shown}
use Rattle.sample_schedule.specs.declared.shown.Shown.TheVariants.{Present, Flag}
use Rattle.schedule_judge.specs.Judge.{IsIdle as IsIdleJudge, JudgeState, StandsFor as JudgeStandsFor, taken}
use Rattle.sample_schedule.specs.declared.plan.SchedulePlan.{SchedulePlan}
use Rattle.sample_schedule.specs.Schedule.{due, shown}
use Rattle.listener.specs.declared.heard.Counts.{Counts}
use Rattle.packet_journal.specs.Deliveries.{Delivery}
use Rattle.listener.specs.Gathering.{Gathered, HasUnits, left}
use Rattle.listener.specs.Items.{given_by, made_entry}
use Rattle.listener.specs.Listening.{ListenState, is_closed, IsIdle, Judges, StandsFor}

-- the counts after one more record; `in_stream` says whether the record belongs to the stream
abbrev pub with_record : Counts → Bool → Counts
with_record counts in_stream = record counts { frames = counts.frames + 1; packets = counts.packets + cond in_stream 1 0 }

-- the counts after one more item is shown
abbrev pub with_shown : Counts → Shown → Counts
with_shown counts (Present batch) = record counts { presented = counts.presented + 1 }
with_shown counts (Flag frame seq reason) = record counts { flagged = counts.flagged + 1 }

abbrev pub without_shown : Counts → Shown → Counts
without_shown counts (Present batch) = record counts { presented = counts.presented - 1 }
without_shown counts (Flag frame seq reason) = record counts { flagged = counts.flagged - 1 }

-- all that is due was returned, and more records may follow
pub record Rests (listener : ListenState) : Type 0 where
  pub opened : is_closed listener ≡ false
  pub idle : IsIdle listener

-- what is shown of a list of entries: everything if no more records follow, otherwise what is due
abbrev pub shown_by : Bool → SchedulePlan → List Entry → List Shown
shown_by ended plan entries = if ended then shown clock_spot plan entries else due clock_spot plan entries

-- The judge may judge the queued items. `told` tells whether the judge was closed. The judge was closed only if no more
-- records follow and no item is queued.
pub record CanJudge (ended told : Bool) (units : Gathered) (judge : JudgeState) : Type 0 where
  pub closed : told ≡ judge.closed
  pub over : judge.closed ≡ true → (ended ≡ true) × (left units ≡ [])
  pub few : taken judge + length (left units) ≤ 2 ^ 62

-- If no more records follow and the judge was open, the judge is now closed. If more records can follow, or if the
-- judge was closed before, the judge is unchanged. `told` tells whether the judge is now closed.
pub record Closes (ended did told : Bool) (old new : JudgeState) : Type 0 where
  pub closed : told ≡ new.closed
  pub stands : (entries : List Entry) (given : ℕ) → JudgeStandsFor clock_spot entries given old → JudgeStandsFor clock_spot entries given new
  pub plan : new.plan ≡ old.plan
  pub taken : taken new ≡ taken old
  pub done : did ≡ true → (ended ≡ true) × ((old.closed ≡ false) × (new.closed ≡ true))
  pub not_done : did ≡ false → (new ≡ old) × (ended ≡ true → old.closed ≡ true)

-- One more item was given to the judge, or the judge was closed, or there was nothing left to do.
pub record JudgesNext (ended did told : Bool) (units_old units_new : Gathered) (old new : JudgeState) : Type 0 where
  pub judges : (entries : List Entry) (given : ℕ) → Judges entries given old units_old → Judges entries given new units_new
  pub units : (ds : List Delivery) → HasUnits ds units_old → HasUnits ds units_new
  pub plan : new.plan ≡ old.plan
  pub ready : CanJudge ended told units_new new
  pub less : did ≡ true → length (left units_new) + cond new.closed 0 1 < length (left units_old) + cond old.closed 0 1
  pub none : did ≡ false → ((left units_old ≡ []) × (left units_new ≡ [])) × ((new ≡ old) × (ended ≡ true → new.closed ≡ true))

-- The next item that is shown is `item`. If it is `None`, nothing is due and no item is queued.
pub record ShowsNext (ended told : Bool) (units_old units_new : Gathered) (old new : JudgeState) (item : Option Shown) : Type 0 where
  pub given : (entries : List Entry) (given : ℕ) → Judges entries given old units_old → item ≡ slice_get (shown_by ended old.plan entries) given
  pub judges : (entries : List Entry) (given : ℕ) → Judges entries given old units_old → Judges entries (given + length (option_to_list item)) new units_new
  pub units : (ds : List Delivery) → HasUnits ds units_old → HasUnits ds units_new
  pub idle : IfNone item (IsIdleJudge new × (left units_new ≡ []))
  pub plan : new.plan ≡ old.plan
  pub ready : CanJudge ended told units_new new

-- A delivery may be taken: the judge is open, all that is due was returned, and no item is queued.
pub record CanTake (units : Gathered) (judge : JudgeState) : Type 0 where
  pub opened : judge.closed ≡ false
  pub idle : IsIdleJudge judge
  pub none : left units ≡ []
  pub few : taken judge < 2 ^ 62

-- The delivery `d` was taken: the units are those of one more delivery, and the judge has the items that `d` yields, or
-- they are queued. If memory ran out, nothing changed.
pub record HasTaken {A B : Type 0} (d : Delivery) (units_old units_new : Gathered) (old new : JudgeState) (result : Result A B) : Type 0 where
  pub units : OnOk result ((ds : List Delivery) → HasUnits ds units_old → HasUnits (ds ++ d ∷ []) units_new)
  pub judges : OnOk result ((ds : List Delivery) (entries : List Entry) (given : ℕ) → HasUnits ds units_old → Judges entries given old units_old → Judges (entries ++ map made_entry (given_by ds d)) given new units_new)
  pub same : OnErr result ((new ≡ old) × (units_new ≡ units_old))
  pub plan : new.plan ≡ old.plan
  pub opened : new.closed ≡ false

-- The invariant of every listener. There is a list of records that leads to the listener's state. The items that were
-- returned are a prefix of what is shown of these records.
pub record IsSound (listener : ListenState) : Type 0 where
  pub records : List Record
  pub given : ℕ
  pub stands : StandsFor records given listener
  pub few : listener.counts.frames ≤ 2 ^ 62
