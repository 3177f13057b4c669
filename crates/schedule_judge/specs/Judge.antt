-- A judge, which takes a stream of entries one at a time and shows items as soon as they are certain.
use Rattle.std.specs.Prelude.{◌≡◌, ℕ, ◌+◌, ◌*◌, ◌^◌, ◌<◌, ◌≤◌, Bool, true, false, if◌then◌else◌, ℤ, ◌<ℤ◌, List, [], ◌∷◌, ◌++◌, length, take, drop, map, Option, None, Some, IfNone, slice_get}
use Rattle.std.specs.List.{AllByRecursion}
use Rattle.std.specs.Option.{option_to_list}
use Rattle.sample_schedule.specs.declared.accepted.Accepted.{Accepted}
use Rattle.sample_schedule.specs.declared.entry.Entry.{Entry}
use Rattle.sample_schedule.specs.declared.entry.Entry.TheVariants.{Item as OfItem, Clock as OfClock}
use Rattle.sample_schedule.specs.declared.noted.Noted.{Noted}
use Rattle.schedule_judge.specs.declared.pending.Pending.{Pending}
use Rattle.schedule_judge.specs.declared.pending.Pending.TheVariants.{Item as PendingItem, Clock as PendingClock}
use Rattle.sample_schedule.specs.declared.plan.SchedulePlan.{SchedulePlan}
use Rattle.sample_schedule.specs.declared.shown.Shown.{Shown}
use Rattle.sample_schedule.specs.Noted.{HasNoted}
use Rattle.sample_schedule.specs.Order.{by_instant, standing}
use Rattle.sample_schedule.specs.Schedule.{accepted, due, latest, settled, shown, steps}
use Rattle.sample_schedule.specs.Verdicts.{Clock, IsClockOf}

-- ---- entries that wait for their verdict

-- what is kept of an entry until its verdict: the item, or the arrival of a packet of the clock
abbrev pub pending_of : Entry → Pending
pending_of (OfItem item) = PendingItem item
pending_of (OfClock arrival row) = PendingClock arrival

-- ---- the judge

-- A judge. `place` is the number of judged entries. `time` is the greatest arrival of the judged entries and of the
-- current entry. `noted` holds the stamps and the clock packets of all entries so far. `waiting` holds the accepted
-- batches that wait for their instants. `current` is the current entry, and `ahead` holds the entries after it.
-- `closed` tells whether the list of entries has ended.
pub record JudgeState : Type 0 where
  pub plan : SchedulePlan
  pub place : ℕ
  pub time : ℤ
  pub noted : Noted
  pub waiting : List Accepted
  pub current : Option Pending
  pub ahead : List Pending
  pub closed : Bool

-- how many entries are judged or current
abbrev pub begun : JudgeState → ℕ
begun judge = judge.place + length (option_to_list judge.current)

-- how many entries the judge has taken
abbrev pub taken : JudgeState → ℕ
taken judge = begun judge + length judge.ahead

-- an upper bound for the number of steps that are left: two steps for each entry that is not judged, and one step for
-- each batch that waits
abbrev pub work : JudgeState → ℕ
work judge = 2 * (length (option_to_list judge.current) + length judge.ahead) + length judge.waiting

-- There is no current entry: all due items of the entries so far were returned.
abbrev pub IsIdle : JudgeState → Type 0
IsIdle judge = judge.current ≡ None

-- what a judge shows of a list of entries: everything if the list has ended, otherwise what is due
abbrev pub out : Clock → JudgeState → List Entry → List Shown
out clock judge entries = if judge.closed then shown clock judge.plan entries else due clock judge.plan entries

-- no entry is left to judge
abbrev pub none_left : Option Pending → List Pending → Bool
none_left None [] = true
none_left None (p ∷ rest) = false
none_left (Some p) ahead = false

-- the list has ended, and no entry is left to judge
abbrev pub is_over : JudgeState → Bool
is_over judge = if judge.closed then none_left judge.current judge.ahead else false

-- The judge has taken `entries`. For these entries, the judge shows the items of a list (`out`). It has returned the
-- first items of that list so far; their number is `given`. Samples are timed by the clock of the judge's plan.
pub record StandsFor (clock : Clock) (entries : List Entry) (given : ℕ) (judge : JudgeState) : Type 0 where
  pub asks : IsClockOf judge.plan clock
  -- the judge holds the entries that are not judged, and has noted the stamps and clock packets of all entries
  pub within : judge.place ≤ length entries
  pub left : map pending_of (drop judge.place entries) ≡ option_to_list judge.current ++ judge.ahead
  pub noted : HasNoted judge.plan entries judge.noted
  pub now : judge.time ≡ latest (take (begun judge) entries)
  -- as long as the list has not ended, an entry is judged or current if and only if at least `look` entries follow it
  pub settles : judge.closed ≡ false → begun judge ≡ settled judge.plan entries
  -- `passed` holds the batches that were presented since the current entry was taken; these batches and the waiting
  -- ones are together all batches that waited when the entry was taken
  pub passed : List Accepted
  pub waiting : passed ++ judge.waiting ≡ by_instant (standing (latest (take judge.place entries)) (accepted clock judge.plan entries judge.place))
  pub early : is_over judge ≡ false → AllByRecursion (λ a. a.instant <ℤ judge.time) passed
  pub count : given ≡ length (steps clock judge.plan entries judge.place) + length passed

-- the plan, the number of entries taken, and whether the list has ended are unchanged
pub record Keeps (old new : JudgeState) : Type 0 where
  pub plan : new.plan ≡ old.plan
  pub taken : taken new ≡ taken old
  pub closed : new.closed ≡ old.closed

-- the judge has taken no entries
pub record Begins (asked : SchedulePlan) (judge : JudgeState) : Type 0 where
  pub stands : (clock : Clock) → IsClockOf asked clock → StandsFor clock [] 0 judge
  pub plan : judge.plan ≡ asked
  pub none : taken judge ≡ 0
  pub «open» : judge.closed ≡ false
  pub idle : IsIdle judge

-- The judge can take one more entry: the list of entries has not ended, all due items of the entries so far were
-- returned, and the judge has taken fewer than 2^62 entries.
pub record IsReady (judge : JudgeState) : Type 0 where
  pub «open» : judge.closed ≡ false
  pub idle : IsIdle judge
  pub few : taken judge < 2 ^ 62

-- the judge has taken one more entry
pub record Takes (entry : Entry) (old new : JudgeState) : Type 0 where
  pub stands : (clock : Clock) (entries : List Entry) (given : ℕ) → StandsFor clock entries given old → StandsFor clock (entries ++ entry ∷ []) given new
  pub plan : new.plan ≡ old.plan
  pub taken : taken new ≡ taken old + 1
  pub «open» : new.closed ≡ false

-- The judge has returned `result`: the next of the items that it shows for its entries, or `None` if no item is left to
-- return. If the list has ended, no batch waits after `None`. Each item that is returned leaves fewer steps.
pub record GivesNext (old : JudgeState) (result : Option Shown) (new : JudgeState) : Type 0 where
  pub given : (clock : Clock) (entries : List Entry) (given : ℕ) → StandsFor clock entries given old → result ≡ slice_get (out clock old entries) given
  pub stands : (clock : Clock) (entries : List Entry) (given : ℕ) → StandsFor clock entries given old
      → StandsFor clock entries (given + length (option_to_list result)) new
  pub idle : IfNone result (IsIdle new)
  pub empty : IfNone result (old.closed ≡ true → new.waiting ≡ [])
  pub keeps : Keeps old new
  pub less : work new + length (option_to_list result) ≤ work old

-- The list of entries has ended, and the judge stands for the same entries as before. Nothing else is changed.
pub record Closes (old new : JudgeState) : Type 0 where
  pub stands : (clock : Clock) (entries : List Entry) (given : ℕ) → StandsFor clock entries given old → StandsFor clock entries given new
  pub same : new ≡ record old { closed = true }
