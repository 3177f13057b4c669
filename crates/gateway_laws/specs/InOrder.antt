-- Schedules whose items arrive in the order in which they are presented.
use Rattle.std.specs.Prelude.{◌≡◌, ◌≢◌, ℕ, ◌<◌, ◌≤ℤ◌, ◌<ℤ◌, List, length, slice_get, Some, Ok}
use Rattle.std.specs.List.{AllByRecursion}
use Rattle.sample_schedule.specs.declared.entry.Entry.{Entry}
use Rattle.sample_schedule.specs.declared.entry.Entry.TheVariants.{Item as OfItem}
use Rattle.sample_schedule.specs.declared.item.Item.{Item}
use Rattle.sample_schedule.specs.declared.plan.SchedulePlan.{SchedulePlan}
use Rattle.sample_schedule.specs.declared.shown.Reason.TheVariants.{Full}
use Rattle.sample_schedule.specs.declared.shown.Shown.{Shown}
use Rattle.sample_schedule.specs.declared.shown.Shown.TheVariants.{Present, Flag}
use Rattle.sample_schedule.specs.Batches.{Presented}
use Rattle.sample_schedule.specs.Schedule.{now_at, prefix_of, shown}
use Rattle.sample_schedule.specs.Verdicts.{Clock, first_instant, timed}

-- an item is presented, or is flagged for a reason other than a full buffer
abbrev pub IsNotFull : Shown → Type 0
IsNotFull (Present batch) = Unit {0}
IsNotFull (Flag frame seq reason) = reason ≢ Full

-- Entry i is an item. When the item is judged, its timing gives `batch`. Entry i and all earlier entries arrived at or
-- before the first instant of `batch`.
pub record IsTimedAt (clock : Clock) (plan : SchedulePlan) (entries : List Entry) (i : ℕ) (batch : Presented) : Type 0 where
  pub item : Item
  pub there : slice_get entries i ≡ Some (OfItem item)
  pub batch_is : timed clock plan (prefix_of plan entries i) item ≡ Ok batch
  pub early : now_at entries i ≤ℤ first_instant batch

-- Entry i is timed as batch i, the first instants of the batches rise, and the buffer is never full.
pub record AreInOrder (clock : Clock) (plan : SchedulePlan) (entries : List Entry) (batches : List Presented) : Type 0 where
  pub all : length batches ≡ length entries
  pub timed_at : (i : ℕ) (batch : Presented) → slice_get batches i ≡ Some batch → IsTimedAt clock plan entries i batch
  pub rise : (i j : ℕ) (a b : Presented) → i < j → slice_get batches i ≡ Some a → slice_get batches j ≡ Some b → first_instant a <ℤ first_instant b
  pub room : AllByRecursion IsNotFull (shown clock plan entries)
