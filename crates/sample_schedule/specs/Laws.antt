-- Laws of every schedule.
use Rattle.std.specs.Prelude.{◌≡◌, ◌≢◌, ℕ, suc, ◌==◌, ◌<◌, ◌≤◌, ◌⊎◌, ⊤, ◌<ℤ◌, List, [], ◌∷◌, length, count_by, filter, Option, Some, None, Result, Ok, Err}
use Rattle.std.specs.List.{AllByRecursion}
use Rattle.sample_schedule.specs.declared.accepted.Accepted.{Accepted}
use Rattle.sample_schedule.specs.declared.entry.Entry.{Entry}
use Rattle.sample_schedule.specs.declared.entry.Entry.TheVariants.{Item as OfItem, Clock as OfClock}
use Rattle.sample_schedule.specs.declared.item.Item.{Item}
use Rattle.sample_schedule.specs.declared.plan.SchedulePlan.{SchedulePlan}
use Rattle.sample_schedule.specs.declared.shown.Reason.{Reason}
use Rattle.sample_schedule.specs.Order.{standing}
use Rattle.sample_schedule.specs.Schedule.{Given, Presents, Flags, accepted, given, now_at, prefix_of}
use Rattle.sample_schedule.specs.Verdicts.{Clock, timed, total_bytes, verdict}

-- the index, in the list of entries, of an item that is presented or flagged
abbrev pub place_of : Given → ℕ
place_of (Presents a) = a.place
place_of (Flags place item reason) = place

-- how often the schedule shows the item at index i
abbrev pub times_shown : Clock → SchedulePlan → List Entry → ℕ → ℕ
times_shown clock plan entries i = count_by (λ g. place_of g == i) (given clock plan entries)

-- how often an entry must be shown: an item once, a packet of the clock never; 0 if there is no entry
abbrev pub times_due : Option Entry → ℕ
times_due None = 0
times_due (Some (OfItem item)) = 1
times_due (Some (OfClock arrival row)) = 0

-- the elements of a schedule that show the item at index i
abbrev pub shown_at : ℕ → List Given → List Given
shown_at i list = filter (λ g. place_of g == i) list

-- the verdict on the item at index i of a list of entries
abbrev pub verdict_in : Clock → SchedulePlan → List Entry → ℕ → Item → Result Accepted Reason
verdict_in clock plan entries i item =
    verdict plan (now_at entries i) (accepted clock plan entries i) i (timed clock plan (prefix_of plan entries i) item)

-- what a verdict does with the item at an index: if the item is accepted, it is presented; otherwise it is flagged with
-- the reason
abbrev pub given_by : ℕ → Item → Result Accepted Reason → Given
given_by place item (Ok a) = Presents a
given_by place item (Err reason) = Flags place item reason

-- the accepted items that a schedule presents, in the order of the schedule
abbrev pub presented : List Given → List Accepted
presented [] = []
presented (Presents a ∷ rest) = a ∷ presented rest
presented (Flags place item reason ∷ rest) = presented rest

-- `a` has an earlier first instant than `b`, or the first instants are equal and `a` has the lower index
abbrev pub IsBefore : Accepted → Accepted → Type 0
IsBefore a b = (a.instant <ℤ b.instant) ⊎ ((a.instant ≡ b.instant) × (a.place < b.place))

-- two accepted items are not copies of the same packet: if their first instants are equal, their sequence numbers
-- differ
abbrev pub IsNoCopy : Accepted → Accepted → Type 0
IsNoCopy a b = a.instant ≡ b.instant → a.batch.seq ≢ b.batch.seq

-- `R` holds for each item of a list together with each later item of that list
abbrev pub Pairwise : (Accepted → Accepted → Type 0) → List Accepted → Type 0
Pairwise R [] = ⊤
Pairwise R (a ∷ rest) = AllByRecursion (R a) rest × Pairwise R rest

-- the waiting batches are within the plan's limits: at most `buffer` batches, with at most `room` bytes together
pub record IsBounded (plan : SchedulePlan) (waiting : List Accepted) : Type 0 where
  pub batches : length waiting ≤ plan.buffer
  pub bytes : total_bytes waiting ≤ plan.room

-- the accepted items that wait after entry i is judged
abbrev pub waiting_at : Clock → SchedulePlan → List Entry → ℕ → List Accepted
waiting_at clock plan entries i = standing (now_at entries i) (accepted clock plan entries (suc i))
