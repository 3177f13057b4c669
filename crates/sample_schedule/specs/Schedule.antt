-- The schedule of a list of entries: what is shown, and in which order. Entries are numbered from 0.
use Rattle.std.specs.Prelude.{ℕ, zero, suc, ◌+◌, ◌-◌, ℤ, pos, List, [], ◌∷◌, ◌++◌, length, take, map, fold, slice_get, Option, Some, None, option_and_then, Result, Ok, Err}
use Rattle.std.specs.Int.{int_max}
use Rattle.sample_schedule.specs.declared.accepted.Accepted.{Accepted}
use Rattle.sample_schedule.specs.declared.entry.Entry.{Entry}
use Rattle.sample_schedule.specs.declared.entry.Entry.TheVariants.{Item as OfItem, Clock as OfClock}
use Rattle.sample_schedule.specs.declared.item.Item.{Item}
use Rattle.sample_schedule.specs.declared.item.Item.TheVariants.{Packet as OfPacket, Unit as OfUnit, Bad as OfBad}
use Rattle.sample_schedule.specs.declared.plan.SchedulePlan.{SchedulePlan}
use Rattle.sample_schedule.specs.declared.shown.Reason.{Reason}
use Rattle.sample_schedule.specs.declared.shown.Shown.{Shown}
use Rattle.sample_schedule.specs.declared.shown.Shown.TheVariants.{Present, Flag}
use Rattle.sample_schedule.specs.Order.{between, by_instant, standing}
use Rattle.sample_schedule.specs.Verdicts.{Clock, timed, verdict}

-- ---- items

-- the time at which the packet of an item was captured
abbrev pub item_arrival : Item → ℤ
item_arrival (OfPacket p) = p.arrival
item_arrival (OfUnit u) = u.arrival
item_arrival (OfBad b) = b.arrival

-- the time at which the packet of an entry was captured
abbrev pub arrival_of : Entry → ℤ
arrival_of (OfItem item) = item_arrival item
arrival_of (OfClock arrival row) = arrival

-- the number of an item's record in the capture
abbrev pub frame_of : Item → ℕ
frame_of (OfPacket p) = p.frame
frame_of (OfUnit u) = u.frame
frame_of (OfBad b) = b.frame

-- the sequence number of an item
abbrev pub seq_of : Item → ℕ
seq_of (OfPacket p) = p.seq
seq_of (OfUnit u) = u.seq
seq_of (OfBad b) = b.seq

-- the greatest arrival of a list of entries, or 0 if no arrival is above 0
unfoldable pub latest : List Entry → ℤ
latest entries = fold int_max (pos 0) (map arrival_of entries)

-- ---- what is accepted

-- the entries that are known when entry i is judged: entries 0 to i, and the next `look` entries
abbrev pub prefix_of : SchedulePlan → List Entry → ℕ → List Entry
prefix_of plan entries i = take (i + plan.look + 1) entries

-- the greatest arrival of the entries 0 to i
abbrev pub now_at : List Entry → ℕ → ℤ
now_at entries i = latest (take (suc i) entries)

-- the verdict on an entry at index i, given the items accepted before it; a packet of the clock has no verdict
abbrev pub judged : Clock → SchedulePlan → List Entry → ℕ → List Accepted → Entry → Option (Result Accepted Reason)
judged clock plan entries i earlier (OfItem item) =
    Some (verdict plan (now_at entries i) earlier i (timed clock plan (prefix_of plan entries i) item))
judged clock plan entries i earlier (OfClock arrival row) = None

-- The verdict on entry i, given the items accepted before it. There is no verdict if entry i is a packet of the clock,
-- or if the list has no entry i.
unfoldable pub verdict_at : Clock → SchedulePlan → List Entry → ℕ → List Accepted → Option (Result Accepted Reason)
verdict_at clock plan entries i earlier =
    option_and_then (judged clock plan entries i earlier) (slice_get entries i)

-- the item that a verdict accepts, as a list of at most one item
abbrev pub accepted_by : Option (Result Accepted Reason) → List Accepted
accepted_by None = []
accepted_by (Some (Ok a)) = a ∷ []
accepted_by (Some (Err reason)) = []

-- the accepted items among the first n entries, in the order of the entries
unfoldable pub accepted : Clock → SchedulePlan → List Entry → ℕ → List Accepted
accepted clock plan entries zero = []
accepted clock plan entries (suc i) =
    accepted clock plan entries i ++ accepted_by (verdict_at clock plan entries i (accepted clock plan entries i))

-- ---- what is shown

-- an element of the schedule: an accepted item that is presented, or the item at an index, flagged with a reason
pub data Given : Type 0 where
  Presents : Accepted → Given
  Flags : ℕ → Item → Reason → Given

-- what is shown of an accepted item: its batch
abbrev pub present : Accepted → Shown
present a = Present a.batch

-- what is shown of an element of the schedule: its batch, or a flag with the frame number, the sequence number and the
-- reason
abbrev pub shown_of : Given → Shown
shown_of (Presents a) = present a
shown_of (Flags place item reason) = Flag (frame_of item) (seq_of item) reason

-- the flag of entry i if the entry is an item that is not accepted; otherwise nothing
abbrev pub flag_by : ℕ → Option Entry → Option (Result Accepted Reason) → List Given
flag_by i (Some (OfItem item)) (Some (Err reason)) = Flags i item reason ∷ []
flag_by i e v = []

-- Suppose that a batch was accepted before entry i, and that the batch's first instant passes when entry i arrives.
-- Step i first presents each such batch. Then, if entry i is an item that is not accepted, step i flags it. (Before
-- step 0, nothing is accepted.)
unfoldable pub step : Clock → SchedulePlan → List Entry → ℕ → List Given
step clock plan entries i =
    let earlier = accepted clock plan entries i in
    map Presents (by_instant (between (latest (take i entries)) (now_at entries i) earlier))
    ++ flag_by i (slice_get entries i) (verdict_at clock plan entries i earlier)

-- the first n steps
unfoldable pub steps : Clock → SchedulePlan → List Entry → ℕ → List Given
steps clock plan entries zero = []
steps clock plan entries (suc i) = steps clock plan entries i ++ step clock plan entries i

-- The accepted items that no step presents, because no entry arrives after their first instants. The schedule presents
-- these items after the last entry.
abbrev pub rest_of : Clock → SchedulePlan → List Entry → List Given
rest_of clock plan entries =
    map Presents (by_instant (standing (latest entries) (accepted clock plan entries (length entries))))

-- the whole schedule: all steps, and then the accepted items that no step presents
unfoldable pub given : Clock → SchedulePlan → List Entry → List Given
given clock plan entries = steps clock plan entries (length entries) ++ rest_of clock plan entries

-- all that is shown of a whole list of entries, in the order of the schedule
abbrev pub shown : Clock → SchedulePlan → List Entry → List Shown
shown clock plan entries = map shown_of (given clock plan entries)

-- The number of entries that have at least `look` entries after them. Before the list has ended, these entries are
-- judged.
abbrev pub settled : SchedulePlan → List Entry → ℕ
settled plan entries = length entries - plan.look

-- the items that are certain before the list has ended: the steps of the judged entries show these items
abbrev pub due : Clock → SchedulePlan → List Entry → List Shown
due clock plan entries = map shown_of (steps clock plan entries (settled plan entries))

-- the accepted items that wait before the list has ended, sorted by first instant and then by index
abbrev pub waiting : Clock → SchedulePlan → List Entry → List Accepted
waiting clock plan entries =
    by_instant (standing (latest (take (settled plan entries) entries)) (accepted clock plan entries (settled plan entries)))
