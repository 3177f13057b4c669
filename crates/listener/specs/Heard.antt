-- What a listener shows of a whole capture.
use Rattle.std.specs.Prelude.{ℕ, Bool, true, false, is_some, List, length, count_by, None}
use Rattle.pcap_frames.specs.Capture.{Record, first_refusal, whole_records}
use Rattle.sample_schedule.specs.declared.entry.Entry.{Entry}
use Rattle.sample_schedule.specs.declared.plan.SchedulePlan.{SchedulePlan}
use Rattle.sample_schedule.specs.declared.shown.Shown.{Shown}
use Rattle.sample_schedule.specs.declared.shown.Shown.TheVariants.{Present, Flag}
use Rattle.clock_track.specs.Rows.{clock_spot}
use Rattle.sample_schedule.specs.Schedule.{due, shown}
use Rattle.listener.specs.declared.heard.Counts.{Counts}
use Rattle.listener.specs.declared.heard.Heard.{Heard}
use Rattle.listener.specs.declared.plan.ListenPlan.{ListenPlan}
use Rattle.packet_journal.specs.Deliveries.{Delivery, deliveries}
use Rattle.listener.specs.Items.{MadeItem, entries, entries_so_far, items_of}

-- the settings of a listener's plan that a schedule uses
abbrev pub schedule_plan : ListenPlan → SchedulePlan
schedule_plan plan = record {
  buffer = plan.buffer;
  room = plan.room;
  look = plan.look;
  lead = plan.lead;
  clock = is_some plan.clock;
  shift = plan.shift;
}

-- the deliveries of the listener's stream and clock in a list of records
abbrev pub deliveries_of : ListenPlan → List Record → List Delivery
deliveries_of plan records = deliveries plan.stream plan.clock records

-- the items that are made of a list of records, each with the deliveries that it was made of
abbrev pub items_in : ListenPlan → List Record → List MadeItem
items_in plan records = items_of (deliveries_of plan records)

-- the entries of the schedule of a list of records
abbrev pub entries_in : ListenPlan → List Record → List Entry
entries_in plan records = entries (deliveries_of plan records)

-- the entries that are made of a list of records while more records may follow
abbrev pub entries_so_far_in : ListenPlan → List Record → List Entry
entries_so_far_in plan records = entries_so_far (deliveries_of plan records)

-- what is shown of a list of records
abbrev pub shown_of : ListenPlan → List Record → List Shown
shown_of plan records = shown clock_spot (schedule_plan plan) (entries_in plan records)

-- what is certain to be shown of a list of records, even if more records follow
abbrev pub due_of : ListenPlan → List Record → List Shown
due_of plan records = due clock_spot (schedule_plan plan) (entries_so_far_in plan records)

-- an item is presented
abbrev pub is_present : Shown → Bool
is_present (Present batch) = true
is_present (Flag frame seq reason) = false

-- an item is flagged
abbrev pub is_flag : Shown → Bool
is_flag (Present batch) = false
is_flag (Flag frame seq reason) = true

-- The counts of a listener: the numbers of records, of the stream's records, of items presented, and of items flagged.
abbrev pub counts_of : ListenPlan → List Record → List Shown → Counts
counts_of plan records list = record {
  frames = length records;
  packets = length (deliveries plan.stream None records);
  presented = count_by is_present list;
  flagged = count_by is_flag list;
}

-- What a listener shows of a capture's bytes: the items and the counts of the whole records before the first refusal,
-- and the first refusal itself, if there is one.
abbrev pub heard_of : ListenPlan → List ℕ → Heard
heard_of plan bytes =
    let records = whole_records bytes in
    let list = shown_of plan records in
    record { shown = list; counts = counts_of plan records list; refused = first_refusal bytes }
