-- How many deliveries have each outcome.
use Rattle.std.specs.Prelude.{ℕ, ◌+◌, Bool, true, false, List, length, count_by}
use Rattle.sample_schedule.specs.declared.shown.Reason.TheVariants.{Full, Late, Repeat, Untimed}
use Rattle.sample_schedule.specs.declared.shown.Shown.{Shown}
use Rattle.sample_schedule.specs.declared.shown.Shown.TheVariants.{Flag}
use Rattle.listener.specs.Heard.{is_present, shown_of}
use Rattle.soak_run.specs.Network.{deliveries_of}
use Rattle.soak_run.specs.declared.counts.SoakCounts.{SoakCounts}
use Rattle.soak_run.specs.Captured.{soak_listener, soak_records}

-- ---- the reason of a flag

-- an item is flagged as late: its first instant has passed
abbrev pub is_late : Shown → Bool
is_late (Flag frame seq Late) = true
is_late shown = false

-- an item is flagged as a repeat: its packet was accepted before
abbrev pub is_repeat : Shown → Bool
is_repeat (Flag frame seq Repeat) = true
is_repeat shown = false

-- an item is flagged as untimed: no timestamp was found that gives the instants of the item's samples
abbrev pub is_untimed : Shown → Bool
is_untimed (Flag frame seq Untimed) = true
is_untimed shown = false

-- an item is flagged because the buffer is full
abbrev pub is_full : Shown → Bool
is_full (Flag frame seq Full) = true
is_full shown = false

-- ---- counts

-- The counts, if the number of deliveries is `delivered`: how many shown items are presented, and how many are flagged
-- for each reason.
abbrev pub outcomes : ℕ → List Shown → SoakCounts
outcomes delivered shown = record {
  delivered = delivered;
  presented = count_by is_present shown;
  late = count_by is_late shown;
  repeat = count_by is_repeat shown;
  untimed = count_by is_untimed shown;
  full = count_by is_full shown;
}

-- the number of items that were presented, or flagged for one of the counted reasons
abbrev pub total : SoakCounts → ℕ
total counts = counts.presented + counts.late + counts.repeat + counts.untimed + counts.full

-- what a listener shows of the deliveries of this many packets
abbrev pub soak_shown : ℕ → List Shown
soak_shown packets = shown_of soak_listener (soak_records packets)

-- how many deliveries have each outcome, if this many packets are sent
unfoldable pub soak_counts : ℕ → SoakCounts
soak_counts packets = outcomes (length (deliveries_of packets)) (soak_shown packets)
