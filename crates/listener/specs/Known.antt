-- When an item's timestamp or clock reference is known. Whether an item's timestamp is known depends on which of the
-- journal's packets came.
use Rattle.std.specs.Prelude.{◌≡◌, ℕ, ◌+◌, List, [], ◌∷◌, is_some, take}
use Rattle.pcap_frames.specs.Capture.{Record}
use Rattle.sample_schedule.specs.declared.entry.Entry.TheVariants.{Item as OfItem}
use Rattle.sample_schedule.specs.declared.item.Item.TheVariants.{Unit as OfUnit}
use Rattle.sample_schedule.specs.declared.item.Unit.{Unit as WholeUnit}
use Rattle.stream_journal.specs.Delivered.{Copy}
use Rattle.stream_journal.specs.Journal.{Kind, DenseAaf, SparseAaf, Am824, H264}
use Rattle.stream_journal.specs.Known.{IsKnown}
use Rattle.packet_journal.specs.Delivered.{AreFrom, Origin, OfClock, OfStream, stream_numbers}
use Rattle.packet_journal.specs.Packets.{PacketJournal}
use Rattle.listener.specs.declared.plan.ListenPlan.{ListenPlan}
use Rattle.listener.specs.Heard.{deliveries_of}
use Rattle.listener.specs.Items.{MadeItem}

-- the numbers of the clock's packets among the origins, in order
abbrev pub clock_numbers : List Origin → List ℕ
clock_numbers [] = []
clock_numbers (OfStream n ∷ os) = clock_numbers os
clock_numbers (OfClock m ∷ os) = m ∷ clock_numbers os

-- the packets that have come when the delivery at index `place` is judged: the packets of all deliveries up to and
-- including that delivery, and of the next `look` deliveries
abbrev pub came_by : ListenPlan → ℕ → List Origin → List Origin
came_by plan place origins = take (place + plan.look + 1) origins

-- The delivery at index `place` is a copy of an audio packet. When the delivery is judged, the packet's samples can be
-- timed. Either the packet has a timestamp, or its samples are counted from one of the last 16 + `look` timestamps that
-- came. If the listener has the clock, the samples are counted from a timestamp that two adjacent CRF timestamps cover.
-- The two CRF timestamps are in packets that are among the last 64 clock packets that came.
pub record IsKnownCopy (p : PacketJournal) (plan : ListenPlan) (records : List Record) (place : ℕ) (c : Copy) : Type 0 where
  pub origins : List Origin
  pub from : AreFrom p plan.lead origins (deliveries_of plan records)
  pub is : IsKnown (is_some plan.clock) p.times plan.shift plan.lead plan.look c (stream_numbers (came_by plan place origins)) (clock_numbers (came_by plan place origins))

-- the item is a whole unit, which has its own timestamp
pub record IsKnownUnit (made : MadeItem) : Type 0 where
  pub unit : WholeUnit
  pub is : made.entry ≡ OfItem (OfUnit unit)

-- Either the item at index `place` is a whole unit of H.264, or it is a copy of an audio packet, and the packet's
-- samples can be timed from the packets that came.
abbrev pub IsKnownItem : Kind → PacketJournal → ListenPlan → List Record → ℕ → Copy → MadeItem → Type 0
IsKnownItem DenseAaf p plan records place c made = IsKnownCopy p plan records place c
IsKnownItem SparseAaf p plan records place c made = IsKnownCopy p plan records place c
IsKnownItem (Am824 interval dbc) p plan records place c made = IsKnownCopy p plan records place c
IsKnownItem (H264 part) p plan records place c made = IsKnownUnit made
