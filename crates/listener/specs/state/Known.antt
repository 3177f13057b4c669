-- Only private functions and proofs use these definitions. What a listener's own search finds for an
-- item.
use Rattle.std.specs.Prelude.{Bool, true, false, List, Option, is_some, option_and_then}
use Rattle.clock_track.specs.PairLines.{Spot}
use Rattle.clock_track.specs.Rows.{clock_spot}
use Rattle.sample_schedule.specs.declared.entry.Entry.{Entry}
use Rattle.sample_schedule.specs.declared.entry.Entry.TheVariants.{Item as OfItem, Clock as OfClock}
use Rattle.sample_schedule.specs.declared.item.Item.TheVariants.{Packet as OfPacket, Unit as OfUnit, Bad as OfBad}
use Rattle.sample_schedule.specs.declared.item.Packet.{Packet}
use Rattle.sample_schedule.specs.declared.plan.SchedulePlan.{SchedulePlan}
use Rattle.sample_schedule.specs.Heads.{head_of}
use Rattle.sample_schedule.specs.Verdicts.{spot_of}

-- the spot of a packet's first sample; `prefix` holds the entries that are known when the packet is judged
abbrev pub spot_in : SchedulePlan → List Entry → Packet → Option Spot
spot_in plan prefix packet = option_and_then (spot_of clock_spot plan prefix packet.rate) (head_of plan prefix packet)

-- The search finds a timestamp that the item's samples are counted from. If the listener has a clock, the search also
-- finds two CRF timestamps that cover that timestamp. A unit always has its own timestamp.
abbrev pub is_known : SchedulePlan → List Entry → Entry → Bool
is_known plan prefix (OfItem (OfPacket packet)) = is_some (spot_in plan prefix packet)
is_known plan prefix (OfItem (OfUnit whole)) = true
is_known plan prefix (OfItem (OfBad bad)) = false
is_known plan prefix (OfClock arrival row) = false
