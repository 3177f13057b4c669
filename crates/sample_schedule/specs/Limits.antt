-- The conditions of a schedule: a plan within its limits, and entries as the formats yield them.
use Rattle.std.specs.Prelude.{◌≡◌, ◌+◌, ◌%◌, ◌^◌, ◌≤◌, pos, neg_ℤ, ◌≤ℤ◌, ◌<ℤ◌, length}
use Rattle.clock_track.specs.Limits.{IsNotable}
use Rattle.time_unfold.specs.Limits.{IsRule}
use Rattle.time_unfold.specs.Time.{IsArrival}
use Rattle.sample_schedule.specs.declared.entry.Entry.{Entry}
use Rattle.sample_schedule.specs.declared.entry.Entry.TheVariants.{Item as OfItem, Clock as OfClock}
use Rattle.sample_schedule.specs.declared.item.Item.{Item}
use Rattle.sample_schedule.specs.declared.item.Item.TheVariants.{Packet as OfPacket, Unit as OfUnit, Bad as OfBad}
use Rattle.sample_schedule.specs.declared.item.Packet.{Packet}
use Rattle.sample_schedule.specs.declared.item.Unit.{Unit as WholeUnit}
use Rattle.sample_schedule.specs.declared.plan.SchedulePlan.{SchedulePlan}

-- A plan within its limits. The buffer has room for 1 to 65,536 batches, and for 1 to 1,073,741,824 bytes. The
-- look-ahead is at most 64 entries. The lead is at most one second. The shift is from -1 to 1 second.
pub record IsPlan (plan : SchedulePlan) : Type 0 where
  pub some_buffer : 1 ≤ plan.buffer
  pub buffer : plan.buffer ≤ 65536
  pub some_room : 1 ≤ plan.room
  pub room : plan.room ≤ 1073741824
  pub look : plan.look ≤ 64
  pub lead : plan.lead ≤ 1000000000
  pub shift_from : neg_ℤ (pos 1000000000) ≤ℤ plan.shift
  pub shift_to : plan.shift ≤ℤ pos 1000000000

-- A packet of audio as the formats yield it. All samples of the packet have the same number of bytes. The packet's rate
-- is 0 or from 8,000 to 192,000 Hz.
pub record IsPacket (p : Packet) : Type 0 where
  pub arrival : IsArrival p.arrival
  pub count : p.count ≤ 65535
  pub frames : 1 ≤ p.count → length p.bytes % p.count ≡ 0
  pub rate_from : 1 ≤ p.rate → 8000 ≤ p.rate
  pub rate_to : p.rate ≤ 192000
  pub rule : IsRule p.rule

-- a unit of H.264 as the formats yield it, with an instant from -2^62 to 2^62 + 2^31 ns
pub record IsUnit (u : WholeUnit) : Type 0 where
  pub arrival : IsArrival u.arrival
  pub from : neg_ℤ (pos (2 ^ 62)) ≤ℤ u.instant
  pub to : u.instant <ℤ pos (2 ^ 62 + 2 ^ 31)

-- an item as the formats yield it: a packet of audio, a unit of H.264, or a delivery that is flagged in any case
abbrev pub IsItem : Item → Type 0
IsItem (OfPacket p) = IsPacket p
IsItem (OfUnit u) = IsUnit u
IsItem (OfBad b) = IsArrival b.arrival

-- an entry as the formats yield it: an item, or a packet of the clock that the clock can note
abbrev pub IsEntry : Entry → Type 0
IsEntry (OfItem item) = IsItem item
IsEntry (OfClock arrival row) = IsArrival arrival × IsNotable row
