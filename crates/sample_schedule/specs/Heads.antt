-- The head of a packet is a stamped sample. The instants of the packet's samples are counted from the head.
use Rattle.std.specs.Prelude.{ℕ, ◌+◌, ◌-◌, ◌%◌, ◌==◌, nat_lt, if◌then◌else◌, pos, neg_ℤ, List, Option, None, option_map, option_and_then}
use Rattle.std.specs.List.{filter_map}
use Rattle.std.specs.Option.{option_or}
use Rattle.time_unfold.specs.declared.head_rule.Distance.{Distance}
use Rattle.time_unfold.specs.declared.head_rule.Head.{Head}
use Rattle.time_unfold.specs.declared.stamp.Stamp.{Stamp}
use Rattle.time_unfold.specs.declared.stamp.Want.{Want}
use Rattle.time_unfold.specs.Heads.{counted_block, distance, stamped_block, stamped_index}
use Rattle.time_unfold.specs.Time.{unfolded}
use Rattle.time_unfold.specs.Stamps.{found}
use Rattle.sample_schedule.specs.declared.entry.Entry.{Entry}
use Rattle.sample_schedule.specs.declared.entry.Entry.TheVariants.{Item as OfItem, Clock as OfClock}
use Rattle.sample_schedule.specs.declared.item.Item.TheVariants.{Packet as OfPacket, Unit as OfUnit, Bad as OfBad}
use Rattle.sample_schedule.specs.declared.item.Packet.{Packet}
use Rattle.sample_schedule.specs.declared.plan.SchedulePlan.{SchedulePlan}

-- ---- the stamp of a packet

-- The timestamp of a packet, if samples can be counted from it. The timestamp must be valid and certain, the rate must
-- be known, and the packet must have the sample that the timestamp belongs to.
abbrev pub usable_stamp : Packet → Option ℕ
usable_stamp p =
    if p.tu then None else
    if p.rate == 0 then None else
    if nat_lt (stamped_index p.rule) p.count then p.stamp else None

-- the stamp that is noted for a packet of audio, if the packet's timestamp is usable
abbrev pub stamp_of_packet : Packet → Option Stamp
stamp_of_packet p =
    option_map (λ timestamp. record { seq = p.seq; mr = p.mr; block = stamped_block p.rule; rate = p.rate; instant = unfolded timestamp p.arrival }) (usable_stamp p)

-- the stamp that is noted for an entry; only a packet of audio can have one
abbrev pub stamp_of : Entry → Option Stamp
stamp_of (OfItem (OfPacket p)) = stamp_of_packet p
stamp_of (OfItem (OfUnit u)) = None
stamp_of (OfItem (OfBad b)) = None
stamp_of (OfClock arrival row) = None

-- the usable stamps of a list of entries, in the order of the entries
abbrev pub stamps_of : List Entry → List Stamp
stamps_of entries = filter_map stamp_of entries

-- ---- the head of a packet without a usable stamp

-- If a packet has no usable timestamp, its samples are counted from the stamp of another packet. The result is the
-- distance back to that stamp, or `None` if the packet's format has no rule for the distance.
abbrev pub distance_back : Packet → Option Distance
distance_back p = distance p.rule p.seq p.count

-- the stamp to look for if the samples of packet `p` are counted from another packet's stamp; `far` is the distance
-- back to that stamp
abbrev pub want_of : SchedulePlan → Packet → Distance → Want
want_of plan p far = record {
  seq = (p.seq + 256 - far.packets) % 256;
  mr = p.mr;
  block = counted_block p.rule;
  rate = p.rate;
  arrival = p.arrival;
  lead = plan.lead;
  back = far.samples;
  count = p.count;
}

-- ---- the head

-- The head that a packet's own timestamp gives: the timestamp's instant, and the number of the packet's first sample
-- (the stamped sample has number 0).
abbrev pub head_at : Packet → ℕ → Head
head_at p timestamp = record { instant = unfolded timestamp p.arrival; first = neg_ℤ (pos (stamped_index p.rule)) }

-- the head that a packet's own timestamp gives, if the timestamp is usable
abbrev pub own_head : Packet → Option Head
own_head p = option_map (head_at p) (usable_stamp p)

-- the head that another packet's timestamp gives, if one of the last `plan.look` + 16 stamps of `prefix` fits
abbrev pub head_back : SchedulePlan → List Entry → Packet → Option Head
head_back plan prefix p =
    option_and_then (λ (far : Distance).
    option_map (λ (stamp : Stamp). record { instant = stamp.instant; first = pos far.samples })
    (found (plan.look + 16) (want_of plan p far) (stamps_of prefix))) (distance_back p)

-- the head of a packet: its own head if its timestamp is usable, otherwise the head that another packet's timestamp
-- gives
abbrev pub head_of : SchedulePlan → List Entry → Packet → Option Head
head_of plan prefix p = option_or (own_head p) (head_back plan prefix p)
