-- The items that are made of the deliveries of a stream and of its clock: packets of samples, units of H.264, packets
-- that are not presented, and CRF timestamps.
use Rattle.std.specs.Prelude.{if◌then◌else◌, ℕ, ◌-◌, ◌==◌, ◌&&◌, not, false, List, [], ◌∷◌, ◌++◌, length, map, Option, Some, None, unwrap_or}
use Rattle.avtp_base.specs.declared.refusal.Refusal.{Refusal}
use Rattle.clock_track.specs.declared.clock_row.ClockRow.{ClockRow}
use Rattle.crf_format.specs.Crf.{Crf, crf_of, crf_refusal, crf_subtype}
use Rattle.aaf_format.specs.Aaf.{Aaf, aaf_of, aaf_refusal, aaf_subtype, rate_of}
use Rattle.iec61883_format.specs.Iec.{Iec, iec_of, iec_refusal, rate_of_fdf, syt_interval}
use Rattle.cvf_format.specs.Cvf.{cvf_of, cvf_subtype}
use Rattle.cvf_format.specs.declared.piece.Lost.{Lost as LostFor}
use Rattle.cvf_format.specs.declared.piece.Lost.TheVariants.{Broken, Long}
use Rattle.cvf_format.specs.declared.piece.Piece.{Piece}
use Rattle.cvf_format.specs.declared.piece.Piece.TheVariants.{Whole, Held, Lost}
use Rattle.cvf_format.specs.WholeOrBroken.{Event, given_up, last_stretch, piece, reason, whole_unit}
use Rattle.sample_schedule.specs.declared.entry.Entry.{Entry}
use Rattle.sample_schedule.specs.declared.entry.Entry.TheVariants.{Item as OfItem, Clock as OfClock}
use Rattle.time_unfold.specs.declared.head_rule.HeadRule.{HeadRule}
use Rattle.time_unfold.specs.declared.head_rule.HeadRule.TheVariants.{Own, Eight, Blocks}
use Rattle.sample_schedule.specs.declared.item.Item.{Item}
use Rattle.sample_schedule.specs.declared.item.Item.TheVariants.{Packet as OfPacket, Unit as OfUnit, Bad as OfBad}
use Rattle.sample_schedule.specs.declared.shown.Reason.{Reason}
use Rattle.sample_schedule.specs.declared.shown.Reason.TheVariants.{Malformed, Broken as BrokenUnit, Long as LongUnit}
use Rattle.time_unfold.specs.Time.{unfolded}
use Rattle.packet_journal.specs.Deliveries.{Delivery}
use Rattle.listener.specs.Units.{event_of, events, flaw_of, in_stream, last_ones, waiting}
use Rattle.packet_journal.specs.Packets.{audio_sample_type}

-- The item of an AAF packet (IEEE 1722-2016, 7). The packet's timestamp is used if it is valid. In sparse mode, the
-- samples of a packet without a timestamp are counted from the nearest earlier packet whose sequence number is a
-- multiple of 8. If the rate is user-specified, the item has no rate.
abbrev pub samples_of : Delivery → Aaf → Item
samples_of d v = OfPacket (record {
  frame = d.frame;
  arrival = d.arrival;
  seq = d.seq;
  mr = v.header.mr;
  tu = v.header.tu;
  stamp = if v.header.tv then Some v.header.timestamp else None;
  rule = if v.sparse then Eight else Own;
  rate = unwrap_or (rate_of v.nsr) 0;
  count = v.count;
  bytes = v.payload;
})

-- Which data block of an IEC 61883-6 packet is stamped, given the packet's block count and the SYT interval of its
-- rate. A no-data packet has neither rate nor interval.
abbrev pub block_rule : ℕ → Option ℕ → HeadRule
block_rule dbc None = Own
block_rule dbc (Some interval) = Blocks dbc interval

-- The item of an IEC 61883-6 packet. Each data block is a sample. The timestamp is used if it is valid. The timestamp
-- belongs to the block whose block count is a multiple of the interval. If a packet has no stamped block, its samples
-- are counted from the nearest stamped block of an earlier packet. A no-data packet has no samples.
abbrev pub blocks_of : Delivery → Iec → Item
blocks_of d v = OfPacket (record {
  frame = d.frame;
  arrival = d.arrival;
  seq = d.seq;
  mr = v.header.mr;
  tu = v.header.tu;
  stamp = if v.header.tv then Some v.header.timestamp else None;
  rule = block_rule v.cip.dbc (syt_interval v.cip.fdf);
  rate = unwrap_or (rate_of_fdf v.cip.fdf) 0;
  count = v.count;
  bytes = v.payload;
})

-- the item of a delivery whose packet is refused
abbrev pub malformed : Delivery → Refusal → Item
malformed d refusal = OfBad (record {
  frame = d.frame;
  arrival = d.arrival;
  seq = d.seq;
  reason = Malformed refusal.field;
})

-- the item of the delivery `d`: `item` if the packet is accepted, otherwise the malformed item
abbrev pub refused_or : Delivery → Option Refusal → Item → Item
refused_or d None item = item
refused_or d (Some refusal) item = malformed d refusal

-- the item of a delivery of AAF
abbrev pub aaf_item : Delivery → Item
aaf_item d = refused_or d (aaf_refusal d.packet) (samples_of d (aaf_of d.packet))

-- the item of a delivery of IEC 61883-6
abbrev pub iec_item : Delivery → Item
iec_item d = refused_or d (iec_refusal d.packet) (blocks_of d (iec_of d.packet))

-- the item of a delivery of AAF or of IEC 61883-6
abbrev pub item_of : Delivery → Item
item_of d = if d.subtype == aaf_subtype then aaf_item d else iec_item d

-- ---- the media clock

-- The timestamps of a packet of the media clock (IEEE 1722-2016, 10). The timestamps are used if the packet is of the
-- type for audio samples and does not have the timestamp-uncertain bit.
abbrev pub points_of : Crf → ClockRow
points_of v = record {
  usable = (v.kind == audio_sample_type) && not v.tu;
  seq = v.seq;
  mr = v.mr;
  base_frequency = v.base_frequency;
  pull = v.pull;
  interval = v.interval;
  payload = v.payload;
}

-- the row of a refused clock packet: the row has no timestamps
abbrev pub no_points : ClockRow
no_points = record { usable = false; seq = 0; mr = false; base_frequency = 0; pull = 0; interval = 0; payload = [] }

-- the timestamps of a packet of the media clock, or none if the packet is refused
abbrev pub points_or_none : Option Refusal → Crf → ClockRow
points_or_none None v = points_of v
points_or_none (Some refusal) v = no_points

-- the timestamps of a delivery of the clock
abbrev pub clock_row : Delivery → ClockRow
clock_row d = points_or_none (crf_refusal d.packet) (crf_of d.packet)

-- ---- items

-- The entry of a delivery. A packet of the clock gives its timestamps, whether they are usable or not, and is never
-- shown. A packet of audio gives an item.
abbrev pub entry_of : Delivery → Entry
entry_of d = if d.subtype == crf_subtype then OfClock d.arrival (clock_row d) else OfItem (item_of d)

-- An entry of a schedule, with the deliveries that it was made of: the earlier ones, in order, and the last one. The
-- entry has the frame number and the sequence number of the last delivery.
pub record MadeItem : Type 0 where
  pub entry : Entry
  pub earlier : List Delivery
  pub last : Delivery

-- the deliveries that an item was made of, in order
abbrev pub sources : MadeItem → List Delivery
sources made = made.earlier ++ made.last ∷ []

-- an item that was made of one delivery; the delivery is of audio or of the clock
abbrev pub made_of_one : Delivery → MadeItem
made_of_one d = record { entry = entry_of d; earlier = []; last = d }

-- The item of one delivery that is flagged alone, not as part of a unit. The delivery is a fragment that is in no unit,
-- or a packet that cannot be in a unit.
abbrev pub flagged : Reason → Delivery → MadeItem
flagged reason d = record {
  entry = OfItem (OfBad (record { frame = d.frame; arrival = d.arrival; seq = d.seq; reason = reason }));
  earlier = [];
  last = d;
}

-- the reason for flagging fragments that were given up for this cause
abbrev pub lost_for : LostFor → Reason
lost_for Broken = BrokenUnit
lost_for Long = LongUnit

-- ---- the items of a delivery

-- the events of the stream up to and including a delivery
abbrev pub events_to : List Delivery → Delivery → List Event
events_to before d = events before ++ event_of d ∷ []

-- the flagged items of the fragments that a delivery makes the listener give up
abbrev pub given_up_by : List Delivery → Delivery → List MadeItem
given_up_by before d =
    map (flagged (lost_for (reason (events_to before d)))) (last_ones (length (given_up (events_to before d))) (in_stream before))

-- The unit that a delivery completes. The unit has the frame number, arrival, sequence number and presentation time of
-- the delivery that completes it. The unit's earlier deliveries are the stream's deliveries immediately before the
-- delivery that completes the unit.
abbrev pub unit_by : List Delivery → Delivery → MadeItem
unit_by before d = record {
  entry = OfItem (OfUnit (record {
    frame = d.frame;
    arrival = d.arrival;
    seq = d.seq;
    instant = unfolded (cvf_of d.packet).header.timestamp d.arrival;
    bytes = whole_unit (events_to before d);
  }));
  earlier = last_ones (length (last_stretch (events_to before d)) - 1) (in_stream before);
  last = d;
}

-- The items of an H.264 packet without a flaw: the unit if the packet completes one, none if the packet waits for the
-- rest of its unit, and a flagged item if the packet is lost.
abbrev pub piece_by : List Delivery → Delivery → Piece → List MadeItem
piece_by before d Whole = unit_by before d ∷ []
piece_by before d Held = []
piece_by before d (Lost why) = flagged (lost_for why) d ∷ []

-- the items of an H.264 packet: a flagged item if the packet has a flaw, otherwise the items of a packet without a flaw
abbrev pub video_by : List Delivery → Delivery → Option Reason → List MadeItem
video_by before d None = piece_by before d (piece (events_to before d))
video_by before d (Some reason) = flagged reason d ∷ []

-- the own item of a delivery of the stream; none if the delivery is a fragment that waits for the rest of its unit
abbrev pub own_by : List Delivery → Delivery → List MadeItem
own_by before d = if d.subtype == cvf_subtype then video_by before d (flaw_of d) else made_of_one d ∷ []

-- The items that a delivery yields after the deliveries `before`. A delivery of the clock yields its timestamps. A
-- delivery of the stream yields the fragments that are given up because of that delivery, in order, and then its own
-- item.
abbrev pub given_by : List Delivery → Delivery → List MadeItem
given_by before d = if d.subtype == crf_subtype then made_of_one d ∷ [] else given_up_by before d ++ own_by before d

-- the items that the second list of deliveries yields if it follows the first list
abbrev pub given_after : List Delivery → List Delivery → List MadeItem
given_after before [] = []
given_after before (d ∷ ds) = given_by before d ++ given_after (before ++ d ∷ []) ds

-- ---- the items of all deliveries

-- the items of a list of deliveries while more deliveries may follow
abbrev pub items_so_far : List Delivery → List MadeItem
items_so_far ds = given_after [] ds

-- the flagged items of the fragments that are given up only because the list of deliveries ends
abbrev pub left_at_end : List Delivery → List MadeItem
left_at_end ds = map (flagged BrokenUnit) (waiting ds)

-- the items of a list of deliveries
abbrev pub items_of : List Delivery → List MadeItem
items_of ds = items_so_far ds ++ left_at_end ds

-- the entry of an item in a schedule
abbrev pub made_entry : MadeItem → Entry
made_entry made = made.entry

-- the entries of the schedule of a list of deliveries
abbrev pub entries : List Delivery → List Entry
entries ds = map made_entry (items_of ds)

-- the entries of a list of deliveries while more deliveries may follow
abbrev pub entries_so_far : List Delivery → List Entry
entries_so_far ds = map made_entry (items_so_far ds)
