-- How the deliveries of a stream make the units of H.264.
use Rattle.std.specs.Prelude.{ℕ, ◌-◌, ◌==◌, ◌&&◌, not, if◌then◌else◌, List, length, drop, filter, map, Option, Some, None}
use Rattle.avtp_base.specs.declared.refusal.Refusal.{Refusal}
use Rattle.crf_format.specs.Crf.{crf_subtype}
use Rattle.cvf_format.specs.Cvf.{Cvf, cvf_of, cvf_refusal, cvf_subtype}
use Rattle.cvf_format.specs.declared.piece.Mark.{Mark}
use Rattle.cvf_format.specs.WholeOrBroken.{Event, Fragment, completes, cut, held, packet}
use Rattle.sample_schedule.specs.declared.shown.Reason.{Reason}
use Rattle.sample_schedule.specs.declared.shown.Reason.TheVariants.{Malformed, Uncertain, Untimed}
use Rattle.time_unfold.specs.Time.{unfolded}
use Rattle.packet_journal.specs.Deliveries.{Delivery}

-- ---- packets of H.264

-- why a packet cannot be in a unit: its time is uncertain, or it would complete a unit but has no timestamp
abbrev pub flaw_in : Cvf → Option Reason
flaw_in v =
    if v.header.tu then Some Uncertain
    else if completes v.part && not v.header.tv then Some Untimed
    else None

-- why a packet of H.264 cannot be in a unit: its reader refuses it, its time is uncertain, or it would complete a unit
-- but has no timestamp
abbrev pub flaw_or : Option Refusal → Cvf → Option Reason
flaw_or None v = flaw_in v
flaw_or (Some refusal) v = Some (Malformed refusal.field)

-- why a delivery of H.264 cannot be in a unit, whatever comes before or after the delivery
abbrev pub flaw_of : Delivery → Option Reason
flaw_of d = flaw_or (cvf_refusal d.packet) (cvf_of d.packet)

-- what is kept of a delivery to flag it: its frame, its sequence number and its arrival
abbrev pub mark_of : Delivery → Mark
mark_of d = record { frame = d.frame; seq = d.seq; arrival = d.arrival }

-- the fragment or whole unit in a packet, with its presentation time if it has a timestamp (IEEE 1722-2016, 8)
abbrev pub fragment_in : Delivery → Cvf → Fragment
fragment_in d v = record {
  mark = mark_of d;
  instant = if v.header.tv then Some (unfolded v.header.timestamp d.arrival) else None;
  nal = v.nal;
  part = v.part;
  body = v.body;
}

-- ---- events

-- The effect of a delivery of H.264 on units. A packet without a flaw is added to the current unit or begins a new one.
-- A packet with a flaw ends the current unit.
abbrev pub event_by : Delivery → Option Reason → Event
event_by d None = packet (fragment_in d (cvf_of d.packet))
event_by d (Some reason) = cut

-- The effect of a delivery of the stream on units. A packet of H.264 without a flaw is added to the current unit or
-- begins a new one. Any other delivery ends the current unit.
abbrev pub event_of : Delivery → Event
event_of d = if d.subtype == cvf_subtype then event_by d (flaw_of d) else cut

-- the deliveries of the stream, without the deliveries of its clock
abbrev pub in_stream : List Delivery → List Delivery
in_stream ds = filter (λ (d : Delivery). not (d.subtype == crf_subtype)) ds

-- the effects of the stream's deliveries on units, in order
abbrev pub events : List Delivery → List Event
events ds = map event_of (in_stream ds)

-- the last n elements of a list
abbrev pub last_ones : {X : Type 0} → ℕ → List X → List X
last_ones n xs = drop (length xs - n) xs

-- the last deliveries of the stream: those whose fragments wait for the rest of their unit
abbrev pub waiting : List Delivery → List Delivery
waiting ds = last_ones (length (held (events ds))) (in_stream ds)
