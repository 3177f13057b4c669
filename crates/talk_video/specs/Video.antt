-- The packets of H.264 (IEEE 1722-2016, 8), and when they are sent.
use Rattle.std.specs.Prelude.{ℕ, ◌+◌, ◌-◌, Bool, true, false, ◌&&◌, not, if◌then◌else◌, nat_abs, List, length, Option, Some, None}
use Rattle.cvf_format.specs.declared.cvf.NalPart.{NalPart}
use Rattle.cvf_format.specs.Cvf.{Cvf, cvf_subtype, header_size}
use Rattle.cvf_format.specs.WholeOrBroken.{completes}
use Rattle.stream_journal.specs.Journal.{Journal, H264}
use Rattle.packet_journal.specs.Packets.{part_of, PacketJournal, H264Data}
use Rattle.talk_plan.specs.declared.plan.TalkPlan.{TalkPlan}
use Rattle.talk_video.specs.AccessUnits.{nal_in, unit_at}
use Rattle.talk_clock.specs.Clock.{clock_by, clock_id, clock_packet_by}
use Rattle.talk_video.specs.Fragments.{access_unit_of, all_packets, body_at, ends_access_unit, part_at, place_of}
use Rattle.talk_plan.specs.Headers.{header_of}
use Rattle.talk_plan.specs.Timing.{mr_of, nominal_offset, timestamp_of}
use Rattle.talk_video.specs.Units.{sent_units}

-- ---- time

-- the instant of access unit a
unfoldable pub access_instant : TalkPlan → ℕ → ℕ
access_instant plan a = nat_abs plan.start + plan.lead + nominal_offset plan.rate a

-- when packet n is due: at the instant of its access unit
abbrev pub video_due : TalkPlan → List ℕ → List (ℕ × ℕ) → ℕ → ℕ
video_due plan bytes units n = access_instant plan (access_unit_of bytes units n)

-- when packet n is sent: `plan.lead` nanoseconds before the packet is due
abbrev pub video_arrival : TalkPlan → List ℕ → List (ℕ × ℕ) → ℕ → ℕ
video_arrival plan bytes units n = video_due plan bytes units n - plan.lead

-- The stamp of a packet that carries `part` of a NAL unit: the instant of the unit's access unit. If only last
-- fragments are stamped and `part` does not complete the unit, there is no stamp.
abbrev pub stamp_by : Bool → NalPart → ℕ → Option ℕ
stamp_by last_stamp part instant = if last_stamp && not (completes part) then None else Some instant

-- the instant in the timestamp of packet n, if the packet is stamped
abbrev pub video_stamp : Bool → TalkPlan → List ℕ → List (ℕ × ℕ) → ℕ → Option ℕ
video_stamp last_stamp plan bytes units n = stamp_by last_stamp (part_at units (place_of units n)) (video_due plan bytes units n)

-- ---- packets

-- Packet n, which carries `part` of a NAL unit. `nal` is the first byte of the unit, and `body` is what the packet
-- carries of the unit's later bytes.
abbrev pub cvf_by : NalPart → Option ℕ → TalkPlan → ℕ → Bool → ℕ → ℕ → List ℕ → Cvf
cvf_by part stamp plan n marker instant nal body = record {
  header = header_of cvf_subtype stamp plan n (header_size part - 24 + length body);
  ptv = true;
  marker = marker;
  evt = 0;
  h264_timestamp = timestamp_of instant;
  nal = nal;
  part = part;
  body = body;
  reserved = false;
}

-- packet n of the packets that carry `units` of a byte stream
abbrev pub cvf_packet : Bool → TalkPlan → List ℕ → List (ℕ × ℕ) → ℕ → Cvf
cvf_packet last_stamp plan bytes units n =
    let place = place_of units n in
    cvf_by (part_at units place) (video_stamp last_stamp plan bytes units n) plan n (ends_access_unit bytes units n)
    (video_due plan bytes units n) (nal_in bytes (unit_at units place.unit)) (body_at bytes units place)

-- packet n of the packets that are sent for a byte stream
abbrev pub sent_packet : Bool → TalkPlan → List ℕ → ℕ → Cvf
sent_packet last_stamp plan bytes n = cvf_packet last_stamp plan bytes (sent_units bytes) n

-- ---- the journal's times

-- the times of the packets that carry `units`
abbrev pub video_times : Bool → TalkPlan → List ℕ → List (ℕ × ℕ) → Journal
video_times last_stamp plan bytes units = record {
  kind = H264 (λ n. part_of (part_at units (place_of units n)));
  rate = plan.rate;
  count = plan.count;
  packets = all_packets units;
  due = λ n. video_due plan bytes units n;
  stamp = λ n. video_stamp last_stamp plan bytes units n;
  mr = λ n. mr_of plan n;
  clock = clock_by plan.crf plan (all_packets units);
}

-- ---- H.264

-- the journal of a plan of H.264: the packets that carry `units` of the input
abbrev pub video_journal : Bool → TalkPlan → List ℕ → List (ℕ × ℕ) → PacketJournal
video_journal last_stamp plan input units = record {
  times = video_times last_stamp plan input units;
  stream = plan.id;
  packet = λ n. H264Data (cvf_packet last_stamp plan input units n);
  clock = clock_id plan.crf;
  clock_packet = λ m. clock_packet_by plan.crf plan (all_packets units) m;
}
