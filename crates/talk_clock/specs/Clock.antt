-- The media clock of a plan: its points and its packets.
use Rattle.std.specs.Prelude.{ℕ, ◌-◌, ◌*◌, ◌/◌, ◌%◌, min, Bool, true, false, List, map, flat_map, Option, Some, None, [], ◌+◌, ◌^◌, ◌<◌, ◌≤◌}
use Rattle.std.specs.Int.{div_ceil}
use Rattle.std.specs.List.{range_with_len}
use Rattle.byteorder.specs.Endian.{big_bytes}
use Rattle.crf_format.specs.Crf.{Crf, crf_of, crf_spelling}
use Rattle.packet_journal.specs.Packets.{audio_sample_type}
use Rattle.stream_journal.specs.Clocks.{ClockJournal, no_clock}
use Rattle.talk_plan.specs.declared.plan.CrfPlan.{CrfPlan}
use Rattle.talk_plan.specs.declared.plan.TalkPlan.{TalkPlan}
use Rattle.talk_plan.specs.Plan.{spacing_of}
use Rattle.talk_plan.specs.Timing.{mr_of, nominal_instant, seq_of}
use Rattle.pcap_frames.specs.Frame.{frame_spelling}
use Rattle.talk_plan.specs.Ethernet.{ethernet}

-- ---- the points

-- The sample frame of point s, counted through the whole stream. The clock has a point at the first sample frame of the
-- stream, and then one every `spacing_of` sample frames.
abbrev pub frame_at : CrfPlan → TalkPlan → ℕ → ℕ
frame_at crf plan s = s * spacing_of crf plan.rate

-- the instant of point s: the nominal instant of the point's sample frame
unfoldable pub clock_point : CrfPlan → TalkPlan → ℕ → ℕ
clock_point crf plan s = nominal_instant plan (frame_at crf plan s / plan.count) (frame_at crf plan s % plan.count)

-- the number of points of a stream of this many packets, including points at sample frames that only fill up the last
-- packet
abbrev pub points_for : CrfPlan → TalkPlan → ℕ → ℕ
points_for crf plan packets = div_ceil (packets * plan.count) (spacing_of crf plan.rate)

-- the number of points of a run of this many packets
abbrev pub run_points : CrfPlan → TalkPlan → ℕ → ℕ
run_points crf plan packets = packets * plan.count / spacing_of crf plan.rate

-- ---- the packets

-- the number of clock packets that are needed for all points; the last packet can be partly filled
abbrev pub clock_packets : CrfPlan → TalkPlan → ℕ → ℕ
clock_packets crf plan packets = div_ceil (points_for crf plan packets) crf.points

-- the number of the first point of clock packet m, counted among all points
abbrev pub first_point : CrfPlan → ℕ → ℕ
first_point crf m = m * crf.points

-- the number of points of clock packet m
abbrev pub points_size : CrfPlan → TalkPlan → ℕ → ℕ → ℕ
points_size crf plan packets m = min crf.points (points_for crf plan packets - first_point crf m)

-- the points of clock packet m
unfoldable pub points_in : CrfPlan → TalkPlan → ℕ → ℕ → List ℕ
points_in crf plan packets m = map (clock_point crf plan) (range_with_len (first_point crf m) (points_size crf plan packets m))

-- The restart bit of clock packet m. The packet's first point is at a sample frame of the stream. The stream packet
-- with this sample frame has the same restart bit.
abbrev pub clock_mr : CrfPlan → TalkPlan → ℕ → Bool
clock_mr crf plan m = mr_of plan (frame_at crf plan (first_point crf m) / plan.count)

-- clock packet m (IEEE 1722-2016, 10)
abbrev pub clock_packet : CrfPlan → TalkPlan → ℕ → ℕ → Crf
clock_packet crf plan packets m = record {
  sv = true;
  mr = clock_mr crf plan m;
  fs = false;
  tu = false;
  seq = seq_of m;
  kind = audio_sample_type;
  stream_id = crf.id;
  pull = crf.pull;
  base_frequency = crf.rate;
  interval = crf.interval;
  payload = flat_map (big_bytes 8) (points_in crf plan packets m);
  reserved = false;
}

-- the time at which clock packet m is sent: the instant of the packet's first point minus the plan's lead
abbrev pub clock_arrival : CrfPlan → TalkPlan → ℕ → ℕ
clock_arrival crf plan m = clock_point crf plan (first_point crf m) - plan.lead

-- ---- the clock's journal

-- the journal of the clock that is sent with a stream of this many packets
abbrev pub clock_times : CrfPlan → TalkPlan → ℕ → ClockJournal
clock_times crf plan packets = record {
  base = crf.rate;
  pull = crf.pull;
  interval = crf.interval;
  packets = clock_packets crf plan packets;
  points = λ m. points_in crf plan packets m;
  mr = λ m. clock_mr crf plan m;
}

-- The journal of the plan's clock that is sent with a stream of this many packets. If the plan has no clock, the result
-- is the journal of a clock without packets.
abbrev pub clock_by : Option CrfPlan → TalkPlan → ℕ → ClockJournal
clock_by None plan packets = no_clock
clock_by (Some crf) plan packets = clock_times crf plan packets

-- ---- audio

-- the stream ID of the clock; 0 if there is no clock
abbrev pub clock_id : Option CrfPlan → ℕ
clock_id None = 0
clock_id (Some crf) = crf.id

-- packet m of the clock that is sent with a stream of this many packets; a placeholder if there is no clock
abbrev pub clock_packet_by : Option CrfPlan → TalkPlan → ℕ → ℕ → Crf
clock_packet_by None plan packets m = crf_of []
clock_packet_by (Some crf) plan packets m = clock_packet crf plan packets m

-- ---- streams

-- the time at which packet m of the clock is sent; 0 if there is no clock
abbrev pub clock_arrival_by : Option CrfPlan → TalkPlan → ℕ → ℕ
clock_arrival_by None plan m = 0
clock_arrival_by (Some crf) plan m = clock_arrival crf plan m

-- ---- the packets of the clock

-- the bytes of a clock packet's frame
unfoldable pub clock_bytes : Crf → List ℕ
clock_bytes packet = frame_spelling (ethernet (crf_spelling packet))

-- The sample frames of this many packets can be counted: no packet begins after sample frame 2^28. An input has at most
-- 2^28 sample frames.
abbrev pub AreFew : TalkPlan → ℕ → Type 0
AreFew plan packets = (n : ℕ) → n < packets → n * plan.count ≤ 2 ^ 28

-- the length of the frame of packet m: the Ethernet header with its tag, the packet's header, and 8 bytes for each
-- point
abbrev pub clock_frame_size : CrfPlan → TalkPlan → ℕ → ℕ → ℕ
clock_frame_size crf plan packets m = 38 + 8 * points_size crf plan packets m
