-- The stream that is sent over a bad network, the capture of its deliveries, and the listener that hears the capture.
-- The stream, the capture and the listener are defined by this project, not by a standard.
use Rattle.std.specs.Prelude.{ℕ, ℤ, pos, ◌-◌, ◌*◌, ◌%◌, List, ◌++◌, map, None}
use Rattle.std.specs.List.{flat_map, range_with_len}
use Rattle.byteorder.specs.Endian.{big_bytes}
use Rattle.pcap_frames.specs.Capture.{Record, capture_spelling}
use Rattle.listener.specs.declared.plan.ListenPlan.{ListenPlan}
use Rattle.talker.specs.Frames.{capture_style, frame_of, record_of}
use Rattle.talker.specs.Journal.{Stream, stream_of}
use Rattle.soak_run.specs.Network.{deliveries_of, soak_plan}

-- ---- what is sent

-- sample frame k: two samples of 16 bits, one that rises with k and one that falls with k
abbrev pub sample_frame : ℕ → List ℕ
sample_frame k = big_bytes 2 (k % 65536) ++ big_bytes 2 (65535 - k % 65536)

-- sample frames 0 to `number` - 1, in order
abbrev pub sample_frames : ℕ → List ℕ
sample_frames number = flat_map sample_frame (range_with_len 0 number)

-- the samples of `packets` packets, six sample frames in each
unfoldable pub soak_input : ℕ → List ℕ
soak_input packets = sample_frames (6 * packets)

-- the stream of `packets` packets
unfoldable pub soak_stream : ℕ → Stream
soak_stream packets = stream_of soak_plan (soak_input packets)

-- ---- what is captured

-- the record of a delivery: the frame of the delivered packet, captured whole when it arrives
abbrev pub captured : Stream → ℤ × ℕ → Record
captured stream delivery = record_of (record (frame_of stream delivery.1) { arrival = delivery.0 })

-- the records of all deliveries of this many packets
unfoldable pub soak_records : ℕ → List Record
soak_records packets = map (captured (soak_stream packets)) (deliveries_of packets)

-- the capture of all deliveries of this many packets
abbrev pub soak_capture : ℕ → List ℕ
soak_capture packets = capture_spelling capture_style (soak_records packets)

-- ---- who listens

-- a listener that expects the stream, and looks 32 items ahead
abbrev pub soak_listener : ListenPlan
soak_listener = record {
  stream = 0x0200000000010001;
  clock = None;
  buffer = 4096;
  room = 67108864;
  look = 32;
  lead = 2000000;
  shift = pos 0;
}
