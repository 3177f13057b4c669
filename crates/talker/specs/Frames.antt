-- The frames of a plan, and the capture that they make.
use Rattle.std.specs.Prelude.{ℕ, Bool, true, false, if◌then◌else◌, ℤ, pos, int_le, ◌≤ℤ◌, List, [], ◌∷◌, ◌++◌, length, map, slice_get, ⊤}
use Rattle.std.specs.List.{filter_map, range_with_len}
use Rattle.pcap_frames.specs.declared.style.Order.TheVariants.{Little}
use Rattle.pcap_frames.specs.declared.style.Style.{Style}
use Rattle.pcap_frames.specs.declared.style.Unit.TheVariants.{Nano}
use Rattle.pcap_frames.specs.Capture.{Record, capture_spelling}
use Rattle.stream_journal.specs.Delivered.{AreNear}
use Rattle.stream_journal.specs.Journal.{Journal}
use Rattle.talk_plan.specs.declared.plan.TalkKind.{TalkKind}
use Rattle.talk_plan.specs.declared.plan.TalkKind.TheVariants.{Aaf, Am824, H264}
use Rattle.talk_plan.specs.declared.plan.TalkPlan.{TalkPlan}
use Rattle.talker.specs.declared.sent.Sent.{Sent}
use Rattle.talker.specs.Journal.{Stream, journal, stream_of}
use Rattle.talk_clock.specs.Clock.{clock_bytes}
use Rattle.talk_plan.specs.Ethernet.{packet_bytes}

-- A frame as it is sent: its time, the number of its packet in the stream or in the clock, whether it belongs to the
-- clock, and its bytes.
pub record SentFrame : Type 0 where
  pub arrival : ℤ
  pub number : ℕ
  pub clock : Bool
  pub bytes : List ℕ

-- a borrowed frame as a plain value, without the location of its bytes in memory
abbrev pub sent_frame : Sent → SentFrame
sent_frame s = record { arrival = s.arrival; number = s.number; clock = s.clock; bytes = s.bytes.now }

-- ---- the packets of the stream

-- the frame of packet n of a stream
abbrev pub frame_of : Stream → ℕ → SentFrame
frame_of stream n = record {
  arrival = pos (stream.arrival n);
  number = n;
  clock = false;
  bytes = packet_bytes (stream.journal.packet n);
}

-- the frames of a stream, in the order of their packets' numbers
abbrev pub numbered_frames : Stream → List SentFrame
numbered_frames stream = map (frame_of stream) (range_with_len 0 stream.journal.times.packets)

-- the frames of a plan's stream, in the order of their packets' numbers
abbrev pub stream_frames : TalkPlan → List ℕ → List SentFrame
stream_frames plan input = numbered_frames (stream_of plan input)

-- ---- the packets of the clock

-- the frame of packet m of the clock
abbrev pub clock_frame_of : Stream → ℕ → SentFrame
clock_frame_of stream m = record {
  arrival = pos (stream.clock_arrival m);
  number = m;
  clock = true;
  bytes = clock_bytes (stream.journal.clock_packet m);
}

-- the frames of a clock, in the order of their packets' numbers
abbrev pub numbered_clock : Stream → List SentFrame
numbered_clock stream = map (clock_frame_of stream) (range_with_len 0 stream.journal.times.clock.packets)

-- the frames of a plan's clock, in the order of their packets' numbers
abbrev pub clock_frames : TalkPlan → List ℕ → List SentFrame
clock_frames plan input = numbered_clock (stream_of plan input)

-- ---- all frames

-- the list with the frame inserted: the frame comes directly before the first frame that arrives at the same time or
-- later, or else at the end
abbrev pub put_in : SentFrame → List SentFrame → List SentFrame
put_in f [] = f ∷ []
put_in f (g ∷ frames) = if int_le f.arrival g.arrival then f ∷ g ∷ frames else g ∷ put_in f frames

-- the frames sorted by arrival; frames with equal arrivals keep their order
abbrev pub by_arrival : List SentFrame → List SentFrame
by_arrival [] = []
by_arrival (f ∷ frames) = put_in f (by_arrival frames)

-- All frames, sorted by arrival. At equal arrivals, frames of the clock precede those of the stream, and lower numbers
-- precede higher ones.
abbrev pub frames : TalkPlan → List ℕ → List SentFrame
frames plan input = by_arrival (clock_frames plan input ++ stream_frames plan input)

-- no frame arrives before its predecessor
abbrev pub RiseByArrival : List SentFrame → Type 0
RiseByArrival [] = ⊤
RiseByArrival (f ∷ []) = ⊤
RiseByArrival (f ∷ g ∷ frames) = (f.arrival ≤ℤ g.arrival) × RiseByArrival (g ∷ frames)

-- the plan's frames at the indices `places`, in that order; `places` can leave out, repeat or reorder frames
abbrev pub frames_at : TalkPlan → List ℕ → List ℕ → List SentFrame
frames_at plan input places = filter_map (slice_get (frames plan input)) places

-- ---- which packets are near each other

-- the packet numbers of the frames that do not belong to the clock
abbrev pub packet_numbers : List SentFrame → List ℕ
packet_numbers [] = []
packet_numbers (f ∷ frames) = if f.clock then packet_numbers frames else f.number ∷ packet_numbers frames

-- If a stream of H.264 stamps only last fragments, adjacent packets in the list of numbers are near each other. Nothing
-- is required of a stream that is not H.264, or of a stream that stamps every fragment.
abbrev pub StaysNearBy : TalkKind → Journal → List ℕ → Type 0
StaysNearBy (Aaf format sparse) j numbers = ⊤
StaysNearBy Am824 j numbers = ⊤
StaysNearBy (H264 false) j numbers = ⊤
StaysNearBy (H264 true) j numbers = AreNear j numbers

-- If a plan stamps only the last fragment of each NAL unit, two adjacent captured packets are both stamped, or their
-- numbers differ by at most 254. The limit is needed because fragments without a timestamp are told apart only by their
-- sequence numbers.
abbrev pub StaysNear : TalkPlan → List ℕ → List SentFrame → Type 0
StaysNear plan input frames = StaysNearBy plan.kind (journal plan input).times (packet_numbers frames)

-- ---- the capture

-- a little-endian capture with nanoseconds
abbrev pub capture_style : Style
capture_style = record { order = Little; unit = Nano }

-- the record of a frame that is captured whole
abbrev pub record_of : SentFrame → Record
record_of f = record { arrival = f.arrival; orig_len = length f.bytes; bytes = f.bytes }

-- the records of a plan's capture, in order
abbrev pub records : TalkPlan → List ℕ → List Record
records plan input = map record_of (frames plan input)

-- the bytes of a capture of frames
abbrev pub capture_of : List SentFrame → List ℕ
capture_of frames = capture_spelling capture_style (map record_of frames)

-- the bytes of a plan's capture
abbrev pub capture : TalkPlan → List ℕ → List ℕ
capture plan input = capture_of (frames plan input)
