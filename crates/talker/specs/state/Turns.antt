-- Only private functions and proofs use these definitions. What a talker sends next, before its frame
-- is built.
use Rattle.std.specs.Prelude.{◌≡◌, ℕ, ◌<◌, ◌≤◌, Bool, true, false, List, Option, length}
use Rattle.talker.specs.declared.turn.Turn.{Turn}
use Rattle.talker.specs.Frames.{SentFrame, capture_style, clock_frame_of, frame_of, record_of, sent_frame}
use Rattle.talker.specs.declared.sent.Sent.{Sent}
use Rattle.pcap_frames.specs.Capture.{HasSpelling}
use Rattle.talker.specs.Journal.{Stream}
use Rattle.talk_clock.specs.declared.clock.ClockStream.{ClockStream}
use Rattle.talk_clock.specs.Streams.{IsClockOf}
use Rattle.talker.specs.declared.source.Source.{Source}
use Rattle.talker.specs.state.Talking.{IsSource, plan_in, stream_in}

-- ---- the packet that a turn sends

-- the number of packets of the clock (`true`) or of the stream (`false`)
abbrev pub packets_by : Bool → Stream → ℕ
packets_by true s = s.journal.times.clock.packets
packets_by false s = s.journal.times.packets

-- the frame of a packet of the clock (`true`) or of the stream (`false`)
abbrev pub frame_by : Bool → Stream → ℕ → SentFrame
frame_by true s m = clock_frame_of s m
frame_by false s n = frame_of s n

abbrev pub turn_frame : Stream → Turn → SentFrame
turn_frame s turn = frame_by turn.clock s turn.number

-- the packet of the turn exists, and its frame has the turn's arrival and size
pub record SendsPacket (s : Stream) (turn : Turn) : Type 0 where
  pub known : turn.number < packets_by turn.clock s
  pub arrival : turn.arrival ≡ (turn_frame s turn).arrival
  pub size : turn.size ≡ length (turn_frame s turn).bytes

-- the turn sends packet `number` of the clock or of the stream
pub record IsTurnOf (s : Stream) (clock : Bool) (number : ℕ) (turn : Turn) : Type 0 where
  pub sends : SendsPacket s turn
  pub number_is : turn.number ≡ number
  pub clock_is : turn.clock ≡ clock

-- `turn` sends a packet of the stream or of the clock of `source`, and `clock` is the clock of `source`
pub record IsSending (source : Source) (clock : Option ClockStream) (turn : Turn) : Type 0 where
  pub source_is : IsSource source
  pub clock_is : IsClockOf clock (plan_in source) (stream_in source).journal.times.packets
  pub sends : SendsPacket (stream_in source) turn

-- `turn` sends a packet of the stream or of the clock of `source`, and `out` has `size` bytes
pub record SendsInto (source : Source) (clock : Option ClockStream) (turn : Turn) (size : ℕ) (out : List ℕ) : Type 0 where
  pub sending : IsSending source clock turn
  pub room : length out ≡ size

-- the lent frame is the frame of the turn; a capture can record the frame, and it has at most 1518 bytes
pub record IsLent (s : Stream) (turn : Turn) (sent : Sent) : Type 0 where
  pub frame : sent_frame sent ≡ turn_frame s turn
  pub fits : HasSpelling capture_style (record_of (sent_frame sent))
  pub size : length sent.bytes.now ≤ 1518
