-- The packets that carry the pieces, and their frames.
use Rattle.std.specs.Prelude.{ℕ, suc, ◌+◌, ◌*◌, ◌%◌, ◌^◌, true, false, ℤ, pos, unsigned_abs, List, [], ◌∷◌, ◌++◌, length, take, drop, Option, Some, None, unwrap_or}
use Rattle.std.specs.Int.{int_rem_euclid}
use Rattle.avtp_header.specs.declared.header.StreamHeader.{StreamHeader}
use Rattle.aaf_format.specs.declared.aaf.AafFormat.TheVariants.{Int24}
use Rattle.aaf_format.specs.Aaf.{Aaf as AafPacket, aaf_subtype}
use Rattle.iec61883_format.specs.Iec.{Iec, iec_subtype}
use Rattle.packet_journal.specs.Packets.{PacketView, Pcm, Am824Data}
use Rattle.sample_schedule.specs.Batches.{Presented, sample_instant}
use Rattle.talk_plan.specs.Ethernet.{packet_bytes}
use Rattle.talker.specs.Frames.{SentFrame}
use Rattle.talk_plan.specs.Plan.{fdf_of, rate_code}
use Rattle.am824_gateway.specs.declared.piece.Piece.{Piece}
use Rattle.am824_gateway.specs.declared.scan.Shape.{Shape}
use Rattle.am824_gateway.specs.declared.scan.To.{To}
use Rattle.am824_gateway.specs.declared.scan.To.TheVariants.{Aaf, Am824}
use Rattle.am824_gateway.specs.Labels.{turned, value_in, value_out}
use Rattle.am824_gateway.specs.Pieces.{Given, arrival_at, given_with, nothing_given, pieces_of, skip_by, unless}

-- ---- values

-- the bytes of a piece's values, as they are presented
abbrev pub values_of : To → Shape → Presented → Piece → List ℕ
values_of to shape batch p =
    take (p.count * (value_in to * shape.channels)) (drop (p.first * (value_in to * shape.channels)) batch.bytes)

-- the samples of a piece in the wanted format
abbrev pub samples_of : To → Shape → Presented → Piece → List ℕ
samples_of to shape batch p = turned to (p.count * shape.channels) (values_of to shape batch p)

-- ---- packets

-- the timestamp of an instant: the low 32 bits of the instant (IEEE 1722-2016, 4.4.4)
abbrev pub timestamp_at : ℤ → ℕ
timestamp_at instant = unsigned_abs (int_rem_euclid instant (pos (2 ^ 32)))

-- The stream header of packet n (IEEE 1722-2016, 4.4.4). The header has the timestamp of `instant`. The header states
-- `length` bytes of payload, and signals no media clock restart.
abbrev pub header_at : ℕ → ℕ → ℕ → ℤ → ℕ → StreamHeader
header_at subtype id n instant length = record {
  subtype = subtype;
  sv = true;
  mr = false;
  format_bits = 0;
  tv = true;
  seq = n % 256;
  tu = false;
  stream_id = id;
  timestamp = timestamp_at instant;
  data_length = length;
}

-- a packet of AM824 with these data blocks, as sent by a talker that is on no IEEE 1394 bus
abbrev pub am824_packet : Shape → StreamHeader → Piece → List ℕ → Iec
am824_packet shape header p blocks = record {
  header = header;
  gateway_info = 0;
  channel = 31;
  tcode = 0xA;
  sy = 0;
  cip = record { sid = 63; dbs = shape.channels; dbc = p.block; fdf = unwrap_or (fdf_of shape.rate) 0; syt = 0xFFFF };
  count = p.count;
  payload = blocks;
  reserved = false;
}

-- a packet of PCM of 24 bits with these samples, as sent by a talker that puts a timestamp into each packet
abbrev pub aaf_packet : Shape → StreamHeader → Piece → List ℕ → AafPacket
aaf_packet shape header p samples = record {
  header = header;
  format = Int24;
  nsr = unwrap_or (rate_code shape.rate) 0;
  channels = shape.channels;
  depth = 24;
  sparse = false;
  evt = 0;
  count = p.count;
  payload = samples;
  reserved = false;
}

-- Packet n of the stream with this ID. The packet carries a piece with these samples; the first sample is presented at
-- `instant`.
abbrev pub packet_of : To → Shape → ℕ → ℕ → ℤ → Piece → List ℕ → PacketView
packet_of Am824 shape id n instant p blocks = Am824Data (am824_packet shape (header_at iec_subtype id n instant (8 + p.count * (4 * shape.channels))) p blocks)
packet_of Aaf shape id n instant p samples = Pcm (aaf_packet shape (header_at aaf_subtype id n instant (p.count * (3 * shape.channels))) p samples)

-- ---- frames

-- the number of bytes of a frame's headers in this format: the Ethernet header with its tag, and the headers of the
-- packet
abbrev pub headers_of : To → ℕ
headers_of Am824 = 50
headers_of Aaf = 42

-- the number of bytes of the frame that carries a piece
abbrev pub frame_size : To → Shape → Piece → ℕ
frame_size to shape p = headers_of to + p.count * (value_out to * shape.channels)

-- the arrival and the bytes of the frame of packet n, which carries a piece of a batch
abbrev pub piece_frame : To → Shape → ℕ → ℕ → Presented → Piece → SentFrame
piece_frame to shape id n batch p = record {
  arrival = arrival_at (sample_instant batch p.first);
  number = n;
  clock = false;
  bytes = packet_bytes (packet_of to shape id n (sample_instant batch p.first) p (samples_of to shape batch p));
}

-- the frames of these pieces of a batch; packet n carries the first piece
abbrev pub frames_from : To → Shape → ℕ → ℕ → Presented → List Piece → List SentFrame
frames_from to shape id n batch [] = []
frames_from to shape id n batch (p ∷ pieces) = piece_frame to shape id n batch p ∷ frames_from to shape id (suc n) batch pieces

-- The frames of a batch that is not skipped. `given` is the gateway's history before this batch.
abbrev pub frames_with : To → Shape → ℕ → Given → Presented → List SentFrame
frames_with to shape id given batch = frames_from to shape id given.packets batch (pieces_of to shape batch given.block)

-- ---- all batches

-- The frames of `batches`, which are batches of a stream of this shape. `given` is the gateway's history before the
-- batches. A skipped batch has no frames.
abbrev pub frames_after : To → Shape → ℕ → Given → List Presented → List SentFrame
frames_after to shape id given [] = []
frames_after to shape id given (batch ∷ batches) =
    unless (skip_by to shape given batch)
    (frames_with to shape id given batch ++ frames_after to shape id (given_with to shape given batch) batches)
    (frames_after to shape id given batches)

-- All frames of a gateway that converts to this format and sends under the stream ID `id`. The batches are in order of
-- presentation. If the stream has no shape, there are no frames.
abbrev pub gateway_frames : To → Option Shape → ℕ → List Presented → List SentFrame
gateway_frames to None id batches = []
gateway_frames to (Some shape) id batches = frames_after to shape id nothing_given batches
