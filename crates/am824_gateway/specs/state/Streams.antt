-- Only private functions and proofs use these definitions. What the packets of a stream have in
-- common.
use Rattle.std.specs.Prelude.{◌≡◌, ℕ, ◌+◌, ◌*◌, ◌≤◌, pos, List, [], length, take}
use Rattle.talk_plan.specs.Ethernet.{packet_bytes}
use Rattle.am824_gateway.specs.declared.packet.Stream.{Stream}
use Rattle.am824_gateway.specs.declared.piece.Piece.{Piece}
use Rattle.am824_gateway.specs.declared.scan.Shape.{Shape}
use Rattle.am824_gateway.specs.declared.scan.To.{To}
use Rattle.am824_gateway.specs.declared.scan.To.TheVariants.{Aaf, Am824}
use Rattle.am824_gateway.specs.Labels.{value_in}
use Rattle.am824_gateway.specs.Packets.{frame_size, headers_of, packet_of}
use Rattle.am824_gateway.specs.Pieces.{most_frames}
use Rattle.am824_gateway.specs.Scan.{IsShape}

-- a piece without samples
abbrev pub no_samples : Piece
no_samples = record { first = 0; count = 0; block = 0 }

-- these bytes begin with the headers of a frame without samples
abbrev pub HasHeaders : To → Shape → ℕ → List ℕ → Type 0
HasHeaders to shape id headers = take (headers_of to) headers ≡ packet_bytes (packet_of to shape id 0 (pos 0) no_samples [])

-- the number of bytes that follow the stream header in a packet that carries this piece
abbrev pub stated_of : To → Shape → Piece → ℕ
stated_of Am824 shape p = 8 + p.count * (4 * shape.channels)
stated_of Aaf shape p = p.count * (3 * shape.channels)

-- The stream's shape can be converted, and `s.headers` begins with the headers of a frame that has no samples.
pub record IsStream (s : Stream) : Type 0 where
  pub shape : IsShape s.shape
  pub headers : HasHeaders s.to s.shape s.id s.headers

-- `out` has the length of the headers of the stream's frames.
pub record TakesHeaders (s : Stream) (out : List ℕ) : Type 0 where
  pub stream : IsStream s
  pub room : length out ≡ headers_of s.to

-- A packet of the stream can carry the piece. The piece has these values, and `out` has the length of the piece's frame.
pub record TakesFrame (s : Stream) (p : Piece) (values out : List ℕ) : Type 0 where
  pub stream : IsStream s
  pub fits : p.count ≤ most_frames s.to s.shape.channels
  pub size : length values ≡ p.count * (value_in s.to * s.shape.channels)
  pub room : length out ≡ frame_size s.to s.shape p
