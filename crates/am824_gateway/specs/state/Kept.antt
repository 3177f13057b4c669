-- Only private functions and proofs use these definitions. The invariant of a gateway.
use Rattle.std.specs.Prelude.{◌≡◌, ℕ, ◌+◌, ◌*◌, ◌^◌, ◌≤◌, false, List, [], length, Option, Some, None, IfSome}
use Rattle.std.specs.List.{AllByRecursion}
use Rattle.sample_schedule.specs.Batches.{IsPresentable, Presented}
use Rattle.talker.specs.Frames.{SentFrame}
use Rattle.am824_gateway.specs.declared.gateway.Current.{Current}
use Rattle.am824_gateway.specs.declared.gateway.Gateway.TheInside.{Inside}
use Rattle.am824_gateway.specs.declared.piece.Piece.{Piece}
use Rattle.am824_gateway.specs.declared.scan.Shape.{Shape}
use Rattle.am824_gateway.specs.declared.scan.To.{To}
use Rattle.am824_gateway.specs.Labels.{value_in}
use Rattle.am824_gateway.specs.Packets.{frames_from}
use Rattle.am824_gateway.specs.Pieces.{is_late, most_frames}
use Rattle.am824_gateway.specs.Scan.{IsShape}
use Rattle.am824_gateway.specs.state.Streams.{HasHeaders, IsStream}

-- A piece has at least one sample, lies within its batch and fits one packet, and this packet arrives early enough for
-- a capture.
pub record IsWithin (to : To) (shape : Shape) (batch : Presented) (p : Piece) : Type 0 where
  pub inside : p.first + p.count ≤ batch.count
  pub some : 1 ≤ p.count
  pub fits : p.count ≤ most_frames to shape.channels
  pub in_time : is_late batch p ≡ false

-- The batch has the stream's shape, and each of `pieces` lies within the batch.
pub record IsCut (c : Current) (pieces : List Piece) : Type 0 where
  pub stream : IsStream c.stream
  pub presentable : IsPresentable c.batch
  pub size : length c.batch.bytes ≡ c.batch.count * (value_in c.stream.to * c.stream.shape.channels)
  pub within : AllByRecursion (IsWithin c.stream.to c.stream.shape c.batch) pieces

-- The gateway holds the last batch that was not skipped, and this batch is cut into these pieces. If the gateway holds
-- no batch, there are no pieces.
abbrev pub IsCutFrom : Option Current → List Piece → Type 0
IsCutFrom None pieces = pieces ≡ []
IsCutFrom (Some c) pieces = IsCut c pieces

-- the frames of the last batch that was not skipped, if there is one
abbrev pub frames_in : Option Current → List Piece → List SentFrame
frames_in None pieces = []
frames_in (Some c) pieces = frames_from c.stream.to c.stream.shape c.stream.id c.first c.batch pieces

-- the number of packets before those of the last batch that was not skipped
abbrev pub first_in : Option Current → ℕ
first_in None = 0
first_in (Some c) = c.first

-- The invariant of every gateway `g`. `g.pieces` are the pieces of the last batch that was not skipped. The counters
-- are within bounds. The buffer is as long as the longest frame.
pub record IsGateway (g : Inside) : Type 0 where
  pub shape : IfSome g.shape IsShape
  pub headers : IfSome g.shape (λ shape. HasHeaders g.to shape g.id g.headers)
  pub cut : IsCutFrom g.current g.pieces.list.items
  pub packets : first_in g.current + length g.pieces.list.items ≤ g.packets
  pub few : g.packets ≤ 65535 * g.batches
  pub batches : g.batches ≤ 2 ^ 44
  pub frame : length g.frame.items ≡ 1518
