-- Only private functions and proofs use these definitions. How a batch is cut.
use Rattle.std.specs.Prelude.{◌≡◌, ℕ, ◌+◌, ◌-◌, ◌<◌, ◌≤◌, Bool, min, pos, List, length}
use Rattle.std.specs.List.{list_any}
use Rattle.sample_schedule.specs.Batches.{Presented}
use Rattle.sample_schedule.specs.Instants.{IsInstantOf}
use Rattle.sample_schedule.specs.declared.instants.Instant.{Instant}
use Rattle.talk_plan.specs.Plan.{interval_of}
use Rattle.am824_gateway.specs.declared.piece.Piece.{Piece}
use Rattle.am824_gateway.specs.declared.scan.Shape.{Shape}
use Rattle.am824_gateway.specs.declared.scan.To.{To}
use Rattle.am824_gateway.specs.Pieces.{block_after, going_on, is_late, is_nominal, most_frames, pieces_of}
use Rattle.am824_gateway.specs.Scan.{IsShape}

-- A piece begins at the instant `i` of a sample of the batch. The nominal rate is `rate`, and a packet has at most
-- `most` sample frames.
pub record BeginsPiece (rate most : ℕ) (batch : Presented) (i : Instant) : Type 0 where
  pub is : IsInstantOf i batch
  pub inside : i.j < batch.count
  pub some_rate : 1 ≤ rate
  pub some : 1 ≤ most

-- The piece that begins at the instant `old` has `count` samples. The first sample after the piece is at the instant
-- `new`.
pub record CountsPiece (rate most : ℕ) (batch : Presented) (old new : Instant) (count : ℕ) : Type 0 where
  pub value : count ≡ going_on (is_nominal rate batch old.j) 1 (min most (batch.count - old.j) - 1)
  pub some : 1 ≤ count
  pub within : old.j + count ≤ batch.count
  pub after : new.j ≡ old.j + count
  pub is : IsInstantOf new batch

-- A batch is cut into `pieces`, and the first piece has the block count `block`. `next` is the block count of the
-- packet after `pieces`. `late` says whether the packet of some piece would arrive at a time that a capture cannot
-- state.
pub record CutsBatch (to : To) (shape : Shape) (batch : Presented) (block : ℕ) (pieces : List Piece) (next : ℕ) (late : Bool) : Type 0 where
  pub cut : pieces ≡ pieces_of to shape batch block
  pub following : next ≡ block_after (interval_of shape.rate) block (pieces_of to shape batch block)
  pub in_time : late ≡ list_any (is_late batch) (pieces_of to shape batch block)
  pub few : length pieces ≤ batch.count

-- The shape can be converted. The batch's line has the nominal rate and begins at the first sample, and one packet can
-- carry all samples.
pub record IsOnePiece (to : To) (shape : Shape) (batch : Presented) : Type 0 where
  pub known : IsShape shape
  pub begun : batch.from ≡ pos 0
  pub num : batch.line.num ≡ 1000000000
  pub den : batch.line.den ≡ shape.rate
  pub fits : batch.count ≤ most_frames to shape.channels
