-- A gateway, as its contracts state it.
use Rattle.std.specs.Prelude.{◌≡◌, ℕ, ◌≤◌, pos, ◌≤ℤ◌, ◌<ℤ◌, List, length, slice_get, Option, Some, None, Result, IfOk, IfErr, OnOk, OnErr}
use Rattle.std.specs.Option.{option_map}
use Rattle.sample_schedule.specs.Batches.{Presented}
use Rattle.talker.specs.declared.turn.Turn.{Turn}
use Rattle.talker.specs.Frames.{SentFrame}
use Rattle.talker.specs.Turns.{turn_of}
use Rattle.am824_gateway.specs.declared.scan.Shape.{Shape}
use Rattle.am824_gateway.specs.declared.scan.To.{To}
use Rattle.am824_gateway.specs.declared.skip.Skip.{Skip}
use Rattle.am824_gateway.specs.Packets.{frames_with}
use Rattle.am824_gateway.specs.Pieces.{Given, captures_end, given_with, skip_of}

-- A gateway has five things: the format that it converts a stream to; the shape of that stream; the stream ID that it
-- sends under; its history (`given`); and the frames of the last batch that was not skipped.
pub record Gating : Type 0 where
  pub to : To
  pub shape : Option Shape
  pub id : ℕ
  pub given : Given
  pub frames : List SentFrame

-- The gateway after a batch, if the batch is not skipped. If there is no shape, each batch is skipped, so the result is
-- the unchanged gateway.
abbrev pub given_out : Option Shape → Gating → Presented → Gating
given_out None g batch = g
given_out (Some shape) g batch = record g {
  given = given_with g.to shape g.given batch;
  frames = frames_with g.to shape g.id g.given batch;
}

-- What a gateway does with the next batch. If the batch is not skipped, the gateway has the batch's history and frames
-- afterwards, and the result is the number of these frames. If the batch is skipped, the result is the reason, and the
-- gateway does not change.
pub record TakesBatch (batch : Presented) (old new : Gating) (result : Result ℕ Skip) : Type 0 where
  pub given : OnOk result (new ≡ given_out old.shape old batch)
  pub number : IfOk result (λ number. number ≡ length new.frames)
  pub taken : OnOk result (skip_of old.to old.shape old.given batch ≡ None)
  pub skip : IfErr result (λ skip. skip_of old.to old.shape old.given batch ≡ Some skip)
  pub same : OnErr result (new ≡ old)

-- `frame` is frame i of the last batch that was not skipped, and a frame has at most 1518 bytes.
pub record IsPieceFrame (g : Gating) (i : ℕ) (frame : SentFrame) : Type 0 where
  pub is : slice_get g.frames i ≡ Some frame
  pub most : length frame.bytes ≤ 1518

-- `turn` states the arrival, number and size of frame i of the last batch that was not skipped. A capture can hold this
-- frame: the frame has at most 1518 bytes, and arrives at 0 or later and before 2^32 seconds.
pub record IsPieceTurn (g : Gating) (i : ℕ) (turn : Turn) : Type 0 where
  pub is : option_map turn_of (slice_get g.frames i) ≡ Some turn
  pub begun : pos 0 ≤ℤ turn.arrival
  pub ended : turn.arrival <ℤ pos captures_end
  pub most : turn.size ≤ 1518
