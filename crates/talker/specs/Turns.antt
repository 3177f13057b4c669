-- What a talker sends next, before its frame is built.
use Rattle.std.specs.Prelude.{◌≡◌, ℕ, ◌*◌, ◌^◌, ◌≤◌, pos, ◌≤ℤ◌, ◌<ℤ◌, List, length, slice_get, option_map, Some}
use Rattle.talker.specs.declared.turn.Turn.{Turn}
use Rattle.talker.specs.Frames.{SentFrame, frames}
use Rattle.talker.specs.Talking.{Talking}

-- the frame with the fields of a turn and with the given bytes
abbrev pub frame_in : Turn → List ℕ → SentFrame
frame_in turn bytes = record { arrival = turn.arrival; number = turn.number; clock = turn.clock; bytes = bytes }

-- the turn of a frame; the turn holds the number of the frame's bytes, but not the bytes themselves
abbrev pub turn_of : SentFrame → Turn
turn_of f = record { arrival = f.arrival; number = f.number; clock = f.clock; size = length f.bytes }

-- `turn` is the turn of the talker's next frame. A capture can record the frame: the arrival is at least 0 and below
-- 2^32 seconds, and the frame has at most 1518 bytes.
pub record IsTurn (t : Talking) (turn : Turn) : Type 0 where
  pub next : option_map turn_of (slice_get (frames t.plan t.input) t.given) ≡ Some turn
  pub begun : pos 0 ≤ℤ turn.arrival
  pub ended : turn.arrival <ℤ pos (2 ^ 32 * 1000000000)
  pub most : turn.size ≤ 1518
