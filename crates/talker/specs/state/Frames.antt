-- Only private functions and proofs use these definitions. The frames of a plan, and the capture that
-- they make.
use Rattle.std.specs.Prelude.{ℕ, ◌-◌, List, ◌++◌, map}
use Rattle.std.specs.List.{range_with_len}
use Rattle.talker.specs.Journal.{Stream}
use Rattle.talker.specs.Frames.{SentFrame, frame_of, clock_frame_of, by_arrival}

-- the frames that are left after `clocks` packets of the clock and `packets` packets of the stream were sent
abbrev pub left_of : Stream → ℕ → ℕ → List SentFrame
left_of stream clocks packets =
    by_arrival (map (clock_frame_of stream) (range_with_len clocks (stream.journal.times.clock.packets - clocks))
    ++ map (frame_of stream) (range_with_len packets (stream.journal.times.packets - packets)))
