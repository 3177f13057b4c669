-- Only private functions and proofs use these definitions. The invariant of a talker.
use Rattle.std.specs.Prelude.{◌≡◌, ◌+◌, ◌≤◌, drop, length}
use Rattle.talker.specs.declared.talker.Talker.TheInside.{Inside}
use Rattle.talker.specs.Frames.{frames}
use Rattle.talker.specs.state.Frames.{left_of}
use Rattle.talk_clock.specs.Streams.{IsClockOf}
use Rattle.talker.specs.state.Talking.{IsSource, input_in, plan_in, stream_in}

-- A talker has a valid plan, the plan's clock, and memory for the longest frame. The plan has remaining frames of two
-- kinds: those of the clock's packets from number `given_clocks` on, and those of the stream's packets from number
-- `given_packets` on.
pub record IsTalker (t : Inside) : Type 0 where
  pub source : IsSource t.source
  pub packets : t.packets ≡ (stream_in t.source).journal.times.packets
  pub clock : IsClockOf t.clock (plan_in t.source) t.packets
  pub clocks : t.clocks ≡ (stream_in t.source).journal.times.clock.packets
  pub given_packets : t.given_packets ≤ t.packets
  pub given_clocks : t.given_clocks ≤ t.clocks
  pub left : drop (t.given_clocks + t.given_packets) (frames (plan_in t.source) (input_in t.source))
      ≡ left_of (stream_in t.source) t.given_clocks t.given_packets
  pub room : length t.frame.items ≡ 1518
