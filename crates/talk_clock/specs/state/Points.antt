-- Only private functions and proofs use these definitions. The points of a clock, one by one.
use Rattle.std.specs.Prelude.{◌≡◌, ℕ, ◌+◌, ◌*◌, ◌/◌, ◌%◌, ◌^◌, ◌<◌, ◌≤◌, List, flat_map, length}
use Rattle.byteorder.specs.Endian.{big_bytes}
use Rattle.talk_clock.specs.declared.clock.ClockStream.{ClockStream}
use Rattle.talk_clock.specs.Clock.{clock_point, first_point, frame_at, points_in, points_size}
use Rattle.talk_clock.specs.Streams.{IsPacketOfClock, IsPointOfClock}
use Rattle.talk_plan.specs.Places.{IsFrameOf}

-- `s` is the number of the first point of packet m, and the clock has this point
pub record IsFirstPoint (c : ClockStream) (m s : ℕ) : Type 0 where
  pub value : s ≡ first_point c.crf m
  pub known : IsPointOfClock c s

-- point s is at sample frame `within` of the stream's packet `packet`
pub record IsPlaceOf (c : ClockStream) (s packet within : ℕ) : Type 0 where
  pub packet_is : packet ≡ frame_at c.crf c.plan s / c.plan.count
  pub within_is : within ≡ frame_at c.crf c.plan s % c.plan.count
  pub frame : IsFrameOf c.plan packet within

-- `instant` is the instant of point s; the packet of the point is sent within 2^32 seconds
pub record IsInstantOf (c : ClockStream) (s instant : ℕ) : Type 0 where
  pub value : instant ≡ clock_point c.crf c.plan s
  pub lead : c.plan.lead ≤ instant
  pub bound : instant < c.plan.lead + 2 ^ 32 * 1000000000

-- packet m has `size` points, which are 1 to 180
pub record IsSizeOf (c : ClockStream) (m size : ℕ) : Type 0 where
  pub value : size ≡ points_size c.crf c.plan c.stream m
  pub some : 1 ≤ size
  pub bound : size ≤ 180

-- the clock has a packet m, and `points` is as long as the list of the packet's points
pub record TakesPoints (c : ClockStream) (m : ℕ) (points : List ℕ) : Type 0 where
  pub packet : IsPacketOfClock c m
  pub room : length points ≡ points_size c.crf c.plan c.stream m

-- the clock has a packet m, and `out` has 8 bytes for each of the packet's points
pub record TakesTimestamps (c : ClockStream) (m : ℕ) (out : List ℕ) : Type 0 where
  pub packet : IsPacketOfClock c m
  pub room : length out ≡ 8 * points_size c.crf c.plan c.stream m

-- the clock has a packet m, and `timestamps` are the bytes of the packet's points
pub record HasTimestamps (c : ClockStream) (m : ℕ) (timestamps : List ℕ) : Type 0 where
  pub packet : IsPacketOfClock c m
  pub whole : timestamps ≡ flat_map (big_bytes 8) (points_in c.crf c.plan c.stream m)
