use Rattle.std.proofs.Common.{◌≡◌, length, map, take}
use Rattle.std.specs.List.{range_with_len}
use Rattle.talk_clock.specs.Clock.{clock_point, first_point, points_size}
use Rattle.talk_clock.proofs.clock.ClockStream.write_points.Given as goal

abbrev pub invariant-loop-i : goal.invariant-loop-i
invariant-loop-i l = record {
  size : length l.points ≡ points_size l.self.crf l.self.plan l.self.stream l.fn.m;
  begun : take l.i l.points ≡ map (clock_point l.self.crf l.self.plan) (range_with_len (first_point l.self.crf l.fn.m) l.i);
}
