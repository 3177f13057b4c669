-- Plans that meet the premises.
use Rattle.std.proofs.Common.{ℕ, ◌≤◌, List, length, None, refl, arith}
use Rattle.std.proofs.lemmas.Int.{ints}
use Rattle.talk_plan.specs.Plan.{IsAudioPlan, IsClockPlan, most_input}
use Rattle.talked_clocked.specs.Clocked.{HasDefaultClock}
use Rattle.talked_clocked.specs.Examples.{blocking, six_points, with_clock}

six_points_fit : (count : ℕ) → IsClockPlan six_points 48000 count None
six_points_fit count = record {
  id = omega arith;
  some_rate = omega arith;
  most_rate = omega arith;
  pull = omega arith;
  some_interval = omega arith;
  most_interval = omega arith;
  some_points = omega arith;
  most_points = omega arith;
  whole = refl;
  runs = tt;
}

clocked_plan : IsAudioPlan with_clock
clocked_plan = record {
  kind = tt;
  rate = refl;
  some_channels = omega arith;
  channels = omega arith;
  some_count = omega arith;
  count = omega arith;
  fits = omega arith;
  started = omega (arith, ints);
  start = omega (arith, ints);
  some_lead = omega arith;
  lead = omega arith;
  restart = tt;
  crf = six_points_fit 6;
}

pub clock_fits : (input : List ℕ) → length input ≤ most_input → HasDefaultClock with_clock six_points input
clock_fits input limit = record { talked = clocked_plan; id = omega arith; limit = limit; stamps = tt; steady = refl; crf_is = refl; lead = refl }

blocking_plan : IsAudioPlan blocking
blocking_plan = record {
  kind = tt;
  rate = refl;
  some_channels = omega arith;
  channels = omega arith;
  some_count = omega arith;
  count = omega arith;
  fits = record { quadlets = omega arith; some = omega arith; size = omega arith };
  started = omega (arith, ints);
  start = omega (arith, ints);
  some_lead = omega arith;
  lead = omega arith;
  restart = tt;
  crf = six_points_fit 8;
}

pub blocking_fits : (input : List ℕ) → length input ≤ most_input → HasDefaultClock blocking six_points input
blocking_fits input limit = record { talked = blocking_plan; id = omega arith; limit = limit; stamps = refl; steady = refl; crf_is = refl; lead = refl }
