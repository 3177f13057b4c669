-- The points of a media clock in one run, and the timestamps of a stream with that clock, as plain numbers.
--
-- The events of a stream are its sample frames, counted from 0 in each run. The clock has a point at event 0, and a
-- further one after every `spacing` events.
use Rattle.std.specs.Prelude.{◌≡◌, ℕ, suc, ◌+◌, ◌-◌, ◌*◌, ◌/◌, ◌%◌, ◌<◌, ◌≤◌, nat_lt, if◌then◌else◌, pos}
use Rattle.clock_track.specs.declared.pair.Pair.{Pair}
use Rattle.clock_track.specs.PairLines.{Covers, IsJoined, spot_by}
use Rattle.stream_journal.specs.Regular.{IsSteady}
use Rattle.time_unfold.specs.Lines.{instant_at}
use Rattle.talk_plan.specs.Timing.{nominal_offset}

-- A stream of `rate` events a second, with a clock of `up` / `down` events a second. `spacing` events of the stream
-- take as long as `interval` events of the clock.
pub record Beat : Type 0 where
  pub rate : ℕ
  pub spacing : ℕ
  pub interval : ℕ
  pub up : ℕ
  pub down : ℕ

-- The beat's rate is a sample rate of audio, and the clock's frequency is at most 250 MHz. `spacing` events of the
-- stream take as long as `interval` events of the clock.
pub record IsBeat (b : Beat) : Type 0 where
  pub rate_from : 8000 ≤ b.rate
  pub rate_to : b.rate ≤ 192000
  pub some : 1 ≤ b.spacing
  pub some_up : 1 ≤ b.up
  pub same_time : b.spacing * b.up ≡ b.interval * b.rate * b.down
  pub slow : 4 * b.up ≤ 1000000000 * b.down

-- the instant of point m of a run that starts at `start`
abbrev pub point_at : Beat → ℕ → ℕ → ℕ
point_at b start m = start + nominal_offset b.rate (m * b.spacing)

-- The instant in the timestamp of event e of the run. If event e is before the second point, the instant is the event's
-- nominal instant. For any other event, the instant is computed from the last point up to event e, with the period that
-- ends at that point.
unfoldable pub stamped_at : Beat → ℕ → ℕ → ℕ
stamped_at b start e =
    if nat_lt e b.spacing then start + nominal_offset b.rate e else
    point_at b start (e / b.spacing)
    + e % b.spacing * (point_at b start (e / b.spacing) - point_at b start (e / b.spacing - 1)) / b.spacing

-- the pair that listeners make from points m and m + 1
abbrev pub pair_from : Beat → ℕ → ℕ → Pair
pair_from b start m = record {
  earlier = pos (point_at b start m);
  later = pos (point_at b start (suc m));
  interval = b.interval;
  up = b.up;
  down = b.down;
}

-- the next run starts at least 4 nanoseconds after the nominal end of the run that starts at `start`
abbrev pub IsNextStart : Beat → ℕ → ℕ → ℕ → Type 0
IsNextStart b start events next = start + nominal_offset b.rate events + 4 ≤ next

-- the period of each pair of the run is within 1/8 of its nominal value, and the periods of adjacent pairs differ little
pub record HasSteadyPairs (b : Beat) (start : ℕ) : Type 0 where
  pub even : (m : ℕ) → IsJoined (pair_from b start m)
  pub steady : (m : ℕ) → IsSteady (pair_from b start m) (pair_from b start (suc m))

-- A run of `events` events starts at `start`, and the next run starts at `next`: no pair of either run covers the
-- instant in a timestamp of the other run.
pub record AreApart (b : Beat) (start events next : ℕ) : Type 0 where
  pub no_earlier : (m e : ℕ) → suc (suc m) * b.spacing ≤ events → ¬ Covers (pair_from b start m) b.rate (pos (stamped_at b next e))
  pub no_later : (m e : ℕ) → e < events → ¬ Covers (pair_from b next m) b.rate (pos (stamped_at b start e))

-- if a listener computes the instants of the clock's events from the pair, the event nearest to `instant` is at exactly
-- `instant`, in whole nanoseconds
abbrev pub IsOnEvent : Pair → ℕ → ℕ → Type 0
IsOnEvent pair rate instant =
    instant_at (spot_by pair rate (pos instant)).line (spot_by pair rate (pos instant)).from ≡ pos instant
