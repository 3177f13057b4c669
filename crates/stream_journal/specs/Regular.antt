-- Further rules that a regular talker keeps, as `avtp talk` does. No promise about listeners rests on these rules. A
-- rule is this project's own if no standard is named.
use Rattle.std.specs.Prelude.{◌≡◌, ℕ, ◌+◌, ◌*◌, ◌^◌, ◌<◌, ◌≤◌, Some}
use Rattle.clock_track.specs.declared.pair.Pair.{Pair}
use Rattle.clock_track.specs.PairLines.{period}
use Rattle.stream_journal.specs.Clocks.{ClockJournal, Follows, InOneRun, IsPlace, Place, pair_at, point}
use Rattle.stream_journal.specs.Conforming.{HoldsEight}
use Rattle.stream_journal.specs.Journal.{Journal}

-- all instants are from 0 to 2^62
pub record AreInstants (j : Journal) : Type 0 where
  pub due : (n : ℕ) → n < j.packets → j.due n ≤ 2 ^ 62
  pub stamp : (n instant : ℕ) → n < j.packets → j.stamp n ≡ Some instant → instant ≤ 2 ^ 62

-- two periods of the clock differ by at most a quarter of the nominal time between two events
pub record IsSteady (first second : Pair) : Type 0 where
  pub longer : 4 * (period second * second.up) ≤ 4 * (period first * first.up) + 1000000000 * first.down
  pub shorter : 4 * (period first * first.up) ≤ 4 * (period second * second.up) + 1000000000 * first.down

-- The clock's pull code is one that the standard defines (IEEE 1722-2016, 10). Adjacent periods of a run differ little,
-- and runs do not overlap.
pub record IsRegularClock (c : ClockJournal) : Type 0 where
  pub base : 1 ≤ c.base
  pub pull : c.pull ≤ 5
  pub instants : (p : Place) → IsPlace c p → point c p ≤ 2 ^ 62
  -- adjacent periods of a run differ little, as `IsSteady` says
  pub steady : (p q r : Place) → Follows c p q → Follows c q r → InOneRun c p q → InOneRun c q r
      → IsSteady (pair_at c p q) (pair_at c q r)
  -- Take the last point of a run and the first point of the next run. The time between them is at least as long as the
  -- last period of the earlier run.
  pub renewed : (p q r : Place) → Follows c p q → Follows c q r → InOneRun c p q → ¬ InOneRun c q r
      → point c q + period (pair_at c p q) ≤ point c r
  pub holds : HoldsEight c.packets c.mr

-- the journal also keeps the further rules of a regular talker
pub record IsRegular (j : Journal) : Type 0 where
  pub instants : AreInstants j
  -- packets that are due at the same instant are adjacent, for example those of an access unit of H.264
  pub together : (n k m : ℕ) → n ≤ k → k ≤ m → m < j.packets → j.due n ≡ j.due m → j.due k ≡ j.due n
  pub clock : IsRegularClock j.clock
