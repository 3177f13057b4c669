-- Only private functions and proofs use these definitions. Bounds of the instants that a packet's
-- pairs can cover.
use Rattle.std.specs.Prelude.{◌≡◌, ◌⊎◌, List, Option, Some, slice_get, ℕ, ◌+◌, ◌-◌, ◌*◌, ◌<◌, ◌≤◌, ℤ, pos, ◌+ℤ◌, ◌≤ℤ◌, ◌<ℤ◌, IfSome}
use Rattle.clock_track.specs.declared.bounds.Bounds.{Bounds}
use Rattle.clock_track.specs.declared.clock_row.ClockRow.{ClockRow}
use Rattle.clock_track.specs.declared.pair.Pair.{Pair}
use Rattle.clock_track.specs.PairLines.{period}
use Rattle.clock_track.specs.Rows.{across, inside, timestamps}

-- the pair's later point, and the end of its period, are within the bounds
pub record IsWithin (bounds : Bounds) (pair : Pair) : Type 0 where
  pub from : bounds.earliest ≤ℤ pair.later
  pub to : (pair.later +ℤ pos (period pair)) ≤ℤ bounds.latest

-- the bounds `new` hold each pair that `old` holds, and each pair with this later point and this end
pub record Widens (old new : Bounds) (later end : ℤ) : Type 0 where
  pub earliest : new.earliest ≤ℤ old.earliest
  pub from : new.earliest ≤ℤ later
  pub latest : old.latest ≤ℤ new.latest
  pub to : end ≤ℤ new.latest

-- the bounds `new` hold each pair that `old` holds, and the pair `added` if there is one
pub record AreWidened (old new : Bounds) (added : Option Pair) : Type 0 where
  pub pair : IfSome added (IsWithin new)
  pub others : (other : Pair) → IsWithin old other → IsWithin new other

-- the instant is at or after the end of the bounds, or before their start by more than the lead
abbrev pub IsOutside : Bounds → ℤ → ℕ → Type 0
IsOutside bounds instant lead = (bounds.latest ≤ℤ instant) ⊎ ((instant +ℤ pos lead) <ℤ bounds.earliest)

-- In a stream of this rate, let an instant be earlier than a joined pair's later point by more than the lead. The pair
-- then does not cover the instant. The lead is at least the following bound: 9/8 of half the nominal spacing of
-- samples, rounded down to a whole nanosecond.
abbrev pub IsLead : ℕ → ℕ → Type 0
IsLead rate lead = (d : ℕ) → rate * d ≤ 562500000 → d ≤ lead

-- the joined pairs inside a packet, with indexes from `first` to below `end`, are within the bounds
abbrev pub HasInside : ℤ → ClockRow → Bounds → ℕ → ℕ → Type 0
HasInside shift row bounds first end = (i : ℕ) → first ≤ i → i < end → IfSome (inside shift row i) (λ pair. IsWithin bounds pair)

-- Bounds g of `groups` hold those joined pairs inside a packet whose indexes are from 32 * g to 32 * g + 31. Groups
-- after the last of `groups` have no bounds.
abbrev pub AreGroups : ℤ → ClockRow → List Bounds → Type 0
AreGroups shift row groups = (g : ℕ) (bounds : Bounds) → slice_get groups g ≡ Some bounds → (end : ℕ) → end ≤ 32 * g + 32 → end ≤ timestamps row - 1 → HasInside shift row bounds (32 * g) end

-- `end` is the index after the last pair of a group, in a packet with this many pairs
pub record EndsGroup (group pairs end : ℕ) : Type 0 where
  pub within : end ≤ pairs
  pub most : (other : ℕ) → other ≤ 32 * group + 32 → other ≤ pairs → other ≤ end

-- if the later point of a joined pair is in the packet `row`, the pair is within the bounds
pub record HasPairs (shift : ℤ) (row : ClockRow) (bounds : Bounds) : Type 0 where
  pub inside : HasInside shift row bounds 0 (timestamps row - 1)
  pub across : (before : ClockRow) → IfSome (across shift row before) (λ pair. IsWithin bounds pair)
