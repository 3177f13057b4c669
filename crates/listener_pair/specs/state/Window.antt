-- Only private functions and proofs use these definitions. The batches that wait for a partner, and
-- what the next batch changes.
use Rattle.std.specs.Prelude.{◌≡◌, ℕ, ◌+◌, ◌-◌, ◌^◌, ◌<◌, nat_le, min, Bool, true, false, if◌then◌else◌, List, [], ◌∷◌, ◌++◌, length, slice_get, Option, None, Some, IfNone, IfSome, option_map, is_some, int_lt}
use Rattle.std.specs.List.{find, remove}
use Rattle.std.specs.Option.{option_to_list}
use Rattle.sample_schedule.specs.Batches.{Presented}
use Rattle.sample_schedule.specs.Verdicts.{first_instant}
use Rattle.listener_pair.specs.declared.difference.Difference.{Difference}
use Rattle.listener_pair.specs.declared.difference.PairCounts.{PairCounts}
use Rattle.listener_pair.specs.declared.difference.Which.{Which}
use Rattle.listener_pair.specs.declared.difference.Which.TheVariants.{A, B}
use Rattle.listener_pair.specs.declared.placed.Entered.{Entered}
use Rattle.listener_pair.specs.declared.placed.Placed.{Placed}
use Rattle.listener_pair.specs.Pairs.{Paired, fits, without_first}
use Rattle.listener_pair.specs.Differences.{difference_of, differences}
use Rattle.listener_pair.specs.Matching.{MatchingState, StandsFor, known_of, nexts_left, wanted}

-- the next batch of a side, with its position
abbrev pub placed : ℕ → Which → Presented → Placed
placed place side batch = record { place = place; side = side; batch = batch }

-- `batch` of `side` may be paired with batch y, which waits on the other side
abbrev pub takes_by : Which → Presented → Placed → Bool
takes_by side batch y = fits side batch y.batch

-- batch x may be paired with batch y, which waits on the other side
abbrev pub takes : Placed → Placed → Bool
takes x = takes_by x.side x.batch

-- The first waiting batch that passes the test is at index `at`. If `at` is `None`, no waiting batch passes the test.
pub record FindsPartner (test : Placed → Bool) (waiting : List Placed) (at : Option ℕ) : Type 0 where
  pub found : IfSome at (λ i. find test waiting ≡ slice_get waiting i)
  pub left : IfSome at (λ i. without_first test waiting ≡ remove waiting i)
  pub none : IfNone at ((find test waiting ≡ None) × (without_first test waiting ≡ waiting))

-- the waiting batches; the first one is left out if it is not among the 512 batches before position `place`
abbrev pub without_passed : ℕ → List Placed → List Placed
without_passed place [] = []
without_passed place (y ∷ ys) = if nat_le place (y.place + 512) then y ∷ ys else ys

abbrev pub paired_with : Placed → Placed → Paired
paired_with later earlier = record { earlier = earlier; later = later }

-- The pair that x makes with a batch of `other`, or none if x makes no pair. `other` are the batches that wait on the
-- other side.
abbrev pub made : Placed → List Placed → Option Paired
made x other = option_map (paired_with x) (find (takes x) other)

-- the pair that x makes in a matching; none if it makes no pair
abbrev pub made_on : Which → Placed → MatchingState → Option Paired
made_on A x m = made x m.waiting_b
made_on B x m = made x m.waiting_a

-- the batches that x adds to the waiting batches: x, if x made no pair, and otherwise none
abbrev pub kept : Placed → Option Paired → List Placed
kept x None = x ∷ []
kept x (Some pair) = []

-- Batch x was added; `pair` is the pair that x made, if any. `own` and `other` list the batches that waited before x
-- was added: `own` those of the side of x, and `other` those of the other side. After x was added, `own_then` are the
-- waiting batches of the side of x, and `other_then` are those of the other side. `next` is the position of the batch
-- after x.
pub record Enters (x : Placed) (next : ℕ) (own other own_then other_then : List Placed) (pair : Option Paired) : Type 0 where
  pub made : pair ≡ made x other
  pub others : other_then ≡ without_passed next (without_first (takes x) other)
  pub owns : length (without_passed next own) < 512 → own_then ≡ without_passed next own ++ kept x pair

-- batch x was added to a matching; the option is the pair that x made, if any
abbrev pub EntersSide : Which → Placed → ℕ → MatchingState → MatchingState → Option Paired → Type 0
EntersSide A x next old new pair = Enters x next old.waiting_a old.waiting_b new.waiting_a new.waiting_b pair
EntersSide B x next old new pair = Enters x next old.waiting_b old.waiting_a new.waiting_b new.waiting_a pair

-- a count plus one, but at most the greatest count of its type
abbrev pub risen : ℕ → ℕ
risen n = min (n + 1) (2 ^ 64 - 1)

-- a count plus one if a condition holds, and otherwise the count
abbrev pub risen_if : Bool → ℕ → ℕ
risen_if true n = risen n
risen_if false n = n

-- the counts after one more batch of a side; this batch is in no pair
abbrev pub with_alone : Which → PairCounts → PairCounts
with_alone A counts = record counts { only_a = risen counts.only_a }
with_alone B counts = record counts { only_b = risen counts.only_b }

-- The counts after one more pair. The pair consists of a new batch of a side and a batch of the other side that was in
-- no pair.
abbrev pub with_pair : Which → Bool → PairCounts → PairCounts
with_pair A differs counts = record counts { matched = risen counts.matched; only_b = counts.only_b - 1; differ = risen_if differs counts.differ }
with_pair B differs counts = record counts { matched = risen counts.matched; only_a = counts.only_a - 1; differ = risen_if differs counts.differ }

-- the counts after a batch of a side was added; the option is the pair that this batch made, if any
abbrev pub counted : Which → Option Paired → PairCounts → PairCounts
counted side None counts = with_alone side counts
counted side (Some pair) counts = with_pair side (is_some (difference_of pair)) counts

-- the difference of the pair; none if there is no pair or if its batches do not differ
abbrev pub difference_by_pair : Option Paired → Option Difference
difference_by_pair None = None
difference_by_pair (Some pair) = difference_of pair

-- `entered` says whether a pair was made, and states the pair's difference
pub record Tells (pair : Option Paired) (entered : Entered) : Type 0 where
  pub paired : entered.paired ≡ is_some pair
  pub difference : entered.difference ≡ difference_by_pair pair

-- ---- the next batch

-- the side whose next batch is first in merged order; none if neither side has a next batch
abbrev pub first_side : Option Presented → Option Presented → Option Which
first_side None None = None
first_side (Some a) None = Some A
first_side None (Some b) = Some B
first_side (Some a) (Some b) = if int_lt (first_instant b) (first_instant a) then Some B else Some A

-- the side of the next batch of the known part
abbrev pub next_side : MatchingState → Option Which
next_side m = if is_some (wanted m) then None else first_side m.next_a m.next_b

-- the next batch of a side
abbrev pub next_of : Which → MatchingState → Option Presented
next_of A m = m.next_a
next_of B m = m.next_b

-- the matching without the next batch of a side
abbrev pub without_next : Which → MatchingState → MatchingState
without_next A m = record m { next_a = None }
without_next B m = record m { next_b = None }

-- The next batch of a side was added to the matching; `pair` is the pair that this batch made, if any.
pub record Steps (side : Which) (batch : Presented) (old new : MatchingState) (pair : Option Paired) : Type 0 where
  pub same : new ≡ record (without_next side old) { place = new.place; waiting_a = new.waiting_a; waiting_b = new.waiting_b; counts = new.counts }
  pub place : new.place ≡ risen old.place
  pub enters : EntersSide side (record { place = old.place; side = side; batch = batch }) new.place old new pair
  pub counts : new.counts ≡ counted side pair old.counts

-- The next batch of a side was paired or began to wait, as `entered` tells. The place and the counts are unchanged.
pub record HasEntered (side : Which) (old new : MatchingState) (entered : Entered) : Type 0 where
  pub enters : IfSome (next_of side old)
      (λ batch. EntersSide side (placed old.place side batch) (risen old.place) old new (made_on side (placed old.place side batch) old))
  pub tells : IfSome (next_of side old) (λ batch. Tells (made_on side (placed old.place side batch) old) entered)
  pub same : new ≡ record (without_next side old) { waiting_a = new.waiting_a; waiting_b = new.waiting_b }

-- The next batch of the known part was worked through. If it made a pair that differs, `difference` is the difference.
pub record Advances (old new : MatchingState) (difference : Option Difference) : Type 0 where
  pub stands : (xs ys : List Presented) (given : ℕ) → StandsFor xs ys given old → StandsFor xs ys (given + length (option_to_list difference)) new
  pub first : IfSome difference
      (λ d. (xs ys : List Presented) (given : ℕ) → StandsFor xs ys given old → slice_get (differences (known_of old xs ys)) given ≡ Some d)
  pub ended : (new.ended_a ≡ old.ended_a) × (new.ended_b ≡ old.ended_b)
  pub less : nexts_left new < nexts_left old
