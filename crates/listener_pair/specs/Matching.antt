-- A matching takes what two listeners present, batch by batch, and returns the differences.
use Rattle.std.specs.Prelude.{◌≡◌, ℕ, ◌+◌, ◌^◌, ◌<◌, ◌≤◌, ◌⊎◌, ⊤, Bool, true, false, ◌&&◌, if◌then◌else◌, int_lt, ◌≤ℤ◌, ◌<ℤ◌, nat_le}
use Rattle.std.specs.Prelude.{List, [], ◌∷◌, ◌++◌, length, filter, map, slice_get, Option, None, Some, IfNone}
use Rattle.std.specs.List.{AllByRecursion}
use Rattle.std.specs.Option.{option_to_list}
use Rattle.sample_schedule.specs.Batches.{Presented}
use Rattle.sample_schedule.specs.Verdicts.{first_instant}
use Rattle.listener_pair.specs.declared.difference.Difference.{Difference}
use Rattle.listener_pair.specs.declared.difference.PairCounts.{PairCounts}
use Rattle.listener_pair.specs.declared.difference.Which.{Which}
use Rattle.listener_pair.specs.declared.difference.Which.TheVariants.{A, B}
use Rattle.listener_pair.specs.declared.placed.Placed.{Placed}
use Rattle.listener_pair.specs.Merged.{IsInOrder, Sided, is_side, known, merged}
use Rattle.listener_pair.specs.Pairs.{unpaired}
use Rattle.listener_pair.specs.Differences.{counts_of, differences}

-- A matching. For each side, a matching has the next batch, whether the side has ended, and the batches that wait for a
-- partner. A matching also has the position of the next batch in the merged list, and the counts.
pub record MatchingState : Type 0 where
  pub next_a : Option Presented
  pub next_b : Option Presented
  pub ended_a : Bool
  pub ended_b : Bool
  pub place : ℕ
  pub waiting_a : List Placed
  pub waiting_b : List Placed
  pub counts : PairCounts

-- the side has not ended, and has no next batch
abbrev pub lacks : Bool → Option Presented → Bool
lacks true next = false
lacks false None = true
lacks false (Some batch) = false

-- The side that must present its next batch or end. A side qualifies if it lacks its next batch. If both sides qualify,
-- the result is A. If no side qualifies, the result is `None`.
abbrev pub wanted : MatchingState → Option Which
wanted m = if lacks m.ended_a m.next_a then Some A else if lacks m.ended_b m.next_b then Some B else None

-- how many sides have a next batch
abbrev pub nexts_left : MatchingState → ℕ
nexts_left m = length (option_to_list m.next_a) + length (option_to_list m.next_b)

-- the matching after the wanted side has presented its next batch
abbrev pub given_to : Which → Presented → MatchingState → MatchingState
given_to A batch m = record m { next_a = Some batch }
given_to B batch m = record m { next_b = Some batch }

-- the matching after the wanted side has ended
abbrev pub ended_by : Which → MatchingState → MatchingState
ended_by A m = record m { ended_a = true }
ended_by B m = record m { ended_b = true }

-- a batch of a side
abbrev pub of_side : Which → Presented → Sided
of_side side batch = record { side = side; batch = batch }

-- the next batches of both sides, in merged order
abbrev pub nexts : Option Presented → Option Presented → List Sided
nexts None None = []
nexts (Some a) None = of_side A a ∷ []
nexts None (Some b) = of_side B b ∷ []
nexts (Some a) (Some b) =
    if int_lt (first_instant b) (first_instant a) then of_side B b ∷ of_side A a ∷ [] else of_side A a ∷ of_side B b ∷ []

-- No next batch is known. Either the next batch of the merged list depends on what a side presents later, or both sides
-- have ended and no batch is left.
abbrev pub IsIdle : MatchingState → Type 0
IsIdle m = known m.ended_a m.ended_b (nexts m.next_a m.next_b) ≡ []

-- The known part of the merged list of the batches that the matching was given. The known part is a prefix of the
-- merged list, and no later batch can change this prefix.
abbrev pub known_of : MatchingState → List Presented → List Presented → List Sided
known_of m xs ys = known m.ended_a m.ended_b (merged xs ys)

-- the batches of one side of a merged list
abbrev pub batches_of : Which → List Sided → List Presented
batches_of side list = map (λ x. x.batch) (filter (λ x. is_side side x.side) list)

-- the merged order allows x before y
pub record MayPrecede (x y : Sided) : Type 0 where
  pub instants : first_instant x.batch ≤ℤ first_instant y.batch
  pub sides : x.side ≡ B → y.side ≡ A → first_instant x.batch <ℤ first_instant y.batch

-- a list is in merged order
abbrev pub IsSorted : List Sided → Type 0
IsSorted [] = ⊤
IsSorted (x ∷ rest) = AllByRecursion (MayPrecede x) rest × IsSorted rest

-- the list is empty, or its last batch is of this side
abbrev pub EndsOn : Which → List Sided → Type 0
EndsOn side list = (list ≡ []) ⊎ ((front : List Sided) × (batch : Presented) × (list ≡ front ++ of_side side batch ∷ []))

-- the batch is of `side`, and among the 512 batches before position `place`
abbrev pub is_within : Which → ℕ → Placed → Bool
is_within side place y = is_side side y.side && nat_le place (y.place + 512)

-- the batches of `list` that are of `side` and among the 512 batches before position `place`
abbrev pub window : Which → ℕ → List Placed → List Placed
window side place list = filter (is_within side place) list

-- The matching was given the batches `xs` of A and `ys` of B, each list in order. The matching has returned the first
-- `given` differences of the merged list. The list `done` is the prefix of the merged list that the matching has worked
-- through.
pub record StandsFor (xs ys : List Presented) (given : ℕ) (m : MatchingState) : Type 0 where
  pub few : length xs + length ys < 2 ^ 63
  pub done : List Sided
  pub a : batches_of A done ++ option_to_list m.next_a ≡ xs
  pub b : batches_of B done ++ option_to_list m.next_b ≡ ys
  pub sorted : IsSorted (done ++ nexts m.next_a m.next_b)
  -- If a side lacks its next batch, the last batch of the list `done` is of that side. If both sides lack their next
  -- batch, `done` is empty.
  pub last_a : lacks m.ended_a m.next_a ≡ true → EndsOn A done
  pub last_b : lacks m.ended_b m.next_b ≡ true → EndsOn B done
  pub none : lacks m.ended_a m.next_a ≡ true → lacks m.ended_b m.next_b ≡ true → done ≡ []
  pub place : m.place ≡ length done
  pub waiting_a : m.waiting_a ≡ window A (length done) (unpaired done)
  pub waiting_b : m.waiting_b ≡ window B (length done) (unpaired done)
  pub shown : given ≡ length (differences done)
  pub counts : m.counts ≡ counts_of done

-- ---- calls

-- A new matching was given no batch, and side A is wanted.
pub record Begins (m : MatchingState) : Type 0 where
  pub stands : StandsFor [] [] 0 m
  pub «open» : wanted m ≡ Some A
  pub ends : (m.ended_a ≡ false) × (m.ended_b ≡ false)

-- Side `which` has presented its next batch, `batch`.
pub record Takes (which : Which) (batch : Presented) (old new : MatchingState) : Type 0 where
  pub given : new ≡ given_to which batch old
  pub stands_a : which ≡ A → (xs ys : List Presented) (given : ℕ) → StandsFor xs ys given old
      → IsInOrder (xs ++ batch ∷ []) → length xs + length ys + 1 < 2 ^ 63 → StandsFor (xs ++ batch ∷ []) ys given new
  pub stands_b : which ≡ B → (xs ys : List Presented) (given : ℕ) → StandsFor xs ys given old
      → IsInOrder (ys ++ batch ∷ []) → length xs + length ys + 1 < 2 ^ 63 → StandsFor xs (ys ++ batch ∷ []) given new

-- Side `which` has ended.
pub record Ends (which : Which) (old new : MatchingState) : Type 0 where
  pub ended : new ≡ ended_by which old
  pub stands : (xs ys : List Presented) (given : ℕ) → StandsFor xs ys given old → StandsFor xs ys given new

-- The next difference in the known part of the merged list is `difference`. If it is `None`, that part has no further
-- difference.
pub record GivesNext (old new : MatchingState) (difference : Option Difference) : Type 0 where
  pub given : (xs ys : List Presented) (given : ℕ) → StandsFor xs ys given old → difference ≡ slice_get (differences (known_of old xs ys)) given
  pub stands : (xs ys : List Presented) (given : ℕ) → StandsFor xs ys given old → StandsFor xs ys (given + length (option_to_list difference)) new
  pub idle : IfNone difference (IsIdle new)
  pub ended : (new.ended_a ≡ old.ended_a) × (new.ended_b ≡ old.ended_b)
  pub less : nexts_left new + length (option_to_list difference) ≤ nexts_left old
