-- What holds for all pairs and differences.
use Rattle.std.specs.Prelude.{◌≡◌, ℕ, ◌+◌, ◌==◌, ◌<◌, ◌≤◌, ◌||◌, Bool, true, false, List, length, filter}
use mathlib.Core.List.{IsPrefix}
use Rattle.sample_schedule.specs.Batches.{Presented}
use Rattle.listener_pair.specs.declared.difference.PairCounts.{PairCounts}
use Rattle.listener_pair.specs.Differences.{differences}
use Rattle.listener_pair.specs.Matching.{MatchingState}
use Rattle.listener_pair.specs.Merged.{Sided, is_side, known}
use Rattle.listener_pair.specs.Pairs.{Paired, fits, pairs}

-- The batches of a pair are of different sides, have the same sequence number, and are within reach. The earlier batch
-- is one of the 512 batches directly before the later batch.
pub record IsPair (pair : Paired) : Type 0 where
  pub sides : is_side pair.later.side pair.earlier.side ≡ false
  pub before : pair.earlier.place < pair.later.place
  pub near : pair.later.place ≤ pair.earlier.place + 512
  pub fits : fits pair.later.side pair.later.batch pair.earlier.batch ≡ true

-- the batch at position `place` is in `pair`
abbrev pub is_in : ℕ → Paired → Bool
is_in place pair = pair.earlier.place == place || pair.later.place == place

-- the number of pairs of a merged list that contain the batch at position `place`
abbrev pub times_paired : List Sided → ℕ → ℕ
times_paired list place = length (filter (is_in place) (pairs list))

-- the pairs and differences of one merged list are the first pairs and differences of another
pub record StayFirst (list longer : List Sided) : Type 0 where
  pub pairs : IsPrefix (pairs list) (pairs longer)
  pub differences : IsPrefix (differences list) (differences longer)

-- The known part of a merged list is a prefix of the list. After both sides have ended, the known part is the whole list.
pub record IsKnownFirst (list : List Sided) : Type 0 where
  pub first : (ended_a ended_b : Bool) → IsPrefix (known ended_a ended_b list) list
  pub all : known true true list ≡ list

-- at most 512 batches of each side wait for a partner
pub record FewWait (m : MatchingState) : Type 0 where
  pub a : length m.waiting_a ≤ 512
  pub b : length m.waiting_b ≤ 512

-- Each side has as many batches as the counts say: the matched batches, and the batches of this side that are in no
-- pair.
pub record AddUp (xs ys : List Presented) (counts : PairCounts) : Type 0 where
  pub a : counts.matched + counts.only_a ≡ length xs
  pub b : counts.matched + counts.only_b ≡ length ys
