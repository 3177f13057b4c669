-- Which batches of a merged list are pairs.
use Rattle.std.specs.Prelude.{ℕ, suc, ◌+◌, ◌*◌, ◌==◌, nat_le, Bool, ◌&&◌, ◌||◌, not, if◌then◌else◌, ◌-ℤ◌, unsigned_abs, List, [], ◌∷◌, ◌++◌, Option, None, Some}
use Rattle.std.specs.List.{find}
use Rattle.sample_schedule.specs.Batches.{Presented, is_unit}
use Rattle.sample_schedule.specs.Verdicts.{first_instant, same_instant}
use Rattle.listener_pair.specs.declared.difference.Which.{Which}
use Rattle.listener_pair.specs.declared.difference.Which.TheVariants.{A, B}
use Rattle.listener_pair.specs.declared.placed.Placed.{Placed}
use Rattle.listener_pair.specs.Merged.{Sided, is_side}

-- ---- what may be a pair

-- The first instants of a batch of A and a batch of B differ by at most 64 times the duration of A's batch. A's line
-- gives the duration of A's batch.
abbrev pub are_near : Presented → Presented → Bool
are_near a b = nat_le (unsigned_abs (first_instant a -ℤ first_instant b) * a.line.den) (64 * a.count * a.line.num)

-- A batch of A and a batch of B are close enough in time to present the same packet or unit. If neither batch is a unit
-- of H.264, `are_near` is true of the two batches. If either batch is a unit of H.264, both batches are units with the
-- same instant.
unfoldable pub within_reach : Presented → Presented → Bool
within_reach a b =
    if is_unit a || is_unit b
    then is_unit a && is_unit b && same_instant (first_instant a) (first_instant b)
    else are_near a b

-- batch x of `side` and batch y of the other side are within reach
abbrev pub reaches : Which → Presented → Presented → Bool
reaches A x y = within_reach x y
reaches B x y = within_reach y x

-- Batch x of `side` and batch y of the other side have the same sequence number and are within reach.
unfoldable pub fits : Which → Presented → Presented → Bool
fits side x y = y.seq == x.seq && reaches side x y

-- Batch x may be paired with the unpaired batch y. Three conditions must hold: y is of the other side and among the 512
-- batches directly before x; x and y have the same sequence number; and x and y are within reach.
abbrev pub may_pair : Placed → Placed → Bool
may_pair x y = nat_le x.place (y.place + 512) && not (is_side x.side y.side) && fits x.side x.batch y.batch

-- ---- pairs

-- two batches that are paired, in merged order
pub record Paired : Type 0 where
  pub earlier : Placed
  pub later : Placed

-- removes the first element that passes a test from a list
abbrev pub without_first : {T : Type 0} → (T → Bool) → List T → List T
without_first {T} test [] = []
without_first {T} test (y ∷ ys) = if test y then ys else y ∷ without_first test ys

-- batch x of a merged list, with its position `place`
abbrev pub at_place : ℕ → Sided → Placed
at_place place x = record { place = place; side = x.side; batch = x.batch }

-- the partner of x: the first earlier unpaired batch that may be paired with x
abbrev pub partner_of : Placed → List Placed → Option Placed
partner_of x unpaired = find (may_pair x) unpaired

-- The unpaired batches after x is added. If x has a partner, the result is the earlier unpaired batches except that
-- partner. If x has no partner, these are the earlier unpaired batches and x.
abbrev pub left_by : Placed → List Placed → Option Placed → List Placed
left_by x unpaired None = unpaired ++ x ∷ []
left_by x unpaired (Some partner) = without_first (may_pair x) unpaired

-- the unpaired batches after x is added; `unpaired` are the unpaired batches before x
abbrev pub unpaired_with : Placed → List Placed → List Placed
unpaired_with x unpaired = left_by x unpaired (partner_of x unpaired)

-- the pair that x makes, if it has a partner
abbrev pub pair_by : Placed → Option Placed → List Paired
pair_by x None = []
pair_by x (Some partner) = record { earlier = partner; later = x } ∷ []

-- The pairs that successive batches make. `place` is the position of the first batch, and `unpaired` are the unpaired
-- batches before the first batch.
unfoldable pub pairs_from : ℕ → List Placed → List Sided → List Paired
pairs_from place unpaired [] = []
pairs_from place unpaired (x ∷ rest) =
    pair_by (at_place place x) (partner_of (at_place place x) unpaired)
    ++ pairs_from (suc place) (unpaired_with (at_place place x) unpaired) rest

-- The unpaired batches after successive batches are added. `place` is the position of the first of these batches, and
-- `unpaired` are the unpaired batches before this first batch.
unfoldable pub unpaired_from : ℕ → List Placed → List Sided → List Placed
unpaired_from place unpaired [] = unpaired
unpaired_from place unpaired (x ∷ rest) = unpaired_from (suc place) (unpaired_with (at_place place x) unpaired) rest

-- The pairs of a merged list, in the order of their later batches. Batches are taken in order. Take the earlier
-- unpaired batches that may be paired with a batch. If there are any, the batch is paired with the first of them.
abbrev pub pairs : List Sided → List Paired
pairs list = pairs_from 0 [] list

-- the batches of a merged list that are in no pair
abbrev pub unpaired : List Sided → List Placed
unpaired list = unpaired_from 0 [] list
