-- What two listeners present, in one list.
use Rattle.std.specs.Prelude.{Bool, true, false, ◌&&◌, ◌||◌, if◌then◌else◌, int_lt, ◌≤ℤ◌, ⊤, List, [], ◌∷◌, ◌++◌, map}
use Rattle.std.specs.List.{AllByRecursion, list_any}
use Rattle.sample_schedule.specs.Batches.{Presented}
use Rattle.sample_schedule.specs.Verdicts.{first_instant}
use Rattle.listener_pair.specs.declared.difference.Which.{Which}
use Rattle.listener_pair.specs.declared.difference.Which.TheVariants.{A, B}

-- a batch that one of the two listeners presents
pub record Sided : Type 0 where
  pub side : Which
  pub batch : Presented

-- a list of batches, each marked as a batch of this side
abbrev pub all_of : Which → List Presented → List Sided
all_of side batches = map (λ b. record { side = side; batch = b }) batches

-- a list ordered by first instant, with x inserted directly after all batches that begin before x
abbrev pub put_before : Sided → List Sided → List Sided
put_before x [] = x ∷ []
put_before x (y ∷ ys) = if int_lt (first_instant y.batch) (first_instant x.batch) then y ∷ put_before x ys else x ∷ y ∷ ys

-- the batches of a list, ordered by first instant; batches with the same first instant keep their order
unfoldable pub by_instant : List Sided → List Sided
by_instant [] = []
by_instant (x ∷ rest) = put_before x (by_instant rest)

-- What A and B present, in one list ordered by first instant. Batches of A come before batches of B with the same first
-- instant. Batches of one side with the same first instant keep their order.
unfoldable pub merged : List Presented → List Presented → List Sided
merged xs ys = by_instant (all_of A xs ++ all_of B ys)

-- the list is ordered by first instant, as the presented batches of every listener are
abbrev pub IsInOrder : List Presented → Type 0
IsInOrder [] = ⊤
IsInOrder (x ∷ rest) = AllByRecursion (λ y. first_instant x ≤ℤ first_instant y) rest × IsInOrder rest

-- ---- what is known of the merged list before both sides have ended

-- the two sides are the same
abbrev pub is_side : Which → Which → Bool
is_side A A = true
is_side A B = false
is_side B A = false
is_side B B = true

-- The side has ended, or has presented a batch of `list`. In both cases, no batch that the side presents later can
-- precede the first batch of `list`.
abbrev pub is_settled : Bool → Which → List Sided → Bool
is_settled ended side list = ended || list_any (λ x. is_side side x.side) list

-- The known part of a merged list. The two conditions say whether A has ended and whether B has ended. A batch is known
-- if one of two things holds for each side: the side has ended, or the side has presented this batch or a later batch
-- of the list. Whatever the two sides present later, the known part stays a prefix of the merged list.
unfoldable pub known : Bool → Bool → List Sided → List Sided
known ended_a ended_b [] = []
known ended_a ended_b (x ∷ rest) =
    if is_settled ended_a A (x ∷ rest) && is_settled ended_b B (x ∷ rest) then x ∷ known ended_a ended_b rest else []
