-- Where two listeners present different samples.
use Rattle.std.specs.Prelude.{ℕ, List, length, filter, option_map, Option}
use Rattle.std.specs.List.{filter_map}
use Rattle.sample_schedule.specs.Batches.{Presented}
use Rattle.listener_pair.specs.declared.difference.Difference.{Difference}
use Rattle.listener_pair.specs.declared.difference.PairCounts.{PairCounts}
use Rattle.listener_pair.specs.declared.difference.Way.{Way}
use Rattle.listener_pair.specs.declared.difference.Which.{Which}
use Rattle.listener_pair.specs.declared.difference.Which.TheVariants.{A, B}
use Rattle.listener_pair.specs.declared.placed.Placed.{Placed}
use Rattle.listener_pair.specs.Merged.{Sided, is_side}
use Rattle.listener_pair.specs.Pairs.{Paired, pairs, unpaired}
use Rattle.listener_pair.specs.Ways.{way_of}

-- the difference of two batches that differ as `way` says: the numbers of their frames, their sequence number, and
-- `way`
abbrev pub differ_in : Presented → Presented → Way → Difference
differ_in a b way = record { frame_a = a.frame; frame_b = b.frame; seq = a.seq; way = way }

-- the difference of a batch of A and a batch of B; none if they do not differ
abbrev pub between : Presented → Presented → Option Difference
between a b = option_map (differ_in a b) (way_of a b)

-- the difference of batch x of `side` and batch y of the other side; none if they do not differ
abbrev pub difference_by : Which → Presented → Presented → Option Difference
difference_by A x y = between x y
difference_by B x y = between y x

-- the difference of a pair; none if its batches do not differ
abbrev pub difference_of : Paired → Option Difference
difference_of pair = difference_by pair.later.side pair.later.batch pair.earlier.batch

-- the differences of the pairs of a merged list
abbrev pub differences : List Sided → List Difference
differences list = filter_map difference_of (pairs list)

-- the number of a side's batches that are in no pair
abbrev pub alone : Which → List Placed → ℕ
alone side list = length (filter (λ x. is_side side x.side) list)

-- the counts of a merged list: how many pairs it has, how many batches of A and how many of B are in no pair, and how
-- many pairs differ
abbrev pub counts_of : List Sided → PairCounts
counts_of list = record {
  matched = length (pairs list);
  only_a = alone A (unpaired list);
  only_b = alone B (unpaired list);
  differ = length (differences list);
}
