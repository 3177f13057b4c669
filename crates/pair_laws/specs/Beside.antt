-- What holds for a capture that is compared with itself.
use Rattle.std.specs.Prelude.{◌≡◌, ◌≢◌, ◌<◌, ⊤, List, [], ◌∷◌, length}
use Rattle.std.specs.List.{AllByRecursion}
use Rattle.sample_schedule.specs.Batches.{Presented}
use Rattle.sample_schedule.specs.Verdicts.{first_instant}
use Rattle.listener_pair.specs.Differences.{counts_of, differences}
use Rattle.listener_pair.specs.Merged.{IsInOrder, merged}

-- two batches with the same first instant have different sequence numbers
abbrev pub AreTold : Presented → Presented → Type 0
AreTold x y = first_instant x ≡ first_instant y → x.seq ≢ y.seq

-- if two batches of the list have the same first instant, their sequence numbers differ
abbrev pub AreAllTold : List Presented → Type 0
AreAllTold [] = ⊤
AreAllTold (x ∷ rest) = AllByRecursion (AreTold x) rest × AreAllTold rest

-- What holds for each list of batches that a listener presents. The list is in the order of first instants. No two
-- batches have both the same first instant and the same sequence number. Each sequence number is a byte.
pub record IsPresentation (list : List Presented) : Type 0 where
  pub order : IsInOrder list
  pub told : AreAllTold list
  pub bytes : AllByRecursion (λ (x : Presented). x.seq < 256) list

-- A list of batches that is compared with itself has no differences. Each batch is in a pair.
pub record NeverDiffersFromItself (list : List Presented) : Type 0 where
  pub differ : differences (merged list list) ≡ []
  pub matched : counts_of (merged list list) ≡ record { matched = length list; only_a = 0; only_b = 0; differ = 0 }
