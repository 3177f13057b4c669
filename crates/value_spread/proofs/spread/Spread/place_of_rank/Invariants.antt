use Rattle.std.specs.Prelude.{◌≡◌, ◌-◌, ◌*◌, ◌<◌, ◌≤◌, ◌^◌, sum, take}
use Rattle.value_spread.proofs.spread.Spread.place_of_rank.Given as goal

-- the total number of values in the buckets that the loop has passed is below the rank
abbrev pub invariant-loop-place : goal.invariant-loop-place
invariant-loop-place l = (l.below ≡ sum (take (l.place - l.self.first) l.self.counts.items)) × (l.below < l.rank) × (l.below ≤ l.place * 2 ^ 32)
