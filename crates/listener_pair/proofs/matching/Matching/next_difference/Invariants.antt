use Rattle.std.proofs.Common.{◌≡◌, ◌≤◌, ℕ, List}
use Rattle.sample_schedule.specs.Batches.{Presented}
use Rattle.listener_pair.specs.Matching.{StandsFor, nexts_left}
use Rattle.listener_pair.proofs.matching.Matching.next_difference.Given as goal

-- no difference was returned so far
abbrev pub invariant-loop-side : goal.invariant-loop-side
invariant-loop-side l = record {
  stands : (xs ys : List Presented) (given : ℕ) → StandsFor xs ys given l.fn.self → StandsFor xs ys given l.self;
  ended_a : l.self.ended_a ≡ l.fn.self.ended_a;
  ended_b : l.self.ended_b ≡ l.fn.self.ended_b;
  less : nexts_left l.self ≤ nexts_left l.fn.self;
}

abbrev pub decreases-loop-side : goal.decreases-loop-side
decreases-loop-side l = nexts_left l.self
