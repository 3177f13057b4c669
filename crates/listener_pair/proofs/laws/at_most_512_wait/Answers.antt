-- The batches that wait are the unpaired ones among the last 512 batches.
use Rattle.std.proofs.Common.{◌≤◌, List, length, sym, subst}
use Rattle.listener_pair.specs.declared.difference.Which.TheVariants.{A, B}
use Rattle.listener_pair.specs.declared.placed.Placed.{Placed}
use Rattle.listener_pair.specs.Pairs.{unpaired}
use Rattle.listener_pair.proofs.Counting.{ascending-unpaired}
use Rattle.listener_pair.proofs.Windows.{few-wait}
use Rattle.listener_pair.proofs.laws.at_most_512_wait.Goals as goal

pub returns : goal.returns
returns c xs ys given m s = record {
  a = subst (λ (l : List Placed). length l ≤ 512) (sym s.waiting_a) (few-wait A (length s.done) (unpaired s.done) (ascending-unpaired s.done));
  b = subst (λ (l : List Placed). length l ≤ 512) (sym s.waiting_b) (few-wait B (length s.done) (unpaired s.done) (ascending-unpaired s.done));
}
