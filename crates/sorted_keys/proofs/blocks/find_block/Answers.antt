-- A binary search finds the last block whose first key is at or before the instant.
use Rattle.std.proofs.Common.{◌≤◌, length, rules, sym, subst, ℕ}
use Rattle.std.proofs.lemmas.Int.{ints}
use Rattle.std.proofs.lemmas.List.Sorted.{IsPartitionPoint-from_clause}
use Rattle.sorted_keys.specs.state.Keys.{IsBlockFor, starts_by}
use Rattle.sorted_keys.proofs.BlockLemmas.{block-found, block-partitioned}
use Rattle.sorted_keys.proofs.blocks.find_block.Goals as goal

pub returns : goal.returns
returns c =
    let point = IsPartitionPoint-from_clause (λ b. starts_by c.args.instant b) _ _ c.partition_point.ensures.partitioned
    (block-partitioned c.args.instant c.args.blocks.now.items c.requires) (λ a r q b. search (rules, ints)) in
    let within : c.partition_point.result ≤ length c.args.blocks.now.items = search rules in
    subst (λ (n : ℕ). IsBlockFor c.args.instant c.args.blocks.now.items n) (sym c.saturating_sub.ensures)
    (block-found c.args.instant c.args.blocks.now.items c.partition_point.result c.requires within point)
