-- A binary search finds how many keys are at or before the instant.
use Rattle.std.proofs.Common.{◌≤◌, length, rules}
use Rattle.std.specs.Prelude.{int_le}
use Rattle.std.proofs.lemmas.Int.{ints}
use Rattle.std.proofs.lemmas.List.Sorted.{IsPartitionPoint-from_clause}
use Rattle.sorted_keys.proofs.BlockLemmas.{partitioned, place-found}
use Rattle.sorted_keys.proofs.block.find_place.Goals as goal

pub returns : goal.returns
returns c =
    let point = IsPartitionPoint-from_clause (λ k. int_le k.instant c.args.instant) _ _ c.partition_point.ensures.partitioned
    (partitioned c.args.instant c.args.keys.now.items c.requires) (λ a r q k. search (rules, ints)) in
    let within : c.partition_point.result ≤ length c.args.keys.now.items = search rules in
    place-found c.args.instant c.args.keys.now.items c.partition_point.result within point
