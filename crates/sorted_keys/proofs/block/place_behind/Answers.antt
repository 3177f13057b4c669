-- If the last key is at or before the instant, no key is after the instant.
use Rattle.std.proofs.Common.{◌≡◌, ◌≤ℤ◌, ◌-◌, length, get_or, rules}
use Rattle.std.proofs.lemmas.Int.{ints}
use Rattle.sorted_keys.proofs.BlockLemmas.{place-end}
use Rattle.sorted_keys.proofs.block.place_behind.Goals as goal

pub returns-else-instant-last : goal.returns-else-instant-last
returns-else-instant-last c =
    let all : c.len.result ≡ length c.args.keys.now.items = search rules in
    let read : c.in-Some.last.now ≡ get_or c.args.keys.now.items (length c.args.keys.now.items - 1) c.in-Some.last.now = search rules in
    let reached : c.in-Some.last.now.instant ≤ℤ c.args.instant = search (rules, ints) in
    place-end c.args.instant c.args.keys.now.items c.len.result c.in-Some.last.now all read c.requires reached
