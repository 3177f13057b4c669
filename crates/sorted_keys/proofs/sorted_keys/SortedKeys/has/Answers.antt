-- The search goes backwards from the block for the instant. The search covers all blocks that can hold keys with the
-- wanted instant.
use Rattle.std.proofs.Common.{◌≡◌, ◌+◌, suc, false, true, ap, sym, ◌∙◌, arith, rules, w64, to_z, of_z}
use Rattle.std.specs.List.{list_any}
use Rattle.std.proofs.lemmas.Int.{ints}
use Rattle.sorted_keys.specs.Keys.{KeyList}
use Rattle.sorted_keys.specs.Keys.{is_key}
use Rattle.sorted_keys.specs.state.Keys.{starts_before}
use Rattle.sorted_keys.proofs.BlockLemmas.{IsBehind, block-passed, block-within, blocks-before, no-block-earlier}
use Rattle.sorted_keys.proofs.sorted_keys.SortedKeys.has.Goals as goal

pub overflow_add-end : goal.overflow_add-end
overflow_add-end c = let h = block-within (to_z w64 (of_z w64 c.args.instant)) c.self.inside.blocks.items c.block_for-end.result c.block_for-end.ensures in search rules

pub loop-end-init : goal.loop-end-init
loop-end-init c =
    let t = to_z w64 (of_z w64 c.args.instant) in
    let h = block-within t c.self.inside.blocks.items c.block_for-end.result c.block_for-end.ensures in
    let behind : c.block_for-end.result + 1 ≡ suc c.block_for-end.result = omega arith in
    record {
      within = omega arith;
      same = rw behind (blocks-before t c.args.seq c.self.inside.blocks.items c.block_for-end.result c.block_for-end.ensures
          ∙ ap (λ (l : KeyList). list_any (is_key t c.args.seq) l.list) c.self.view_is);
    }

pub returns-then-starts_before : goal.returns-then-starts_before
returns-then-starts_before c =
    let t = to_z w64 (of_z w64 c.args.instant) in
    let now : t ≡ c.args.instant = omega (arith, ints) in
    let behind : IsBehind c.self.inside.blocks.items c.loop-end.end c.index-block.result.now = record { some = c.loop-end-test.true; within = c.loop-end.invariant.within; read = c.index-block.ensures } in
    let others : list_any (is_key t c.args.seq) c.index-block.result.now ≡ false = sym c.has.ensures ∙ c.if-has.false in
    let first : starts_before t c.index-block.result.now ≡ true = sym c.starts_before.ensures ∙ c.if-starts_before.true in
    let none = no-block-earlier t c.args.seq c.self.inside.blocks.items c.loop-end.end c.index-block.result.now behind c.self.invariant.kept.in_order first in
    let passed = block-passed (is_key t c.args.seq) c.self.inside.blocks.items c.loop-end.end c.index-block.result.now behind others in
    rw now at (sym none ∙ passed ∙ c.loop-end.invariant.same)
