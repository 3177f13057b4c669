-- A full block is split, and its upper half goes into a spare block. If a block is full, the keys are too few to need
-- all blocks, so there is a spare block.
use Rattle.std.proofs.Common.{◌≡◌, ◌≤◌, ◌<◌, List, [], ◌∷◌, ℕ, true, false, length, get_or, arith, rules, ap, sym, subst, ◌∙◌}
use Rattle.std.specs.Prelude.{nat_le}
use Rattle.std.specs.List.{AllByRecursion}
use Rattle.std.proofs.lemmas.Bool.Decides.{nat_tests}
use Rattle.sorted_keys.specs.declared.key.Key.{Key}
use Rattle.sorted_keys.specs.Keys.{KeyList}
use Rattle.sorted_keys.specs.state.Keys.{AreBlocksBut, all_keys}
use Rattle.sorted_keys.proofs.BlockLemmas.{all-right, blocks-count, get-any, length-put, short-again}
use Rattle.sorted_keys.proofs.sorted_keys.SortedKeys.put.Goals as goal

is-full : (bs : List (List Key)) (n : ℕ) (b : List Key) → AreBlocksBut n bs → b ≡ get_or bs n b → nat_le 512 (length b) ≡ true → length (get_or bs n []) ≡ 512
is-full bs n b are read full =
    let e = ap (λ (x : List Key). length x) (read ∙ get-any bs n b [] are.within) in
    let most = are.most in
    let least : 512 ≤ length b = grind (arith, nat_tests) in
    omega arith

not-full : (b : List Key) → nat_le 512 (length b) ≡ false → length b < 512
not-full b h = grind (arith, nat_tests)

pub unreachable-requires : goal.unreachable-requires
unreachable-requires c =
    let full = is-full c.put_into-place.new.blocks.items c.put_into-place.result c.index.result.now c.put_into-place.ensures.blocks c.index.ensures (sym c.is_full.ensures ∙ c.if-is_full.true) in
    let few = blocks-count c.put_into-place.new.blocks.items c.put_into-place.result c.put_into-place.ensures.blocks full in
    let more = ap (λ (l : List Key). length l) c.put_into-place.ensures.all in
    let one = length-put (all_keys c.self.inside.blocks.items) c.args.key in
    let count = c.put_into-place.ensures.count in
    let within = c.put_into-place.ensures.blocks.within in
    let none : length c.self.inside.spare.items ≡ 0 = let h = c.in_default.ensures.cases.0 in search rules in
    let list = ap (λ (l : KeyList). length l.list) c.self.view_is in
    let room = ap (λ (l : KeyList). l.room) c.self.view_is in
    let asked = c.requires in
    omega arith

pub split-requires-clause-full : goal.split-requires-clause-full
split-requires-clause-full c = record {
  but = c.put_into-place.ensures.blocks;
  full =
      is-full c.put_into-place.new.blocks.items c.put_into-place.result c.index.result.now c.put_into-place.ensures.blocks c.index.ensures (sym c.is_full.ensures ∙ c.if-is_full.true);
}

pub split-requires-clause-empty : goal.split-requires-clause-empty
split-requires-clause-empty c =
    (all-right (λ b. b ≡ []) c.pop.new.self.items (c.in-Some.upper ∷ []) (subst (λ (l : List (List Key)). AllByRecursion (λ b. b ≡ []) l) c.in-Some.ensures.items c.self.invariant.empty)).0

pub invariant_of-self-else-is_full : goal.invariant_of-self-else-is_full
invariant_of-self-else-is_full c =
    let count = c.put_into-place.ensures.count in
    let capacity = c.put_into-place.ensures.capacity in
    let within = c.self.invariant.within in
    record {
      kept = short-again c.put_into-place.new.blocks.items c.put_into-place.result c.index.result.now c.put_into-place.ensures.blocks c.index.ensures (not-full c.index.result.now (sym c.is_full.ensures ∙ c.if-is_full.false));
      empty = c.self.invariant.empty;
      within = omega arith;
    }
