use Rattle.std.proofs.Common.{◌≡◌, ◌+◌, ◌++◌, ℕ, suc, List, [], length, ap, append-nil, arith, subst, ◌∙◌}
use Rattle.std.specs.Prelude.{insert, slice_set}
use Rattle.std.proofs.lemmas.List.{length-set}
use Rattle.std.proofs.lemmas.List.Edits.{length-insert}
use Rattle.sorted_keys.specs.declared.key.Key.{Key}
use Rattle.sorted_keys.proofs.BlockLemmas.{IsSplit, get-any, split-all, split-blocks}
use Rattle.sorted_keys.proofs.blocks.split.Goals as goal

halves : (c : goal.After-insert_at) → IsSplit c.args.blocks.now.items c.insert_at.new.queue.items c.args.place c.split.new.self c.split.new.upper
halves c =
    let behind : c.args.place + 1 ≡ suc c.args.place = omega arith in
    record {
      full = c.requires.full.full;
      half = c.split.ensures.left;
      both = c.split.ensures.all ∙ ap (λ (l : List Key). c.index_mut.result.now ++ l) c.requires.empty ∙ append-nil c.index_mut.result.now ∙ c.index_mut.ensures.value ∙ get-any c.args.blocks.now.items c.args.place c.index_mut.result.now [] c.requires.full.but.within;
      set = subst (λ (n : ℕ). c.insert_at.new.queue.items ≡ insert (slice_set c.args.blocks.now.items c.args.place c.split.new.self) n c.split.new.upper) behind c.insert_at.ensures.items;
    }

pub returns : goal.returns
returns c = record {
  keys = record {
    all = split-all c.args.blocks.now.items c.insert_at.new.queue.items c.args.place c.split.new.self c.split.new.upper c.requires.full.but (halves c);
    blocks = split-blocks c.args.blocks.now.items c.insert_at.new.queue.items c.args.place c.split.new.self c.split.new.upper c.requires.full.but (halves c);
  };
  count =
      let within = c.requires.full.but.within in
      let same = length-set c.args.blocks.now.items c.args.place c.split.new.self in
      let more = length-insert (slice_set c.args.blocks.now.items c.args.place c.split.new.self) (suc c.args.place) c.split.new.upper (omega arith) in
      ap (λ (l : List (List Key)). length l) (halves c).set ∙ omega arith;
  capacity = c.insert_at.ensures.capacity;
}
