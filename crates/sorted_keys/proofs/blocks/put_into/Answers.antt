use Rattle.std.proofs.Common.{◌≡◌, ◌<◌, ℕ, List, get_or, length, rules, ap, sym, subst, w64, to_z, of_z}
use Rattle.std.specs.Prelude.{slice_set}
use Rattle.std.proofs.lemmas.Int.{ints}
use Rattle.sorted_keys.specs.declared.key.Key.{Key}
use Rattle.sorted_keys.specs.Keys.{put_key}
use Rattle.sorted_keys.specs.state.Keys.{IsBlockFor}
use Rattle.sorted_keys.proofs.BlockLemmas.{IsPutInto, all-at, block-within, put-all, put-blocks}
use Rattle.sorted_keys.proofs.blocks.put_into.Goals as goal

pub index_mut-requires : goal.index_mut-requires
index_mut-requires c =
    let h = block-within (to_z w64 (of_z w64 c.args.key.instant)) c.args.blocks.now.items c.block_for-place.result c.block_for-place.ensures in
    search rules

pub put-requires : goal.put-requires
put-requires c =
    let h = block-within (to_z w64 (of_z w64 c.args.key.instant)) c.args.blocks.now.items c.block_for-place.result c.block_for-place.ensures in
    subst (λ (b : List Key). length b < 512) (sym c.index_mut.ensures.value) (all-at (λ b. length b < 512) c.args.blocks.now.items c.block_for-place.result c.index_mut.result.now h c.requires.short)

put-into : (bs : List (List Key)) (n : ℕ) (b now : List Key) (k : Key) → IsBlockFor (to_z w64 (of_z w64 k.instant)) bs n → to_z w64 (of_z w64 k.instant) ≡ k.instant → b ≡ get_or bs n b → now ≡ put_key b k → IsPutInto bs (slice_set bs n now) n b k
put-into bs n b now k place is read put = record { place = rw is at place; read = read; set = ap (λ (x : List Key). slice_set bs n x) put }

pub returns : goal.returns
returns c =
    let is : to_z w64 (of_z w64 c.args.key.instant) ≡ c.args.key.instant = search (rules, ints) in
    let put = put-into c.args.blocks.now.items c.block_for-place.result c.index_mut.result.now c.put.new.self c.args.key c.block_for-place.ensures is c.index_mut.ensures.value c.put.ensures in
    record {
      all = put-all c.args.blocks.now.items _ c.block_for-place.result c.index_mut.result.now c.args.key put;
      blocks = put-blocks c.args.blocks.now.items _ c.block_for-place.result c.index_mut.result.now c.args.key c.requires put;
      count = search rules;
      capacity = search rules;
    }
