use Rattle.std.proofs.Common.{◌≡◌, ◌∷◌, [], ℕ, List, length, subst, ap, sym, ◌∙◌, arith, w64, to_z, of_z}
use Rattle.std.proofs.lemmas.Int.{ints}
use Rattle.std.specs.List.{list_any}
use Rattle.sample_schedule.specs.Batches.{IsPresentable, Presented}
use Rattle.iec61883_format.specs.Iec.{IsSytInterval}
use Rattle.talk_plan.specs.Plan.{interval_of}
use Rattle.am824_gateway.specs.declared.piece.Piece.{Piece}
use Rattle.am824_gateway.specs.Pieces.{block_after, is_late, next_block}
use Rattle.am824_gateway.proofs.PieceLemmas.{interval_is, late_one, one_piece}
use Rattle.am824_gateway.proofs.piece.cut_once.Goals as goal

pub next_block-next-requires : goal.next_block-next-requires
next_block-next-requires c = subst IsSytInterval (sym c.interval_of.ensures) (interval_is c.args.shape.rate)

pub returns : goal.returns
returns c =
    let to = c.args.to in
    let shape = c.args.shape in
    let batch = c.args.batch.now in
    let block : ℕ = c.args.block in
    let presentable = subst IsPresentable c.batch.view_is c.batch.invariant in
    let one = one_piece to shape batch block c.requires presentable.some in
    let p : Piece = record { first = 0; count = batch.count; block = block } in
    let total = ap (λ (b : Presented). b.count) c.batch.view_is in
    let items : c.push.new.pieces.list.items ≡ record { first = 0; count = c.batch.inside.count; block = block } ∷ [] = rw c.clear.ensures.items at c.push.ensures in
    let items : c.push.new.pieces.list.items ≡ p ∷ [] = items ∙ ap (λ (n : ℕ). record { first = 0; count = n; block = block } ∷ []) total in
    let at = presentable.instants 0 (omega arith) in
    let at = rw (← c.instant.ensures) at at in
    let same : to_z w64 (of_z w64 c.instant.result) ≡ c.instant.result = omega (arith, ints, at.from, at.to) in
    let late = rw (same, c.instant.ensures) at c.is_late_with.ensures in
    let some = presentable.some in
    let size = ap (λ (l : List Piece). length l) items in
    record {
      cut = items ∙ sym one;
      following = c.next_block-next.ensures ∙ (ap (λ (n : ℕ). next_block n block c.batch.inside.count) c.interval_of.ensures ∙ (ap (λ (n : ℕ). next_block (interval_of shape.rate) block n) total ∙ sym (ap (block_after (interval_of shape.rate) block) one)));
      in_time = late ∙ (sym (late_one batch p) ∙ sym (ap (list_any (is_late batch)) one));
      few = omega (arith, size, some);
    }
