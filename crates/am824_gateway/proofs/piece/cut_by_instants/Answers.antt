use Rattle.std.proofs.Common.{◌≡◌, ◌+◌, ◌-◌, ◌<◌, ℕ, Bool, [], ◌∷◌, ◌++◌, length, sym, ap, ◌∙◌, subst, arith, w64, to_z, of_z}
use Rattle.std.specs.Prelude.{◌||◌, min}
use Rattle.std.specs.List.{list_any}
use Rattle.std.proofs.lemmas.Int.{ints}
use Rattle.std.proofs.lemmas.List.{append-nil, length-append}
use Rattle.sample_schedule.specs.Batches.{IsPresentable, Presented}
use Rattle.iec61883_format.specs.Iec.{IsSytInterval}
use Rattle.talk_plan.specs.Plan.{interval_of}
use Rattle.am824_gateway.specs.declared.piece.Piece.{Piece}
use Rattle.am824_gateway.specs.Pieces.{block_after, going_on, is_late, is_nominal, next_block, piece_count, pieces_of}
use Rattle.am824_gateway.proofs.GatewayLemmas.{in_range, some_frames}
use Rattle.am824_gateway.proofs.PieceLemmas.{block_more, interval_is, late_more, no_piece, some_rate, step}
use Rattle.am824_gateway.proofs.piece.cut_by_instants.Goals as goal

pub count_piece-count-requires : goal.count_piece-count-requires
count_piece-count-requires c =
    let some = some_frames c.args.to c.args.shape.channels c.requires.some c.requires.most in
    record {
      is = c.loop-instant.invariant.is;
      inside = omega (arith, c.loop-instant-test.true, ap (λ (b : Presented). b.count) c.batch.view_is);
      some_rate = some_rate c.args.shape c.requires;
      some = rw c.most_frames-most.ensures some;
    }

pub next_block-next-requires : goal.next_block-next-requires
next_block-next-requires c = subst IsSytInterval (sym c.interval_of-interval.ensures) (interval_is c.args.shape.rate)

pub loop-instant-preserved : goal.loop-instant-preserved
loop-instant-preserved c =
    let to = c.args.to in
    let shape = c.args.shape in
    let batch = c.args.batch.now in
    let i = c.loop-instant.invariant in
    let first = c.loop-instant.instant.j in
    let next = c.loop-instant.next in
    let items = c.loop-instant.pieces.list.items in
    let n = c.count_piece-count.result in
    let p : Piece = record { first = first; count = n; block = next } in
    let presentable = subst IsPresentable c.batch.view_is c.batch.invariant in
    let total = ap (λ (b : Presented). b.count) c.batch.view_is in
    let inside : first < batch.count = omega (arith, c.loop-instant-test.true, total) in
    let is : n ≡ piece_count to shape batch first = c.count_piece-count.ensures.value ∙ ap (λ (m : ℕ). going_on (is_nominal shape.rate batch first) 1 (min m (batch.count - first) - 1)) c.most_frames-most.ensures in
    let more = step to shape batch items first next n (pieces_of to shape batch c.args.block) inside i.few is i.pieces in
    let size : length (items ++ p ∷ []) ≡ length items + 1 = length-append items (p ∷ []) in
    let following : c.next_block-next.result ≡ next_block (interval_of shape.rate) next n = c.next_block-next.ensures ∙ ap (λ (m : ℕ). next_block m next n) c.interval_of-interval.ensures in
    let at = in_range batch c.loop-instant.instant presentable i.is (omega arith) in
    let same : to_z w64 (of_z w64 c.loop-instant.instant.nanoseconds) ≡ c.loop-instant.instant.nanoseconds = omega (arith, ints, at.from, at.to) in
    let late = rw (same, i.is.at) at c.is_late_with-late.ensures in
    record {
      pieces = rw (c.push.ensures, size, c.count_piece-count.ensures.after, following) more;
      block = rw c.push.ensures (following ∙ sym (block_more (interval_of shape.rate) c.args.block items p i.block));
      late = rw c.push.ensures (late ∙ (ap (λ (b : Bool). b || is_late batch p) i.late ∙ sym (late_more batch items p)));
      few = rw c.push.ensures (omega (arith, size, c.count_piece-count.ensures.after, c.count_piece-count.ensures.some, i.few));
      within = omega (arith, c.count_piece-count.ensures.after, c.count_piece-count.ensures.within);
      is = c.count_piece-count.ensures.is;
    }

pub returns : goal.returns
returns c =
    let batch = c.args.batch.now in
    let i = c.loop-instant.invariant in
    let items = c.loop-instant.pieces.list.items in
    let total = ap (λ (b : Presented). b.count) c.batch.view_is in
    let none = no_piece c.args.to c.args.shape batch (batch.count - length items) c.loop-instant.instant.j c.loop-instant.next (omega (arith, c.loop-instant-test.false, total)) in
    let all = rw (none, append-nil) at i.pieces in
    record {
      cut = all;
      following = i.block ∙ ap (block_after (interval_of c.args.shape.rate) c.args.block) all;
      in_time = i.late ∙ ap (list_any (is_late batch)) all;
      few = omega (arith, i.few, i.within);
    }
