use Rattle.std.proofs.Common.{arith, take, ◌∙◌, length, refl, ap}
use Rattle.pcapng_blocks.specs.Section.{interfaces_after}
use Rattle.pcapng_frames.specs.state.Reading.{place_of}
use Rattle.pcapng_blocks.proofs.Needs.{block_bound, block_came}
use Rattle.pcapng_blocks.proofs.Heads.{head_taken}
use Rattle.pcapng_frames.proofs.Moves.{goes_on}
use Rattle.pcapng_frames.proofs.Feeding.{is_reading, block_begun, part_block, head_none, block_takes, block_refuses, block_ends, inside_part, inside_size}
use Rattle.pcapng_frames.proofs.reader.Ng.feed_block.Goals as goal

pub gather-taken-requires : goal.gather-taken-requires
gather-taken-requires c =
    let this = rw (← c.self.view_is) at c.requires in
    let b = block_begun c.self.invariant this in
    rw (c.block_need-need.ensures, c.as_slice.ensures.value) (omega (arith, block_bound _ _ _ _ b.accepted, c.self.invariant.front_room))

pub returns-in-Some : goal.returns-in-Some
returns-in-Some c =
    let this = rw (← c.self.view_is) at c.requires in
    let b = block_begun c.self.invariant this in
    let here = rw (c.block_refusal-refusal.ensures, c.as_slice-part.ensures.value) at c.in-Some.is in
    record {
      some = tt;
      steps = record {
        within = tt;
        counted = tt;
        bounded = rw (← c.self.view_is, this.stage) (omega (arith, c.gather-taken.ensures.grown, c.gather-taken.ensures.within));
        read = tt;
        accepted = tt;
        refused = refl;
        stopped = rw (← c.self.view_is) (goes_on _ _ _ (block_refuses c.self.inside.cursor c.self.inside.interfaces c.self.inside.part.items c.self.inside.tail.items c.args.piece.now c.gather-taken.new.part.items c.gather-taken.result _ _ _ _ this.going.accepted this.going.partial this.stage b.none b.packet c.gather-taken.ensures.moved here refl));
      };
    }

pub invariant_of-self-then-part-block_need : goal.invariant_of-self-then-part-block_need
invariant_of-self-then-part-block_need c =
    let this = rw (← c.self.view_is) at c.requires in
    let b = block_begun c.self.invariant this in
    let accepted = rw (c.block_refusal-refusal.ensures, c.as_slice-part.ensures.value) at c.in-None.is in
    let need = rw c.as_slice-part.ensures.value at c.block_need.ensures in
    let slice = ap length c.as_slice-part.ensures.value in
    let bounded = rw this.stage at this.going.bounded in
    record {
      front_room = omega (arith, c.self.invariant.front_room, c.gather-taken.ensures.capacity);
      tail_room = c.self.invariant.tail_room;
      described = c.self.invariant.described;
      head = head_none _ _ _ b.packet;
      bounded = rw this.stage (omega (arith, c.gather-taken.ensures.grown, c.gather-taken.ensures.within));
      reading = is_reading _ _ _ _ _ this.going.accepted this.going.partial (part_block c.self.inside.cursor c.self.inside.interfaces c.gather-taken.new.part.items c.self.inside.tail.items this.stage
          (record { accepted = accepted; partial = omega (arith, need, slice, c.if-part-block_need.true); none = b.none; packet = b.packet; interface = b.interface }));
    }

pub returns-then-part-block_need : goal.returns-then-part-block_need
returns-then-part-block_need c =
    let this = rw (← c.self.view_is) at c.requires in
    let b = block_begun c.self.invariant this in
    let first = rw c.as_slice.ensures.value at c.block_need-need.ensures in
    record {
      some = omega (arith, c.gather-taken.ensures.taken, first, b.partial, this.going.more);
      steps = record {
        within = c.gather-taken.ensures.within;
        counted = rw (← c.self.view_is, this.stage) (omega (arith, c.gather-taken.ensures.grown));
        bounded = rw (← c.self.view_is, this.stage) (omega (arith, c.gather-taken.ensures.grown, c.gather-taken.ensures.within));
        read = rw (← c.self.view_is) (goes_on _ _ _ (block_takes c.self.inside.cursor c.self.inside.interfaces c.self.inside.part.items c.self.inside.tail.items (take c.gather-taken.result c.args.piece.now) c.gather-taken.new.part.items _ _ this.going.accepted this.going.partial this.stage b.none b.packet c.gather-taken.ensures.moved));
        accepted = this.going.accepted;
        refused = tt;
        stopped = tt;
      };
    }

pub kind_at-kind-requires : goal.kind_at-kind-requires
kind_at-kind-requires c =
    let this = rw (← c.self.view_is) at c.requires in
    let b = block_begun c.self.invariant this in
    let need = rw c.as_slice-part.ensures.value at c.block_need.ensures in
    let slice = ap length c.as_slice-part.ensures.value in
    let first = rw c.as_slice.ensures.value at c.block_need-need.ensures in
    let came = block_came c.self.inside.cursor.order c.self.inside.part.items c.args.piece.now c.gather-taken.new.part.items c.gather-taken.result b.partial (rw first at c.gather-taken.ensures.taken) c.gather-taken.ensures.moved
    (omega (arith, need, slice, c.if-part-block_need.false)) in
    omega (arith, slice, came.0)

pub after_block-self-inside-requires : goal.after_block-self-inside-requires
after_block-self-inside-requires c =
    let this = rw (← c.self.view_is) at c.requires in
    let b = block_begun c.self.invariant this in
    let accepted = rw (c.block_refusal-refusal.ensures, c.as_slice-part.ensures.value) at c.in-None.is in
    let need = rw c.as_slice-part.ensures.value at c.block_need.ensures in
    let slice = ap length c.as_slice-part.ensures.value in
    let first = rw c.as_slice.ensures.value at c.block_need-need.ensures in
    let came = block_came c.self.inside.cursor.order c.self.inside.part.items c.args.piece.now c.gather-taken.new.part.items c.gather-taken.result b.partial (rw first at c.gather-taken.ensures.taken) c.gather-taken.ensures.moved
    (omega (arith, need, slice, c.if-part-block_need.false)) in
    rw c.as_slice-part.ensures.value (head_taken _ _ _ _ came accepted)

pub returns : goal.returns
returns c =
    let this = rw (← c.self.view_is) at c.requires in
    let b = block_begun c.self.invariant this in
    let accepted = rw (c.block_refusal-refusal.ensures, c.as_slice-part.ensures.value) at c.in-None.is in
    let need = rw c.as_slice-part.ensures.value at c.block_need.ensures in
    let slice = ap length c.as_slice-part.ensures.value in
    let first = rw c.as_slice.ensures.value at c.block_need-need.ensures in
    let came = block_came c.self.inside.cursor.order c.self.inside.part.items c.args.piece.now c.gather-taken.new.part.items c.gather-taken.result b.partial (rw first at c.gather-taken.ensures.taken) c.gather-taken.ensures.moved
    (omega (arith, need, slice, c.if-part-block_need.false)) in
    let moved = c.after_block-self-inside.ensures in
    let d = rw c.as_slice-part.ensures.value at moved in
    let of_kind = rw c.as_slice-part.ensures.value at c.kind_at-kind.ensures in
    let others = c.settle.ensures ∙ ap (λ k. interfaces_after k c.self.inside.interfaces) of_kind in
    let zero = inside_size c.after_block-self-inside.result c.gather-taken.new.part.items c.clear.new.self.items d.inside c.clear.ensures.items in
    record {
      some = omega (arith, c.gather-taken.ensures.taken, first, b.partial, this.going.more);
      steps = record {
        within = c.gather-taken.ensures.within;
        counted = rw (← c.self.view_is, this.stage) (omega (arith, c.gather-taken.ensures.grown, d.passed, zero));
        bounded = rw (← c.self.view_is, this.stage) (omega (arith, c.gather-taken.ensures.grown, c.gather-taken.ensures.within, d.passed, zero));
        read = rw (← c.self.view_is) (goes_on _ _ _ (block_ends c.self.inside.cursor c.after_block-self-inside.result c.self.inside.interfaces c.settle.new.self c.self.inside.part.items c.self.inside.tail.items (take c.gather-taken.result c.args.piece.now) c.gather-taken.new.part.items c.clear.new.self.items _ _ this.going.accepted this.going.partial this.stage b.none b.packet c.gather-taken.ensures.moved
            came.0 came.1 accepted
            (ap (λ z. place_of c.after_block-self-inside.result z c.gather-taken.new.part.items) others ∙ d.place) d.size d.inside c.clear.ensures.items));
        accepted = this.going.accepted;
        refused = tt;
        stopped = tt;
      };
    }

pub invariant_of-self-2 : goal.invariant_of-self-2
invariant_of-self-2 c =
    let this = rw (← c.self.view_is) at c.requires in
    let b = block_begun c.self.invariant this in
    let slice = ap length c.as_slice-part.ensures.value in
    let moved = c.after_block-self-inside.ensures in
    let d = rw c.as_slice-part.ensures.value at moved in
    let bounded = rw this.stage at this.going.bounded in
    let of_kind = rw c.as_slice-part.ensures.value at c.kind_at-kind.ensures in
    let others = c.settle.ensures ∙ ap (λ k. interfaces_after k c.self.inside.interfaces) of_kind in
    let zero = inside_size c.after_block-self-inside.result c.gather-taken.new.part.items c.clear.new.self.items d.inside c.clear.ensures.items in
    record {
      front_room = omega (arith, c.self.invariant.front_room, c.gather-taken.ensures.capacity);
      tail_room = omega (arith, c.self.invariant.tail_room, c.clear.ensures.capacity);
      described = d.resolved;
      head = d.head;
      bounded = omega (arith, c.gather-taken.ensures.grown, c.gather-taken.ensures.within, d.passed, zero);
      reading = is_reading _ _ _ _ _ this.going.accepted this.going.partial (inside_part c.after_block-self-inside.result c.settle.new.self c.gather-taken.new.part.items c.clear.new.self.items d.inside d.ahead d.unpacked (rw others d.room) c.clear.ensures.items);
    }
