use Rattle.std.proofs.Common.{arith, ◌∙◌, sym, refl, ap, length, take, List, ℕ, ◌++◌}
use Rattle.pcapng_blocks.specs.Blocks.{order_or_little}
use Rattle.pcapng_frames.specs.state.Reading.{place_of}
use Rattle.pcapng_blocks.proofs.Needs.{option_came, option_bound}
use Rattle.pcapng_blocks.proofs.Options.{at_option_place}
use Rattle.pcapng_frames.proofs.Moves.{option_stops, option_moves, goes_on}
use Rattle.pcapng_frames.proofs.Feeding.{is_reading, option_begun, part_option, part_in_option, takes_more, refuses_more, ends_more, inside_part, inside_size, part_inside}
use Rattle.pcapng_frames.proofs.reader.Ng.feed_option.Goals as goal

pub gather-taken-requires : goal.gather-taken-requires
gather-taken-requires c = omega (arith, c.option_need-need.ensures, option_bound c.order_or_little-order.result c.as_slice.result.now, c.self.invariant.tail_room)

pub returns-in-Some : goal.returns-in-Some
returns-in-Some c =
    let this = rw (← c.self.view_is) at c.requires in
    let b = option_begun c.self.invariant this in
    let place = place_of c.self.inside.cursor c.self.inside.interfaces c.self.inside.part.items in
    let mine = part_in_option c.self.inside.cursor.stage c.self.inside.part.items c.self.inside.tail.items this.stage in
    let grown = c.gather-taken.ensures.moved ∙ ap (λ (x : List ℕ). x ++ take c.gather-taken.result c.args.piece.now) (sym mine) in
    let old_size = ap length mine in
    let here = rw (c.option_refusal-refusal.ensures, c.order_or_little-order.ensures, c.from.ensures, c.as_slice-tail.ensures.value) at c.in-Some.is in
    record {
      some = tt;
      steps = record {
        within = tt;
        counted = tt;
        bounded = rw (← c.self.view_is, this.stage) (omega (arith, c.gather-taken.ensures.grown, c.gather-taken.ensures.within));
        read = tt;
        accepted = tt;
        refused = refl;
        stopped = rw (← c.self.view_is) (goes_on _ _ _ (refuses_more place _ _ _ c.gather-taken.new.part.items c.gather-taken.result _ _ _ _ this.going.accepted this.going.partial this.ready grown
            (λ more. option_stops place c.gather-taken.new.part.items more _ this.stage (at_option_place place c.gather-taken.new.part.items this.stage ∙ here)) refl));
      };
    }

pub invariant_of-self-then-tail-option_need : goal.invariant_of-self-then-tail-option_need
invariant_of-self-then-tail-option_need c =
    let this = rw (← c.self.view_is) at c.requires in
    let b = option_begun c.self.invariant this in
    let accepted = rw (c.option_refusal-refusal.ensures, c.order_or_little-order.ensures, c.from.ensures, c.as_slice-tail.ensures.value) at c.in-None.is in
    let need = rw (c.order_or_little-order.ensures, c.as_slice-tail.ensures.value) at c.option_need.ensures in
    let slice = ap length c.as_slice-tail.ensures.value in
    let bounded = rw this.stage at this.going.bounded in
    record {
      front_room = c.self.invariant.front_room;
      tail_room = omega (arith, c.self.invariant.tail_room, c.gather-taken.ensures.capacity);
      described = c.self.invariant.described;
      head = c.self.invariant.head;
      bounded = rw this.stage (omega (arith, c.gather-taken.ensures.grown, c.gather-taken.ensures.within));
      reading = is_reading _ _ _ _ _ this.going.accepted this.going.partial (part_option c.self.inside.cursor c.self.inside.interfaces c.self.inside.part.items c.gather-taken.new.part.items this.stage
          (record { accepted = accepted; partial = omega (arith, need, slice, c.if-tail-option_need.true); some = b.some; four = b.four; within = b.within; packet = b.packet; room = b.room }));
    }

pub returns-then-tail-option_need : goal.returns-then-tail-option_need
returns-then-tail-option_need c =
    let this = rw (← c.self.view_is) at c.requires in
    let b = option_begun c.self.invariant this in
    let place = place_of c.self.inside.cursor c.self.inside.interfaces c.self.inside.part.items in
    let mine = part_in_option c.self.inside.cursor.stage c.self.inside.part.items c.self.inside.tail.items this.stage in
    let grown = c.gather-taken.ensures.moved ∙ ap (λ (x : List ℕ). x ++ take c.gather-taken.result c.args.piece.now) (sym mine) in
    let old_size = ap length mine in
    let theirs = part_in_option c.self.inside.cursor.stage c.self.inside.part.items c.gather-taken.new.part.items this.stage in
    let first = rw (c.order_or_little-order.ensures, c.as_slice.ensures.value) at c.option_need-need.ensures in
    record {
      some = omega (arith, c.gather-taken.ensures.taken, first, b.partial, this.going.more);
      steps = record {
        within = c.gather-taken.ensures.within;
        counted = rw (← c.self.view_is, this.stage) (omega (arith, c.gather-taken.ensures.grown));
        bounded = rw (← c.self.view_is, this.stage) (omega (arith, c.gather-taken.ensures.grown, c.gather-taken.ensures.within));
        read = rw (← c.self.view_is) (goes_on _ _ _ (takes_more place _ _ _ _ _ _ this.going.accepted this.going.partial this.ready (theirs ∙ grown)));
        accepted = this.going.accepted;
        refused = tt;
        stopped = tt;
      };
    }

pub after_option-self-inside-requires : goal.after_option-self-inside-requires
after_option-self-inside-requires c =
    let this = rw (← c.self.view_is) at c.requires in
    let b = option_begun c.self.invariant this in
    let accepted = rw (c.option_refusal-refusal.ensures, c.order_or_little-order.ensures, c.from.ensures, c.as_slice-tail.ensures.value) at c.in-None.is in
    let need = rw (c.order_or_little-order.ensures, c.as_slice-tail.ensures.value) at c.option_need.ensures in
    let slice = ap length c.as_slice-tail.ensures.value in
    let first = rw (c.order_or_little-order.ensures, c.as_slice.ensures.value) at c.option_need-need.ensures in
    let came = option_came (order_or_little c.self.inside.cursor.order) c.self.inside.tail.items c.args.piece.now c.gather-taken.new.part.items c.gather-taken.result b.partial (rw first at c.gather-taken.ensures.taken) c.gather-taken.ensures.moved
    (omega (arith, need, slice, c.if-tail-option_need.false)) in
    rw c.as_slice-tail.ensures.value (record {
      long = came.0;
      whole = came.1;
      accepted = accepted;
      resolved = c.self.invariant.described;
      ahead = (b.some, b.four, omega (arith, b.within));
      packet = b.packet;
    })

pub returns : goal.returns
returns c =
    let this = rw (← c.self.view_is) at c.requires in
    let b = option_begun c.self.invariant this in
    let accepted = rw (c.option_refusal-refusal.ensures, c.order_or_little-order.ensures, c.from.ensures, c.as_slice-tail.ensures.value) at c.in-None.is in
    let need = rw (c.order_or_little-order.ensures, c.as_slice-tail.ensures.value) at c.option_need.ensures in
    let slice = ap length c.as_slice-tail.ensures.value in
    let first = rw (c.order_or_little-order.ensures, c.as_slice.ensures.value) at c.option_need-need.ensures in
    let came = option_came (order_or_little c.self.inside.cursor.order) c.self.inside.tail.items c.args.piece.now c.gather-taken.new.part.items c.gather-taken.result b.partial (rw first at c.gather-taken.ensures.taken) c.gather-taken.ensures.moved
    (omega (arith, need, slice, c.if-tail-option_need.false)) in
    let place = place_of c.self.inside.cursor c.self.inside.interfaces c.self.inside.part.items in
    let mine = part_in_option c.self.inside.cursor.stage c.self.inside.part.items c.self.inside.tail.items this.stage in
    let grown = c.gather-taken.ensures.moved ∙ ap (λ (x : List ℕ). x ++ take c.gather-taken.result c.args.piece.now) (sym mine) in
    let old_size = ap length mine in
    let moved = c.after_option-self-inside.ensures c.self.inside.part.items c.self.inside.interfaces b.room in
    let d = rw c.as_slice-tail.ensures.value at moved in
    let gone = inside_size c.after_option-self-inside.result c.self.inside.part.items c.clear.new.self.items d.inside c.clear.ensures.items in
    record {
      some = omega (arith, c.gather-taken.ensures.taken, first, b.partial, this.going.more);
      steps = record {
        within = c.gather-taken.ensures.within;
        counted = rw (← c.self.view_is, this.stage, this.ready) (omega (arith, c.gather-taken.ensures.grown, d.passed, gone));
        bounded = rw (← c.self.view_is, this.stage, this.ready) (omega (arith, c.gather-taken.ensures.grown, c.gather-taken.ensures.within, d.passed, gone));
        read = rw (← c.self.view_is) (goes_on _ _ _ (ends_more place _ _ _ _ _ c.gather-taken.new.part.items _ _ _ this.going.accepted this.going.partial this.ready grown
            (λ more. option_moves place (place_of c.after_option-self-inside.result c.self.inside.interfaces c.self.inside.part.items) c.gather-taken.new.part.items more c.after_option-self-inside.result.skip this.stage
            came.0 came.1 (at_option_place place c.gather-taken.new.part.items this.stage ∙ accepted) (sym d.place) d.size)
            (part_inside c.after_option-self-inside.result.stage c.self.inside.part.items c.clear.new.self.items d.inside ∙ c.clear.ensures.items)));
        accepted = this.going.accepted;
        refused = tt;
        stopped = tt;
      };
    }

pub invariant_of-self-2 : goal.invariant_of-self-2
invariant_of-self-2 c =
    let this = rw (← c.self.view_is) at c.requires in
    let b = option_begun c.self.invariant this in
    let moved = c.after_option-self-inside.ensures c.self.inside.part.items c.self.inside.interfaces b.room in
    let d = rw c.as_slice-tail.ensures.value at moved in
    let bounded = rw (this.stage, this.ready) at this.going.bounded in
    let gone = inside_size c.after_option-self-inside.result c.self.inside.part.items c.clear.new.self.items d.inside c.clear.ensures.items in
    record {
      front_room = c.self.invariant.front_room;
      tail_room = omega (arith, c.self.invariant.tail_room, c.gather-taken.ensures.capacity, c.clear.ensures.capacity);
      described = d.resolved;
      head = d.head;
      bounded = omega (arith, c.gather-taken.ensures.grown, c.gather-taken.ensures.within, d.passed, gone);
      reading = is_reading _ _ _ _ _ this.going.accepted this.going.partial (inside_part c.after_option-self-inside.result c.self.inside.interfaces c.self.inside.part.items c.clear.new.self.items d.inside d.ahead d.unpacked d.room c.clear.ensures.items);
    }
