use Rattle.std.proofs.Common.{arith, ◌∙◌, sym, refl, ap, length, take, List, ℕ, ◌++◌, []}
use Rattle.pcapng_frames.specs.Reading.{contents_past}
use Rattle.pcapng_frames.specs.state.Reading.{place_of}
use Rattle.pcapng_blocks.proofs.Options.{at_trailer_place}
use Rattle.pcapng_frames.proofs.Moves.{trailer_stops, trailer_moves, block_begins, goes_on}
use Rattle.pcapng_frames.proofs.Feeding.{is_reading, trailer_begun, part_trailer, part_in_trailer, part_in_block, takes_more, refuses_more, ends_more, holds_more, trailer_ends, trailer_whole, head_none}
use Rattle.pcapng_frames.proofs.reader.Ng.feed_trailer.Goals as goal

pub returns-in-Some : goal.returns-in-Some
returns-in-Some c =
    let this = rw (← c.self.view_is) at c.requires in
    let b = trailer_begun c.self.invariant this in
    let place = place_of c.self.inside.cursor c.self.inside.interfaces c.self.inside.part.items in
    let mine = part_in_trailer c.self.inside.cursor.stage c.self.inside.part.items c.self.inside.tail.items this.stage in
    let grown = c.gather-taken.ensures.moved ∙ ap (λ (x : List ℕ). x ++ take c.gather-taken.result c.args.piece.now) (sym mine) in
    let here = rw (c.trailer_refusal-refusal.ensures, c.order_or_little-order.ensures, c.from.ensures, c.as_slice-tail.ensures.value) at c.in-Some.is in
    record {
      some = tt;
      steps = record {
        within = tt;
        counted = tt;
        bounded = rw (← c.self.view_is, this.stage) (omega (arith, c.gather-taken.ensures.grown, c.gather-taken.ensures.within));
        read = tt;
        accepted = tt;
        refused = refl;
        stopped = rw (← c.self.view_is) (goes_on _ _ _ (refuses_more place _ _ _ c.gather-taken.new.part.items c.gather-taken.result _ _ _ _ this.going.accepted this.going.partial this.ready grown
            (λ more. trailer_stops place c.gather-taken.new.part.items more _ this.stage (at_trailer_place place c.gather-taken.new.part.items this.stage ∙ here)) refl));
      };
    }

pub invariant_of-self-then-tail-lt4 : goal.invariant_of-self-then-tail-lt4
invariant_of-self-then-tail-lt4 c =
    let this = rw (← c.self.view_is) at c.requires in
    let b = trailer_begun c.self.invariant this in
    let accepted = rw (c.trailer_refusal-refusal.ensures, c.order_or_little-order.ensures, c.from.ensures, c.as_slice-tail.ensures.value) at c.in-None.is in
    let slice = ap length c.as_slice-tail.ensures.value in
    let bounded = rw this.stage at this.going.bounded in
    record {
      front_room = c.self.invariant.front_room;
      tail_room = omega (arith, c.self.invariant.tail_room, c.gather-taken.ensures.capacity);
      described = c.self.invariant.described;
      head = c.self.invariant.head;
      bounded = rw this.stage (omega (arith, c.gather-taken.ensures.grown, c.gather-taken.ensures.within));
      reading = is_reading _ _ _ _ _ this.going.accepted this.going.partial (part_trailer c.self.inside.cursor c.self.inside.interfaces c.self.inside.part.items c.gather-taken.new.part.items this.stage accepted
          (record { partial = omega (arith, slice, c.if-tail-lt4.true); within = b.within; room = b.room }));
    }

pub returns-then-tail-lt4 : goal.returns-then-tail-lt4
returns-then-tail-lt4 c =
    let this = rw (← c.self.view_is) at c.requires in
    let b = trailer_begun c.self.invariant this in
    let place = place_of c.self.inside.cursor c.self.inside.interfaces c.self.inside.part.items in
    let mine = part_in_trailer c.self.inside.cursor.stage c.self.inside.part.items c.self.inside.tail.items this.stage in
    let grown = c.gather-taken.ensures.moved ∙ ap (λ (x : List ℕ). x ++ take c.gather-taken.result c.args.piece.now) (sym mine) in
    let theirs = part_in_trailer c.self.inside.cursor.stage c.self.inside.part.items c.gather-taken.new.part.items this.stage in
    record {
      some = omega (arith, c.gather-taken.ensures.taken, b.partial, this.going.more);
      steps = record {
        within = c.gather-taken.ensures.within;
        counted = rw (← c.self.view_is, this.stage) (omega (arith, c.gather-taken.ensures.grown));
        bounded = rw (← c.self.view_is, this.stage) (omega (arith, c.gather-taken.ensures.grown, c.gather-taken.ensures.within));
        read = rw (← c.self.view_is) (goes_on _ _ _ (takes_more place _ _ _ _ _ _ this.going.accepted this.going.partial this.ready (theirs ∙ grown)));
        accepted = this.going.accepted;
        refused = tt;
        stopped = tt;
      };
    }

pub returns-then-is_some : goal.returns-then-is_some
returns-then-is_some c =
    let this = rw (← c.self.view_is) at c.requires in
    let b = trailer_begun c.self.invariant this in
    let accepted = rw (c.trailer_refusal-refusal.ensures, c.order_or_little-order.ensures, c.from.ensures, c.as_slice-tail.ensures.value) at c.in-None.is in
    let slice = ap length c.as_slice-tail.ensures.value in
    let place = place_of c.self.inside.cursor c.self.inside.interfaces c.self.inside.part.items in
    let mine = part_in_trailer c.self.inside.cursor.stage c.self.inside.part.items c.self.inside.tail.items this.stage in
    let grown = c.gather-taken.ensures.moved ∙ ap (λ (x : List ℕ). x ++ take c.gather-taken.result c.args.piece.now) (sym mine) in
    let theirs = part_in_trailer c.self.inside.cursor.stage c.self.inside.part.items c.gather-taken.new.part.items this.stage in
    record {
      some = omega (arith, c.gather-taken.ensures.taken, b.partial, this.going.more);
      steps = record {
        within = c.gather-taken.ensures.within;
        counted = rw (← c.self.view_is, this.stage) (omega (arith, c.gather-taken.ensures.grown));
        bounded = rw (← c.self.view_is, this.stage) (omega (arith, c.gather-taken.ensures.grown, c.gather-taken.ensures.within));
        read = rw (← c.self.view_is) (goes_on _ _ _ (holds_more place _ _ _ _ _ _ _ this.going.accepted this.going.partial refl this.ready (theirs ∙ grown)
            (λ more. ap (λ (x : List ℕ). contents_past 0 place x more) theirs
            ∙ trailer_moves place c.gather-taken.new.part.items more this.stage (omega (arith, slice, c.if-tail-lt4.false, c.gather-taken.ensures.grown, c.gather-taken.ensures.taken, b.partial)) (at_trailer_place place c.gather-taken.new.part.items this.stage ∙ accepted))));
        accepted = this.going.accepted;
        refused = tt;
        stopped = tt;
      };
    }

pub returns : goal.returns
returns c =
    let this = rw (← c.self.view_is) at c.requires in
    let b = trailer_begun c.self.invariant this in
    let accepted = rw (c.trailer_refusal-refusal.ensures, c.order_or_little-order.ensures, c.from.ensures, c.as_slice-tail.ensures.value) at c.in-None.is in
    let slice = ap length c.as_slice-tail.ensures.value in
    let place = place_of c.self.inside.cursor c.self.inside.interfaces c.self.inside.part.items in
    let mine = part_in_trailer c.self.inside.cursor.stage c.self.inside.part.items c.self.inside.tail.items this.stage in
    let grown = c.gather-taken.ensures.moved ∙ ap (λ (x : List ℕ). x ++ take c.gather-taken.result c.args.piece.now) (sym mine) in
    let d = c.after_trailer-self-inside.ensures in
    let next = ap (λ x. place_of c.after_trailer-self-inside.result x c.clear.new.self.items) c.add_described.ensures ∙ d.place c.clear.new.self.items c.self.inside.part.items c.self.inside.interfaces in
    let free = sym c.is_some.ensures ∙ c.if-is_some.false in
    let clear = part_in_block c.after_trailer-self-inside.result.stage c.clear.new.self.items c.clear-2.new.self.items d.stage ∙ c.clear.ensures.items in
    let gone = ap length clear in
    record {
      some = omega (arith, c.gather-taken.ensures.taken, b.partial, this.going.more);
      steps = record {
        within = c.gather-taken.ensures.within;
        counted = rw (← c.self.view_is, this.stage, this.ready, d.stage) (omega (arith, c.gather-taken.ensures.grown, slice, b.within, this.ready, d.start, c.if-tail-lt4.false, c.gather-taken.ensures.taken, b.partial, ap length c.clear.ensures.items));
        bounded = rw (← c.self.view_is, this.stage, this.ready, d.stage) (omega (arith, c.gather-taken.ensures.grown, c.gather-taken.ensures.within, slice, b.within, this.ready, d.start, c.if-tail-lt4.false, c.gather-taken.ensures.taken, b.partial, ap length c.clear.ensures.items));
        read = rw (← c.self.view_is) (goes_on _ _ _ (ends_more place (place_of c.after_trailer-self-inside.result c.add_described.new.self c.clear.new.self.items) _ c.after_trailer-self-inside.result.skip _ _ c.gather-taken.new.part.items _ _ _ this.going.accepted this.going.partial this.ready grown
            (λ more. trailer_ends c.self.inside.cursor c.self.inside.interfaces c.self.inside.part.items c.gather-taken.new.part.items more _ this.stage
            (omega (arith, slice, c.if-tail-lt4.false, c.gather-taken.ensures.grown, c.gather-taken.ensures.taken, b.partial)) accepted free next
            ∙ ap (λ (n : ℕ). contents_past n (place_of c.after_trailer-self-inside.result c.add_described.new.self c.clear.new.self.items) [] more) (sym d.skip))
            clear));
        accepted = this.going.accepted;
        refused = tt;
        stopped = tt;
      };
    }

pub invariant_of-self-2 : goal.invariant_of-self-2
invariant_of-self-2 c =
    let this = rw (← c.self.view_is) at c.requires in
    let b = trailer_begun c.self.invariant this in
    let d = c.after_trailer-self-inside.ensures in
    let bounded = rw (this.stage, this.ready) at this.going.bounded in
    let slice = ap length c.as_slice-tail.ensures.value in
    record {
      front_room = omega (arith, c.self.invariant.front_room, c.clear.ensures.capacity);
      tail_room = omega (arith, c.self.invariant.tail_room, c.gather-taken.ensures.capacity, c.clear-2.ensures.capacity);
      described = rw d.interface tt;
      head = head_none _ _ _ d.packet;
      bounded = rw d.stage (omega (arith, c.gather-taken.ensures.grown, c.gather-taken.ensures.within, slice, b.within, this.ready, d.start, c.if-tail-lt4.false, c.gather-taken.ensures.taken, b.partial, ap length c.clear.ensures.items));
      reading = is_reading _ _ _ _ _ this.going.accepted this.going.partial (rw (part_in_block c.after_trailer-self-inside.result.stage c.clear.new.self.items c.clear-2.new.self.items d.stage) (block_begins c.after_trailer-self-inside.result c.add_described.new.self c.clear.new.self.items c.clear.new.self.items d.stage d.skip d.interface d.packet c.clear.ensures.items));
    }

pub invariant_of-self-then-is_some : goal.invariant_of-self-then-is_some
invariant_of-self-then-is_some c =
    let this = rw (← c.self.view_is) at c.requires in
    let b = trailer_begun c.self.invariant this in
    let bounded = rw this.stage at this.going.bounded in
    let slice = ap length c.as_slice-tail.ensures.value in
    record {
      front_room = c.self.invariant.front_room;
      tail_room = omega (arith, c.self.invariant.tail_room, c.gather-taken.ensures.capacity);
      described = c.self.invariant.described;
      head = c.self.invariant.head;
      bounded = rw this.stage (omega (arith, c.gather-taken.ensures.grown, c.gather-taken.ensures.within));
      reading = trailer_whole c.self.inside.cursor c.self.inside.interfaces c.self.inside.part.items c.gather-taken.new.part.items _ _ this.going.accepted refl this.stage this.ready (omega (arith, b.within))
          (omega (arith, slice, c.if-tail-lt4.false, c.gather-taken.ensures.grown, c.gather-taken.ensures.taken, b.partial)) (sym c.is_some.ensures ∙ c.if-is_some.true) b.room;
    }
