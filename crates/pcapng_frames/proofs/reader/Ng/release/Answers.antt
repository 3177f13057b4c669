use Rattle.std.proofs.Common.{arith, ◌∙◌, sym, refl, ap, length}
use Rattle.pcapng_frames.specs.state.Reading.{place_of}
use Rattle.pcapng_frames.proofs.Moves.{block_begins}
use Rattle.pcap_frames.proofs.Steps.{releases_none}
use Rattle.pcapng_frames.proofs.Feeding.{is_reading, is_whole, passed_whole, part_in_block, head_none, held_free, held_going, gives_up}
use Rattle.pcapng_frames.proofs.reader.Ng.release.Goals as goal
use Rattle.avtp_base.proofs.Results.{not_some}

pub add_described-requires : goal.add_described-requires
add_described-requires c =
    let is = sym c.is_whole.ensures ∙ c.if-not-is_whole.false in
    let some = rw (← c.self.view_is) at is in
    let g = held_going _ _ _ some in
    record { room = (is_whole _ _ _ _ _ g.0 g.1 c.self.invariant.reading).room; resolved = c.self.invariant.described }

pub invariant_of-self : goal.invariant_of-self
invariant_of-self c =
    let is = sym c.is_whole.ensures ∙ c.if-not-is_whole.false in
    let some = rw (← c.self.view_is) at is in
    let g = held_going _ _ _ some in
    let w = is_whole _ _ _ _ _ g.0 g.1 c.self.invariant.reading in
    let d = c.after_trailer-self-inside.ensures in
    record {
      front_room = omega (arith, c.self.invariant.front_room, c.clear.ensures.capacity);
      tail_room = omega (arith, c.self.invariant.tail_room, c.clear-2.ensures.capacity);
      described = rw d.interface tt;
      head = head_none _ _ _ d.packet;
      bounded = rw d.stage (omega (arith, c.self.invariant.bounded, passed_whole _ c.self.inside.cursor.skip c.self.inside.cursor.left c.self.inside.cursor.total w.at_trailer, w.trailer, w.passed, w.total, d.start, ap length c.clear.ensures.items));
      reading = is_reading _ _ _ _ _ g.0 refl (rw (part_in_block c.after_trailer-self-inside.result.stage c.clear.new.self.items c.clear-2.new.self.items d.stage) (block_begins c.after_trailer-self-inside.result c.add_described.new.self c.clear.new.self.items c.clear.new.self.items d.stage d.skip d.interface d.packet c.clear.ensures.items));
    }

pub returns-then-not-is_whole : goal.returns-then-not-is_whole
returns-then-not-is_whole c =
    let is = sym c.is_whole.ensures ∙ c.if-not-is_whole.true in
    record { answer = sym is; releases = releases_none _ (not_some _ is); still = λ none. refl }

pub returns : goal.returns
returns c =
    let is = sym c.is_whole.ensures ∙ c.if-not-is_whole.false in
    let some = rw (← c.self.view_is) at is in
    let g = held_going _ _ _ some in
    let w = is_whole _ _ _ _ _ g.0 g.1 c.self.invariant.reading in
    let d = c.after_trailer-self-inside.ensures in
    let next = ap (λ x. place_of c.after_trailer-self-inside.result x c.clear.new.self.items) c.add_described.ensures ∙ d.place c.clear.new.self.items c.self.inside.part.items c.self.inside.interfaces in
    rw (← c.self.view_is) (record {
      answer = sym some;
      releases = record {
        given_up = λ bytes records h. gives_up _ _ _ _ _ _ bytes _ _ _ records g.0 g.1 refl next d.skip (part_in_block c.after_trailer-self-inside.result.stage c.clear.new.self.items c.clear-2.new.self.items d.stage ∙ c.clear.ensures.items) h;
        free = held_free c.self.inside.refusal _;
        counted = rw d.stage (omega (arith, passed_whole _ c.self.inside.cursor.skip c.self.inside.cursor.left c.self.inside.cursor.total w.at_trailer, w.trailer, w.passed, w.total, d.start, ap length c.clear.ensures.items));
        refusal = refl;
      };
      still = λ none. absurd cc;
    })
