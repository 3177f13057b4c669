-- What each step of feeding does to a reader.
use Rattle.std.proofs.Common.{◌≡◌, ℕ, ◌+◌, ◌-◌, ◌%◌, ◌≤◌, ◌<◌, Bool, true, false, List, [], ◌++◌, length, drop, take, Option, Some, None, is_some, IfSome, refl, ap, sym, ◌∙◌, arith, append_assoc, length-drop, ℤ}
use Rattle.std.proofs.lemmas.List.{take-append-drop, take_all}
use Rattle.std.proofs.lemmas.Bool.Decides.{nat_tests}
use Rattle.std.specs.Option.{option_to_list}
use Rattle.avtp_base.specs.declared.refusal.Refusal.{Refusal}
use Rattle.pcap_frames.specs.Capture.{Record}
use Rattle.pcapng_frames.specs.declared.cursor.Cursor.{Cursor}
use Rattle.pcapng_frames.specs.declared.cursor.PacketHead.{PacketHead}
use Rattle.pcapng_blocks.specs.declared.block.Stage.{Stage}
use Rattle.pcapng_blocks.specs.declared.block.Stage.TheVariants as stage
use Rattle.pcapng_blocks.specs.declared.interface.Interface.{Interface}
use Rattle.pcap_frames.specs.declared.style.Order.{Order}
use Rattle.pcapng_blocks.specs.Blocks.{Place, Contents, refusal_here, refusal_by, order_or_little, block_refused, option_refused, trailer_refused, ends, after_any, size_of_any, and_then, after_trailer, record_by, contents_at}
use Rattle.pcapng_frames.specs.Reading.{Reading, HasRead, passed_by, held_by, after_all, contents_past, rest_of, rest_by}
use Rattle.pcapng_frames.specs.state.Reading.{Takes, IsAt, IsReader, IsReading, IsWhole, IsPart, IsAhead, IsFree, IsUnpacked, HasHead, is_inside, place_of, packet_of, part_at, need_by, packet_with}
use Rattle.pcapng_blocks.specs.state.Needs.{block_need, option_need}
use Rattle.pcapng_frames.proofs.Moves.{reading, going, gathered, past_none, trailer_moves, block_moves, block_stops}
use Rattle.pcapng_blocks.proofs.Options.{at_option_place, at_trailer_place}
use Rattle.pcapng_blocks.proofs.Blocks.{at_block}
use Rattle.pcap_frames.specs.Layout.{number_at}

pub is_part : (refusal : Option Refusal) (whole : Bool) (p : Place) (skip : ℕ) (part : List ℕ) → refusal ≡ None → whole ≡ false → IsReading refusal whole p skip part → IsPart p skip part
is_part refusal whole p skip part none partial h = rw (none, partial) at h

pub is_reading : (refusal : Option Refusal) (whole : Bool) (p : Place) (skip : ℕ) (part : List ℕ) → refusal ≡ None → whole ≡ false → IsPart p skip part → IsReading refusal whole p skip part
is_reading refusal whole p skip part none partial h = rw (none, partial) h

-- `part` are the bytes taken of a block: nothing in them is refused, and more bytes are needed.
pub record IsBlockPart (c : Cursor) (interfaces : List Interface) (part : List ℕ) : Type 0 where
  pub accepted : block_refused c.order interfaces c.start part ≡ None
  pub partial : length part < block_need c.order part
  pub none : c.skip ≡ 0
  pub packet : c.packet ≡ None
  pub interface : c.interface ≡ None

pub ahead_block : (s : Stage) (skip left total : ℕ) → s ≡ stage.Block → IsAhead s skip left total → skip ≡ 0
ahead_block s skip left total is h = rw is at h

free_block : (s : Stage) (packet : Option Record) (interface : Option Interface) → s ≡ stage.Block → IsFree s packet interface → (packet ≡ None) × (interface ≡ None)
free_block s packet interface is h = rw is at h

no_packet : (packet : Option PacketHead) (part : List ℕ) → packet_of packet part ≡ None → packet ≡ None
no_packet None part e = refl
no_packet (Some head) part e = absurd (cc)

pub part_in_block : (s : Stage) (part tail : List ℕ) → s ≡ stage.Block → part_at s part tail ≡ part
part_in_block s part tail is = rw is refl

pub need_in_block : (s : Stage) (order : Option Order) (part : List ℕ) → s ≡ stage.Block → need_by s order part ≡ block_need order part
need_in_block s order part is = rw is refl

block_part : (c : Cursor) (interfaces : List Interface) (part tail : List ℕ) → c.stage ≡ stage.Block → IsPart (place_of c interfaces part) c.skip (part_at c.stage part tail) → IsBlockPart c interfaces part
block_part c interfaces part tail is p =
    let p' : Place = place_of c interfaces part in
    let same : part_at c.stage part tail ≡ part = part_in_block c.stage part tail is in
    let free = free_block c.stage (packet_of c.packet part) c.interface is p.free in
    record {
      accepted = sym (at_block p' part is) ∙ (ap (refusal_here p') (sym same) ∙ p.accepted);
      partial = omega (arith, p.partial, ap length same, ap (need_by c.stage c.order) same, need_in_block c.stage c.order part is);
      none = ahead_block c.stage c.skip c.left c.total is p.ahead;
      packet = no_packet c.packet part free.0;
      interface = free.1;
    }

block_ahead : (s : Stage) (skip left total : ℕ) → s ≡ stage.Block → skip ≡ 0 → IsAhead s skip left total
block_ahead s skip left total is none = rw is none

block_free : (s : Stage) (packet : Option Record) (interface : Option Interface) → s ≡ stage.Block → packet ≡ None → interface ≡ None → IsFree s packet interface
block_free s packet interface is e f = rw is (e, f)

no_room : (interface : Option Interface) (n : ℕ) → interface ≡ None → IfSome interface (λ i. n < 256)
no_room interface n e = rw e tt

packet_none : (packet : Option PacketHead) (part : List ℕ) → packet ≡ None → packet_of packet part ≡ None
packet_none packet part e = rw e refl

pub part_block : (c : Cursor) (interfaces : List Interface) (part tail : List ℕ) → c.stage ≡ stage.Block → IsBlockPart c interfaces part → IsPart (place_of c interfaces part) c.skip (part_at c.stage part tail)
part_block c interfaces part tail is b =
    let p : Place = place_of c interfaces part in
    let same : part_at c.stage part tail ≡ part = part_in_block c.stage part tail is in
    record {
      accepted = ap (refusal_here p) same ∙ (at_block p part is ∙ b.accepted);
      partial = omega (arith, b.partial, ap length same, ap (need_by c.stage c.order) same, need_in_block c.stage c.order part is);
      ahead = block_ahead c.stage c.skip c.left c.total is b.none;
      room = no_room c.interface (length interfaces) b.interface;
      free = block_free c.stage (packet_of c.packet part) c.interface is (packet_none c.packet part b.packet) b.interface;
    }

pub head_none : (order : Option Order) (packet : Option PacketHead) (part : List ℕ) → packet ≡ None → HasHead order packet part
head_none order packet part e = rw e tt

block_rest : (c : Cursor) (interfaces : List Interface) (part tail : List ℕ) (whole : Bool) (refusal : Option Refusal) (more : List ℕ) → refusal ≡ None → whole ≡ false → c.stage ≡ stage.Block → c.skip ≡ 0
    → rest_of (reading (place_of c interfaces part) c.skip (part_at c.stage part tail) whole refusal) more ≡ contents_past 0 (place_of c interfaces part) part more
block_rest c interfaces part tail whole refusal more none partial is zero =
    going (place_of c interfaces part) c.skip (part_at c.stage part tail) whole refusal more none partial
    ∙ (ap (λ (n : ℕ). contents_past n (place_of c interfaces part) (part_at c.stage part tail) more) zero
    ∙ ap (λ (b : List ℕ). contents_past 0 (place_of c interfaces part) b more) (part_in_block c.stage part tail is))

same_place : (c : Cursor) (interfaces : List Interface) (a b : List ℕ) → c.packet ≡ None → place_of c interfaces a ≡ place_of c interfaces b
same_place c interfaces a b e = ap (λ (r : Option Record). record (place_of c interfaces a) { packet = r }) (packet_none c.packet a e ∙ sym (packet_none c.packet b e))

block_more : (c : Cursor) (interfaces : List Interface) (part tail front : List ℕ) (whole : Bool) (refusal : Option Refusal) (more : List ℕ) → refusal ≡ None → whole ≡ false → c.stage ≡ stage.Block → c.skip ≡ 0 → c.packet ≡ None
    → rest_of (reading (place_of c interfaces part) c.skip (part_at c.stage part tail) whole refusal) (front ++ more) ≡ contents_past 0 (place_of c interfaces (part ++ front)) (part ++ front) more
block_more c interfaces part tail front whole refusal more none partial is zero packet =
    block_rest c interfaces part tail whole refusal (front ++ more) none partial is zero
    ∙ (gathered (place_of c interfaces part) part front more
    ∙ ap (λ (p : Place). contents_past 0 p (part ++ front) more) (same_place c interfaces part (part ++ front) packet))

pub block_takes : (c : Cursor) (interfaces : List Interface) (part tail front next : List ℕ) (whole : Bool) (refusal : Option Refusal) → refusal ≡ None → whole ≡ false → c.stage ≡ stage.Block → c.skip ≡ 0 → c.packet ≡ None → next ≡ part ++ front
    → Takes (reading (place_of c interfaces part) c.skip (part_at c.stage part tail) whole refusal) front (reading (place_of c interfaces next) c.skip (part_at c.stage next tail) whole refusal)
block_takes c interfaces part tail front next whole refusal none partial is zero packet e = record {
  same = λ more.
      block_more c interfaces part tail front whole refusal more none partial is zero packet
      ∙ (ap (λ (b : List ℕ). contents_past 0 (place_of c interfaces b) b more) (sym e)
      ∙ sym (block_rest c interfaces next tail whole refusal more none partial is zero));
}

refused_by : (refusal : Option Refusal) (r : Reading) (why : Refusal) (more : List ℕ) → refusal ≡ Some why → rest_by refusal r.whole r more ≡ ends (Some (record { refusal = why; cut = false }))
refused_by refusal r why more e = rw e refl

pub refused_rest : (r : Reading) (why : Refusal) (more : List ℕ) → r.refusal ≡ Some why → rest_of r more ≡ ends (Some (record { refusal = why; cut = false }))
refused_rest r why more e = refused_by r.refusal r why more e

pub part_inside : (s : Stage) (part tail : List ℕ) → is_inside s ≡ true → part_at s part tail ≡ tail
part_inside stage.Block part tail e = absurd (cc)
part_inside stage.Option part tail e = refl
part_inside stage.Trailer part tail e = refl

option_none : (p : Place) → refusal_by stage.Option p [] ≡ None
unfolding option_refused
option_none p = grind (arith, nat_tests)

none_trailer : (p : Place) → refusal_by stage.Trailer p [] ≡ None
unfolding trailer_refused
none_trailer p = refl

none_block : (p : Place) → refusal_by stage.Block p [] ≡ None
unfolding block_refused
none_block p = refl

none_by : (s : Stage) (p : Place) → refusal_by s p [] ≡ None
none_by stage.Block p = none_block p
none_by stage.Option p = option_none p
none_by stage.Trailer p = none_trailer p

pub none_refused : (p : Place) → refusal_here p [] ≡ None
unfolding refusal_here
none_refused p = none_by p.stage p

need_some : (s : Stage) (order : Option Order) → 1 ≤ need_by s order []
unfolding block_need option_need
need_some stage.Block order = omega arith
need_some stage.Option order = omega arith
need_some stage.Trailer order = omega arith

inside_free : (s : Stage) (packet : Option PacketHead) (part : List ℕ) (interface : Option Interface) → is_inside s ≡ true → IsUnpacked s packet → IsFree s (packet_of packet part) interface
inside_free stage.Block packet part interface e h = absurd (cc)
inside_free stage.Option packet part interface e h = packet_none packet part h
inside_free stage.Trailer packet part interface e h = tt

pub block_refuses : (c : Cursor) (interfaces : List Interface) (part tail piece next : List ℕ) (n : ℕ) (whole : Bool) (refusal : Option Refusal) (why : Refusal) (new : Reading) → refusal ≡ None → whole ≡ false → c.stage ≡ stage.Block → c.skip ≡ 0 → c.packet ≡ None → next ≡ part ++ take n piece
    → block_refused c.order interfaces c.start next ≡ Some why → new.refusal ≡ Some why
    → Takes (reading (place_of c interfaces part) c.skip (part_at c.stage part tail) whole refusal) piece new
block_refuses c interfaces part tail piece next n whole refusal why new none partial is zero packet e refused after = record {
  same = λ more.
      let split : piece ++ more ≡ take n piece ++ (drop n piece ++ more) = ap (λ (b : List ℕ). b ++ more) (sym (take-append-drop n piece)) ∙ append_assoc (take n piece) (drop n piece) more in
      ap (rest_of (reading (place_of c interfaces part) c.skip (part_at c.stage part tail) whole refusal)) split
      ∙ (block_more c interfaces part tail (take n piece) whole refusal (drop n piece ++ more) none partial is zero packet
      ∙ (ap (λ (b : List ℕ). contents_past 0 (place_of c interfaces b) b (drop n piece ++ more)) (sym e)
      ∙ (block_stops (place_of c interfaces next) next (drop n piece ++ more) why is (at_block (place_of c interfaces next) next is ∙ refused)
      ∙ sym (refused_rest new why more after))));
}

pub block_ends : (c d : Cursor) (interfaces others : List Interface) (part tail front next clear : List ℕ) (whole : Bool) (refusal : Option Refusal) → refusal ≡ None → whole ≡ false → c.stage ≡ stage.Block → c.skip ≡ 0 → c.packet ≡ None → next ≡ part ++ front
    → 8 ≤ length next → length next ≡ block_need c.order next → block_refused c.order interfaces c.start next ≡ None
    → place_of d others next ≡ after_any (place_of c interfaces next) next → size_of_any c.order next ≡ length next + d.skip → is_inside d.stage ≡ true → clear ≡ []
    → Takes (reading (place_of c interfaces part) c.skip (part_at c.stage part tail) whole refusal) front (reading (place_of d others next) d.skip (part_at d.stage next clear) whole refusal)
block_ends c d interfaces others part tail front next clear whole refusal none partial is zero packet e long need accepted after size inside empty = record {
  same = λ more.
      block_more c interfaces part tail front whole refusal more none partial is zero packet
      ∙ (ap (λ (b : List ℕ). contents_past 0 (place_of c interfaces b) b more) (sym e)
      ∙ (block_moves (place_of c interfaces next) (place_of d others next) next more d.skip is long need (at_block (place_of c interfaces next) next is ∙ accepted) (sym after) size
      ∙ (ap (λ (b : List ℕ). contents_past d.skip (place_of d others next) b more) (sym (part_inside d.stage next clear inside ∙ empty))
      ∙ sym (going (place_of d others next) d.skip (part_at d.stage next clear) whole refusal more none partial))));
}

-- once the needed bytes of a block were taken, the reader is before an option or a trailer, and has taken no byte of it
pub inside_part : (d : Cursor) (others : List Interface) (next clear : List ℕ) → is_inside d.stage ≡ true → IsAhead d.stage d.skip d.left d.total → IsUnpacked d.stage d.packet → IfSome d.interface (λ i. length others < 256) → clear ≡ []
    → IsPart (place_of d others next) d.skip (part_at d.stage next clear)
inside_part d others next clear inside ahead unpacked room empty =
    let p : Place = place_of d others next in
    let none : part_at d.stage next clear ≡ [] = part_inside d.stage next clear inside ∙ empty in
    record {
      accepted = ap (refusal_here p) none ∙ none_refused p;
      partial = omega (arith, ap length none, ap (need_by d.stage d.order) none, need_some d.stage d.order);
      ahead = ahead;
      room = room;
      free = inside_free d.stage d.packet next d.interface inside unpacked;
    }

pub inside_size : (d : Cursor) (next clear : List ℕ) → is_inside d.stage ≡ true → clear ≡ [] → length (part_at d.stage next clear) ≡ 0
inside_size d next clear inside empty = ap length (part_inside d.stage next clear inside ∙ empty)

more_rest : (p : Place) (skip : ℕ) (part front : List ℕ) (whole : Bool) (refusal : Option Refusal) (more : List ℕ) → refusal ≡ None → whole ≡ false → skip ≡ 0 → rest_of (reading p skip part whole refusal) (front ++ more) ≡ contents_past 0 p (part ++ front) more
more_rest p skip part front whole refusal more none partial zero =
    going p skip part whole refusal (front ++ more) none partial
    ∙ (ap (λ (n : ℕ). contents_past n p part (front ++ more)) zero ∙ gathered p part front more)

pub takes_more : (p : Place) (skip : ℕ) (part front next : List ℕ) (whole : Bool) (refusal : Option Refusal) → refusal ≡ None → whole ≡ false → skip ≡ 0 → next ≡ part ++ front → Takes (reading p skip part whole refusal) front (reading p skip next whole refusal)
takes_more p skip part front next whole refusal none partial zero e = record {
  same = λ more.
      more_rest p skip part front whole refusal more none partial zero
      ∙ (ap (λ (b : List ℕ). contents_past 0 p b more) (sym e)
      ∙ (ap (λ (n : ℕ). contents_past n p next more) (sym zero) ∙ sym (going p skip next whole refusal more none partial)));
}

pub refuses_more : (p : Place) (skip : ℕ) (part piece next : List ℕ) (n : ℕ) (whole : Bool) (refusal : Option Refusal) (why : Refusal) (new : Reading) → refusal ≡ None → whole ≡ false → skip ≡ 0 → next ≡ part ++ take n piece
    → ((more : List ℕ) → contents_past 0 p next more ≡ ends (Some (record { refusal = why; cut = false }))) → new.refusal ≡ Some why → Takes (reading p skip part whole refusal) piece new
refuses_more p skip part piece next n whole refusal why new none partial zero e stop after = record {
  same = λ more.
      let split : piece ++ more ≡ take n piece ++ (drop n piece ++ more) = ap (λ (b : List ℕ). b ++ more) (sym (take-append-drop n piece)) ∙ append_assoc (take n piece) (drop n piece) more in
      ap (rest_of (reading p skip part whole refusal)) split
      ∙ (more_rest p skip part (take n piece) whole refusal (drop n piece ++ more) none partial zero
      ∙ (ap (λ (b : List ℕ). contents_past 0 p b (drop n piece ++ more)) (sym e)
      ∙ (stop (drop n piece ++ more) ∙ sym (refused_rest new why more after))));
}

pub ends_more : (p q : Place) (skip skip' : ℕ) (part front next clear : List ℕ) (whole : Bool) (refusal : Option Refusal) → refusal ≡ None → whole ≡ false → skip ≡ 0 → next ≡ part ++ front
    → ((more : List ℕ) → contents_past 0 p next more ≡ contents_past skip' q [] more) → clear ≡ [] → Takes (reading p skip part whole refusal) front (reading q skip' clear whole refusal)
ends_more p q skip skip' part front next clear whole refusal none partial zero e moved empty = record {
  same = λ more.
      more_rest p skip part front whole refusal more none partial zero
      ∙ (ap (λ (b : List ℕ). contents_past 0 p b more) (sym e)
      ∙ (moved more
      ∙ (ap (λ (b : List ℕ). contents_past skip' q b more) (sym empty) ∙ sym (going q skip' clear whole refusal more none partial))));
}

pub holding : (p : Place) (skip : ℕ) (part : List ℕ) (held : Bool) (refusal : Option Refusal) (more : List ℕ) → refusal ≡ None → held ≡ true → rest_of (reading p skip part held refusal) more ≡ and_then p.packet (contents_at (after_trailer p) more)
holding p skip part held refusal more none is = rw (none, is) refl

-- once the trailer of a packet's block is complete, the reader holds the packet
pub holds_more : (p : Place) (skip : ℕ) (part front next : List ℕ) (whole held : Bool) (refusal : Option Refusal) → refusal ≡ None → whole ≡ false → held ≡ true → skip ≡ 0 → next ≡ part ++ front
    → ((more : List ℕ) → contents_past 0 p next more ≡ and_then p.packet (contents_at (after_trailer p) more)) → Takes (reading p skip part whole refusal) front (reading p skip next held refusal)
holds_more p skip part front next whole held refusal none partial is zero e moved = record {
  same = λ more.
      more_rest p skip part front whole refusal more none partial zero
      ∙ (ap (λ (b : List ℕ). contents_past 0 p b more) (sym e) ∙ (moved more ∙ sym (holding p skip next held refusal more none is)));
}

-- `tail` are the bytes taken of an option: nothing in them is refused, and more bytes are needed.
pub record IsOptionPart (c : Cursor) (interfaces : List Interface) (tail : List ℕ) : Type 0 where
  pub accepted : option_refused (order_or_little c.order) (c.start + (c.total - 4 - c.left)) c.left tail ≡ None
  pub partial : length tail < option_need (order_or_little c.order) tail
  pub some : 0 < c.left
  pub four : c.left % 4 ≡ 0
  pub within : c.skip + c.left + 4 ≤ c.total
  pub packet : c.packet ≡ None
  pub room : IfSome c.interface (λ i. length interfaces < 256)

ahead_option : (s : Stage) (skip left total : ℕ) → s ≡ stage.Option → IsAhead s skip left total → (0 < left) × (left % 4 ≡ 0) × (skip + left + 4 ≤ total)
ahead_option s skip left total is h = rw is at h

free_option : (s : Stage) (packet : Option Record) (interface : Option Interface) → s ≡ stage.Option → IsFree s packet interface → packet ≡ None
free_option s packet interface is h = rw is at h

pub part_in_option : (s : Stage) (part tail : List ℕ) → s ≡ stage.Option → part_at s part tail ≡ tail
part_in_option s part tail is = rw is refl

pub need_in_option : (s : Stage) (order : Option Order) (part : List ℕ) → s ≡ stage.Option → need_by s order part ≡ option_need (order_or_little order) part
need_in_option s order part is = rw is refl

option_part : (c : Cursor) (interfaces : List Interface) (part tail : List ℕ) → c.stage ≡ stage.Option → IsPart (place_of c interfaces part) c.skip (part_at c.stage part tail) → IsOptionPart c interfaces tail
option_part c interfaces part tail is p =
    let p' : Place = place_of c interfaces part in
    let same : part_at c.stage part tail ≡ tail = part_in_option c.stage part tail is in
    let ahead = ahead_option c.stage c.skip c.left c.total is p.ahead in
    record {
      accepted = sym (at_option_place p' tail is) ∙ (ap (refusal_here p') (sym same) ∙ p.accepted);
      partial = omega (arith, p.partial, ap length same, ap (need_by c.stage c.order) same, need_in_option c.stage c.order tail is);
      some = ahead.0;
      four = ahead.1;
      within = ahead.2;
      packet = no_packet c.packet part (free_option c.stage (packet_of c.packet part) c.interface is p.free);
      room = p.room;
    }

option_ahead : (s : Stage) (skip left total : ℕ) → s ≡ stage.Option → (0 < left) × (left % 4 ≡ 0) × (skip + left + 4 ≤ total) → IsAhead s skip left total
option_ahead s skip left total is h = rw is h

option_free : (s : Stage) (packet : Option Record) (interface : Option Interface) → s ≡ stage.Option → packet ≡ None → IsFree s packet interface
option_free s packet interface is e = rw is e

pub part_option : (c : Cursor) (interfaces : List Interface) (part tail : List ℕ) → c.stage ≡ stage.Option → IsOptionPart c interfaces tail → IsPart (place_of c interfaces part) c.skip (part_at c.stage part tail)
part_option c interfaces part tail is b =
    let p : Place = place_of c interfaces part in
    let same : part_at c.stage part tail ≡ tail = part_in_option c.stage part tail is in
    record {
      accepted = ap (refusal_here p) same ∙ (at_option_place p tail is ∙ b.accepted);
      partial = omega (arith, b.partial, ap length same, ap (need_by c.stage c.order) same, need_in_option c.stage c.order tail is);
      ahead = option_ahead c.stage c.skip c.left c.total is (b.some, b.four, b.within);
      room = b.room;
      free = option_free c.stage (packet_of c.packet part) c.interface is (packet_none c.packet part b.packet);
    }

-- `tail` are the bytes taken of a trailer that is not complete.
pub record IsTrailerPart (c : Cursor) (interfaces : List Interface) (tail : List ℕ) : Type 0 where
  pub partial : length tail < 4
  pub within : c.skip + 4 ≤ c.total
  pub room : IfSome c.interface (λ i. length interfaces < 256)

ahead_trailer : (s : Stage) (skip left total : ℕ) → s ≡ stage.Trailer → IsAhead s skip left total → skip + 4 ≤ total
ahead_trailer s skip left total is h = rw is at h

pub part_in_trailer : (s : Stage) (part tail : List ℕ) → s ≡ stage.Trailer → part_at s part tail ≡ tail
part_in_trailer s part tail is = rw is refl

pub need_in_trailer : (s : Stage) (order : Option Order) (part : List ℕ) → s ≡ stage.Trailer → need_by s order part ≡ 4
need_in_trailer s order part is = rw is refl

trailer_part : (c : Cursor) (interfaces : List Interface) (part tail : List ℕ) → c.stage ≡ stage.Trailer → IsPart (place_of c interfaces part) c.skip (part_at c.stage part tail) → IsTrailerPart c interfaces tail
trailer_part c interfaces part tail is p =
    let same : part_at c.stage part tail ≡ tail = part_in_trailer c.stage part tail is in
    record {
      partial = omega (arith, p.partial, ap length same, ap (need_by c.stage c.order) same, need_in_trailer c.stage c.order tail is);
      within = ahead_trailer c.stage c.skip c.left c.total is p.ahead;
      room = p.room;
    }

trailer_ahead : (s : Stage) (skip left total : ℕ) → s ≡ stage.Trailer → skip + 4 ≤ total → IsAhead s skip left total
trailer_ahead s skip left total is h = rw is h

trailer_free : (s : Stage) (packet : Option Record) (interface : Option Interface) → s ≡ stage.Trailer → IsFree s packet interface
trailer_free s packet interface is = rw is tt

pub part_trailer : (c : Cursor) (interfaces : List Interface) (part tail : List ℕ) → c.stage ≡ stage.Trailer → trailer_refused (order_or_little c.order) (c.start + (c.total - 4)) c.total tail ≡ None → IsTrailerPart c interfaces tail → IsPart (place_of c interfaces part) c.skip (part_at c.stage part tail)
part_trailer c interfaces part tail is accepted b =
    let p : Place = place_of c interfaces part in
    let same : part_at c.stage part tail ≡ tail = part_in_trailer c.stage part tail is in
    record {
      accepted = ap (refusal_here p) same ∙ (at_trailer_place p tail is ∙ accepted);
      partial = omega (arith, b.partial, ap length same, ap (need_by c.stage c.order) same, need_in_trailer c.stage c.order tail is);
      ahead = trailer_ahead c.stage c.skip c.left c.total is b.within;
      room = b.room;
      free = trailer_free c.stage (packet_of c.packet part) c.interface is;
    }

packet_some : (packet : Option PacketHead) (part : List ℕ) → is_some packet ≡ true → is_some (packet_of packet part) ≡ true
packet_some None part e = absurd (cc)
packet_some (Some head) part e = refl

packet_absent : (packet : Option PacketHead) (part : List ℕ) → is_some packet ≡ false → packet_of packet part ≡ None
packet_absent None part e = refl
packet_absent (Some head) part e = absurd (cc)

pub whole_by : (refusal : Option Refusal) (whole : Bool) (p : Place) (skip : ℕ) (part : List ℕ) → refusal ≡ None → whole ≡ true → IsWhole p skip part → IsReading refusal whole p skip part
whole_by refusal whole p skip part none is h = rw (none, is) h

-- if the trailer of a packet's block is whole, the reader's invariant holds
pub trailer_whole : (c : Cursor) (interfaces : List Interface) (part tail : List ℕ) (refusal : Option Refusal) (whole : Bool) → refusal ≡ None → whole ≡ true → c.stage ≡ stage.Trailer → c.skip ≡ 0 → 4 ≤ c.total → length tail ≡ 4 → is_some c.packet ≡ true → IfSome c.interface (λ i. length interfaces < 256)
    → IsReading refusal whole (place_of c interfaces part) c.skip (part_at c.stage part tail)
trailer_whole c interfaces part tail refusal whole none held is zero total size some room =
    whole_by refusal whole (place_of c interfaces part) c.skip (part_at c.stage part tail) none held (record {
      at_trailer = is;
      passed = zero;
      trailer = ap length (part_in_trailer c.stage part tail is) ∙ size;
      total = total;
      some = packet_some c.packet part some;
      room = room;
    })

and_nothing : (packet : Option Record) (rest : Contents) → packet ≡ None → and_then packet rest ≡ rest
and_nothing packet rest e = rw e refl

-- if a block holds no packet, and the trailer of the block is complete and not refused, the reader moves to the next
-- place
pub trailer_ends : (c : Cursor) (interfaces : List Interface) (part tail more : List ℕ) (q : Place) → c.stage ≡ stage.Trailer → length tail ≡ 4 → trailer_refused (order_or_little c.order) (c.start + (c.total - 4)) c.total tail ≡ None → is_some c.packet ≡ false → q ≡ after_trailer (place_of c interfaces part)
    → contents_past 0 (place_of c interfaces part) tail more ≡ contents_past 0 q [] more
trailer_ends c interfaces part tail more q is size accepted free next =
    let p : Place = place_of c interfaces part in
    trailer_moves p tail more is size (at_trailer_place p tail is ∙ accepted)
    ∙ (and_nothing p.packet (contents_at (after_trailer p) more) (packet_absent c.packet part free)
    ∙ (ap (λ (x : Place). contents_at x more) (sym next) ∙ sym (past_none q [] more)))

pub is_whole : (refusal : Option Refusal) (whole : Bool) (p : Place) (skip : ℕ) (part : List ℕ) → refusal ≡ None → whole ≡ true → IsReading refusal whole p skip part → IsWhole p skip part
is_whole refusal whole p skip part none held h = rw (none, held) at h

pub passed_whole : (s : Stage) (skip left total : ℕ) → s ≡ stage.Trailer → passed_by s skip left total ≡ total - 4 - skip
passed_whole s skip left total is = rw is refl

pub held_whole : (refusal : Option Refusal) (whole : Bool) (packet : Option Record) → refusal ≡ None → whole ≡ true → held_by refusal whole packet ≡ packet
held_whole refusal whole packet none is = rw (none, is) refl

after_both : (records : List Record) (packet : Option Record) (rest : Contents) → after_all records (and_then packet rest) ≡ after_all (records ++ option_to_list packet) rest
after_both records packet rest = ap (λ (rs : List Record). record rest { records = rs }) (sym (append_assoc records (option_to_list packet) rest.records))

-- releasing the held packet appends it to the released packets
pub gives_up : (p q : Place) (skip after : ℕ) (part clear bytes : List ℕ) (whole gone : Bool) (refusal : Option Refusal) (records : List Record) → refusal ≡ None → whole ≡ true → gone ≡ false → q ≡ after_trailer p → after ≡ 0 → clear ≡ []
    → HasRead (reading p skip part whole refusal) bytes records → HasRead (reading q after clear gone refusal) bytes (records ++ option_to_list (held_by refusal whole p.packet))
gives_up p q skip after part clear bytes whole gone refusal records none is free next zero empty h = record {
  read = λ more.
      h.read more
      ∙ (ap (after_all records) (holding p skip part whole refusal more none is)
      ∙ (after_both records p.packet (contents_at (after_trailer p) more)
      ∙ (ap (λ (x : Option Record). after_all (records ++ option_to_list x) (contents_at (after_trailer p) more)) (sym (held_whole refusal whole p.packet none is))
      ∙ ap (after_all (records ++ option_to_list (held_by refusal whole p.packet)))
      (ap (λ (x : Place). contents_at x more) (sym next)
      ∙ (sym (past_none q [] more)
      ∙ (ap (λ (n : ℕ). contents_past n q [] more) (sym zero)
      ∙ (ap (λ (b : List ℕ). contents_past after q b more) (sym empty) ∙ sym (going q after clear gone refusal more none free))))))));
}

-- ---- how far a reader is in a block

pub block_begun : {c : Cursor} {interfaces : List Interface} {part tail piece : List ℕ} {whole : Bool} {refusal : Option Refusal} {n m : ℕ} → IsReader c interfaces part tail whole refusal n m
    → IsAt stage.Block (reading (place_of c interfaces part) c.skip (part_at c.stage part tail) whole refusal) piece → IsBlockPart c interfaces part
block_begun {c} {interfaces} {part} {tail} {piece} {whole} {refusal} {n} {m} reader at =
    block_part c interfaces part tail at.stage (is_part refusal whole (place_of c interfaces part) c.skip (part_at c.stage part tail) at.going.accepted at.going.partial reader.reading)

pub option_begun : {c : Cursor} {interfaces : List Interface} {part tail piece : List ℕ} {whole : Bool} {refusal : Option Refusal} {n m : ℕ} → IsReader c interfaces part tail whole refusal n m
    → IsAt stage.Option (reading (place_of c interfaces part) c.skip (part_at c.stage part tail) whole refusal) piece → IsOptionPart c interfaces tail
option_begun {c} {interfaces} {part} {tail} {piece} {whole} {refusal} {n} {m} reader at =
    option_part c interfaces part tail at.stage (is_part refusal whole (place_of c interfaces part) c.skip (part_at c.stage part tail) at.going.accepted at.going.partial reader.reading)

pub trailer_begun : {c : Cursor} {interfaces : List Interface} {part tail piece : List ℕ} {whole : Bool} {refusal : Option Refusal} {n m : ℕ} → IsReader c interfaces part tail whole refusal n m
    → IsAt stage.Trailer (reading (place_of c interfaces part) c.skip (part_at c.stage part tail) whole refusal) piece → IsTrailerPart c interfaces tail
trailer_begun {c} {interfaces} {part} {tail} {piece} {whole} {refusal} {n} {m} reader at =
    trailer_part c interfaces part tail at.stage (is_part refusal whole (place_of c interfaces part) c.skip (part_at c.stage part tail) at.going.accepted at.going.partial reader.reading)

-- if a reader holds a packet, it has no refusal
pub held_going : (refusal : Option Refusal) (whole : Bool) (packet : Option Record) → is_some (held_by refusal whole packet) ≡ true → (refusal ≡ None) × (whole ≡ true)
held_going (Some why) whole packet some = absurd cc
held_going None false packet some = absurd cc
held_going None true packet some = (refl, refl)

pub held_free : (refusal : Option Refusal) (packet : Option Record) → held_by refusal false packet ≡ None
held_free None packet = refl
held_free (Some why) packet = refl

-- the fixed fields and the captured bytes of a packet give the packet of the block
pub packet_is : (head : PacketHead) (arrival : Option ℤ) (order : Order) (part : List ℕ) → Some head.arrival ≡ arrival → head.orig_len ≡ number_at order 24 4 part → length part ≡ 28 + number_at order 20 4 part
    → Some (packet_with head part) ≡ record_by arrival order part
packet_is head arrival order part e l size =
    rw (← e, l, take_all (number_at order 20 4 part) (drop 28 part) (omega (arith, length-drop 28 part))) refl
