-- A packet that is lent.
use Rattle.std.proofs.Common.{◌≡◌, ℕ, ◌+◌, ◌-◌, ◌≤◌, Bool, true, false, List, [], ◌++◌, length, drop, take, Option, Some, None, Ok, IsSome, is_some, inl, inr, refl, ap, sym, ◌∙◌, arith, append_assoc, length-append, length-drop}
use Rattle.std.specs.Prelude.{option_to_list}
use Rattle.std.proofs.lemmas.List.{append-nil, length-take-le, take-append-drop}
use Rattle.avtp_base.specs.declared.refusal.Refusal.{Refusal}
use Rattle.pcap_frames.specs.Capture.{Record}
use Rattle.pcap_frames.specs.declared.style.Order.{Order}
use Rattle.pcap_frames.specs.Readers.{Feeds, Releases}
use Rattle.pcap_frames.proofs.Steps.{feeds, none_some}
use Rattle.pcapng_blocks.specs.declared.block.Kind.{Kind}
use Rattle.pcapng_blocks.specs.declared.block.Kind.TheVariants as kind
use Rattle.pcapng_blocks.specs.declared.block.Stage.{Stage}
use Rattle.pcapng_blocks.specs.declared.block.Stage.TheVariants as stage
use Rattle.pcapng_blocks.specs.declared.interface.Interface.{Interface}
use Rattle.pcapng_blocks.specs.Fields.{packet_arrival}
use Rattle.pcapng_blocks.specs.state.Fields.{head_size}
use Rattle.pcapng_blocks.specs.Blocks.{Place, after_block, after_trailer, cut_short, kind_at, next_place, order_or_little, refusal_here, size_here, contents_at}
use Rattle.pcapng_frames.specs.Reading.{IsNext, Reading, after_all, contents_past, held, held_by, meaning, passed_by, passing, progress, rest_of, taken, with_block}
use Rattle.pcapng_frames.specs.state.Reading.{IsReading, Takes}
use Rattle.pcapng_blocks.proofs.Blocks.{at_block, at_block_rows, block_stays, cut_body, next_at_block, none_in_block, place_stays, size_at_block, size_stays}
use Rattle.pcapng_frames.proofs.Feeding.{gives_up, held_whole, holding, is_part, is_reading, none_refused, whole_by}
use Rattle.pcapng_frames.proofs.Moves.{gathered, going, goes_on, moves, past_none, trailer_moves}
use Rattle.pcapng_blocks.proofs.Places.{unroll}
use Rattle.pcapng_blocks.proofs.Options.{at_trailer_place}
use Rattle.pcapng_frames.proofs.Rest.{sure}
use Rattle.pcapng_blocks.proofs.Packets.{accepted_fits, accepted_time, block_accepted, block_place, block_sized, head_within, record_some, trailer_accepted}

next_takes : (r : Reading) (block : List ℕ) → IsNext r block → Takes r block (with_block r block)
next_takes r block next = record {
  same = λ more.
      let p : Place = r.place in
      let b = next.packet in
      let q : Place = after_block kind.Packet p (length block) block in
      let body : List ℕ = take (length block - 4) block in
      let last : List ℕ = drop (length block - 4) block in
      let all : body ++ (last ++ more) ≡ block ++ more = sym (append_assoc body last more) ∙ ap (λ (x : List ℕ). x ++ more) (take-append-drop (length block - 4) block) in
      let sized : length body ≡ length block - 4 = length-take-le (length block - 4) block (omega arith) in
      let four : length last ≡ 4 = length-drop (length block - 4) block ∙ omega (arith, b.long) in
      let front : head_size (kind_at p.order block) ≤ length block = head_within (kind_at p.order block) (length block) b.kind (omega (arith, b.long)) in
      let room = accepted_fits (order_or_little p.order) p.interfaces block (omega (arith, b.long)) b.accepted in
      going p r.skip r.part r.whole r.refusal (block ++ more) next.accepted next.free
      ∙ (ap (λ (n : ℕ). contents_past n p r.part (block ++ more)) next.ready
      ∙ (ap (λ (x : List ℕ). contents_past 0 p x (block ++ more)) next.untaken
      ∙ (ap (contents_past 0 p []) (sym all)
      ∙ (gathered p [] body (last ++ more)
      ∙ (moves p q body (last ++ more) 0
      (ap (refusal_here p) all ∙ (at_block_rows p (block ++ more) next.before ∙ block_stays p.order p.interfaces p.start block more None (block_accepted p block next.opened b) (λ e. front)))
      (ap (size_here p) all ∙ (size_at_block p (block ++ more) next.before ∙ (size_stays p.order block more front ∙ (block_sized p block b ∙ omega (arith, sized)))))
      (ap (next_place p) all ∙ (next_at_block p (block ++ more) next.before ∙ (place_stays p block more front (λ is. omega (arith, room, b.total, b.long)) ∙ block_place p block b)))
      (none_in_block p.stage p.packet next.before)
      (ap (cut_short p) all ∙ cut_body p (block ++ more) next.before (omega (arith, length-append block more, b.long)))
      ∙ (gathered q [] last more
      ∙ (trailer_moves q last more refl four (at_trailer_place q last refl ∙ trailer_accepted (order_or_little p.order) (p.start + (length block - 4)) (length block) last b.trailer)
      ∙ sym (holding q 0 last true r.refusal more next.accepted refl))))))));
}

block_record : (r : Reading) (block : List ℕ) → IsNext r block → is_some (with_block r block).place.packet ≡ true
block_record r block next =
    let order : Order = order_or_little r.place.order in
    record_some (packet_arrival order r.place.interfaces block) order block (accepted_time order r.place.interfaces block (omega (arith, next.packet.long)) next.packet.accepted)

-- after the reader took the block of the next packet, the reader holds this packet
pub holds_block : (r : Reading) (block : List ℕ) → IsNext r block → held (with_block r block) ≡ (with_block r block).place.packet
holds_block r block next = held_whole r.refusal true (with_block r block).place.packet next.accepted refl

pub next_held : (r : Reading) (block : List ℕ) → IsNext r block → IsSome (held (with_block r block))
next_held r block next = ap is_some (holds_block r block next) ∙ block_record r block next

-- after the reader took the block of the next packet, the reader's invariant holds
next_reading : (r : Reading) (block : List ℕ) → IsNext r block → IsReading r.refusal true (with_block r block).place 0 (drop (length block - 4) block)
next_reading r block next =
    whole_by r.refusal true (with_block r block).place 0 (drop (length block - 4) block) next.accepted refl (record {
      at_trailer = refl;
      passed = refl;
      trailer = length-drop (length block - 4) block ∙ omega (arith, next.packet.long);
      total = omega (arith, next.packet.long);
      some = block_record r block next;
      room = tt;
    })

passed_none : (s : Stage) (skip left total : ℕ) → s ≡ stage.Block → passed_by s skip left total ≡ 0
passed_none s skip left total is = rw is refl

free_held : (refusal : Option Refusal) (whole : Bool) (packet : Option Record) → whole ≡ false → held_by refusal whole packet ≡ None
free_held (Some why) whole packet free = refl
free_held None whole packet free = rw free refl

-- if the reader is before the block of the next packet, it has taken all bytes before that block and no others
pub before_block : (r : Reading) (block : List ℕ) → IsNext r block → taken r ≡ r.place.start
before_block r block next = omega (arith, passed_none r.place.stage r.skip r.place.left r.place.total next.before, ap length next.untaken)

after_the_block : (r : Reading) (block : List ℕ) → IsNext r block → taken (with_block r block) ≡ r.place.start + length block
after_the_block r block next = omega (arith, length-drop (length block - 4) block, next.packet.long)

-- taking the block of the next packet from a piece counts as feeding the block's bytes
pub next_feeds : (r : Reading) (piece : List ℕ) (size : ℕ) → size ≤ length piece → IsNext r (take size piece) → Feeds meaning (progress r) piece (Ok size) (progress (with_block r (take size piece)))
next_feeds r piece size within next =
    let block : List ℕ = take size piece in
    let new : Reading = with_block r block in
    let long : length block ≡ size = length-take-le size piece within in
    let some = next.packet.long in
    let counted : taken new ≡ taken r + size = omega (arith, before_block r block next, after_the_block r block next, long) in
    feeds meaning (progress r) (progress new) piece (Ok size) next.accepted (record {
      steps = record {
        within = within;
        counted = counted;
        bounded = omega (arith, counted, within);
        read = goes_on r new block (next_takes r block next);
        accepted = next.accepted;
        refused = tt;
        stopped = tt;
      };
      nothing = (
        λ zero. absurd (omega (arith, zero, some, long)),
        λ either. elim either [
          | inl empty ↦ absurd (omega (arith, empty, some, long, within))
          | inr is ↦ absurd (none_some (held r) (free_held r.refusal r.whole r.place.packet next.free) is)
        ],
      );
      end = λ less. next_held r block next;
    }) (sure new next.accepted (next_reading r block next))

-- ---- before a block, only the section and the block's offset matter

abbrev plain : Place → Place
plain p = record {
  stage = stage.Block;
  order = p.order;
  interfaces = p.interfaces;
  interface = None;
  start = p.start;
  total = 0;
  left = 0;
  packet = None;
}

after_same : (k : Kind) (p : Place) (total : ℕ) (bytes : List ℕ) → after_block k p total bytes ≡ after_block k (plain p) total bytes
after_same kind.Section p total bytes = refl
after_same kind.Interface p total bytes = refl
after_same kind.Packet p total bytes = refl
after_same kind.Other p total bytes = refl

refusal_same : (p : Place) (bytes : List ℕ) → p.stage ≡ stage.Block → refusal_here p bytes ≡ refusal_here (plain p) bytes
refusal_same p bytes is = at_block p bytes is ∙ sym (at_block (plain p) bytes refl)

size_same : (p : Place) (bytes : List ℕ) → p.stage ≡ stage.Block → size_here p bytes ≡ size_here (plain p) bytes
size_same p bytes is = size_at_block p bytes is ∙ sym (size_at_block (plain p) bytes refl)

next_same : (p : Place) (bytes : List ℕ) → p.stage ≡ stage.Block → next_place p bytes ≡ next_place (plain p) bytes
next_same p bytes is = next_at_block p bytes is ∙ (after_same (kind_at p.order bytes) p _ bytes ∙ sym (next_at_block (plain p) bytes refl))

cut_same : (p : Place) (bytes : List ℕ) → p.stage ≡ stage.Block → cut_short p bytes ≡ cut_short (plain p) bytes
cut_same p bytes is = rw is refl

plain_same : (p : Place) (bytes : List ℕ) → p.stage ≡ stage.Block → contents_at p bytes ≡ contents_at (plain p) bytes
plain_same p bytes is =
    unroll p bytes
    ∙ (rw (refusal_same p bytes is, size_same p bytes is, next_same p bytes is, cut_same p bytes is, none_in_block p.stage p.packet is) refl
    ∙ sym (unroll (plain p) bytes))

-- the bytes after the block of the next packet hold the same contents, whether that block was taken or skipped
place_after : (r : Reading) (block more : List ℕ) → IsNext r block → contents_at (after_trailer (with_block r block).place) more ≡ contents_at (passing r block).place more
place_after r block more next =
    ap (λ (xs : List Interface). contents_at (record (after_trailer (with_block r block).place) { interfaces = xs }) more) (append-nil r.place.interfaces)
    ∙ sym (plain_same (passing r block).place more next.before)

rest_before : (r : Reading) (p : Place) (more : List ℕ) → r.refusal ≡ None → r.whole ≡ false → r.skip ≡ 0 → r.part ≡ [] → rest_of (record r { place = p }) more ≡ contents_at p more
rest_before r p more accepted free ready untaken =
    going p r.skip r.part r.whole r.refusal more accepted free
    ∙ (ap (λ (n : ℕ). contents_past n p r.part more) ready
    ∙ (ap (λ (b : List ℕ). contents_past 0 p b more) untaken ∙ past_none p [] more))

-- skipping the block of the next packet has the effect of taking it and then releasing the packet
pub next_releases : (r : Reading) (block : List ℕ) → IsNext r block → Releases (progress (with_block r block)) (progress (passing r block))
next_releases r block next =
    let q : Place = (with_block r block).place in
    record {
      given_up = λ bytes records h.
          let gone = gives_up q (after_trailer q) 0 r.skip (drop (length block - 4) block) r.part bytes true r.whole r.refusal records next.accepted refl next.free refl next.ready next.untaken h in
          record {
            read = λ more.
                gone.read more
                ∙ ap (after_all (records ++ option_to_list (held (with_block r block))))
                (rest_before r (after_trailer q) more next.accepted next.free next.ready next.untaken
                ∙ (place_after r block more next
                ∙ sym (rest_before r (passing r block).place more next.accepted next.free next.ready next.untaken)));
          };
      free = free_held r.refusal r.whole r.place.packet next.free;
      counted = omega (arith, after_the_block r block next, passed_none r.place.stage r.skip r.place.left r.place.total next.before, ap length next.untaken);
      refusal = refl;
    }

-- ---- the reader's invariant

-- after the block of the next packet was skipped, the reader's invariant holds
pub still_before : (r : Reading) (block : List ℕ) → IsNext r block → IsReading r.refusal r.whole r.place r.skip r.part → IsReading r.refusal r.whole (passing r block).place r.skip r.part
still_before r block next h =
    let p = is_part r.refusal r.whole r.place r.skip r.part next.accepted next.free h in
    is_reading r.refusal r.whole (passing r block).place r.skip r.part next.accepted next.free (record {
      accepted = ap (refusal_here (passing r block).place) next.untaken ∙ none_refused (passing r block).place;
      partial = p.partial;
      ahead = p.ahead;
      room = p.room;
      free = p.free;
    })
