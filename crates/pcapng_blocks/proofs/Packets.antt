-- What is known of a packet's block if nothing in the block is refused.
use Rattle.std.proofs.Common.{refl, List, None, Option, Some, ap, arith, drop, false, is_some, length, length-append, length-drop, sym, take, true, ◌≡◌, ℕ, ◌+◌, ◌-◌, ◌≤◌, ◌∙◌, ℤ, ◌++◌, [], ◌∷◌}
use Rattle.pcapng_blocks.specs.state.Needs.{BeginsPacket}
use Rattle.pcapng_blocks.specs.declared.interface.Interface.{Interface}
use Rattle.pcapng_blocks.specs.Packets.{IsPacketBlock}
use Rattle.pcapng_blocks.specs.declared.block.Kind.{Kind}
use Rattle.pcap_frames.specs.declared.style.Order.{Order}
use Rattle.pcapng_blocks.specs.Blocks.{Place, after_any, after_block, block_rows, block_size, kind_at, order_at, order_or_little, record_by, size_of_any, trailer_refused}
use Rattle.pcapng_blocks.specs.Fields.{Row, first_refused, kind_of, packet_arrival, packet_rows, padded}
use Rattle.std.proofs.lemmas.List.{drop-append-le, length-take-le, take-append-drop, take_all}
use Rattle.pcapng_blocks.specs.state.Fields.{head_size}
use Rattle.std.specs.Prelude.{is_none}
use Rattle.pcapng_blocks.specs.declared.block.Kind.TheVariants as kind
use Rattle.std.proofs.lemmas.Bool.Decides.{nat_tests}
use Rattle.pcap_frames.specs.Layout.{number_at}
use Rattle.pcap_frames.proofs.Append.{number_stays}
use Rattle.pcapng_blocks.proofs.Stay.{packet_stays}

rows_anywhere : (start other len : ℕ) (rows : List Row) → first_refused start len rows ≡ None → first_refused other len rows ≡ None
rows_anywhere start other len [] e = refl
rows_anywhere start other len (r ∷ rows) e = grind (arith, nat_tests, rows_anywhere start other len rows)

padded_more : (n : ℕ) → n ≤ padded n
padded_more n = omega arith

-- if no field of a packet's block is refused, the captured bytes are within the block
pub accepted_fits : (order : Order) (interfaces : List Interface) (bytes : List ℕ) → 24 ≤ length bytes → first_refused 0 (length bytes) (packet_rows order interfaces bytes) ≡ None → 32 + number_at order 20 4 bytes ≤ number_at order 4 4 bytes
accepted_fits order interfaces bytes long e = grind (arith, nat_tests, padded_more (number_at order 20 4 bytes))

none_or : {X : Type 0} (x : Option X) → is_none x ≡ false → is_some x ≡ true
none_or None e = absurd cc
none_or (Some x) e = refl

-- if no field of a packet's block is refused, the packet has an arrival
pub accepted_time : (order : Order) (interfaces : List Interface) (bytes : List ℕ) → 24 ≤ length bytes → first_refused 0 (length bytes) (packet_rows order interfaces bytes) ≡ None → is_some (packet_arrival order interfaces bytes) ≡ true
accepted_time order interfaces bytes long e = grind (arith, nat_tests, none_or (packet_arrival order interfaces bytes))

front_number : (order : Order) (at size : ℕ) (front rest bytes : List ℕ) → front ++ rest ≡ bytes → at + size ≤ length front → number_at order at size bytes ≡ number_at order at size front
front_number order at size front rest bytes split long = ap (number_at order at size) (sym split) ∙ number_stays order at size front rest long

front_rows : (order : Order) (interfaces : List Interface) (front rest bytes : List ℕ) → front ++ rest ≡ bytes → 24 ≤ length front
    → first_refused 0 (length bytes) (packet_rows order interfaces bytes) ≡ first_refused 0 (length front) (packet_rows order interfaces front)
front_rows order interfaces front rest bytes split long =
    ap (λ (b : List ℕ). first_refused 0 (length b) (packet_rows order interfaces b)) (sym split)
    ∙ packet_stays order interfaces 0 front rest _ refl (λ none. long)

last_number : (order : Order) (at : ℕ) (front rest bytes : List ℕ) → front ++ rest ≡ bytes → at + 4 ≤ length front → number_at order 0 4 (drop at bytes) ≡ number_at order 0 4 (drop at front)
last_number order at front rest bytes split long =
    ap (λ (b : List ℕ). number_at order 0 4 (drop at b)) (sym split)
    ∙ (ap (number_at order 0 4) (drop-append-le at front rest (omega arith))
    ∙ number_stays order 0 4 (drop at front) rest (omega (arith, length-drop at front)))

pub begins_block : (order : Order) (interfaces : List Interface) (bytes : List ℕ) → BeginsPacket order interfaces bytes → IsPacketBlock order interfaces (take (number_at order 4 4 bytes) bytes)
begins_block order interfaces bytes b =
    let size : ℕ = number_at order 4 4 bytes in
    let front : List ℕ = take size bytes in
    let rest : List ℕ = drop size bytes in
    let split : front ++ rest ≡ bytes = take-append-drop size bytes in
    let sized : length front ≡ size = length-take-le size bytes b.within in
    let room = accepted_fits order interfaces bytes (omega (arith, b.long)) b.accepted in
    let long : 32 ≤ length front = omega (arith, room, sized) in
    let at : length front - 4 ≡ size - 4 = omega (arith, sized) in
    record {
      kind = ap kind_of (sym (front_number order 0 4 front rest bytes split (omega (arith, long)))) ∙ b.kind;
      accepted = sym (front_rows order interfaces front rest bytes split (omega (arith, long))) ∙ b.accepted;
      total = sym (front_number order 4 4 front rest bytes split (omega (arith, long))) ∙ sym sized;
      trailer = ap (λ (n : ℕ). number_at order 0 4 (drop n front)) at ∙ (sym (last_number order (size - 4) front rest bytes split (omega (arith, long, sized))) ∙ (b.trailer ∙ sym sized));
      long = long;
    }

pub block_begins : (order : Order) (interfaces : List Interface) (bytes : List ℕ) (size : ℕ) → IsPacketBlock order interfaces (take size bytes) → BeginsPacket order interfaces bytes
block_begins order interfaces bytes size b =
    let front : List ℕ = take size bytes in
    let rest : List ℕ = drop size bytes in
    let split : front ++ rest ≡ bytes = take-append-drop size bytes in
    let all : length bytes ≡ length front + length rest = ap length (sym split) ∙ length-append front rest in
    let total : number_at order 4 4 bytes ≡ length front = front_number order 4 4 front rest bytes split (omega (arith, b.long)) ∙ b.total in
    record {
      kind = ap kind_of (front_number order 0 4 front rest bytes split (omega (arith, b.long))) ∙ b.kind;
      accepted = front_rows order interfaces front rest bytes split (omega (arith, b.long)) ∙ b.accepted;
      within = omega (arith, all, total);
      trailer = ap (λ (n : ℕ). number_at order 0 4 (drop (n - 4) bytes)) total ∙ (last_number order (length front - 4) front rest bytes split (omega (arith, b.long)) ∙ (b.trailer ∙ sym total));
      long = omega (arith, all, b.long);
    }

-- the place after the body of a packet's block is the place before the block's trailer
pub block_place : (p : Place) (block : List ℕ) → IsPacketBlock (order_or_little p.order) p.interfaces block → after_any p block ≡ after_block kind.Packet p (length block) block
block_place p block b =
    ap (λ (k : Kind). after_block k p (number_at (order_at k p.order block) 4 4 block) block) b.kind
    ∙ ap (λ (n : ℕ). after_block kind.Packet p n block) b.total

pub block_sized : (p : Place) (block : List ℕ) → IsPacketBlock (order_or_little p.order) p.interfaces block → size_of_any p.order block ≡ length block - 4
block_sized p block b =
    ap (λ (k : Kind). block_size k (number_at (order_at k p.order block) 4 4 block)) b.kind
    ∙ (ap (block_size kind.Packet) b.total ∙ omega (arith, b.long))

opened_rows : (order : Option Order) (interfaces : List Interface) (start : ℕ) (bytes : List ℕ) → 4 ≤ length bytes → is_some order ≡ true → first_refused start (length bytes) (packet_rows (order_or_little order) interfaces bytes) ≡ None
    → first_refused start (length bytes) (block_rows kind.Packet order interfaces bytes) ≡ None
opened_rows None interfaces start bytes long opened h = absurd cc
opened_rows (Some order) interfaces start bytes long opened h = grind (arith, nat_tests)

pub block_accepted : (p : Place) (block : List ℕ) → is_some p.order ≡ true → IsPacketBlock (order_or_little p.order) p.interfaces block → first_refused p.start (length block) (block_rows (kind_at p.order block) p.order p.interfaces block) ≡ None
block_accepted p block opened b =
    ap (λ (k : Kind). first_refused p.start (length block) (block_rows k p.order p.interfaces block)) b.kind
    ∙ opened_rows p.order p.interfaces p.start block (omega (arith, b.long)) opened (rows_anywhere 0 p.start (length block) (packet_rows (order_or_little p.order) p.interfaces block) b.accepted)

pub head_within : (k : Kind) (n : ℕ) → k ≡ kind.Packet → 28 ≤ n → head_size k ≤ n
head_within k n is long = rw is long

pub trailer_accepted : (order : Order) (at total : ℕ) (bytes : List ℕ) → number_at order 0 4 bytes ≡ total → trailer_refused order at total bytes ≡ None
unfolding trailer_refused
trailer_accepted order at total bytes is = rw is (grind (arith, nat_tests))

pub record_some : (arrival : Option ℤ) (order : Order) (bytes : List ℕ) → is_some arrival ≡ true → is_some (record_by arrival order bytes) ≡ true
record_some None order bytes some = absurd cc
record_some (Some t) order bytes some = refl

kind_six : (n : ℕ) → kind_of n ≡ kind.Packet → n ≡ 6
kind_six n is = grind (arith, nat_tests)

-- a packet's block begins with the type 6
pub begins_six : (order : Order) (interfaces : List Interface) (bytes : List ℕ) → BeginsPacket order interfaces bytes → number_at order 0 4 bytes ≡ 6
begins_six order interfaces bytes b = kind_six (number_at order 0 4 bytes) b.kind

pub none_is : {X : Type 0} (x : Option X) → is_none x ≡ true → x ≡ None
none_is None e = refl
none_is (Some x) e = absurd cc

pub rest_number : (order : Order) (n : ℕ) (bytes : List ℕ) → number_at order 0 4 (take (length bytes - n) (drop n bytes)) ≡ number_at order 0 4 (drop n bytes)
rest_number order n bytes = ap (number_at order 0 4) (take_all (length bytes - n) (drop n bytes) (omega (arith, length-drop n bytes)))
