-- The packets of a pcapng capture can be written as a classic capture.
use Rattle.std.proofs.Common.{◌≡◌, ℕ, zero, suc, ◌+◌, ◌*◌, ◌^◌, ◌%◌, ◌≤◌, ◌<◌, ℤ, pos, ◌≤ℤ◌, ◌<ℤ◌, Bool, true, false, nat_lt, if◌then◌else◌, List, ◌++◌, length, drop, Option, Some, None, refl, sym, subst, ◌∙◌, arith, length-take}
use Rattle.std.proofs.lemmas.Int.{ints}
use Rattle.std.specs.Prelude.{IfSome, int_lt, nat_abs, option_to_list}
use Rattle.std.specs.List.{AllByRecursion}
use Rattle.std.proofs.lemmas.Bool.Decides.{nat_tests}
use Rattle.std.proofs.lemmas.List.{get_or-drop}
use Rattle.byteorder.specs.Numbers.{big_from-lt, little_from-lt}
use Rattle.avtp_base.specs.declared.refusal.Refusal.{Refusal}
use Rattle.pcap_frames.specs.declared.style.Order.{Order}
use Rattle.pcap_frames.specs.declared.style.Order.TheVariants.{Little, Big}
use Rattle.pcap_frames.specs.Layout.{number_at}
use Rattle.pcap_frames.specs.Capture.{HasSpelling, Record}
use Rattle.pcapng_blocks.specs.declared.block.Kind.{Kind}
use Rattle.pcapng_blocks.specs.declared.block.Kind.TheVariants as kind
use Rattle.pcapng_blocks.specs.declared.block.Stage.{Stage}
use Rattle.pcapng_blocks.specs.declared.block.Stage.TheVariants as stage
use Rattle.pcapng_blocks.specs.declared.interface.Interface.{Interface}
use Rattle.pcapng_blocks.specs.Interface.{arrival_of, arrival_limit, instant}
use Rattle.pcapng_blocks.specs.Fields.{first_refused, interface_at, packet_arrival, packet_rows, timestamp}
use Rattle.pcapng_blocks.specs.Blocks as ng
use Rattle.pcapng_blocks.specs.Blocks.{Place}
use Rattle.pcapng_blocks.proofs.Blocks.{at_block, size_at_block}
use Rattle.pcapng_blocks.proofs.Heads.{kind_accepted}
use Rattle.pcap_frames.proofs.Written.{written_records, written_refusal}
use Rattle.capture_io.specs.declared.capture_reader.Format.TheVariants.{Classic, Pcapng}
use Rattle.capture_io.specs.Formats.{AreBytes, as_classic, is_pcapng, nanoseconds, records_in, refusal_in}
use Rattle.capture_io.proofs.Formats.{accepted_classic, is_classic, is_ng, records_by, refusal_by}

-- ---- numbers of bytes

bytes_after : (n : ℕ) (xs : List ℕ) → AreBytes xs → AreBytes (drop n xs)
bytes_after n xs all k = subst (λ (x : ℕ). x < 256) (sym (get_or-drop n xs k 0)) (all (n + k))

number_below : (order : Order) (offset : ℕ) (bytes : List ℕ) → AreBytes bytes → number_at order offset 4 bytes < 2 ^ 32
unfolding number_at
number_below Little offset bytes all = little_from-lt 0 4 (drop offset bytes) (bytes_after offset bytes all)
number_below Big offset bytes all = big_from-lt 0 4 (drop offset bytes) (bytes_after offset bytes all)

-- ---- a packet

-- an instant that is accepted as an arrival is within the range of arrivals
arrival_within : (z t : ℤ) → (if int_lt z (pos 0) then None else if int_lt z arrival_limit then Some z else None) ≡ Some t → (pos 0 ≤ℤ t) × (t <ℤ pos (2 ^ 32 * 1000000000))
arrival_within z t e = cases (int_lt z (pos 0)) (int_lt z arrival_limit) refl refl e
  where
    cases : (p q : Bool) → int_lt z (pos 0) ≡ p → int_lt z arrival_limit ≡ q → (if p then None else if q then Some z else None) ≡ Some t → (pos 0 ≤ℤ t) × (t <ℤ pos (2 ^ 32 * 1000000000))
    cases true q a b e = absurd cc
    cases false false a b e = absurd cc
    cases false true a b e = let same : z ≡ t = cc in subst (λ (x : ℤ). (pos 0 ≤ℤ x) × (x <ℤ pos (2 ^ 32 * 1000000000))) same (omega (arith, ints, a), omega (arith, ints, b))

captured_below : (order : Order) (interfaces : List Interface) (start : ℕ) (bytes : List ℕ) → first_refused start (length bytes) (packet_rows order interfaces bytes) ≡ None → 28 ≤ length bytes → number_at order 20 4 bytes ≤ 262144
captured_below order interfaces start bytes e long = grind (arith, nat_tests)

whole_unit : (n : ℕ) → n % 1 ≡ 0
whole_unit n = omega arith

spelled_by : (arrival : Option ℤ) (i : Interface) (timestamp : ℕ) (order : Order) (bytes : List ℕ) → arrival ≡ arrival_of i timestamp → AreBytes bytes → number_at order 20 4 bytes ≤ 262144 → IfSome (ng.record_by arrival order bytes) (HasSpelling nanoseconds)
spelled_by None i timestamp order bytes is all below = tt
spelled_by (Some t) i timestamp order bytes is all below =
    let within = arrival_within (instant i timestamp) t (sym is) in
    record {
      begun = within.0;
      ended = within.1;
      whole = whole_unit (nat_abs t);
      orig_len = number_below order 24 bytes all;
      limit = simp length-take (omega (arith, below));
    }

block_sizes : (k : Kind) (total : ℕ) → k ≡ kind.Packet → 28 ≤ ng.block_size k total
block_sizes kind.Section total is = absurd cc
block_sizes kind.Interface total is = absurd cc
block_sizes kind.Packet total is = omega arith
block_sizes kind.Other total is = absurd cc

after_spelled : (k : Kind) (p : Place) (total : ℕ) (bytes : List ℕ) → (k ≡ kind.Packet → IfSome (ng.record_by (packet_arrival (ng.order_or_little p.order) p.interfaces bytes) (ng.order_or_little p.order) bytes) (HasSpelling nanoseconds))
    → IfSome (ng.after_block k p total bytes).packet (HasSpelling nanoseconds)
after_spelled kind.Section p total bytes packet = tt
after_spelled kind.Interface p total bytes packet = tt
after_spelled kind.Packet p total bytes packet = packet refl
after_spelled kind.Other p total bytes packet = tt

arrival_is : (order : Order) (interfaces : List Interface) (bytes : List ℕ) → packet_arrival order interfaces bytes ≡ arrival_of (interface_at interfaces (number_at order 8 4 bytes)) (timestamp order bytes)
unfolding packet_arrival
arrival_is order interfaces bytes = refl

-- if the fields of a block are accepted, the block's packet can be written in a classic capture
next_block : (p : Place) (bytes : List ℕ) → AreBytes bytes → p.stage ≡ stage.Block → ng.refusal_here p bytes ≡ None → ng.size_here p bytes ≤ length bytes → IfSome (ng.after_any p bytes).packet (HasSpelling nanoseconds)
next_block p bytes all is accepted long =
    let order = ng.order_or_little p.order in
    after_spelled (ng.kind_at p.order bytes) p _ bytes (λ packet.
    let size = block_sizes (ng.kind_at p.order bytes) (number_at (ng.order_at (ng.kind_at p.order bytes) p.order bytes) 4 4 bytes) packet in
    let whole : 28 ≤ length bytes = omega (arith, size, long, size_at_block p bytes is) in
    let none = kind_accepted kind.Packet p.order p.interfaces p.start bytes packet (omega (arith, whole)) (sym (at_block p bytes is) ∙ accepted) in
    spelled_by (packet_arrival order p.interfaces bytes) (interface_at p.interfaces (number_at order 8 4 bytes)) (timestamp order bytes) order bytes (arrival_is order p.interfaces bytes) all (captured_below order p.interfaces p.start bytes none whole))

next_by : (s : Stage) (p : Place) (bytes : List ℕ) → p.stage ≡ s → AreBytes bytes → ng.refusal_here p bytes ≡ None → ng.size_here p bytes ≤ length bytes → IfSome (ng.next_by s p bytes).packet (HasSpelling nanoseconds)
next_by stage.Block p bytes is all accepted long = next_block p bytes all is accepted long
next_by stage.Option p bytes is all accepted long = tt
next_by stage.Trailer p bytes is all accepted long = tt

next_spelled : (p : Place) (bytes : List ℕ) → AreBytes bytes → ng.refusal_here p bytes ≡ None → ng.size_here p bytes ≤ length bytes → IfSome (ng.next_place p bytes).packet (HasSpelling nanoseconds)
unfolding ng.next_place
next_spelled p bytes all accepted long = next_by p.stage p bytes refl all accepted long

-- ---- all packets

packet_spelled : (s : Stage) (packet : Option Record) → IfSome packet (HasSpelling nanoseconds) → IfSome (ng.packet_by s packet) (HasSpelling nanoseconds)
packet_spelled stage.Block packet h = tt
packet_spelled stage.Option packet h = tt
packet_spelled stage.Trailer packet h = h

and_then_spelled : (packet : Option Record) (rest : List Record) → IfSome packet (HasSpelling nanoseconds) → AllByRecursion (HasSpelling nanoseconds) rest → AllByRecursion (HasSpelling nanoseconds) (option_to_list packet ++ rest)
and_then_spelled None rest h all = all
and_then_spelled (Some r) rest h all = (h, all)

none_spelled : (b : Bool) (x y : ng.Contents) → AllByRecursion (HasSpelling nanoseconds) x.records → AllByRecursion (HasSpelling nanoseconds) y.records → AllByRecursion (HasSpelling nanoseconds) (if b then x else y).records
none_spelled true x y h k = h
none_spelled false x y h k = k

not_less : (m n : ℕ) → nat_lt m n ≡ false → n ≤ m
not_less m n h = grind (arith, nat_tests)

from_place : (p : Place) (bytes : List ℕ) (rest : ng.Contents) (x : Option Refusal) (b : Bool) → IfSome p.packet (HasSpelling nanoseconds) → (x ≡ None → b ≡ false → AllByRecursion (HasSpelling nanoseconds) rest.records)
    → AllByRecursion (HasSpelling nanoseconds) (ng.refused_or x (if b then ng.cut_short p bytes else ng.and_then (ng.packet_by p.stage p.packet) rest)).records
from_place p bytes rest (Some why) b packet more = tt
from_place p bytes rest None true packet more = none_spelled (ng.ends_at p.stage p.order p.start (length bytes)) (ng.ends None) (ng.ends (Some (ng.cut_by p.stage p bytes))) tt tt
from_place p bytes rest None false packet more = and_then_spelled (ng.packet_by p.stage p.packet) rest.records (packet_spelled p.stage p.packet packet) (more refl refl)

all_from : (n : ℕ) (p : Place) (bytes : List ℕ) → AreBytes bytes → IfSome p.packet (HasSpelling nanoseconds) → AllByRecursion (HasSpelling nanoseconds) (ng.contents_from n p bytes).records
all_from zero p bytes all packet = tt
all_from (suc n) p bytes all packet =
    from_place p bytes (ng.contents_from n (ng.next_place p bytes) (drop (ng.size_here p bytes) bytes)) (ng.refusal_here p bytes) (nat_lt (length bytes) (ng.size_here p bytes)) packet
    (λ accepted whole. all_from n (ng.next_place p bytes) (drop (ng.size_here p bytes) bytes) (bytes_after (ng.size_here p bytes) bytes all) (next_spelled p bytes all accepted (not_less _ _ whole)))

all_spelled : (bytes : List ℕ) → AreBytes bytes → AllByRecursion (HasSpelling nanoseconds) (ng.whole_records bytes)
unfolding ng.whole_records ng.contents
all_spelled bytes all = all_from (suc (length bytes)) ng.first_place bytes all tt

-- the classic capture of a pcapng capture's packets has the same records, and nothing in it is refused
pub classic_same : (bytes : List ℕ) → AreBytes bytes → is_pcapng bytes ≡ true → (records_in (as_classic bytes) ≡ records_in bytes) × (refusal_in (as_classic bytes) ≡ None)
classic_same bytes all is =
    let spelled = subst (AllByRecursion (HasSpelling nanoseconds)) (sym (records_by Pcapng bytes (is_ng bytes is))) (all_spelled bytes all) in
    let whole = written_refusal nanoseconds (records_in bytes) spelled in
    let format = accepted_classic (as_classic bytes) whole in (
      records_by Classic (as_classic bytes) (is_classic (as_classic bytes) format) ∙ written_records nanoseconds (records_in bytes) spelled,
      refusal_by Classic (as_classic bytes) (is_classic (as_classic bytes) format) ∙ whole,
    )
