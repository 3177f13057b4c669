-- Three kinds of blocks are treated here: interface descriptions, packets' blocks and skipped blocks. If a field of
-- such a block is refused, or if all checked fields of the block are present, further bytes do not change the block's
-- first refusal.
use Rattle.std.proofs.Common.{◌≡◌, ℕ, ◌≤◌, List, ◌++◌, length, Option, None, refl, arith, length-append}
use Rattle.std.proofs.lemmas.Bool.Decides.{nat_tests}
use Rattle.avtp_base.specs.declared.refusal.Refusal.{Refusal}
use Rattle.pcap_frames.specs.declared.style.Order.{Order}
use Rattle.pcap_frames.proofs.Append.{number_stays}
use Rattle.pcapng_blocks.specs.declared.interface.Interface.{Interface}
use Rattle.pcapng_blocks.specs.Fields.{first_refused, interface_rows, packet_rows, packet_arrival, timestamp, other_rows}

pub interface_stays : (order : Order) (count start : ℕ) (bytes more : List ℕ) (x : Option Refusal) → first_refused start (length bytes) (interface_rows order count bytes) ≡ x → (x ≡ None → 10 ≤ length bytes)
    → first_refused start (length (bytes ++ more)) (interface_rows order count (bytes ++ more)) ≡ x
interface_stays order count start bytes more x e h =
    grind (arith, nat_tests, number_stays order 4 4 bytes more, number_stays order 8 2 bytes more, length-append bytes more)

pub other_stays : (order : Order) (start : ℕ) (bytes more : List ℕ) (x : Option Refusal) → first_refused start (length bytes) (other_rows order bytes) ≡ x → (x ≡ None → 8 ≤ length bytes)
    → first_refused start (length (bytes ++ more)) (other_rows order (bytes ++ more)) ≡ x
other_stays order start bytes more x e h = grind (arith, nat_tests, number_stays order 4 4 bytes more, length-append bytes more)

pub arrival_stays : (order : Order) (interfaces : List Interface) (bytes more : List ℕ) → 20 ≤ length bytes → packet_arrival order interfaces (bytes ++ more) ≡ packet_arrival order interfaces bytes
unfolding packet_arrival timestamp
arrival_stays order interfaces bytes more h =
    let id = number_stays order 8 4 bytes more (omega arith) in
    let high = number_stays order 12 4 bytes more (omega arith) in
    let low = number_stays order 16 4 bytes more (omega arith) in
    rw (id, high, low) refl

pub packet_stays : (order : Order) (interfaces : List Interface) (start : ℕ) (bytes more : List ℕ) (x : Option Refusal) → first_refused start (length bytes) (packet_rows order interfaces bytes) ≡ x → (x ≡ None → 24 ≤ length bytes)
    → first_refused start (length (bytes ++ more)) (packet_rows order interfaces (bytes ++ more)) ≡ x
packet_stays order interfaces start bytes more x e h =
    grind (arith, nat_tests, number_stays order 4 4 bytes more, number_stays order 8 4 bytes more, number_stays order 20 4 bytes more, arrival_stays order interfaces bytes more, length-append bytes more)
