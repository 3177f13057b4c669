-- What is known if all needed bytes of a block were taken and nothing in them is refused.
use Rattle.std.proofs.Common.{◌≡◌, ℕ, ◌+◌, ◌≤◌, true, nat_lt, if◌then◌else◌, List, length, Option, Some, None, is_some, subst, refl, arith}
use Rattle.std.proofs.lemmas.Bool.Decides.{nat_tests}
use Rattle.pcap_frames.specs.declared.style.Order.{Order}
use Rattle.pcap_frames.specs.Layout.{number_at}
use Rattle.pcapng_blocks.specs.declared.block.Kind.{Kind}
use Rattle.pcapng_blocks.specs.declared.block.Kind.TheVariants as kind
use Rattle.pcapng_blocks.specs.declared.interface.Interface.{Interface}
use Rattle.pcapng_blocks.specs.Fields.{first_refused}
use Rattle.pcapng_blocks.specs.Blocks.{kind_at, order_at, kind_rows, block_rows, block_refused, order_or_little}
use Rattle.pcapng_blocks.specs.state.Needs.{IsHead, IsOpened, block_need, head_length, head_need}

kind_rows_accepted : (k : Kind) (order : Option Order) (interfaces : List Interface) (start : ℕ) (bytes : List ℕ) → 4 ≤ length bytes → first_refused start (length bytes) (block_rows k order interfaces bytes) ≡ None
    → first_refused start (length bytes) (kind_rows k (order_at k order bytes) interfaces bytes) ≡ None
kind_rows_accepted k order interfaces start bytes long h = grind (arith, nat_tests)

-- if no more bytes of a block are needed, the number of bytes taken is `head_need` for the block's kind
pub head_known : (k : Kind) (order : Option Order) (bytes : List ℕ) → 8 ≤ length bytes → length bytes ≡ block_need order bytes → kind_at order bytes ≡ k → length bytes ≡ head_need k (order_or_little order) bytes
unfolding block_need
head_known k order bytes long need is = rw (← is) (grind (arith, nat_tests))

not_below : (n m : ℕ) → n ≡ (if nat_lt n 28 then 28 else 28 + m) → n ≡ 28 + m
not_below n m h = grind (arith, nat_tests)

head_by : (k : Kind) (order : Order) (bytes : List ℕ) → length bytes ≡ head_need k order bytes → length bytes ≡ head_length k order bytes
head_by kind.Section order bytes h = h
head_by kind.Interface order bytes h = h
head_by kind.Packet order bytes h = not_below _ _ h
head_by kind.Other order bytes h = h

opened_as : (k : Kind) (order : Option Order) → (k ≡ kind.Packet → is_some order ≡ true) → IsOpened k order
opened_as kind.Section order h = tt
opened_as kind.Interface order h = tt
opened_as kind.Packet order h = h refl
opened_as kind.Other order h = tt

-- if no more bytes of a packet's block are needed, the fixed fields and all captured bytes were taken
pub packet_known : (order : Option Order) (bytes : List ℕ) → 8 ≤ length bytes → length bytes ≡ block_need order bytes → kind_at order bytes ≡ kind.Packet → length bytes ≡ 28 + number_at (order_or_little order) 20 4 bytes
packet_known order bytes long need is = not_below _ _ (head_known kind.Packet order bytes long need is)

pub kind_accepted : (k : Kind) (order : Option Order) (interfaces : List Interface) (start : ℕ) (bytes : List ℕ) → kind_at order bytes ≡ k → 4 ≤ length bytes → block_refused order interfaces start bytes ≡ None
    → first_refused start (length bytes) (kind_rows k (order_at k order bytes) interfaces bytes) ≡ None
unfolding block_refused
kind_accepted k order interfaces start bytes is long h = rw (← is) (kind_rows_accepted (kind_at order bytes) order interfaces start bytes long h)

misplaced_by : (interfaces : List Interface) (start : ℕ) (bytes : List ℕ) → 4 ≤ length bytes → first_refused start (length bytes) (block_rows kind.Packet None interfaces bytes) ≡ None → ⊥
misplaced_by interfaces start bytes long h = grind (arith, nat_tests)

opened_by : (k : Kind) (order : Option Order) (interfaces : List Interface) (start : ℕ) (bytes : List ℕ) → k ≡ kind.Packet → 4 ≤ length bytes → first_refused start (length bytes) (block_rows k order interfaces bytes) ≡ None → is_some order ≡ true
opened_by k (Some order) interfaces start bytes is long h = refl
opened_by k None interfaces start bytes is long h = absurd (misplaced_by interfaces start bytes long (subst (λ (x : Kind). first_refused start (length bytes) (block_rows x None interfaces bytes) ≡ None) is h))

-- if a packet's block is not refused, the block is in a section
pub packet_opened : (order : Option Order) (interfaces : List Interface) (start : ℕ) (bytes : List ℕ) → kind_at order bytes ≡ kind.Packet → 4 ≤ length bytes → block_refused order interfaces start bytes ≡ None → is_some order ≡ true
unfolding block_refused
packet_opened order interfaces start bytes is long h = opened_by (kind_at order bytes) order interfaces start bytes is long h

-- if all needed bytes of a block were taken and nothing in them is refused, all that is read at its start was taken
pub head_taken : (order : Option Order) (interfaces : List Interface) (start : ℕ) (bytes : List ℕ) → (8 ≤ length bytes) × (length bytes ≡ block_need order bytes) → block_refused order interfaces start bytes ≡ None
    → IsHead (kind_at order bytes) order interfaces start bytes
head_taken order interfaces start bytes came accepted = record {
  long = came.0;
  whole = head_by _ _ bytes (head_known (kind_at order bytes) order bytes came.0 came.1 refl);
  accepted = kind_accepted (kind_at order bytes) order interfaces start bytes refl (omega (arith, came.0)) accepted;
  opened = opened_as _ order (λ is. packet_opened order interfaces start bytes is (omega (arith, came.0)) accepted);
}
