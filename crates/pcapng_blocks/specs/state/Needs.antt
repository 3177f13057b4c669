-- Only private functions and proofs use these definitions. How many bytes of a block or an option must be taken before
-- more is known of it.
use Rattle.std.specs.Prelude.{◌≡◌, ℕ, ◌+◌, ◌-◌, ◌≤◌, ⊤, true, is_some, nat_lt, nat_eq, if◌then◌else◌, List, length, drop, Option, None}
use Rattle.pcap_frames.specs.declared.style.Order.{Order}
use Rattle.pcap_frames.specs.Layout.{number_at}
use Rattle.pcapng_blocks.specs.declared.interface.Interface.{Interface}
use Rattle.pcapng_blocks.specs.declared.block.Kind.{Kind}
use Rattle.pcapng_blocks.specs.declared.block.Kind.TheVariants as kind
use Rattle.pcapng_blocks.specs.Fields.{first_refused, kind_of, option_code, packet_rows}
use Rattle.pcapng_blocks.specs.Blocks.{kind_at, kind_rows, order_at, order_or_little}

-- How many bytes of a block must be taken before more is known of it. `head_need` applies once the type of the block is
-- known: the fixed fields are needed, and then the captured bytes of a packet.
abbrev pub head_need : Kind → Order → List ℕ → ℕ
head_need kind.Section order part = 16
head_need kind.Interface order part = 16
head_need kind.Packet order part = if nat_lt (length part) 28 then 28 else 28 + number_at order 20 4 part
head_need kind.Other order part = 8

unfoldable pub block_need : Option Order → List ℕ → ℕ
block_need order part = if nat_lt (length part) 8 then 8 else head_need (kind_at order part) (order_or_little order) part

abbrev pub value_need : ℕ → ℕ
value_need code = if nat_eq code 9 then 8 else if nat_eq code 14 then 12 else 4

unfoldable pub option_need : Order → List ℕ → ℕ
option_need order part = if nat_lt (length part) 4 then 4 else value_need (option_code order part)

-- the number of bytes that are read at the start of a block of this kind: its fixed fields, and the captured bytes of a
-- packet
abbrev pub head_length : Kind → Order → List ℕ → ℕ
head_length kind.Section order part = 16
head_length kind.Interface order part = 16
head_length kind.Packet order part = 28 + number_at order 20 4 part
head_length kind.Other order part = 8

-- a packet's block is in a section
abbrev pub IsOpened : Kind → Option Order → Type 0
IsOpened kind.Section order = ⊤
IsOpened kind.Interface order = ⊤
IsOpened kind.Packet order = is_some order ≡ true
IsOpened kind.Other order = ⊤

-- All bytes that are read at the start of a block of this kind were taken, and nothing in them is refused.
pub record IsHead (k : Kind) (order : Option Order) (interfaces : List Interface) (start : ℕ) (part : List ℕ) : Type 0 where
  pub long : 8 ≤ length part
  pub whole : length part ≡ head_length k (order_or_little order) part
  pub accepted : first_refused start (length part) (kind_rows k (order_at k order part) interfaces part) ≡ None
  pub opened : IsOpened k order

-- The bytes begin with the whole block of a packet. Nothing in this block is refused.
pub record BeginsPacket (order : Order) (interfaces : List Interface) (bytes : List ℕ) : Type 0 where
  pub long : 28 ≤ length bytes
  pub kind : kind_of (number_at order 0 4 bytes) ≡ kind.Packet
  pub accepted : first_refused 0 (length bytes) (packet_rows order interfaces bytes) ≡ None
  pub within : number_at order 4 4 bytes ≤ length bytes
  pub trailer : number_at order 0 4 (drop (number_at order 4 4 bytes - 4) bytes) ≡ number_at order 4 4 bytes
