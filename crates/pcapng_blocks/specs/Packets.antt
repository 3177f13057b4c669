-- Packets in enhanced packet blocks (draft-ietf-opsawg-pcapng, section 4.3).
use Rattle.std.specs.Prelude.{◌≡◌, ℕ, ◌-◌, ◌<◌, ◌≤◌, List, length, drop, None}
use Rattle.pcap_frames.specs.declared.style.Order.{Order}
use Rattle.pcap_frames.specs.Layout.{number_at}
use Rattle.pcapng_blocks.specs.declared.block.Kind.TheVariants as kind
use Rattle.pcapng_blocks.specs.declared.interface.Interface.{Interface}
use Rattle.pcapng_blocks.specs.Fields.{first_refused, kind_of, packet_rows}

-- The bytes of an enhanced packet block contain the timestamp, and the section has the packet's interface.
pub record HasTime (order : Order) (interfaces : List Interface) (bytes : List ℕ) : Type 0 where
  pub present : 20 ≤ length bytes
  pub known : number_at order 8 4 bytes < length interfaces

-- The bytes are a whole enhanced packet block, in a section with this byte order and these interfaces. Nothing in the
-- block is refused.
pub record IsPacketBlock (order : Order) (interfaces : List Interface) (block : List ℕ) : Type 0 where
  pub kind : kind_of (number_at order 0 4 block) ≡ kind.Packet
  pub accepted : first_refused 0 (length block) (packet_rows order interfaces block) ≡ None
  pub total : number_at order 4 4 block ≡ length block
  pub trailer : number_at order 0 4 (drop (length block - 4) block) ≡ length block
  pub long : 32 ≤ length block
