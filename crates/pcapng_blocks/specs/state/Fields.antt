-- Only private functions and proofs use these definitions. The fields of a pcapng capture's blocks,
-- their offsets, and which values are refused (draft-ietf-opsawg-pcapng, sections 3 and 4).
use Rattle.std.specs.Prelude.{◌≡◌, ◌≤◌, ℕ, true, List}
use Rattle.std.specs.List.{All}
use Rattle.pcapng_blocks.specs.declared.block.Kind.{Kind}
use Rattle.pcapng_blocks.specs.declared.block.Kind.TheVariants as kind
use Rattle.pcapng_blocks.specs.declared.interface.Interface.{Interface}
use Rattle.pcapng_blocks.specs.Interface.{is_resolution}

-- the number of bytes of fixed fields that are read at the start of a block
abbrev pub head_size : Kind → ℕ
head_size kind.Section = 16
head_size kind.Interface = 16
head_size kind.Packet = 28
head_size kind.Other = 8

-- the resolution of each interface is accepted
abbrev pub AllResolved : List Interface → Type 0
AllResolved interfaces = All (λ (i : Interface). is_resolution i.resolution ≡ true) interfaces

-- These interfaces are those of a section: each resolution is accepted, and the memory has room for 256 interfaces.
pub record AreInterfaces (interfaces : List Interface) (capacity : ℕ) : Type 0 where
  pub resolved : AllResolved interfaces
  pub room : 256 ≤ capacity
