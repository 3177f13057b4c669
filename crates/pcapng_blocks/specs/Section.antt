-- The interfaces of a section (draft-ietf-opsawg-pcapng, section 4.1).
use Rattle.std.specs.Prelude.{◌≡◌, ◌<◌, ⊤, true, List, [], length, Option, Some, None, IfSome}
use Rattle.pcapng_blocks.specs.declared.block.Kind.{Kind}
use Rattle.pcapng_blocks.specs.declared.block.Kind.TheVariants as kind
use Rattle.pcapng_blocks.specs.declared.interface.Interface.{Interface}
use Rattle.pcapng_blocks.specs.Interface.{is_resolution}

-- the interfaces of the section, once the fixed fields of a block were read; a section header begins a section without
-- interfaces
abbrev pub interfaces_after : Kind → List Interface → List Interface
interfaces_after kind.Section interfaces = []
interfaces_after kind.Interface interfaces = interfaces
interfaces_after kind.Packet interfaces = interfaces
interfaces_after kind.Other interfaces = interfaces

-- the resolution of the interface, if there is one, is accepted
abbrev pub IsResolved : Option Interface → Type 0
IsResolved None = ⊤
IsResolved (Some interface) = is_resolution interface.resolution ≡ true

-- The interface, if there is one, can be added to the interfaces of a section: there is room, and its resolution is
-- accepted.
pub record CanAdd (interfaces : List Interface) (interface : Option Interface) : Type 0 where
  pub room : IfSome interface (λ i. length interfaces < 256)
  pub resolved : IsResolved interface
