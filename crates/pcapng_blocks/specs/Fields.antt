-- The fields of a pcapng capture's blocks, their offsets, and which values are refused (draft-ietf-opsawg-pcapng, sections 3
-- and 4).
use Rattle.std.specs.Prelude.{ℕ, ℤ, ◌+◌, ◌*◌, ◌/◌, ◌%◌, ◌^◌, Bool, not, ◌&&◌, ◌||◌, nat_lt, nat_le, nat_eq, false, if◌then◌else◌, List, [], ◌∷◌, length, slice_index, slice_index_or, Option, Some, None, is_none}
use Rattle.std.specs.Int.{cast_signed, w64}
use Rattle.avtp_base.specs.declared.field.Field.{Field}
use Rattle.avtp_base.specs.declared.field.Field.TheVariants.{BlockLength, SectionVersion, Interfaces, LinkType, InterfaceId, TimestampRange, CapturedLength, OptionLength, IfTsresol, IfTsoffset}
use Rattle.avtp_base.specs.declared.refusal.Refusal.{Refusal}
use Rattle.pcap_frames.specs.declared.style.Order.{Order}
use Rattle.pcap_frames.specs.declared.style.Order.TheVariants.{Little, Big}
pub use Rattle.pcap_frames.specs.Layout.{number_at}
use Rattle.pcapng_blocks.specs.declared.block.Kind.{Kind}
use Rattle.pcapng_blocks.specs.declared.block.Kind.TheVariants as kind
use Rattle.pcapng_blocks.specs.declared.interface.Interface.{Interface}
use Rattle.pcapng_blocks.specs.Interface.{microseconds, is_resolution, arrival_of}

-- the kind of a block of this type (draft-ietf-opsawg-pcapng, section 4)
abbrev pub kind_of : ℕ → Kind
kind_of n =
    if nat_eq n 0x0A0D0D0A then kind.Section
    else if nat_eq n 1 then kind.Interface
    else if nat_eq n 6 then kind.Packet
    else kind.Other

-- the byte order of a section, given the section's magic number read as little-endian
abbrev pub order_of_magic : ℕ → Option Order
order_of_magic n = if nat_eq n 0x1A2B3C4D then Some Little else if nat_eq n 0x4D3C2B1A then Some Big else None

-- the smallest total length of a block of this kind
abbrev pub least_size : Kind → ℕ
least_size kind.Section = 28
least_size kind.Interface = 20
least_size kind.Packet = 32
least_size kind.Other = 12

-- a number of bytes, rounded up to a multiple of 4
abbrev pub padded : ℕ → ℕ
padded n = (n + 3) / 4 * 4

-- A field, and whether it is refused. The field is checked once the bytes up to `end` are present.
pub record Row : Type 0 where
  pub field : Field
  pub offset : ℕ
  pub end : ℕ
  pub refuses : Bool

-- The row of a field at this offset. The field is checked once the bytes up to `end` are present.
abbrev pub row : Field → ℕ → ℕ → Bool → Row
row field offset end refuses = record { field = field; offset = offset; end = end; refuses = refuses }

-- the refusal of the field at byte `at` because of its value
abbrev pub refusal_at : Field → ℕ → Refusal
refusal_at field at = record { field = field; at = at; short = false }

-- The first refusal among the rows of a table. A row is checked only if its `end` is at most `len`. The rows of each
-- table are ordered by `end`. Therefore no row is checked after a row whose bytes are missing. The bytes begin at
-- offset `start` of the capture.
abbrev pub first_refused : ℕ → ℕ → List Row → Option Refusal
first_refused start len [] = None
first_refused start len (r ∷ rows) =
    if nat_lt len r.end then None
    else if r.refuses then Some (refusal_at r.field (start + r.offset))
    else first_refused start len rows

-- the total length is too small for a block of this kind, or is not a multiple of 4
abbrev pub bad_length : Kind → ℕ → Bool
bad_length k total = nat_lt total (least_size k) || not (nat_eq (total % 4) 0)

-- the fields that are checked in a section header, after its magic number
abbrev pub section_rows : Order → List ℕ → List Row
section_rows order bytes =
    row BlockLength 4 12 (bad_length kind.Section (number_at order 4 4 bytes))
    ∷ row SectionVersion 12 14 (not (nat_eq (number_at order 12 2 bytes) 1))
    ∷ []

-- the fields that are checked in interface description number `count` of its section, counted from 0
abbrev pub interface_rows : Order → ℕ → List ℕ → List Row
interface_rows order count bytes =
    row BlockLength 4 8 (bad_length kind.Interface (number_at order 4 4 bytes))
    ∷ row Interfaces 0 8 (nat_le 256 count)
    ∷ row LinkType 8 10 (not (nat_eq (number_at order 8 2 bytes) 1))
    ∷ []

-- the timestamp of a packet; its high half is stored first, in either byte order
unfoldable pub timestamp : Order → List ℕ → ℕ
timestamp order bytes = number_at order 12 4 bytes * 2 ^ 32 + number_at order 16 4 bytes

-- the interface with this number, among the interfaces of the section
abbrev pub interface_at : List Interface → ℕ → Interface
interface_at interfaces id = slice_index_or interfaces id microseconds

-- the arrival of a packet, if its timestamp is in range
unfoldable pub packet_arrival : Order → List Interface → List ℕ → Option ℤ
packet_arrival order interfaces bytes = arrival_of (interface_at interfaces (number_at order 8 4 bytes)) (timestamp order bytes)

-- the fields that are checked in an enhanced packet block, in a section with these interfaces
abbrev pub packet_rows : Order → List Interface → List ℕ → List Row
packet_rows order interfaces bytes =
    let captured = number_at order 20 4 bytes in
    let total = number_at order 4 4 bytes in
    row BlockLength 4 8 (bad_length kind.Packet total)
    ∷ row InterfaceId 8 12 (nat_le (length interfaces) (number_at order 8 4 bytes))
    ∷ row TimestampRange 12 20 (is_none (packet_arrival order interfaces bytes))
    ∷ row CapturedLength 20 24 (nat_lt 262144 captured || nat_lt total (32 + padded captured))
    ∷ []

-- the field that is checked in a skipped block: its total length
abbrev pub other_rows : Order → List ℕ → List Row
other_rows order bytes = row BlockLength 4 8 (bad_length kind.Other (number_at order 4 4 bytes)) ∷ []

-- the code of the option that the bytes begin with
abbrev pub option_code : Order → List ℕ → ℕ
option_code order bytes = number_at order 0 2 bytes

-- the length of the value of the option that the bytes begin with
abbrev pub option_length : Order → List ℕ → ℕ
option_length order bytes = number_at order 2 2 bytes

-- The fields that are checked in an option that has this code and a value of this length. `left` bytes of options
-- remain before the trailer.
abbrev pub option_rows : ℕ → ℕ → ℕ → List ℕ → List Row
option_rows code len left bytes =
    if nat_eq code 0 then [] else
    row OptionLength 0 4 (nat_lt left (4 + padded len))
    ∷ row IfTsresol 0 4 (nat_eq code 9 && not (nat_eq len 1))
    ∷ row IfTsoffset 0 4 (nat_eq code 14 && not (nat_eq len 8))
    ∷ row IfTsresol 0 5 (nat_eq code 9 && not (is_resolution (slice_index bytes 4)))
    ∷ []

-- The interface after the option at the front of the bytes was read. If an option occurs twice, the later one counts.
abbrev pub with_option : Order → ℕ → Interface → List ℕ → Interface
with_option order code interface bytes =
    if nat_eq code 9 then record interface { resolution = slice_index bytes 4 }
    else if nat_eq code 14 then record interface { offset = cast_signed w64 (number_at order 4 8 bytes) }
    else interface
