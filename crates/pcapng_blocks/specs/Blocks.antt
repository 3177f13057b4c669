-- What a pcapng capture holds: blocks one after the other. Each block has a type, a total length, a body and the total
-- length again (draft-ietf-opsawg-pcapng, section 3).
use Rattle.std.specs.Prelude.{ℕ, ℤ, zero, suc, ◌+◌, ◌-◌, ◌&&◌, Bool, true, false, not, nat_lt, nat_le, nat_eq, if◌then◌else◌, List, [], ◌∷◌, ◌++◌, length, take, drop, Option, Some, None, is_none}
use Rattle.std.specs.Option.{option_to_list}
use Rattle.avtp_base.specs.declared.field.Field.{Field}
use Rattle.avtp_base.specs.declared.field.Field.TheVariants.{BlockType, BlockLength, BlockTrailer, BlockBody, ByteOrderMagic, Interfaces}
use Rattle.avtp_base.specs.declared.refusal.Refusal.{Refusal}
use Rattle.pcap_frames.specs.declared.style.Order.{Order}
use Rattle.pcap_frames.specs.declared.style.Order.TheVariants.{Little}
use Rattle.pcap_frames.specs.Layout.{number_at}
use Rattle.pcap_frames.specs.Capture.{Record}
use Rattle.pcapng_blocks.specs.declared.block.Kind.{Kind}
use Rattle.pcapng_blocks.specs.declared.block.Kind.TheVariants as kind
use Rattle.pcapng_blocks.specs.declared.block.Stage.{Stage}
use Rattle.pcapng_blocks.specs.declared.block.Stage.TheVariants as stage
use Rattle.pcapng_blocks.specs.declared.interface.Interface.{Interface}
use Rattle.pcapng_blocks.specs.Interface.{microseconds}
use Rattle.pcapng_blocks.specs.Fields.{kind_of, order_of_magic, padded, Row, row, refusal_at, first_refused, section_rows, interface_rows, packet_rows, packet_arrival, other_rows, option_code, option_length, option_rows, with_option}

-- A place in a capture: a point at which a block, an option or a trailer begins. `stage` says whether a block, an
-- option or a trailer begins at the place. Every field other than `stage` says what is known from the bytes before the
-- place.
--
-- `order` is the byte order of the section, or `None` before the first section. `interfaces` are the interfaces
-- described in the section so far. `start` is the offset of the block, and `total` is its total length. In an interface
-- description, `interface` is what the options so far state, and `left` is the number of remaining bytes of options. If
-- the place is before the trailer of a packet's block, `packet` is the packet of that block.
pub record Place : Type 0 where
  pub stage : Stage
  pub order : Option Order
  pub interfaces : List Interface
  pub interface : Option Interface
  pub start : ℕ
  pub total : ℕ
  pub left : ℕ
  pub packet : Option Record

-- the byte order of the section; before the first section, little-endian
abbrev pub order_or_little : Option Order → Order
order_or_little None = Little
order_or_little (Some order) = order

-- the kind of the block that the bytes begin with
abbrev pub kind_at : Option Order → List ℕ → Kind
kind_at order bytes = kind_of (number_at (order_or_little order) 0 4 bytes)

-- the byte order of the block that the bytes begin with; a section header states its own byte order
abbrev pub order_at : Kind → Option Order → List ℕ → Order
order_at kind.Section order bytes = order_or_little (order_of_magic (number_at Little 8 4 bytes))
order_at kind.Interface order bytes = order_or_little order
order_at kind.Packet order bytes = order_or_little order
order_at kind.Other order bytes = order_or_little order

-- a block of this kind is a section header
abbrev pub is_section : Kind → Bool
is_section kind.Section = true
is_section kind.Interface = false
is_section kind.Packet = false
is_section kind.Other = false

-- a block of this kind is an interface description
abbrev pub is_interface : Kind → Bool
is_interface kind.Section = false
is_interface kind.Interface = true
is_interface kind.Packet = false
is_interface kind.Other = false

-- the fields that are checked in a block of this kind, after its type
abbrev pub kind_rows : Kind → Order → List Interface → List ℕ → List Row
kind_rows kind.Section order interfaces bytes =
    row ByteOrderMagic 8 12 (is_none (order_of_magic (number_at Little 8 4 bytes))) ∷ section_rows order bytes
kind_rows kind.Interface order interfaces bytes = interface_rows order (length interfaces) bytes
kind_rows kind.Packet order interfaces bytes = packet_rows order interfaces bytes
kind_rows kind.Other order interfaces bytes = other_rows order bytes

-- no section was begun yet, and a block of this kind is not a section header
abbrev pub is_misplaced : Option Order → Kind → Bool
is_misplaced order k = is_none order && not (is_section k)

-- the fields that are checked in a block; the first block of a capture must be a section header
abbrev pub block_rows : Kind → Option Order → List Interface → List ℕ → List Row
block_rows k order interfaces bytes =
    row BlockType 0 4 (is_misplaced order k) ∷ kind_rows k (order_at k order bytes) interfaces bytes

-- the first refused field of the block that the bytes begin with, among the fields that the bytes contain
unfoldable pub block_refused : Option Order → List Interface → ℕ → List ℕ → Option Refusal
block_refused order interfaces start bytes = first_refused start (length bytes) (block_rows (kind_at order bytes) order interfaces bytes)

-- The first refused field of the option at the start of the bytes, among the fields that the bytes contain. `left`
-- bytes of options remain.
unfoldable pub option_refused : Order → ℕ → ℕ → List ℕ → Option Refusal
option_refused order at left bytes = first_refused at (length bytes) (option_rows (option_code order bytes) (option_length order bytes) left bytes)

-- the field that is checked in a trailer: it must repeat the block's total length
abbrev pub trailer_rows : Order → ℕ → List ℕ → List Row
trailer_rows order total bytes = row BlockTrailer 0 4 (not (nat_eq (number_at order 0 4 bytes) total)) ∷ []

-- The refusal of a block's trailer, if the bytes contain the whole trailer and the trailer does not repeat the block's
-- total length.
unfoldable pub trailer_refused : Order → ℕ → ℕ → List ℕ → Option Refusal
trailer_refused order at total bytes = first_refused at (length bytes) (trailer_rows order total bytes)

-- the first refused field of the block, option or trailer at this place, among the fields that the bytes contain
abbrev pub refusal_by : Stage → Place → List ℕ → Option Refusal
refusal_by stage.Block p bytes = block_refused p.order p.interfaces p.start bytes
refusal_by stage.Option p bytes = option_refused (order_or_little p.order) (p.start + (p.total - 4 - p.left)) p.left bytes
refusal_by stage.Trailer p bytes = trailer_refused (order_or_little p.order) (p.start + (p.total - 4)) p.total bytes

-- the first refused field of the block, option or trailer that begins at this place, among the fields that the bytes
-- contain
unfoldable pub refusal_here : Place → List ℕ → Option Refusal
refusal_here p bytes = refusal_by p.stage p bytes

-- The number of bytes from the start of a block to the next place. For an interface description, the result is the size
-- of the fixed fields. For any other block, the number is the size of everything before the trailer.
abbrev pub block_size : Kind → ℕ → ℕ
block_size kind.Section total = 16 + (total - 20)
block_size kind.Interface total = 16
block_size kind.Packet total = 28 + (total - 32)
block_size kind.Other total = 8 + (total - 12)

-- the number of bytes to the next place, if the bytes begin with a block
abbrev pub size_of_any : Option Order → List ℕ → ℕ
size_of_any order bytes =
    let k = kind_at order bytes in
    block_size k (number_at (order_at k order bytes) 4 4 bytes)

-- The size in bytes of the option that the bytes begin with: its header and its padded value. An end-of-options option
-- takes up all remaining bytes of options.
abbrev pub size_of_option : Order → ℕ → List ℕ → ℕ
size_of_option order left bytes = if nat_eq (option_code order bytes) 0 then 4 + (left - 4) else 4 + padded (option_length order bytes)

-- the number of bytes from this place to the next place
abbrev pub size_by : Stage → Place → List ℕ → ℕ
size_by stage.Block p bytes = size_of_any p.order bytes
size_by stage.Option p bytes = size_of_option (order_or_little p.order) p.left bytes
size_by stage.Trailer p bytes = 4

-- the number of bytes from this place to the next place
unfoldable pub size_here : Place → List ℕ → ℕ
size_here p bytes = size_by p.stage p bytes

-- the packet of the enhanced packet block that the bytes begin with, if the packet has an arrival
abbrev pub record_by : Option ℤ → Order → List ℕ → Option Record
record_by None order bytes = None
record_by (Some arrival) order bytes = Some (record {
  arrival = arrival;
  orig_len = number_at order 24 4 bytes;
  bytes = take (number_at order 20 4 bytes) (drop 28 bytes);
})

-- The place after the fixed fields of an interface description, after the body of a block of another kind, or after an
-- option. If bytes of options remain, an option follows; otherwise the trailer follows.
abbrev pub in_block : Place → Option Order → List Interface → Option Interface → ℕ → ℕ → Option Record → Place
in_block p order interfaces interface total left packet = record {
  stage = if nat_eq left 0 then stage.Trailer else stage.Option;
  order = order;
  interfaces = interfaces;
  interface = interface;
  start = p.start;
  total = total;
  left = left;
  packet = packet;
}

-- the place after the fixed fields of an interface description, or after the body of a block of another kind
abbrev pub after_block : Kind → Place → ℕ → List ℕ → Place
after_block kind.Section p total bytes = in_block p (Some (order_at kind.Section p.order bytes)) [] None total 0 None
after_block kind.Interface p total bytes = in_block p p.order p.interfaces (Some microseconds) total (total - 20) None
after_block kind.Packet p total bytes =
    let order = order_or_little p.order in
    in_block p p.order p.interfaces None total 0 (record_by (packet_arrival order p.interfaces bytes) order bytes)
after_block kind.Other p total bytes = in_block p p.order p.interfaces None total 0 None

-- the place after the fixed fields or the body of the block that the bytes begin with
abbrev pub after_any : Place → List ℕ → Place
after_any p bytes =
    let k = kind_at p.order bytes in
    after_block k p (number_at (order_at k p.order bytes) 4 4 bytes) bytes

-- an interface after one more of its options was read
abbrev pub described : Order → ℕ → Option Interface → List ℕ → Option Interface
described order code None bytes = None
described order code (Some interface) bytes = Some (with_option order code interface bytes)

-- The place after a block's trailer. If the block described an interface, the interface is appended to the interfaces
-- of the section.
abbrev pub after_trailer : Place → Place
after_trailer p = record {
  stage = stage.Block;
  order = p.order;
  interfaces = p.interfaces ++ option_to_list p.interface;
  interface = None;
  start = p.start + p.total;
  total = 0;
  left = 0;
  packet = None;
}

-- A block, an option or a trailer begins at this place. The result is the place after the block's fixed fields or body,
-- after the option, or after the trailer.
abbrev pub next_by : Stage → Place → List ℕ → Place
next_by stage.Block p bytes = after_any p bytes
next_by stage.Option p bytes =
    let order = order_or_little p.order in
    in_block p p.order p.interfaces (described order (option_code order bytes) p.interface bytes) p.total (p.left - size_by stage.Option p bytes) None
next_by stage.Trailer p bytes = after_trailer p

-- A block, an option or a trailer begins at this place. The result is the place after the block's fixed fields or body,
-- after the option, or after the trailer.
unfoldable pub next_place : Place → List ℕ → Place
next_place p bytes = next_by p.stage p bytes

-- the packet that is complete after this stage: after a trailer, the packet of the block; otherwise none
abbrev pub packet_by : Stage → Option Record → Option Record
packet_by stage.Block packet = None
packet_by stage.Option packet = None
packet_by stage.Trailer packet = packet

-- How the bytes of a capture end: the first refusal, and whether bytes are missing. If bytes are missing, later bytes
-- can change the refusal.
pub record Ending : Type 0 where
  pub refusal : Refusal
  pub cut : Bool

-- the ending if bytes of this field are missing
abbrev pub short_at : Field → ℕ → Ending
short_at field at = record { refusal = record { field = field; at = at; short = true }; cut = true }

-- how a capture ends if only these bytes of the block at this place are present
abbrev pub cut_block : Place → List ℕ → Ending
cut_block p bytes =
    if nat_lt (length bytes) 4 then short_at BlockType p.start
    else if nat_lt (length bytes) 8 then
    (if nat_le 256 (length p.interfaces) && is_interface (kind_at p.order bytes)
    then record { refusal = refusal_at Interfaces p.start; cut = true }
    else short_at BlockLength (p.start + 4))
    else short_at BlockBody (p.start + 8)

-- how a capture ends if only these bytes of the block, option or trailer at this place are present
abbrev pub cut_by : Stage → Place → List ℕ → Ending
cut_by stage.Block p bytes = cut_block p bytes
cut_by stage.Option p bytes = short_at BlockBody (p.start + 8)
cut_by stage.Trailer p bytes = short_at BlockBody (p.start + 8)

-- a capture that ends at this place is whole: a section was begun, a block would begin here, and no byte of that block
-- is present
abbrev pub ends_at : Stage → Option Order → ℕ → ℕ → Bool
ends_at stage.Block (Some order) start zero = true
ends_at stage.Block (Some order) start (suc n) = false
ends_at stage.Block None start n = false
ends_at stage.Option order start n = false
ends_at stage.Trailer order start n = false

-- the whole packets of some bytes, in order, and how the bytes end
pub record Contents : Type 0 where
  pub records : List Record
  pub ending : Option Ending

-- no packets, and this ending
abbrev pub ends : Option Ending → Contents
ends ending = record { records = []; ending = ending }

-- the packet, if there is one, and then the contents `rest`
abbrev pub and_then : Option Record → Contents → Contents
and_then packet rest = record { records = option_to_list packet ++ rest.records; ending = rest.ending }

-- The contents of bytes that begin at this place and end before the next place. There is no packet. If `ends_at` says
-- that the capture is whole, there is no refusal; otherwise there is one.
abbrev pub cut_short : Place → List ℕ → Contents
cut_short p bytes = if ends_at p.stage p.order p.start (length bytes) then ends None else ends (Some (cut_by p.stage p bytes))

-- if a field is refused, no packets and this refusal; otherwise the contents `rest`
abbrev pub refused_or : Option Refusal → Contents → Contents
refused_or (Some refusal) rest = ends (Some (record { refusal = refusal; cut = false }))
refused_or None rest = rest

-- the contents of the bytes, which begin at this place; at most n places are read
abbrev pub contents_from : ℕ → Place → List ℕ → Contents
contents_from zero p bytes = ends None
contents_from (suc n) p bytes =
    refused_or (refusal_here p bytes)
    (if nat_lt (length bytes) (size_here p bytes) then cut_short p bytes
    else and_then (packet_by p.stage p.packet) (contents_from n (next_place p bytes) (drop (size_here p bytes) bytes)))

-- the contents of the bytes, which begin at this place
abbrev pub contents_at : Place → List ℕ → Contents
contents_at p bytes = contents_from (suc (length bytes)) p bytes

-- the place before the first block of a capture
abbrev pub first_place : Place
first_place = record {
  stage = stage.Block;
  order = None;
  interfaces = [];
  interface = None;
  start = 0;
  total = 0;
  left = 0;
  packet = None;
}

-- The contents of a capture: the packets before its first refusal, and that refusal. Each place takes at least four
-- bytes, so `contents_from` never runs out of places here.
unfoldable pub contents : List ℕ → Contents
contents bytes = contents_from (suc (length bytes)) first_place bytes

-- the whole packets of a capture before its first refusal, in order
unfoldable pub whole_records : List ℕ → List Record
whole_records bytes = (contents bytes).records

-- the refusal of an ending, if any
abbrev pub refusal_of : Option Ending → Option Refusal
refusal_of None = None
refusal_of (Some ending) = Some ending.refusal

-- the first refusal of a capture, at a field that is cut off or whose value is refused
unfoldable pub first_refusal : List ℕ → Option Refusal
first_refusal bytes = refusal_of (contents bytes).ending

-- the refusal in which the bytes end; `None` if there is no such refusal, or if later bytes can change it
abbrev pub settled : Option Ending → Option Refusal
settled None = None
settled (Some ending) = if ending.cut then None else Some ending.refusal
