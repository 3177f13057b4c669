-- Only private functions and proofs use these definitions. The state of a reader.
use Rattle.std.specs.Prelude.{◌≡◌, ℕ, ◌+◌, ◌-◌, ◌<◌, ◌≤◌, ◌^◌, ◌%◌, ⊤, Bool, true, false, is_some, IfSome, if◌then◌else◌, List, ◌++◌, length, drop, Option, Some, None, Result, IfOk}
use Rattle.std.specs.Option.{option_to_list}
use Rattle.avtp_base.specs.declared.refusal.Refusal.{Refusal}
use Rattle.pcap_frames.specs.Capture.{Record}
use Rattle.pcap_frames.specs.state.Readers.{Steps}
use Rattle.pcap_frames.specs.declared.style.Order.{Order}
use Rattle.pcap_frames.specs.Layout.{IsRecordTime, number_at}
use Rattle.pcapng_blocks.specs.declared.interface.Interface.{Interface}
use Rattle.pcapng_blocks.specs.declared.block.Kind.{Kind}
use Rattle.pcapng_blocks.specs.declared.block.Stage.{Stage}
use Rattle.pcapng_blocks.specs.declared.block.Stage.TheVariants as stage
use Rattle.pcapng_frames.specs.declared.cursor.Cursor.{Cursor}
use Rattle.pcapng_frames.specs.declared.cursor.PacketHead.{PacketHead}
use Rattle.pcapng_blocks.specs.Blocks.{after_block, after_trailer, block_size, cut_by, ends_at, next_by, option_refused, order_at, order_or_little, record_by, refusal_here, size_by, size_of_option, Place}
use Rattle.pcapng_blocks.specs.Fields.{packet_arrival}
use Rattle.pcapng_blocks.specs.Section.{IsResolved, interfaces_after}
use Rattle.pcapng_blocks.specs.state.Needs.{block_need, option_need}
use Rattle.pcapng_frames.specs.Reading.{Reading, progress, rest_of, passed_by, taken, taken_by}

-- The reader took `bytes`: reading on from `old` with `bytes ++ more` gives the same contents as reading on from `new`
-- with `more`.
pub record Takes (old : Reading) (bytes : List ℕ) (new : Reading) : Type 0 where
  pub same : (more : List ℕ) → rest_of old (bytes ++ more) ≡ rest_of new more

-- how many bytes must be taken at a place before more is known of it
abbrev pub need_by : Stage → Option Order → List ℕ → ℕ
need_by stage.Block order part = block_need order part
need_by stage.Option order part = option_need (order_or_little order) part
need_by stage.Trailer order part = 4

-- How far a reader is in a block. Before a block, nothing is to be skipped. Within a block, the bytes to be skipped,
-- the remaining bytes of options and the trailer together fit the total length.
abbrev pub IsAhead : Stage → ℕ → ℕ → ℕ → Type 0
IsAhead stage.Block skip left total = skip ≡ 0
IsAhead stage.Option skip left total = (0 < left) × (left % 4 ≡ 0) × (skip + left + 4 ≤ total)
IsAhead stage.Trailer skip left total = skip + 4 ≤ total

-- Before a block there is no packet, and no interface that is being described. Before an option, the reader holds no
-- packet.
abbrev pub IsFree : Stage → Option Record → Option Interface → Type 0
IsFree stage.Block packet interface = (packet ≡ None) × (interface ≡ None)
IsFree stage.Option packet interface = packet ≡ None
IsFree stage.Trailer packet interface = ⊤

-- The bytes taken at a place: nothing in them is refused, and more bytes are needed before the reader can move on.
pub record IsPart (p : Place) (skip : ℕ) (part : List ℕ) : Type 0 where
  pub accepted : refusal_here p part ≡ None
  pub partial : length part < need_by p.stage p.order part
  pub ahead : IsAhead p.stage skip p.left p.total
  pub room : IfSome p.interface (λ i. length p.interfaces < 256)
  pub free : IsFree p.stage p.packet p.interface

-- The trailer of a packet's block was taken.
pub record IsWhole (p : Place) (skip : ℕ) (part : List ℕ) : Type 0 where
  pub at_trailer : p.stage ≡ stage.Trailer
  pub passed : skip ≡ 0
  pub trailer : length part ≡ 4
  pub total : 4 ≤ p.total
  pub some : is_some p.packet ≡ true
  pub room : IfSome p.interface (λ i. length p.interfaces < 256)

-- the invariant of a reader
abbrev pub IsReading : Option Refusal → Bool → Place → ℕ → List ℕ → Type 0
IsReading (Some refusal) whole p skip part = ⊤
IsReading None true p skip part = IsWhole p skip part
IsReading None false p skip part = IsPart p skip part

-- the bytes taken at a place: `part` at a block, `tail` at an option or a trailer
abbrev pub part_at : Stage → List ℕ → List ℕ → List ℕ
part_at stage.Block part tail = part
part_at stage.Option part tail = tail
part_at stage.Trailer part tail = tail

-- the packet with these fixed fields, whose captured bytes follow the first 28 bytes of `part`
abbrev pub packet_with : PacketHead → List ℕ → Record
packet_with head part = record { arrival = head.arrival; orig_len = head.orig_len; bytes = drop 28 part }

abbrev pub packet_of : Option PacketHead → List ℕ → Option Record
packet_of None part = None
packet_of (Some head) part = Some (packet_with head part)

-- the place of a cursor, in a section with these interfaces, if `part` are the bytes held of the block
abbrev pub place_of : Cursor → List Interface → List ℕ → Place
place_of c interfaces part = record {
  stage = c.stage;
  order = c.order;
  interfaces = interfaces;
  interface = c.interface;
  start = c.start;
  total = c.total;
  left = c.left;
  packet = packet_of c.packet part;
}

-- The bytes are the fixed fields and the captured bytes of a packet, and the section has the packet's interface.
pub record HasPacket (order : Order) (interfaces : List Interface) (part : List ℕ) : Type 0 where
  pub whole : length part ≡ 28 + number_at order 20 4 part
  pub known : number_at order 8 4 part < length interfaces

-- The fixed fields are those of the packet in `part`, if it has an arrival.
pub record HeadsPacket (order : Order) (interfaces : List Interface) (part : List ℕ) (head : Option PacketHead) : Type 0 where
  pub exact : packet_of head part ≡ record_by (packet_arrival order interfaces part) order part
  pub time : IfSome head (λ h. IsRecordTime h.arrival)

-- if there is a packet, its fixed fields are held, and the packet is in a section
abbrev pub HasHead : Option Order → Option PacketHead → List ℕ → Type 0
HasHead order None part = ⊤
HasHead order (Some head) part = (28 ≤ length part) × IsRecordTime head.arrival × (is_some order ≡ true)

-- an option or a trailer follows, not a block
abbrev pub is_inside : Stage → Bool
is_inside stage.Block = false
is_inside stage.Option = true
is_inside stage.Trailer = true

-- before an option there is no packet
abbrev pub IsUnpacked : Stage → Option PacketHead → Type 0
IsUnpacked stage.Block packet = ⊤
IsUnpacked stage.Option packet = packet ≡ None
IsUnpacked stage.Trailer packet = ⊤

-- A cursor has moved on within a block, in a section with these interfaces. It is before an option or the trailer, at
-- the place `q`. The place `q` is `span` bytes after the place at which `bytes` were taken. `before` bytes of the
-- capture were taken before them. `front` are the bytes held of the block.
pub record HasMoved (before : ℕ) (q : Place) (span : ℕ) (bytes : List ℕ) (c : Cursor) (interfaces : List Interface) (front : List ℕ) : Type 0 where
  pub place : place_of c interfaces front ≡ q
  pub size : span ≡ length bytes + c.skip
  pub room : IfSome c.interface (λ i. length interfaces < 256)
  pub head : HasHead c.order c.packet front
  pub resolved : IsResolved c.interface
  pub ahead : IsAhead c.stage c.skip c.left c.total
  pub inside : is_inside c.stage ≡ true
  pub unpacked : IsUnpacked c.stage c.packet
  pub passed : c.start + passed_by c.stage c.skip c.left c.total ≡ before + length bytes

-- the cursor after `part` was taken at the start of a block of this kind, which begins at the place `p`
abbrev pub IsAfterHead : Kind → Place → List ℕ → Cursor → Type 0
IsAfterHead k p part c =
    let total = number_at (order_at k p.order part) 4 4 part in
    HasMoved p.start (after_block k p total part) (block_size k total) part c (interfaces_after k p.interfaces) part

-- All bytes that are read of the option at the cursor were taken, and nothing in them is refused.
pub record IsOption (c : Cursor) (tail : List ℕ) : Type 0 where
  pub long : 4 ≤ length tail
  pub whole : length tail ≡ option_need (order_or_little c.order) tail
  pub accepted : option_refused (order_or_little c.order) (c.start + (c.total - 4 - c.left)) c.left tail ≡ None
  pub resolved : IsResolved c.interface
  pub ahead : IsAhead stage.Option 0 c.left c.total
  pub packet : c.packet ≡ None

-- The size of the accepted option that `tail` begins with: its bytes are within the options, and the rest of the options
-- is a multiple of 4.
pub record IsOptionSize (order : Order) (left : ℕ) (tail : List ℕ) (size : ℕ) : Type 0 where
  pub exact : size ≡ size_of_option order left tail
  pub within : size ≤ left
  pub four : (left - size) % 4 ≡ 0

-- the cursor after `tail` was taken of the option at the place `p`
abbrev pub IsAfterOption : Place → List ℕ → Cursor → List ℕ → Type 0
IsAfterOption p tail c front =
    HasMoved (p.start + passed_by stage.Option 0 p.left p.total) (next_by stage.Option p tail) (size_by stage.Option p tail) tail c p.interfaces front

-- The cursor `next` is before the block that follows the block of the cursor `c`.
pub record IsPast (c next : Cursor) : Type 0 where
  pub place : (front part : List ℕ) (interfaces : List Interface) → place_of next (interfaces ++ option_to_list c.interface) front ≡ after_trailer (place_of c interfaces part)
  pub stage : next.stage ≡ stage.Block
  pub skip : next.skip ≡ 0
  pub interface : next.interface ≡ None
  pub packet : next.packet ≡ None
  pub start : next.start ≡ c.start + c.total

-- A reader can take bytes of a piece: the piece is not empty, and the reader has no refusal and holds no packet.
pub record IsGoing (r : Reading) (piece : List ℕ) : Type 0 where
  pub accepted : r.refusal ≡ None
  pub partial : r.whole ≡ false
  pub more : 0 < length piece
  pub bounded : taken r + length piece ≤ 2 ^ 62

-- The reader is at a place where a block, an option or a trailer begins, as `next` says. The reader has nothing to skip
-- and can take bytes of the piece.
pub record IsAt (next : Stage) (r : Reading) (piece : List ℕ) : Type 0 where
  pub going : IsGoing r piece
  pub stage : r.place.stage ≡ next
  pub ready : r.skip ≡ 0

-- The reader can take bytes of a piece, and skips them.
pub record IsSkipping (r : Reading) (piece : List ℕ) : Type 0 where
  pub going : IsGoing r piece
  pub some : 0 < r.skip

-- A reader took at least one byte of a piece, or refused a field in the piece.
pub record TakesSome (old : Reading) (piece : List ℕ) (result : Result ℕ Refusal) (new : Reading) : Type 0 where
  pub some : IfOk result (λ n. 0 < n)
  pub steps : Steps (progress old) piece result (progress new)

-- what is missing if the capture ends after the bytes taken by a reader in this state
abbrev pub lacks_by : Bool → Place → List ℕ → Option Refusal
lacks_by true p part = None
lacks_by false p part = if ends_at p.stage p.order p.start (length part) then None else Some (cut_by p.stage p part).refusal

abbrev pub lacks : Reading → Option Refusal
lacks r = lacks_by r.whole r.place r.part

-- The invariant of a reader with these fields, whose buffers have these capacities.
pub record IsReader (cursor : Cursor) (interfaces : List Interface) (front tail : List ℕ) (whole : Bool) (refusal : Option Refusal) (front_capacity tail_capacity : ℕ) : Type 0 where
  pub front_room : 262172 ≤ front_capacity
  pub tail_room : 12 ≤ tail_capacity
  pub described : IsResolved cursor.interface
  pub head : HasHead cursor.order cursor.packet front
  pub bounded : taken_by cursor.stage (place_of cursor interfaces front) cursor.skip (part_at cursor.stage front tail) ≤ 2 ^ 62
  pub reading : IsReading refusal whole (place_of cursor interfaces front) cursor.skip (part_at cursor.stage front tail)
