-- What the state of a reader means: which bytes it has taken, and which packets it has released.
use Rattle.std.specs.Prelude.{◌≡◌, ℕ, ◌+◌, ◌-◌, Bool, true, false, is_some, nat_lt, if◌then◌else◌, List, [], ◌++◌, length, drop, Option, Some, None}
use Rattle.avtp_base.specs.declared.field.Field.TheVariants.{BlockBody}
use Rattle.avtp_base.specs.declared.refusal.Refusal.{Refusal}
use Rattle.pcap_frames.specs.Capture.{Record}
use Rattle.pcap_frames.specs.Readers.{Meaning, Progress, Releases}
use Rattle.pcapng_blocks.specs.declared.block.Kind.TheVariants as kind
use Rattle.pcapng_blocks.specs.declared.block.Stage.{Stage}
use Rattle.pcapng_blocks.specs.declared.block.Stage.TheVariants as stage
use Rattle.pcapng_blocks.specs.Packets.{IsPacketBlock}
use Rattle.pcapng_blocks.specs.Blocks.{Place, Contents, after_block, order_or_little, contents, contents_at, whole_records, first_refusal, settled, ends, and_then, first_place, after_trailer, short_at}

-- The state of a reader. Once the reader has skipped `skip` further bytes, it reads at `place`. `part` are the bytes
-- that were taken from `place` on. `whole` tells whether the block's packet is whole. `refusal` is the refusal that the
-- reader has returned, if any.
pub record Reading : Type 0 where
  pub place : Place
  pub skip : ℕ
  pub part : List ℕ
  pub whole : Bool
  pub refusal : Option Refusal

-- a reader that has taken nothing
abbrev pub nothing_read : Reading
nothing_read = record { place = first_place; skip = 0; part = []; whole = false; refusal = None }

-- The contents of the capture from the reader's place on, if `more` are the bytes that follow the taken bytes. The
-- first `skip` bytes of `more` precede the place. `part` are the bytes that were taken from the place on.
abbrev pub contents_past : ℕ → Place → List ℕ → List ℕ → Contents
contents_past skip p part more =
    if nat_lt (length more) skip then ends (Some (short_at BlockBody (p.start + 8)))
    else contents_at p (part ++ drop skip more)

-- The contents of the capture that a reader has not released yet, if the bytes taken so far are followed by `more`. If
-- the reader has a refusal, the contents are only that refusal. If the reader holds a packet, the contents are that
-- packet, followed by the contents after the packet's block. If the reader has no refusal and holds no packet, the
-- contents are those from the reader's place on.
abbrev pub rest_by : Option Refusal → Bool → Reading → List ℕ → Contents
rest_by (Some refusal) whole r more = ends (Some (record { refusal = refusal; cut = false }))
rest_by None true r more = and_then r.place.packet (contents_at (after_trailer r.place) more)
rest_by None false r more = contents_past r.skip r.place r.part more

-- the contents of the capture that this reader has not released yet, if the bytes taken so far are followed by `more`
abbrev pub rest_of : Reading → List ℕ → Contents
rest_of r more = rest_by r.refusal r.whole r more

-- these packets, and then the contents `rest`
abbrev pub after_all : List Record → Contents → Contents
after_all records rest = record { records = records ++ rest.records; ending = rest.ending }

-- The reader has taken these bytes and released these packets, in order. For any further bytes `more`, the contents of
-- the capture are these packets, followed by `rest_of r more`.
pub record HasRead (r : Reading) (bytes : List ℕ) (records : List Record) : Type 0 where
  pub read : (more : List ℕ) → contents (bytes ++ more) ≡ after_all records (rest_of r more)

-- the packet that a reader in this state holds: the packet of the block, if the block is whole and nothing is refused
abbrev pub held_by : Option Refusal → Bool → Option Record → Option Record
held_by (Some refusal) whole packet = None
held_by None true packet = packet
held_by None false packet = None

-- the packet that the reader holds
abbrev pub held : Reading → Option Record
held r = held_by r.refusal r.whole r.place.packet

-- how many bytes of the block were taken before this place; bytes that are still to be skipped do not count
abbrev pub passed_by : Stage → ℕ → ℕ → ℕ → ℕ
passed_by stage.Block skip left total = 0
passed_by stage.Option skip left total = total - 4 - left - skip
passed_by stage.Trailer skip left total = total - 4 - skip

-- how many bytes a reader in this state has taken
abbrev pub taken_by : Stage → Place → ℕ → List ℕ → ℕ
taken_by next p skip part = p.start + passed_by next skip p.left p.total + length part

-- how many bytes the reader has taken
abbrev pub taken : Reading → ℕ
taken r = taken_by r.place.stage r.place r.skip r.part

-- what the bytes of a pcapng capture mean
abbrev pub meaning : Meaning
meaning = record { records = whole_records; refusal = first_refusal; certain = λ bytes. settled (contents bytes).ending }

-- the state of the reader, as contracts see it
abbrev pub progress : Reading → Progress
progress r = record { has_read = HasRead r; held = held r; taken = taken r; refusal = r.refusal }

-- these packets, and then this refusal
abbrev pub refused_after : List Record → Refusal → Contents
refused_after records refusal = record { records = records; ending = Some (record { refusal = refusal; cut = false }) }

-- ---- a packet that is borrowed

-- `block` is the block of the next packet, and none of its bytes was taken yet. After taking the bytes, the reader
-- holds the packet.
pub record IsNext (r : Reading) (block : List ℕ) : Type 0 where
  pub accepted : r.refusal ≡ None
  pub free : r.whole ≡ false
  pub before : r.place.stage ≡ stage.Block
  pub ready : r.skip ≡ 0
  pub untaken : r.part ≡ []
  pub opened : is_some r.place.order ≡ true
  pub packet : IsPacketBlock (order_or_little r.place.order) r.place.interfaces block

-- The reader after it took the block of the next packet. The reader now holds the packet in `block`.
abbrev pub with_block : Reading → List ℕ → Reading
with_block r block = record {
  place = after_block kind.Packet r.place (length block) block;
  skip = 0;
  part = drop (length block - 4) block;
  whole = true;
  refusal = r.refusal;
}

-- the state of the reader after the reader took the block of the next packet and released the packet
abbrev pub passing : Reading → List ℕ → Reading
passing r block = record r { place = record r.place { start = r.place.start + length block } }

-- What the call `release` does. The result says whether a packet was held. A held packet is released; without one, the
-- reader is unchanged.
pub record LetsGo (old : Reading) (result : Bool) (new : Reading) : Type 0 where
  pub answer : result ≡ is_some (held old)
  pub releases : Releases (progress old) (progress new)
  pub still : result ≡ false → new ≡ old
