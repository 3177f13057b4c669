-- IEC 61883-6 packets in AVTP: the encapsulation of IEEE 1722-2016, 5, and the CIP header of IEC 61883-1, whose two
-- quadlets follow the stream header. This project's profile accepts no-data packets, and packets of audio blocks that
-- are neither split nor packed.
use Rattle.std.specs.Prelude.{◌≡◌, ◌⊎◌, ℕ, ◌+◌, ◌-◌, ◌*◌, ◌/◌, ◌%◌, ◌==◌, ◌^◌, ◌<◌, ◌≤◌, Bool, false, not, ◌&&◌, ◌||◌, nat_lt, if◌then◌else◌, List, [], ◌∷◌, ◌++◌, length, take, drop, Option, Some, None}
use Rattle.time_unfold.specs.declared.head_rule.HeadRule.TheVariants.{Blocks}
use Rattle.time_unfold.specs.Heads.{stamped_index}
use Rattle.avtp_base.specs.declared.field.Field.TheVariants.{FormatData, FormatFlags, StreamDataLength, Tag, Qi1, FnBits, Qpc, Sph, Qi2, Fmt, Fdf}
use Rattle.avtp_base.specs.declared.refusal.Refusal.{Refusal}
use Rattle.avtp_base.specs.Octets.{bits, any_set}
use Rattle.avtp_base.specs.Layout.{Layout, part, holds, reserved, reserved_shown, Spells, reserved_ranges, spelling}
use Rattle.avtp_base.specs.Rows.{Row, row, first_row, or_else}
use Rattle.avtp_header.specs.declared.header.StreamHeader.{StreamHeader}
use Rattle.avtp_header.specs.Header.{stream_layout, header_of, kind_refusal, exceeds}
pub use Rattle.avtp_header.specs.Numbers.{iec_subtype}
use Rattle.iec61883_format.specs.declared.iec.Cip.{Cip}
use Rattle.iec61883_format.specs.declared.iec.IecView.{IecView}

-- an IEC 61883-6 packet, without its data blocks' location in memory
pub record Iec : Type 0 where
  pub header : StreamHeader
  pub gateway_info : ℕ
  pub channel : ℕ
  pub tcode : ℕ
  pub sy : ℕ
  pub cip : Cip
  pub count : ℕ
  pub payload : List ℕ
  pub reserved : Bool

-- the packet that a view shows, without its data blocks' location in memory
abbrev pub iec_shape : IecView → Iec
iec_shape v = record {
  header = v.header;
  gateway_info = v.gateway_info;
  channel = v.channel;
  tcode = v.tcode;
  sy = v.sy;
  cip = v.cip;
  count = v.count;
  payload = v.payload.now;
  reserved = v.reserved;
}

-- ---- numbers

-- the tag of a packet that has a CIP header (IEC 61883-1)
abbrev pub cip_tag : ℕ
cip_tag = 1

-- the value of the two bits that mark the second quadlet of the CIP header; in the first quadlet these bits are 0 (IEC
-- 61883-1)
abbrev pub second_mark : ℕ
second_mark = 2

-- the FMT of audio and music data (IEC 61883-6)
abbrev pub audio_format : ℕ
audio_format = 0x10

-- the FDF of a no-data packet (IEC 61883-6)
abbrev pub no_data : ℕ
no_data = 255

-- The number of quadlets in a data block, from the byte DBS. 256 does not fit into a byte, so 0 means 256 (IEC
-- 61883-1).
abbrev pub dbs_of : ℕ → ℕ
dbs_of byte = if byte == 0 then 256 else byte

-- the byte DBS for data blocks of `dbs` quadlets, 1 to 256
abbrev pub dbs_byte : ℕ → ℕ
dbs_byte dbs = if dbs == 256 then 0 else dbs

-- the sample rate in Hz that FDF names (IEC 61883-6)
abbrev pub rate_of_fdf : ℕ → Option ℕ
rate_of_fdf fdf =
    if fdf == 0 then Some 32000 else
    if fdf == 1 then Some 44100 else
    if fdf == 2 then Some 48000 else
    if fdf == 3 then Some 88200 else
    if fdf == 4 then Some 96000 else
    if fdf == 5 then Some 176400 else
    if fdf == 6 then Some 192000 else None

-- the SYT_INTERVAL of an FDF: one data block in this many has a timestamp (IEC 61883-6)
abbrev pub syt_interval : ℕ → Option ℕ
syt_interval fdf =
    if fdf == 0 then Some 8 else
    if fdf == 1 then Some 8 else
    if fdf == 2 then Some 8 else
    if fdf == 3 then Some 16 else
    if fdf == 4 then Some 16 else
    if fdf == 5 then Some 32 else
    if fdf == 6 then Some 32 else None

-- a SYT_INTERVAL of IEC 61883-6: 8, 16 or 32
abbrev pub IsSytInterval : ℕ → Type 0
IsSytInterval interval = (interval ≡ 8) ⊎ (interval ≡ 16) ⊎ (interval ≡ 32)

-- The index of the data block that the packet's timestamp belongs to, counted from 0. The timestamp belongs to the
-- first block whose block count is a multiple of the interval. The packet's first data block has the count `dbc`.
abbrev pub anchor_index : ℕ → ℕ → ℕ
anchor_index dbc interval = stamped_index (Blocks dbc interval)

-- the size in bytes of a data block of `dbs` quadlets
abbrev pub block_size : ℕ → ℕ
block_size dbs = 4 * dbs

-- how many of the `size` bytes after the CIP header belong to data blocks: none in a no-data packet, and all in any
-- other packet
abbrev pub data_size : ℕ → ℕ → ℕ
data_size fdf size = if fdf == no_data then 0 else size

-- ---- the table

-- The table of the CIP header (IEC 61883-1), two quadlets in bytes 24 to 31, for a view that has such a header. FN, QPC
-- and SPH are 0, so data is neither split nor packed, and has no source packet headers. A packet that ends within the
-- CIP header is refused for its stated length.
abbrev pub cip_layout : {V : Type 0} → (V → Cip) → Layout V
cip_layout cip =
    part StreamDataLength 24 (holds 2 (λ v. 0) ∷ holds 6 (λ v. (cip v).sid) ∷ []) ∷
    part StreamDataLength 25 (holds 8 (λ v. dbs_byte (cip v).dbs) ∷ []) ∷
    part StreamDataLength 26 (holds 2 (λ v. 0) ∷ holds 3 (λ v. 0) ∷ holds 1 (λ v. 0) ∷ reserved 2 ∷ []) ∷
    part StreamDataLength 27 (holds 8 (λ v. (cip v).dbc) ∷ []) ∷
    part StreamDataLength 28 (holds 2 (λ v. second_mark) ∷ holds 6 (λ v. audio_format) ∷ []) ∷
    part StreamDataLength 29 (holds 8 (λ v. (cip v).fdf) ∷ []) ∷
    part StreamDataLength 30 (holds 16 (λ v. (cip v).syt) ∷ []) ∷ []

-- The table of an IEC 61883-6 packet. The first of the two format bits of the stream header is reserved in this format,
-- but a view shows it. The second format bit says whether `gateway_info` is valid.
abbrev pub iec_layout : Layout Iec
iec_layout = stream_layout (λ v. v.header)
    (reserved_shown 1 (λ v. v.header.format_bits / 2) ∷ holds 1 (λ v. v.header.format_bits % 2) ∷ [])
    (part FormatData 16 (holds 32 (λ v. v.gateway_info) ∷ []) ∷ [])
    (part FormatFlags 22 (holds 2 (λ v. cip_tag) ∷ holds 6 (λ v. v.channel) ∷ []) ∷
    part FormatFlags 23 (holds 4 (λ v. v.tcode) ∷ holds 4 (λ v. v.sy) ∷ []) ∷
    cip_layout (λ v. v.cip))

-- a reserved bit of an IEC 61883-6 packet is set
abbrev pub sets_reserved : List ℕ → Bool
sets_reserved bytes = any_set (reserved_ranges iec_layout) bytes

-- ---- the rows

-- The rows of the encapsulation, which follow those that all formats share. The first row refuses each tag other than
-- the tag of a CIP header. The second row refuses a stated length that is less than the length of a CIP header, or
-- exceeds the number of bytes after the stream header.
abbrev pub carrier_rows : List ℕ → List Row
carrier_rows bytes =
    row Tag 22 (not (bits 22 0 2 bytes == cip_tag)) ∷
    row StreamDataLength 20
    (nat_lt (bits 20 0 16 bytes) 8 || exceeds 24 (bits 20 0 16 bytes) (length bytes)) ∷ []

-- The rows of the first quadlet of the CIP header, after the rows of the encapsulation. The rows refuse a QI_1, FN, QPC
-- or SPH other than 0.
abbrev pub first_quadlet_rows : List ℕ → List Row
first_quadlet_rows bytes =
    row Qi1 24 (not (bits 24 0 2 bytes == 0)) ∷
    row FnBits 26 (not (bits 26 0 2 bytes == 0)) ∷
    row Qpc 26 (not (bits 26 2 3 bytes == 0)) ∷
    row Sph 26 (not (bits 26 5 1 bytes == 0)) ∷ []

-- The rows of the second quadlet of the CIP header, after the rows of the first quadlet. The rows refuse a QI_2 other
-- than 2, and an FMT other than audio. The rows also refuse an FDF that is neither the code of a rate nor that of a
-- no-data packet.
abbrev pub second_quadlet_rows : List ℕ → List Row
second_quadlet_rows bytes =
    row Qi2 28 (not (bits 28 0 2 bytes == second_mark)) ∷
    row Fmt 28 (not (bits 28 2 6 bytes == audio_format)) ∷
    row Fdf 29 (nat_lt 6 (bits 29 0 8 bytes) && not (bits 29 0 8 bytes == no_data)) ∷ []

-- the number of bytes of all data blocks of a packet together, from its stated length and its FDF
abbrev pub stated_data : List ℕ → ℕ
stated_data bytes = data_size (bits 29 0 8 bytes) (bits 20 0 16 bytes - 8)

-- the number of bytes of each data block of a packet, from its DBS
abbrev pub stated_block : List ℕ → ℕ
stated_block bytes = block_size (dbs_of (bits 25 0 8 bytes))

-- The row of the data blocks, which comes last. The row refuses a stated length if the data is not a whole number of
-- data blocks.
abbrev pub block_rows : List ℕ → List Row
block_rows bytes = row StreamDataLength 20 (not (stated_data bytes % stated_block bytes == 0)) ∷ []

-- why a packet is refused for its CIP header or its data blocks; `None` if both are accepted
abbrev pub cip_refusal : List ℕ → Option Refusal
cip_refusal bytes =
    or_else (first_row (first_quadlet_rows bytes))
    (or_else (first_row (second_quadlet_rows bytes)) (first_row (block_rows bytes)))

-- why the bytes are refused as an IEC 61883-6 packet; `None` if they are accepted
abbrev pub iec_refusal : List ℕ → Option Refusal
iec_refusal bytes =
    or_else (kind_refusal iec_subtype bytes) (or_else (first_row (carrier_rows bytes)) (cip_refusal bytes))

-- ---- packets

-- The bytes spell this IEC 61883-6 packet. Any bytes may follow the stated length.
pub record SpellsIec (bytes : List ℕ) (v : Iec) : Type 0 where
  pub accepted : iec_refusal bytes ≡ None
  pub fields : Spells iec_layout v bytes
  pub some_quadlets : 0 < v.cip.dbs
  pub count : v.count * block_size v.cip.dbs ≡ data_size v.cip.fdf (v.header.data_length - 8)
  pub payload : v.payload ≡ take (v.header.data_length - 8) (drop 32 bytes)
  pub reserved : v.reserved ≡ sets_reserved bytes

-- the CIP header that the bytes of a packet spell
abbrev pub cip_of : List ℕ → Cip
cip_of bytes = record {
  sid = bits 24 2 6 bytes;
  dbs = dbs_of (bits 25 0 8 bytes);
  dbc = bits 27 0 8 bytes;
  fdf = bits 29 0 8 bytes;
  syt = bits 30 0 16 bytes;
}

-- the IEC 61883-6 packet that the bytes spell, if they are accepted
abbrev pub iec_of : List ℕ → Iec
iec_of bytes = record {
  header = header_of bytes;
  gateway_info = bits 16 0 32 bytes;
  channel = bits 22 2 6 bytes;
  tcode = bits 23 0 4 bytes;
  sy = bits 23 4 4 bytes;
  cip = cip_of bytes;
  count = stated_data bytes / stated_block bytes;
  payload = take (bits 20 0 16 bytes - 8) (drop 32 bytes);
  reserved = sets_reserved bytes;
}

-- the FDF is that of a sample rate, or that of a no-data packet
abbrev pub IsFdf : ℕ → Type 0
IsFdf fdf = (fdf ≤ 6) ⊎ (fdf ≡ no_data)

-- an IEC 61883-6 packet that can be written: no row refuses it, its stated length is that of the CIP header and the
-- payload, and its count is the number of data blocks in the payload, or 0 in a no-data packet
pub record IsWritableIec (v : Iec) : Type 0 where
  pub subtype : v.header.subtype ≡ iec_subtype
  pub channel : v.channel < 2 ^ 6
  pub tcode : v.tcode < 2 ^ 4
  pub sy : v.sy < 2 ^ 4
  pub sid : v.cip.sid < 2 ^ 6
  pub some_quadlets : 0 < v.cip.dbs
  pub quadlets : v.cip.dbs ≤ 256
  pub fdf : IsFdf v.cip.fdf
  pub data_length : v.header.data_length ≡ 8 + length v.payload
  pub count : v.count * block_size v.cip.dbs ≡ data_size v.cip.fdf (length v.payload)

-- an IEC 61883-6 packet with every reserved bit 0
abbrev pub plain_iec : Iec → Iec
plain_iec v = record v { header = record v.header { format_bits = v.header.format_bits % 2 }; reserved = false }

-- the bytes that are written for an IEC 61883-6 packet: every reserved bit is 0, and nothing follows the stated length
abbrev pub iec_spelling : Iec → List ℕ
iec_spelling v = spelling iec_layout v ++ v.payload
