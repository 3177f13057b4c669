-- PCM packets of the AVTP audio format (IEEE 1722-2016, 7).
use Rattle.std.specs.Prelude.{◌≡◌, ℕ, ◌*◌, ◌/◌, ◌%◌, ◌==◌, ◌^◌, ◌<◌, ◌≤◌, Bool, false, not, nat_lt, if◌then◌else◌, List, [], ◌∷◌, ◌++◌, length, take, drop, Option, Some, None, is_none, unwrap_or}
use Rattle.avtp_base.specs.declared.field.Field.TheVariants.{Format, Nsr, ChannelsPerFrame, BitDepth, StreamDataLength, FormatFlags}
use Rattle.avtp_base.specs.declared.refusal.Refusal.{Refusal}
use Rattle.avtp_base.specs.Octets.{bits, is_set, flag, any_set}
use Rattle.avtp_base.specs.Layout.{Layout, part, holds, reserved, reserved_shown, Spells, reserved_ranges, spelling}
use Rattle.avtp_base.specs.Rows.{Row, row, first_row, or_else}
use Rattle.avtp_header.specs.declared.header.StreamHeader.{StreamHeader}
use Rattle.avtp_header.specs.Header.{stream_layout, header_of, kind_refusal, exceeds}
pub use Rattle.avtp_header.specs.Numbers.{aaf_subtype}
use Rattle.aaf_format.specs.declared.aaf.AafFormat.{AafFormat}
use Rattle.aaf_format.specs.declared.aaf.AafFormat.TheVariants.{Float32, Int32, Int24, Int16}
use Rattle.aaf_format.specs.declared.aaf.AafView.{AafView}

-- a PCM packet, without its samples' location in memory
pub record Aaf : Type 0 where
  pub header : StreamHeader
  pub format : AafFormat
  pub nsr : ℕ
  pub channels : ℕ
  pub depth : ℕ
  pub sparse : Bool
  pub evt : ℕ
  pub count : ℕ
  pub payload : List ℕ
  pub reserved : Bool

-- the packet that a view shows, without its samples' location in memory
abbrev pub aaf_shape : AafView → Aaf
aaf_shape v = record {
  header = v.header;
  format = v.format;
  nsr = v.nsr;
  channels = v.channels;
  depth = v.depth;
  sparse = v.sparse;
  evt = v.evt;
  count = v.count;
  payload = v.payload.now;
  reserved = v.reserved;
}

-- byte 16 of a packet with samples of this format
abbrev pub code_of : AafFormat → ℕ
code_of Float32 = 1
code_of Int32 = 2
code_of Int24 = 3
code_of Int16 = 4

-- the format of samples that byte 16 names; `None` if this is no PCM format
abbrev pub named_format : ℕ → Option AafFormat
named_format code =
    if code == 1 then Some Float32 else
    if code == 2 then Some Int32 else
    if code == 3 then Some Int24 else
    if code == 4 then Some Int16 else None

-- the size in bytes of a sample of this format
abbrev pub width_of : AafFormat → ℕ
width_of Float32 = 4
width_of Int32 = 4
width_of Int24 = 3
width_of Int16 = 2

-- the sample rate in Hz that the code `nsr` names; `None` for other codes and for 0, which means user-specified
abbrev pub rate_of : ℕ → Option ℕ
rate_of nsr =
    if nsr == 1 then Some 8000 else
    if nsr == 2 then Some 16000 else
    if nsr == 3 then Some 32000 else
    if nsr == 4 then Some 44100 else
    if nsr == 5 then Some 48000 else
    if nsr == 6 then Some 88200 else
    if nsr == 7 then Some 96000 else
    if nsr == 8 then Some 176400 else
    if nsr == 9 then Some 192000 else
    if nsr == 10 then Some 24000 else None

-- The format of samples that byte 16 of a packet names. The result is Int16 if byte 16 names no PCM format, but such a
-- packet is refused.
abbrev pub format_of : List ℕ → AafFormat
format_of bytes = unwrap_or (named_format (bits 16 0 8 bytes)) Int16

-- the size in bytes of a sample frame, which has one sample for each channel
abbrev pub frame_size : ℕ → AafFormat → ℕ
frame_size channels format = channels * width_of format

-- The table of a PCM packet. The two format bits of the stream header are reserved in this format, but a view shows
-- them.
abbrev pub aaf_layout : Layout Aaf
aaf_layout = stream_layout (λ v. v.header)
    (reserved_shown 2 (λ v. v.header.format_bits) ∷ [])
    (part Format 16 (holds 8 (λ v. code_of v.format) ∷ []) ∷
    part ChannelsPerFrame 17 (holds 4 (λ v. v.nsr) ∷ reserved 2 ∷ holds 10 (λ v. v.channels) ∷ []) ∷
    part BitDepth 19 (holds 8 (λ v. v.depth) ∷ []) ∷ [])
    (part FormatFlags 22 (reserved 3 ∷ holds 1 (λ v. flag v.sparse) ∷ holds 4 (λ v. v.evt) ∷ []) ∷
    part FormatFlags 23 (reserved 8 ∷ []) ∷ [])

-- a reserved bit of a PCM packet is set
abbrev pub sets_reserved : List ℕ → Bool
sets_reserved bytes = any_set (reserved_ranges aaf_layout) bytes

-- The rows for the format, the sample rate, the channels and the bit depth, in this order. These rows follow the rows
-- that all formats share.
abbrev pub sample_rows : List ℕ → List Row
sample_rows bytes =
    row Format 16 (is_none (named_format (bits 16 0 8 bytes))) ∷
    row Nsr 17 (nat_lt 10 (bits 17 0 4 bytes)) ∷
    row ChannelsPerFrame 17 (bits 17 6 10 bytes == 0) ∷
    row BitDepth 19 (nat_lt (8 * width_of (format_of bytes)) (bits 19 0 8 bytes)) ∷ []

-- The last rows, which check the stated length. The length is refused if it exceeds the bytes after the header, or is
-- not a whole number of sample frames.
abbrev pub length_rows : List ℕ → List Row
length_rows bytes =
    row StreamDataLength 20 (exceeds 24 (bits 20 0 16 bytes) (length bytes)) ∷
    row StreamDataLength 20
    (not (bits 20 0 16 bytes % frame_size (bits 17 6 10 bytes) (format_of bytes) == 0)) ∷ []

-- Why the bytes are refused as a PCM packet; `None` if they are accepted. If a packet is cut off within bytes 16 to 19,
-- the packet is refused for `format_data`. If a packet is cut off within bytes 22 and 23, the packet is refused for
-- `format_flags`. `format_data` and `format_flags` are names of fields of the stream header.
abbrev pub aaf_refusal : List ℕ → Option Refusal
aaf_refusal bytes =
    or_else (kind_refusal aaf_subtype bytes)
    (or_else (first_row (sample_rows bytes)) (first_row (length_rows bytes)))

-- The bytes spell this PCM packet. Any bytes can follow the payload, which has the stated length.
pub record SpellsAaf (bytes : List ℕ) (v : Aaf) : Type 0 where
  pub accepted : aaf_refusal bytes ≡ None
  pub fields : Spells aaf_layout v bytes
  pub count : v.count * frame_size v.channels v.format ≡ v.header.data_length
  pub payload : v.payload ≡ take v.header.data_length (drop 24 bytes)
  pub reserved : v.reserved ≡ sets_reserved bytes

-- the PCM packet that the bytes spell, if they are accepted
abbrev pub aaf_of : List ℕ → Aaf
aaf_of bytes = record {
  header = header_of bytes;
  format = format_of bytes;
  nsr = bits 17 0 4 bytes;
  channels = bits 17 6 10 bytes;
  depth = bits 19 0 8 bytes;
  sparse = is_set 22 3 bytes;
  evt = bits 22 4 4 bytes;
  count = bits 20 0 16 bytes / frame_size (bits 17 6 10 bytes) (format_of bytes);
  payload = take (bits 20 0 16 bytes) (drop 24 bytes);
  reserved = sets_reserved bytes;
}

-- a PCM packet that can be written: no row refuses it, and its count and its stated length are those of its payload
pub record IsWritableAaf (v : Aaf) : Type 0 where
  pub subtype : v.header.subtype ≡ aaf_subtype
  pub nsr : v.nsr ≤ 10
  pub some_channels : 0 < v.channels
  pub channels : v.channels < 2 ^ 10
  pub depth : v.depth ≤ 8 * width_of v.format
  pub evt : v.evt < 2 ^ 4
  pub data_length : v.header.data_length ≡ length v.payload
  pub count : v.count * frame_size v.channels v.format ≡ length v.payload

-- a PCM packet with every reserved bit 0
abbrev pub plain_aaf : Aaf → Aaf
plain_aaf v = record v { header = record v.header { format_bits = 0 }; reserved = false }

-- the bytes that are written for a PCM packet: every reserved bit is 0, and nothing follows the payload
abbrev pub aaf_spelling : Aaf → List ℕ
aaf_spelling v = spelling aaf_layout v ++ v.payload
