-- The common stream header (IEEE 1722-2016, 4.4.4).
use Rattle.std.specs.Prelude.{◌≡◌, ℕ, ◌+◌, ◌==◌, Bool, not, nat_lt, List, [], ◌∷◌, ◌++◌, length, Option, None}
use Rattle.avtp_base.specs.declared.field.Field.TheVariants.{Subtype, Version, SequenceNum, Tu, StreamId, AvtpTimestamp, FormatData, StreamDataLength, FormatFlags}
use Rattle.avtp_base.specs.declared.refusal.Refusal.{Refusal}
use Rattle.avtp_base.specs.Octets.{bits, is_set, flag}
use Rattle.avtp_base.specs.Rows.{Row, row, first_row, or_else}
use Rattle.avtp_base.specs.Layout.{Bits, Layout, part, holds, reserved, Spells, first_short}
use Rattle.avtp_header.specs.declared.header.StreamHeader.{StreamHeader}
use Rattle.avtp_header.specs.declared.header.Peeked.{Peeked}

-- The table of the stream header, for a format whose view of type `V` contains that header. Each format defines the
-- meaning of three parts: two bits of byte 1; bytes 16 to 19; and bytes 22 and 23.
abbrev pub stream_layout : {V : Type 0} → (V → StreamHeader) → List (Bits V) → Layout V → Layout V → Layout V
stream_layout header format_bits format_data format_flags =
    part Subtype 0 (holds 8 (λ v. (header v).subtype) ∷ []) ∷
    part Version 1 (
    holds 1 (λ v. flag (header v).sv) ∷
    holds 3 (λ v. 0) ∷
    holds 1 (λ v. flag (header v).mr) ∷
    (format_bits ++
    holds 1 (λ v. flag (header v).tv) ∷ [])) ∷
    part SequenceNum 2 (holds 8 (λ v. (header v).seq) ∷ []) ∷
    part Tu 3 (reserved 7 ∷ holds 1 (λ v. flag (header v).tu) ∷ []) ∷
    part StreamId 4 (holds 64 (λ v. (header v).stream_id) ∷ []) ∷
    part AvtpTimestamp 12 (holds 32 (λ v. (header v).timestamp) ∷ []) ∷
    (format_data ++
    part StreamDataLength 20 (holds 16 (λ v. (header v).data_length) ∷ []) ∷
    format_flags)

-- The table of the stream header alone. In this table the two format bits are a field of the header. Bytes 16 to 19, 22
-- and 23 count as reserved in this table, because their meaning depends on the format.
abbrev pub header_layout : Layout StreamHeader
header_layout = stream_layout (λ h. h)
    (holds 2 (λ h. h.format_bits) ∷ [])
    (part FormatData 16 (reserved 32 ∷ []) ∷ [])
    (part FormatFlags 22 (reserved 16 ∷ []) ∷ [])

-- the row that refuses a packet whose subtype is not `subtype`
abbrev pub subtype_row : ℕ → List ℕ → Row
subtype_row subtype bytes = row Subtype 0 (not (bits 0 0 8 bytes == subtype))

-- the row that refuses a packet whose version is not 0
abbrev pub version_row : List ℕ → Row
version_row bytes = row Version 1 (not (bits 1 1 3 bytes == 0))

-- why bytes are refused as a stream header: a field is cut off, or the version is not 0
abbrev pub header_refusal : List ℕ → Option Refusal
header_refusal bytes =
    or_else (first_short header_layout (length bytes)) (first_row (version_row bytes ∷ []))

-- Why bytes are refused as a stream header of this subtype: a field is cut off, the subtype differs, or the version is
-- not 0.
abbrev pub kind_refusal : ℕ → List ℕ → Option Refusal
kind_refusal subtype bytes =
    or_else (first_short header_layout (length bytes))
    (first_row (subtype_row subtype bytes ∷ version_row bytes ∷ []))

-- in a packet of n bytes, the stated length exceeds the number of bytes after the header
abbrev pub exceeds : ℕ → ℕ → ℕ → Bool
exceeds header stated n = nat_lt n (header + stated)

-- the bytes begin with this stream header
pub record SpellsHeader (bytes : List ℕ) (h : StreamHeader) : Type 0 where
  pub accepted : header_refusal bytes ≡ None
  pub fields : Spells header_layout h bytes

-- the stream header that the bytes begin with, if nothing in the bytes is refused
abbrev pub header_of : List ℕ → StreamHeader
header_of bytes = record {
  subtype = bits 0 0 8 bytes;
  sv = is_set 1 0 bytes;
  mr = is_set 1 4 bytes;
  format_bits = bits 1 5 2 bytes;
  tv = is_set 1 7 bytes;
  seq = bits 2 0 8 bytes;
  tu = is_set 3 7 bytes;
  stream_id = bits 4 0 64 bytes;
  timestamp = bits 12 0 32 bytes;
  data_length = bits 20 0 16 bytes;
}

-- the first fields of a packet, which have the same offsets in packets with a stream header and in CRF packets
abbrev pub peeked_of : List ℕ → Peeked
peeked_of bytes = record {
  subtype = bits 0 0 8 bytes;
  sv = is_set 1 0 bytes;
  seq = bits 2 0 8 bytes;
  stream_id = bits 4 0 64 bytes;
}
