-- H.264 packets of the AVTP compressed video format (IEEE 1722-2016, 8, and RFC 6184).
use Rattle.std.specs.Prelude.{◌≡◌, ℕ, ◌+◌, ◌-◌, ◌*◌, ◌/◌, ◌%◌, ◌==◌, ◌^◌, ◌<◌, Bool, true, false, not, ◌&&◌, ◌||◌, nat_lt, if◌then◌else◌, List, [], ◌∷◌, ◌++◌, length, take, drop, Option, None}
use Rattle.avtp_base.specs.declared.field.Field.{Field}
use Rattle.avtp_base.specs.declared.field.Field.TheVariants.{CvfFormat, FormatSubtype, FormatData, StreamDataLength, FormatFlags, NalType, FuHeader}
use Rattle.avtp_base.specs.declared.refusal.Refusal.{Refusal}
use Rattle.avtp_base.specs.Octets.{bits, is_set, flag, any_set}
use Rattle.avtp_base.specs.Layout.{Layout, part, holds, reserved, reserved_shown, Spells, reserved_ranges, spelling}
use Rattle.avtp_base.specs.Rows.{Row, row, first_row, or_else}
use Rattle.avtp_header.specs.declared.header.StreamHeader.{StreamHeader}
use Rattle.avtp_header.specs.Header.{stream_layout, header_of, kind_refusal, exceeds}
pub use Rattle.avtp_header.specs.Numbers.{cvf_subtype}
use Rattle.cvf_format.specs.declared.cvf.NalPart.{NalPart}
use Rattle.cvf_format.specs.declared.cvf.NalPart.TheVariants.{Single, First, Middle, Last}
use Rattle.cvf_format.specs.declared.cvf.CvfView.{CvfView}

-- an H.264 packet, without its body's location in memory
pub record Cvf : Type 0 where
  pub header : StreamHeader
  pub ptv : Bool
  pub marker : Bool
  pub evt : ℕ
  pub h264_timestamp : ℕ
  pub nal : ℕ
  pub part : NalPart
  pub body : List ℕ
  pub reserved : Bool

-- the packet that a view shows, without its body's location in memory
abbrev pub cvf_shape : CvfView → Cvf
cvf_shape v = record {
  header = v.header;
  ptv = v.ptv;
  marker = v.marker;
  evt = v.evt;
  h264_timestamp = v.h264_timestamp;
  nal = v.nal;
  part = v.part;
  body = v.body.now;
  reserved = v.reserved;
}

-- the value of the format field for the video formats that RFCs define (IEEE 1722-2016, 8)
abbrev pub rfc_format : ℕ
rfc_format = 2

-- the format subtype of H.264 (IEEE 1722-2016, 8)
abbrev pub h264_subtype : ℕ
h264_subtype = 1

-- ---- the first byte of a NAL unit: F and NRI in three bits, and the type in five

-- F and NRI of a NAL unit: the highest three bits of its first byte
abbrev pub reference_of : ℕ → ℕ
reference_of nal = nal / 2 ^ 5

-- the type of a NAL unit: the lowest five bits of its first byte
abbrev pub type_of : ℕ → ℕ
type_of nal = nal % 2 ^ 5

-- the type is that of a single NAL unit, 1 to 23 (RFC 6184, 5.2)
abbrev pub is_single_type : ℕ → Bool
is_single_type type = nat_lt 0 type && nat_lt type 24

-- the type of a packet that carries a fragment, FU-A (RFC 6184, 5.8)
abbrev pub fu_a : ℕ
fu_a = 28

-- ---- the tables

-- bit S of a fragment: whether the fragment is the first of its NAL unit (RFC 6184, 5.8)
abbrev pub starts : NalPart → Bool
starts First = true
starts Single = false
starts Middle = false
starts Last = false

-- bit E of a fragment: whether the fragment is the last of its NAL unit (RFC 6184, 5.8)
abbrev pub ends : NalPart → Bool
ends Last = true
ends Single = false
ends First = false
ends Middle = false

-- The table of an H.264 packet: 28 bytes with the same layout for whole NAL units and fragments, and then
-- `nal_headers`. The two format bits of the stream header are reserved, and a view shows them. The stated length
-- includes the H.264 timestamp. If a packet ends within the H.264 timestamp, the packet is therefore refused for its
-- stated length.
abbrev pub cvf_layout : Layout Cvf → Layout Cvf
cvf_layout nal_headers = stream_layout (λ v. v.header)
    (reserved_shown 2 (λ v. v.header.format_bits) ∷ [])
    (part CvfFormat 16 (holds 8 (λ v. rfc_format) ∷ []) ∷
    part FormatSubtype 17 (holds 8 (λ v. h264_subtype) ∷ []) ∷
    part FormatData 18 (reserved 16 ∷ []) ∷ [])
    (part FormatFlags 22 (reserved 2 ∷ holds 1 (λ v. flag v.ptv) ∷ holds 1 (λ v. flag v.marker) ∷ holds 4 (λ v. v.evt) ∷ []) ∷
    part FormatFlags 23 (reserved 8 ∷ []) ∷
    part StreamDataLength 24 (holds 32 (λ v. v.h264_timestamp) ∷ []) ∷
    nal_headers)

-- the header of a NAL unit that is carried whole
abbrev pub single_headers : Layout Cvf
single_headers =
    part NalType 28 (holds 3 (λ v. reference_of v.nal) ∷ holds 5 (λ v. type_of v.nal) ∷ []) ∷ []

-- the headers of a fragment (FU-A): the FU indicator and the FU header
abbrev pub fragment_headers : Layout Cvf
fragment_headers =
    part NalType 28 (holds 3 (λ v. reference_of v.nal) ∷ holds 5 (λ v. fu_a) ∷ []) ∷
    part FuHeader 29 (
    holds 1 (λ v. flag (starts v.part)) ∷
    holds 1 (λ v. flag (ends v.part)) ∷
    reserved 1 ∷
    holds 5 (λ v. type_of v.nal) ∷ []) ∷ []

-- the headers of the NAL unit in a packet that carries this part of the unit
abbrev pub headers_of : NalPart → Layout Cvf
headers_of Single = single_headers
headers_of First = fragment_headers
headers_of Middle = fragment_headers
headers_of Last = fragment_headers

-- the table of an H.264 packet that carries this part of its NAL unit
abbrev pub layout_of : NalPart → Layout Cvf
layout_of part = cvf_layout (headers_of part)

-- the size in bytes of all headers of a packet that carries this part of its NAL unit
abbrev pub header_size : NalPart → ℕ
header_size Single = 29
header_size First = 30
header_size Middle = 30
header_size Last = 30

-- ---- the rows

-- The rows of format, format subtype and stated length, in this order. The format's rows follow the rows that all
-- formats share. The stated length includes the H.264 timestamp and the byte of the NAL type.
abbrev pub format_rows : List ℕ → List Row
format_rows bytes =
    row CvfFormat 16 (not (bits 16 0 8 bytes == rfc_format)) ∷
    row FormatSubtype 17 (not (bits 17 0 8 bytes == h264_subtype)) ∷
    row StreamDataLength 20 (nat_lt (bits 20 0 16 bytes) 5) ∷
    row StreamDataLength 20 (exceeds 24 (bits 20 0 16 bytes) (length bytes)) ∷ []

-- byte 28 of the packet has the type of a fragment (FU-A)
abbrev pub is_fragment : List ℕ → Bool
is_fragment bytes = bits 28 3 5 bytes == fu_a

-- the row that refuses a field as cut off by the stated length, if `holds` is true
abbrev pub cut_off : Field → ℕ → Bool → Row
cut_off field at holds = record { refusal = record { field = field; at = at; short = true }; holds = holds }

-- The rows of the NAL unit's headers; they are the last rows. One row refuses a type that is neither that of a single
-- unit nor FU-A. The remaining rows refuse an FU header that is cut off, has both S and E, or names a type other than
-- that of a single unit.
abbrev pub nal_rows : List ℕ → List Row
nal_rows bytes =
    row NalType 28 (not (is_single_type (bits 28 3 5 bytes) || is_fragment bytes)) ∷
    cut_off FuHeader 29 (is_fragment bytes && bits 20 0 16 bytes == 5) ∷
    row FuHeader 29 (is_fragment bytes && is_set 29 0 bytes && is_set 29 1 bytes) ∷
    row FuHeader 29 (is_fragment bytes && not (is_single_type (bits 29 3 5 bytes))) ∷ []

-- why the bytes are refused as an H.264 packet; `None` if they are accepted
abbrev pub cvf_refusal : List ℕ → Option Refusal
cvf_refusal bytes =
    or_else (kind_refusal cvf_subtype bytes)
    (or_else (first_row (format_rows bytes)) (first_row (nal_rows bytes)))

-- ---- packets

-- a reserved bit is set in an H.264 packet that carries this part of its NAL unit
abbrev pub sets_reserved : NalPart → List ℕ → Bool
sets_reserved part bytes = any_set (reserved_ranges (layout_of part)) bytes

-- the bytes after the headers, up to the end of the stated length
abbrev pub body_of : NalPart → ℕ → List ℕ → List ℕ
body_of part stated bytes = take (24 + stated - header_size part) (drop (header_size part) bytes)

-- The bytes spell this H.264 packet. The packet's NAL unit has a type from 1 to 23. Any bytes may follow the stated
-- length.
pub record SpellsCvf (bytes : List ℕ) (v : Cvf) : Type 0 where
  pub accepted : cvf_refusal bytes ≡ None
  pub fields : Spells (layout_of v.part) v bytes
  pub type : is_single_type (type_of v.nal) ≡ true
  pub body : v.body ≡ body_of v.part v.header.data_length bytes
  pub reserved : v.reserved ≡ sets_reserved v.part bytes

-- the part of a NAL unit that a fragment carries, according to its bits S and E
abbrev pub fragment_of : Bool → Bool → NalPart
fragment_of true end = First
fragment_of false true = Last
fragment_of false false = Middle

-- the part of a NAL unit that the packet carries, according to its NAL type and its FU header
abbrev pub part_of : List ℕ → NalPart
part_of bytes = if is_fragment bytes then fragment_of (is_set 29 0 bytes) (is_set 29 1 bytes) else Single

-- The first byte of the NAL unit of a packet. A fragment has F and NRI in its FU indicator, and the type in its FU
-- header.
abbrev pub nal_of : List ℕ → ℕ
nal_of bytes = bits 28 0 3 bytes * 2 ^ 5 + (if is_fragment bytes then bits 29 3 5 bytes else bits 28 3 5 bytes)

-- the H.264 packet that the bytes spell, if they are accepted
abbrev pub cvf_of : List ℕ → Cvf
cvf_of bytes = record {
  header = header_of bytes;
  ptv = is_set 22 2 bytes;
  marker = is_set 22 3 bytes;
  evt = bits 22 4 4 bytes;
  h264_timestamp = bits 24 0 32 bytes;
  nal = nal_of bytes;
  part = part_of bytes;
  body = body_of (part_of bytes) (bits 20 0 16 bytes) bytes;
  reserved = sets_reserved (part_of bytes) bytes;
}

-- an H.264 packet that can be written: no row refuses it, and its stated length is the number of bytes after its stream
-- header
pub record IsWritableCvf (v : Cvf) : Type 0 where
  pub subtype : v.header.subtype ≡ cvf_subtype
  pub evt : v.evt < 2 ^ 4
  pub type : is_single_type (type_of v.nal) ≡ true
  pub data_length : 24 + v.header.data_length ≡ header_size v.part + length v.body

-- an H.264 packet with every reserved bit 0
abbrev pub plain_cvf : Cvf → Cvf
plain_cvf v = record v { header = record v.header { format_bits = 0 }; reserved = false }

-- the bytes that are written for an H.264 packet: every reserved bit is 0, and nothing follows the stated length
abbrev pub cvf_spelling : Cvf → List ℕ
cvf_spelling v = spelling (layout_of v.part) v ++ v.body
