-- Packets of the clock reference format (IEEE 1722-2016, 10). A CRF packet has a header of 20 bytes, which differs from
-- the stream header.
use Rattle.std.specs.Prelude.{◌≡◌, ℕ, ◌*◌, ◌%◌, ◌==◌, ◌^◌, ◌<◌, ◌≤◌, Bool, false, not, ◌||◌, nat_lt, List, [], ◌∷◌, ◌++◌, length, take, drop, Option, None}
use Rattle.avtp_base.specs.declared.field.Field.TheVariants.{Subtype, Version, SequenceNum, CrfType, StreamId, Pull, BaseFrequency, CrfDataLength, TimestampInterval}
use Rattle.avtp_base.specs.declared.refusal.Refusal.{Refusal}
use Rattle.avtp_base.specs.Octets.{bits, is_set, flag, any_set}
use Rattle.avtp_base.specs.Layout.{Layout, part, holds, reserved, Spells, first_short, reserved_ranges, spelling}
use Rattle.avtp_base.specs.Rows.{Row, row, first_row, or_else}
use Rattle.avtp_header.specs.Header.{exceeds, subtype_row, version_row}
pub use Rattle.avtp_header.specs.Numbers.{crf_subtype}
use Rattle.crf_format.specs.declared.crf.CrfView.{CrfView}

-- a clock reference packet, without its timestamps' location in memory
pub record Crf : Type 0 where
  pub sv : Bool
  pub mr : Bool
  pub fs : Bool
  pub tu : Bool
  pub seq : ℕ
  pub kind : ℕ
  pub stream_id : ℕ
  pub pull : ℕ
  pub base_frequency : ℕ
  pub interval : ℕ
  pub payload : List ℕ
  pub reserved : Bool

-- the packet that a view shows, without its timestamps' location in memory
abbrev pub crf_shape : CrfView → Crf
crf_shape v = record {
  sv = v.sv;
  mr = v.mr;
  fs = v.fs;
  tu = v.tu;
  seq = v.seq;
  kind = v.kind;
  stream_id = v.stream_id;
  pull = v.pull;
  base_frequency = v.base_frequency;
  interval = v.interval;
  payload = v.payload.now;
  reserved = v.reserved;
}

-- the table of a clock reference packet (IEEE 1722-2016, 10)
abbrev pub crf_layout : Layout Crf
crf_layout =
    part Subtype 0 (holds 8 (λ v. crf_subtype) ∷ []) ∷
    part Version 1 (
    holds 1 (λ v. flag v.sv) ∷
    holds 3 (λ v. 0) ∷
    holds 1 (λ v. flag v.mr) ∷
    reserved 1 ∷
    holds 1 (λ v. flag v.fs) ∷
    holds 1 (λ v. flag v.tu) ∷ []) ∷
    part SequenceNum 2 (holds 8 (λ v. v.seq) ∷ []) ∷
    part CrfType 3 (holds 8 (λ v. v.kind) ∷ []) ∷
    part StreamId 4 (holds 64 (λ v. v.stream_id) ∷ []) ∷
    part BaseFrequency 12 (holds 3 (λ v. v.pull) ∷ holds 29 (λ v. v.base_frequency) ∷ []) ∷
    part CrfDataLength 16 (holds 16 (λ v. length v.payload) ∷ []) ∷
    part TimestampInterval 18 (holds 16 (λ v. v.interval) ∷ []) ∷ []

-- the reserved bit of a clock reference packet is set
abbrev pub sets_reserved : List ℕ → Bool
sets_reserved bytes = any_set (reserved_ranges crf_layout) bytes

-- timestamp i of a payload, counted from 0
abbrev pub point_at : ℕ → List ℕ → ℕ
point_at i payload = bits (8 * i) 0 64 payload

-- ---- the rows

-- the largest code of pull; each code names a factor of the base frequency
abbrev pub last_pull : ℕ
last_pull = 5

-- in a packet of n bytes, the stated length is 0, or is not a multiple of a timestamp's 8 bytes, or exceeds the number
-- of bytes after the 20-byte header
abbrev pub misses_timestamps : ℕ → ℕ → Bool
misses_timestamps stated n = stated == 0 || not (stated % 8 == 0) || exceeds 20 stated n

-- the rows of subtype and version, which all formats of AVTP share
abbrev pub shared_rows : List ℕ → List Row
shared_rows bytes = subtype_row crf_subtype bytes ∷ version_row bytes ∷ []

-- The rows of pull, base frequency, stated length and timestamp interval, in this order. These rows follow the rows
-- that all formats share.
abbrev pub clock_rows : List ℕ → List Row
clock_rows bytes =
    row Pull 12 (nat_lt last_pull (bits 12 0 3 bytes)) ∷
    row BaseFrequency 12 (bits 12 3 29 bytes == 0) ∷
    row CrfDataLength 16 (misses_timestamps (bits 16 0 16 bytes) (length bytes)) ∷
    row TimestampInterval 18 (bits 18 0 16 bytes == 0) ∷ []

-- why the bytes are refused as a clock reference packet; `None` if they are accepted
abbrev pub crf_refusal : List ℕ → Option Refusal
crf_refusal bytes =
    or_else (first_short crf_layout (length bytes))
    (or_else (first_row (shared_rows bytes)) (first_row (clock_rows bytes)))

-- ---- packets

-- The bytes spell this clock reference packet. Any bytes may follow the stated length.
pub record SpellsCrf (bytes : List ℕ) (v : Crf) : Type 0 where
  pub accepted : crf_refusal bytes ≡ None
  pub fields : Spells crf_layout v bytes
  pub payload : v.payload ≡ take (bits 16 0 16 bytes) (drop 20 bytes)
  pub reserved : v.reserved ≡ sets_reserved bytes

-- the clock reference packet that the bytes spell, if they are accepted
abbrev pub crf_of : List ℕ → Crf
crf_of bytes = record {
  sv = is_set 1 0 bytes;
  mr = is_set 1 4 bytes;
  fs = is_set 1 6 bytes;
  tu = is_set 1 7 bytes;
  seq = bits 2 0 8 bytes;
  kind = bits 3 0 8 bytes;
  stream_id = bits 4 0 64 bytes;
  pull = bits 12 0 3 bytes;
  base_frequency = bits 12 3 29 bytes;
  interval = bits 18 0 16 bytes;
  payload = take (bits 16 0 16 bytes) (drop 20 bytes);
  reserved = sets_reserved bytes;
}

-- a clock reference packet that can be written: no row refuses it, and its payload is one or more whole timestamps
pub record IsWritableCrf (v : Crf) : Type 0 where
  pub pull : v.pull ≤ last_pull
  pub some_frequency : 0 < v.base_frequency
  pub base_frequency : v.base_frequency < 2 ^ 29
  pub some_interval : 0 < v.interval
  pub some_points : 0 < length v.payload
  pub whole_points : length v.payload % 8 ≡ 0
  pub data_length : length v.payload < 2 ^ 16

-- a clock reference packet with the reserved bit 0
abbrev pub plain_crf : Crf → Crf
plain_crf v = record v { reserved = false }

-- the bytes that are written for a clock reference packet: the reserved bit is 0, and nothing follows the stated length
abbrev pub crf_spelling : Crf → List ℕ
crf_spelling v = spelling crf_layout v ++ v.payload
