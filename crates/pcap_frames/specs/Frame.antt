-- Ethernet frames (IEEE 802.3), untagged or with one VLAN tag (IEEE 802.1Q).
use Rattle.std.specs.Prelude.{◌≡◌, ◌≢◌, ℕ, ◌^◌, ◌<◌, ◌==◌, Bool, true, false, if◌then◌else◌, List, [], ◌∷◌, ◌++◌, length, drop, Option, Some, None, is_some, unwrap_or, IfSome, IfNone}
use Rattle.avtp_base.specs.declared.field.Field.TheVariants.{Destination, Source, Ethertype, TagControl}
use Rattle.avtp_base.specs.declared.refusal.Refusal.{Refusal}
use Rattle.avtp_base.specs.Octets.{bits, is_set, flag}
use Rattle.avtp_base.specs.Layout.{Layout, part, holds, Spells, first_short, spelling}
use Rattle.pcap_frames.specs.declared.frame.FrameView.{FrameView}
use Rattle.pcap_frames.specs.declared.frame.Tag.{Tag}

-- an Ethernet frame, without its payload's location in memory
pub record Frame : Type 0 where
  pub dst : ℕ
  pub src : ℕ
  pub tag : Option Tag
  pub ethertype : ℕ
  pub start : ℕ
  pub payload : List ℕ

-- the frame that a view shows, without its payload's location in memory
abbrev pub frame_shape : FrameView → Frame
frame_shape v = record {
  dst = v.dst;
  src = v.src;
  tag = v.tag;
  ethertype = v.ethertype;
  start = v.start;
  payload = v.payload.now;
}

-- the EtherType that announces a VLAN tag (IEEE 802.1Q)
abbrev pub tag_ethertype : ℕ
tag_ethertype = 0x8100

-- the tag of a frame; all zeros if it has none
abbrev pub tag_of : Frame → Tag
tag_of v = unwrap_or v.tag (record { pcp = 0; dei = false; vid = 0 })

-- the table of the header of a frame; `true` is for a frame with a tag
abbrev pub frame_layout : Bool → Layout Frame
frame_layout false =
    part Destination 0 (holds 48 (λ v. v.dst) ∷ []) ∷
    part Source 6 (holds 48 (λ v. v.src) ∷ []) ∷
    part Ethertype 12 (holds 16 (λ v. v.ethertype) ∷ []) ∷ []
frame_layout true =
    part Destination 0 (holds 48 (λ v. v.dst) ∷ []) ∷
    part Source 6 (holds 48 (λ v. v.src) ∷ []) ∷
    part Ethertype 12 (holds 16 (λ v. tag_ethertype) ∷ []) ∷
    part TagControl 14 (
    holds 3 (λ v. (tag_of v).pcp) ∷
    holds 1 (λ v. flag (tag_of v).dei) ∷
    holds 12 (λ v. (tag_of v).vid) ∷ []) ∷
    part Ethertype 16 (holds 16 (λ v. v.ethertype) ∷ []) ∷ []

-- the length of a frame's header in bytes; `true` is for a frame with a tag
abbrev pub header_len : Bool → ℕ
header_len false = 14
header_len true = 18

-- the frame has a VLAN tag: the EtherType at byte 12 is that of a tag
abbrev pub is_tagged : List ℕ → Bool
is_tagged bytes = bits 12 0 16 bytes == tag_ethertype

-- why the bytes are not a frame: a field of the header is cut off
abbrev pub frame_refusal : List ℕ → Option Refusal
frame_refusal bytes = first_short (frame_layout (is_tagged bytes)) (length bytes)

-- the bytes spell this frame
pub record SpellsFrame (bytes : List ℕ) (v : Frame) : Type 0 where
  pub accepted : frame_refusal bytes ≡ None
  pub tagged : is_some v.tag ≡ is_tagged bytes
  pub fields : Spells (frame_layout (is_some v.tag)) v bytes
  pub start : v.start ≡ header_len (is_some v.tag)
  pub payload : v.payload ≡ drop v.start bytes

-- the VLAN tag of a tagged frame with these bytes
abbrev pub tag_in : List ℕ → Tag
tag_in bytes = record { pcp = bits 14 0 3 bytes; dei = is_set 14 3 bytes; vid = bits 14 4 12 bytes }

-- the frame that the bytes spell, if nothing in the bytes is refused
abbrev pub frame_of : List ℕ → Frame
frame_of bytes =
    let tagged = is_tagged bytes in
    record {
      dst = bits 0 0 48 bytes;
      src = bits 6 0 48 bytes;
      tag = if tagged then Some (tag_in bytes) else None;
      ethertype = if tagged then bits 16 0 16 bytes else bits 12 0 16 bytes;
      start = header_len tagged;
      payload = drop (header_len tagged) bytes;
    }

-- A frame that can be written. The fields of the frame fit their bits. The EtherType of an untagged frame is not the
-- one that announces a tag.
pub record IsWritableFrame (v : Frame) : Type 0 where
  pub dst : v.dst < 2 ^ 48
  pub src : v.src < 2 ^ 48
  pub ethertype : v.ethertype < 2 ^ 16
  pub tag : IfSome v.tag (λ t. (t.pcp < 2 ^ 3) × (t.vid < 2 ^ 12))
  pub untagged : IfNone v.tag (v.ethertype ≢ tag_ethertype)

-- the frame, with `start` set to the length of its header
abbrev pub plain_frame : Frame → Frame
plain_frame v = record v { start = header_len (is_some v.tag) }

-- the bytes that are written for a frame
abbrev pub frame_spelling : Frame → List ℕ
frame_spelling v = spelling (frame_layout (is_some v.tag)) v ++ v.payload
