-- Records that own their bytes.
use Rattle.std.specs.Prelude.{◌≡◌, List, ℕ, map}
use Rattle.std.specs.List.{flat_map}
use Rattle.pcap_frames.specs.declared.pieces.KeptRecord.{KeptRecord}
use Rattle.pcap_frames.specs.declared.pieces.Contents.{Contents}
use Rattle.pcap_frames.specs.Capture.{Record, first_refusal, style_of, whole_records}

-- the record that a `KeptRecord` holds, without its location in memory
abbrev pub kept : KeptRecord → Record
kept r = record { arrival = r.arrival; orig_len = r.orig_len; bytes = r.bytes }

-- the bytes of all pieces, one piece after the other
abbrev pub joined : List (List ℕ) → List ℕ
joined pieces = flat_map (λ piece. piece) pieces

-- The style, the records and the first refusal are those of the capture with these bytes.
pub record ContentsOf (bytes : List ℕ) (contents : Contents) : Type 0 where
  pub style : contents.style ≡ style_of bytes
  pub records : map kept contents.records.items ≡ whole_records bytes
  pub refusal : contents.refusal ≡ first_refusal bytes
