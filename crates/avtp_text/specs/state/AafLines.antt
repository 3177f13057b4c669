-- Only private functions and proofs use these definitions. The line of an AAF packet. The line's end
-- is reused for the next packet.
use Rattle.std.specs.Prelude.{◌≡◌, List, ℕ, ◌≤◌, ◌++◌, length, codes, decimal}
use Rattle.aaf_format.specs.Aaf.{Aaf}
use Rattle.avtp_text.specs.declared.aaf_line.AafEnd.{AafEnd}
use Rattle.avtp_text.specs.Pieces.{newline, id_text}
use Rattle.avtp_text.specs.Show.{aaf_content}

-- the text of a packet's line from the word `aaf` to the timestamp
unfoldable pub aaf_start : Aaf → List ℕ
aaf_start v = codes "aaf " ++ (codes "id " ++ id_text v.header.stream_id ++ codes " seq " ++ decimal v.header.seq ++ codes " ts " ++ decimal v.header.timestamp)

-- the fields that a packet's line shows after the timestamp
abbrev pub end_of : Aaf → AafEnd
end_of v = record {
  tv = v.header.tv;
  tu = v.header.tu;
  mr = v.header.mr;
  sparse = v.sparse;
  evt = v.evt;
  format = v.format;
  nsr = v.nsr;
  channels = v.channels;
  depth = v.depth;
  count = v.count;
  data_length = v.header.data_length;
}

-- `text` is what follows the timestamp in the line of each packet with these fields
abbrev pub IsEnd : AafEnd → List ℕ → Type 0
IsEnd end text = (v : Aaf) → end_of v ≡ end → aaf_content v ++ newline ≡ aaf_start v ++ text

-- `spelled` is what follows the timestamp in the line of each packet with these fields, and has at most 138 bytes
pub record IsShortEnd (end : AafEnd) (spelled : List ℕ) : Type 0 where
  pub text : IsEnd end spelled
  pub len : length spelled ≤ 138

-- the line `line` is an end alone, the text of `end`; its length `len` and its fields `kept` are known
pub record IsEndAlone (line : List ℕ) (len : ℕ) (kept end : AafEnd) : Type 0 where
  pub text : IsEnd end line
  pub whole : len ≡ length line
  pub same : kept ≡ end
