-- Only private functions and proofs use these definitions. The line of a sample. The line is reused
-- for the next samples.
use Rattle.std.specs.Prelude.{◌≡◌, ℕ, ◌+◌, ◌*◌, ◌/◌, ◌^◌, Result, ◌<◌, ◌≤◌, ℤ, pos, ◌+ℤ◌, List, ◌++◌, length, take, codes, decimal}
use Rattle.sample_schedule.specs.Batches.{Presented}
use Rattle.avtp_text.specs.declared.sample_line.Behind.{Behind}
use Rattle.avtp_text.specs.declared.sample_line.Numbers.{Numbers}
use Rattle.avtp_text.specs.declared.sample_line.KeptLine.{KeptLine}
use Rattle.hex.specs.Hex.{encode_lower}
use Rattle.avtp_base.specs.declared.failed.Failed.{Failed}
use Rattle.avtp_base.specs.States.{SinkState}
use Rattle.avtp_text.specs.Listen.{due_text, place_text, sample_bytes}
use Rattle.avtp_text.specs.Pieces.{newline}
use Rattle.avtp_text.specs.SampleLines.{SamplePacket}
use Rattle.avtp_text.specs.Written.{Prints}

abbrev pub seen_as : ℕ → ℕ → ℕ → SamplePacket
seen_as frame seq size = record { frame = frame; seq = seq; size = size }

-- the packet of a batch whose samples have `size` bytes
abbrev pub packet_of : Presented → ℕ → SamplePacket
packet_of batch size = seen_as batch.frame batch.seq size

-- how a line ends: with the hexadecimal digits of a sample's bytes
abbrev pub hex_end : List ℕ → List ℕ
hex_end hex = codes " " ++ hex ++ newline

-- the part of a line after the sequence number: the sample's number, and the sample's bytes
abbrev pub behind_seq : List ℕ → List ℕ → List ℕ
behind_seq number hex = codes " sample " ++ number ++ hex_end hex

-- the part of a line after the number of the frame
abbrev pub behind_frame : ℕ → List ℕ → List ℕ → List ℕ
behind_frame seq number hex = codes " seq " ++ decimal seq ++ behind_seq number hex

-- the part of a line after the instant
unfoldable pub behind_instant : ℕ → ℕ → List ℕ → List ℕ → List ℕ
behind_instant frame seq number hex = codes " frame " ++ decimal frame ++ behind_frame seq number hex

-- the line of a sample, with an instant whose digits are those of `high`, followed by `low`
abbrev pub gapped : ℕ → List ℕ → ℕ → ℕ → List ℕ → List ℕ → List ℕ
gapped high low frame seq number hex = codes "at " ++ decimal high ++ low ++ behind_instant frame seq number hex

-- The sample is short and has the size of the samples of the packet `shown`.
pub record IsShortSample (shown : SamplePacket) (bytes : List ℕ) : Type 0 where
  pub short : length bytes ≤ 64
  pub size : length bytes ≡ shown.size

-- The sample is short and has the size of the samples of the packet `shown`. A line fits after the text `old`.
pub record SuitsSample (shown : SamplePacket) (old bytes : List ℕ) : Type 0 where
  pub short : length bytes ≤ 64
  pub size : length bytes ≡ shown.size
  pub room : length old + 256 ≤ 65536

-- the samples of the batch are short, and have `len` bytes each
pub record HaveShortSize (batch : Presented) (len : ℕ) : Type 0 where
  pub short : len ≤ 64
  pub size : len ≡ length batch.bytes / batch.count

-- `held` are the bytes of sample `j` of the batch
pub record IsSampleOf (batch : Presented) (j : ℕ) (held : List ℕ) : Type 0 where
  pub sample : j < batch.count
  pub bytes : held ≡ sample_bytes batch j

-- the line of a sample of the packet `shown` was printed, and the kept line still shows this packet
pub record PrintsSample (before after : SinkState) (waits waits' : List ℕ) (result : Result Unit Failed)
    (shown shown' : SamplePacket) (instant : ℤ) (j : ℕ) (bytes : List ℕ) : Type 0 where
  pub prints : Prints before after waits waits' result (due_text instant shown.frame ++ place_text shown.seq j ++ encode_lower bytes ++ newline)
  pub packet : shown' ≡ shown

-- the line of a sample of the packet `shown` was appended to the text `old`, and the kept line still shows this packet
pub record AddsSample (shown shown' : SamplePacket) (old new : List ℕ) (instant : ℤ) (j : ℕ) (bytes : List ℕ) : Type 0 where
  pub text : new ≡ old ++ (due_text instant shown.frame ++ place_text shown.seq j ++ encode_lower bytes ++ newline)
  pub packet : shown' ≡ shown

-- how many bytes of a sample's line follow the instant, the number of the frame, and the sequence number
pub record IsBehind (behind : Behind) (frame_number sequence : ℕ) (number hex : List ℕ) : Type 0 where
  pub instant : behind.instant ≡ length (behind_instant frame_number sequence number hex)
  pub frame : behind.frame ≡ length (behind_frame sequence number hex)
  pub seq : behind.seq ≡ length (behind_seq number hex)

-- `line` is the line of a sample, and `lengths` say how many bytes of it follow the instant, the number of the frame,
-- and the sequence number
pub record IsWholeLine (line : List ℕ) (lengths : Behind) (instant : ℤ) (frame_number sequence j : ℕ) (bytes : List ℕ) : Type 0 where
  pub text : line ≡ due_text instant frame_number ++ place_text sequence j ++ encode_lower bytes ++ newline
  pub behind : IsBehind lengths frame_number sequence (decimal j) (encode_lower bytes)

-- The kept line is the line of a sample of `packet`. The text of the line is known except for the last eight digits of
-- the instant, the sample's number, and the sample's bytes.
pub record HasGaps (line : KeptLine) (packet : SamplePacket) : Type 0 where
  pub high : ℕ
  pub low : List ℕ
  pub number : List ℕ
  pub hex : List ℕ
  pub short : line.len ≤ length line.bytes
  pub text : take line.len line.bytes ≡ gapped high low packet.frame packet.seq number hex
  pub some : 1 ≤ high
  pub from : line.from ≡ pos (high * 100000000)
  pub early : high * 100000000 < 2 ^ 63
  pub eight : length low ≡ 8
  pub numbers : (n : ℕ) → line.numbers.least ≤ n → n < line.numbers.limit → length (decimal n) ≡ length number
  pub digits : length hex ≡ 2 * packet.size
  pub behind : IsBehind line.behind packet.frame packet.seq number hex

-- if a line is kept, it is the line of a sample of this packet, and the positions of its gaps are known
abbrev pub KnowsGaps : KeptLine → SamplePacket → Type 0
KnowsGaps line packet = line.numbers.least < line.numbers.limit → HasGaps line packet

-- `start` has the digits of `instant`, except that the last eight are 0
pub record StartsAt (instant start : ℤ) : Type 0 where
  pub high : ℕ
  pub low : ℕ
  pub some : 1 ≤ high
  pub from : start ≡ pos (high * 100000000)
  pub small : low < 100000000
  pub at : instant ≡ pos (high * 100000000 + low)

-- The line of sample `j` differs from the kept line only in the sample's number, the sample's bytes, and the last eight
-- digits of the instant. In the line of sample `j`, the last eight digits of the instant are `low`.
pub record Fits (from : ℤ) (numbers : Numbers) (instant : ℤ) (j low : ℕ) : Type 0 where
  pub small : low < 100000000
  pub at : instant ≡ from +ℤ pos low
  pub least : numbers.least ≤ j
  pub limit : j < numbers.limit
