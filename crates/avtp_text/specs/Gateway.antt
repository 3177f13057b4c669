-- The lines of `gateway`: why a stream cannot be converted, which packets were skipped, and what was written.
use Rattle.std.specs.Prelude.{List, ℕ, ◌++◌, codes, decimal}
use Rattle.avtp_text.specs.Pieces.{newline}

-- the line of a stream that cannot be converted: what is wrong with a packet, and the number of the packet's frame,
-- counted from 1
unfoldable pub gateway_input_line : List ℕ → ℕ → List ℕ
gateway_input_line fault frame = codes "gateway input: " ++ fault ++ codes " at frame " ++ decimal frame ++ newline

-- the line of a packet that is skipped: the number of its frame, counted from 1, and the name of the reason
unfoldable pub skip_line : ℕ → List ℕ → List ℕ
skip_line frame reason = codes "skip frame " ++ decimal frame ++ codes " " ++ reason ++ newline

-- the line at the end: how many packets were presented, how many were written, and how many were skipped
unfoldable pub gateway_line : ℕ → ℕ → ℕ → List ℕ
gateway_line batches packets skipped = codes "gateway batches " ++ decimal batches ++ codes " packets " ++ decimal packets ++ codes " skipped " ++ decimal skipped ++ newline
