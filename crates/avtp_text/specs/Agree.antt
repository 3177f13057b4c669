-- The lines of `agree`: one for each packet that two listeners present differently, and one at the end.
use Rattle.std.specs.Prelude.{List, ℕ, ℤ, ◌++◌, codes, decimal}
use Rattle.std.specs.Fmt.{signed_decimal}
use Rattle.avtp_text.specs.Pieces.{newline}

-- the start of the line of a packet that is presented differently: the number of the packet's frame in capture A, the
-- number of its frame in capture B, and the packet's sequence number; frames are numbered from 1
unfoldable pub differ_start : ℕ → ℕ → ℕ → List ℕ
differ_start a b seq = codes "differ frame " ++ decimal a ++ codes " " ++ decimal b ++ codes " seq " ++ decimal seq ++ codes " "

-- the line of a packet for which the two listeners present different numbers of samples
unfoldable pub differ_count_line : ℕ → ℕ → ℕ → ℕ → ℕ → List ℕ
differ_count_line a b seq count_a count_b = differ_start a b seq ++ codes "count " ++ decimal count_a ++ codes " " ++ decimal count_b ++ newline

-- the line of a packet with a sample that the two listeners present at different instants; samples are numbered from 0
unfoldable pub differ_at_line : ℕ → ℕ → ℕ → ℕ → ℤ → ℤ → List ℕ
differ_at_line a b seq sample at_a at_b =
    differ_start a b seq ++ codes "sample " ++ decimal sample ++ codes " at " ++ signed_decimal at_a ++ codes " " ++ signed_decimal at_b ++ newline

-- the line of a packet with a sample that the two listeners present with different bytes; samples are numbered from 0
unfoldable pub differ_bytes_line : ℕ → ℕ → ℕ → ℕ → List ℕ
differ_bytes_line a b seq sample = differ_start a b seq ++ codes "sample " ++ decimal sample ++ codes " bytes" ++ newline

-- the last line, with four numbers of packets: presented by both listeners, only by the listener to A, only by the
-- listener to B, and by both but differently
unfoldable pub end_agree_line : ℕ → ℕ → ℕ → ℕ → List ℕ
end_agree_line matched only_a only_b differ =
    codes "end matched " ++ decimal matched
    ++ codes " only " ++ decimal only_a
    ++ codes " " ++ decimal only_b
    ++ codes " differ " ++ decimal differ
    ++ newline
