-- The lines of `listen`: one for each sample that is presented and for each item that is not.
use Rattle.std.specs.Prelude.{List, ℕ, ℤ, ◌++◌, ◌*◌, ◌/◌, length, take, drop, flat_map, codes, decimal}
use Rattle.std.specs.Fmt.{signed_decimal}
use Rattle.std.specs.List.{range_with_len}
use Rattle.hex.specs.Hex.{encode_lower}
use Rattle.avtp_base.specs.Field.{name_of}
use Rattle.sample_schedule.specs.declared.shown.Reason.{Reason}
use Rattle.sample_schedule.specs.declared.shown.Reason.TheVariants.{Malformed, Uncertain, Empty, NoRate, Untimed, NoClock, Late, Repeat, Full, Broken, Long}
use Rattle.sample_schedule.specs.declared.shown.Shown.{Shown}
use Rattle.sample_schedule.specs.declared.shown.Shown.TheVariants.{Present, Flag}
use Rattle.sample_schedule.specs.Batches.{Presented, sample_instant}
use Rattle.listener.specs.declared.heard.Counts.{Counts}
use Rattle.avtp_text.specs.Pieces.{newline}

-- the line that names the capture that was opened
unfoldable pub capture_line : List ℕ → List ℕ
capture_line name = codes "capture " ++ name ++ newline

-- the bytes of sample `j` of a batch, for all channels; all samples of a batch have the same size
abbrev pub sample_bytes : Presented → ℕ → List ℕ
sample_bytes batch j = take (length batch.bytes / batch.count) (drop (j * (length batch.bytes / batch.count)) batch.bytes)

-- how the line of a sample begins: the sample's presentation time in nanoseconds, and the number of the frame of the
-- sample's packet
unfoldable pub due_text : ℤ → ℕ → List ℕ
due_text instant frame = codes "at " ++ signed_decimal instant ++ codes " frame " ++ decimal frame

-- how the line of a sample continues: the sequence number of the sample's packet, and the sample's number in the packet
unfoldable pub place_text : ℕ → ℕ → List ℕ
place_text seq j = codes " seq " ++ decimal seq ++ codes " sample " ++ decimal j ++ codes " "

-- the line of sample `j` of a batch, with the sample's bytes as hexadecimal digits
abbrev pub sample_line : Presented → ℕ → List ℕ
sample_line batch j =
    due_text (sample_instant batch j) batch.frame ++ place_text batch.seq j ++ encode_lower (sample_bytes batch j) ++ newline

-- a line for each sample of a batch
abbrev pub batch_lines : Presented → List ℕ
batch_lines batch = flat_map (sample_line batch) (range_with_len 0 batch.count)

-- the name of the reason why an item is flagged
abbrev pub reason_text : Reason → List ℕ
reason_text (Malformed field) = codes "malformed " ++ name_of field
reason_text Uncertain = codes "uncertain"
reason_text Empty = codes "empty"
reason_text NoRate = codes "norate"
reason_text Untimed = codes "untimed"
reason_text NoClock = codes "noclock"
reason_text Late = codes "late"
reason_text Repeat = codes "repeat"
reason_text Full = codes "full"
reason_text Broken = codes "broken"
reason_text Long = codes "long"

-- the line of an item that is not presented, with the reason
unfoldable pub flag_line : ℕ → ℕ → Reason → List ℕ
flag_line frame seq reason = codes "flag frame " ++ decimal frame ++ codes " seq " ++ decimal seq ++ codes " " ++ reason_text reason ++ newline

-- the lines of an item: one for each sample of a batch, or one for a flag
abbrev pub shown_lines : Shown → List ℕ
shown_lines (Present batch) = batch_lines batch
shown_lines (Flag frame seq reason) = flag_line frame seq reason

-- the lines of all items that are shown, in order
abbrev pub list_lines : List Shown → List ℕ
list_lines list = flat_map shown_lines list

-- the last line of a capture, with four counts: records, packets of the stream, presented items, and flagged items
unfoldable pub end_listen_line : Counts → List ℕ
end_listen_line counts =
    codes "end frames " ++ decimal counts.frames
    ++ codes " packets " ++ decimal counts.packets
    ++ codes " presented " ++ decimal counts.presented
    ++ codes " flagged " ++ decimal counts.flagged
    ++ newline
