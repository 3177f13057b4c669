-- The lines that a command can write at its end, whichever command it is.
use Rattle.std.specs.Prelude.{List, ℕ, ◌++◌, codes, decimal}
use Rattle.avtp_base.specs.declared.refusal.Refusal.{Refusal}
use Rattle.avtp_text.specs.Pieces.{newline, refusal_text}

-- the line of a capture that is refused at a field of its file format, with the field's offset from the start of the
-- file
unfoldable pub capture_refused_line : Refusal → List ℕ
capture_refused_line r = codes "capture refused: " ++ refusal_text r ++ newline

-- the line of a file that could not be read to its end
unfoldable pub read_fault_line : List ℕ
read_fault_line = codes "read fault" ++ newline

-- the line of a device that failed to accept an item
unfoldable pub device_fault_line : List ℕ
device_fault_line = codes "device fault" ++ newline

-- the line of a capture that has more bytes than the limit; the line shows the limit in bytes
unfoldable pub limit_line : ℕ → List ℕ
limit_line bytes = codes "limit " ++ decimal bytes ++ newline

-- the line of a wrong command line: the position of the first wrong argument, counted from 1
unfoldable pub words_line : ℕ → List ℕ
words_line place = codes "words: " ++ decimal place ++ newline
