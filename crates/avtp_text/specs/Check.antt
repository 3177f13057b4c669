-- The lines of `check`: one for each finding, and one at the end of a capture.
use Rattle.std.specs.Prelude.{List, ℕ, Bool, [], ◌∷◌, ◌++◌, flat_map, codes, decimal, if◌then◌else◌, Option, option_map, option_to_list}
use Rattle.avtp_base.specs.declared.refusal.Refusal.{Refusal}
use Rattle.sequence_track.specs.declared.seen.Findings.{Findings}
use Rattle.avtp_text.specs.Pieces.{newline, id_text, refusal_text}

-- how the line of a finding begins: the number of the frame, counted from 1
unfoldable pub finding_start : ℕ → List ℕ
finding_start number = codes "finding frame " ++ decimal number ++ codes " "

-- the line of a malformed frame or packet, with the refused field and the field's offset from the start of the frame
unfoldable pub malformed_line : ℕ → Refusal → List ℕ
malformed_line number r = finding_start number ++ codes "malformed " ++ refusal_text r ++ newline

-- how the line of a finding in a packet begins: the number of the packet's frame, and the ID of the packet's stream
unfoldable pub packet_start : ℕ → ℕ → List ℕ
packet_start number id = finding_start number ++ codes "id " ++ id_text id ++ codes " "

-- the line of a finding in a packet, given the number of the packet's frame, the stream ID, and the text of the finding
abbrev pub packet_line : ℕ → ℕ → List ℕ → List ℕ
packet_line number id finding = packet_start number id ++ finding ++ newline

-- the name of a finding if `is_found` is true, otherwise nothing
abbrev pub found : Bool → List ℕ → List (List ℕ)
found is_found name = if is_found then name ∷ [] else []

-- the label and the number of a finding, or nothing if the finding has no number
abbrev pub counted : Option ℕ → List ℕ → List (List ℕ)
counted count label = option_to_list (option_map (λ n. label ++ decimal n) count)

-- the findings in a packet, in the order in which they are printed
abbrev pub finding_texts : Findings → List (List ℕ)
finding_texts f =
    found f.reserved (codes "reserved")
    ++ found f.untracked (codes "streams")
    ++ counted f.step (codes "step ")
    ++ counted f.hold (codes "hold ")
    ++ found f.stamp (codes "stamp")

-- a line for each finding in a packet
abbrev pub findings_lines : ℕ → ℕ → Findings → List ℕ
findings_lines number id f = flat_map (packet_line number id) (finding_texts f)

-- the line at the end of a capture: how many records were read, how many streams are tracked, and how many findings
-- there are
unfoldable pub end_check_line : ℕ → ℕ → ℕ → List ℕ
end_check_line frames streams findings =
    codes "end frames " ++ decimal frames
    ++ codes " streams " ++ decimal streams
    ++ codes " findings " ++ decimal findings
    ++ newline
