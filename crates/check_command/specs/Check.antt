-- What `check` prints and how it ends. The rules of `check` are this project's own.
use Rattle.std.specs.Prelude.{Option, Some, None, if◌then◌else◌, ℕ, List, ◌==◌, [], ◌∷◌, flat_map, Bool, false, map, ◌+◌, length, ◌++◌}
use Rattle.std.specs.Option.{option_map}
use Rattle.avtp_base.specs.declared.refusal.Refusal.{Refusal}
use Rattle.avtp_packet.specs.declared.packet_stream.PacketStream.{PacketStream}
use Rattle.avtp_packet.specs.Packet.{AnyPacket, packet_of, packet_refusal}
use Rattle.avtp_packet.specs.PacketStream.{has_reserved, stream_of}
use Rattle.avtp_packet.specs.StampPattern.{stamp_is_off}
use Rattle.sequence_track.specs.declared.seen.Seen.{Seen}
use Rattle.pcap_frames.specs.Frame.{Frame, frame_refusal, frame_of}
use Rattle.packet_journal.specs.Deliveries.{avtp_ethertype}
use Rattle.pcap_frames.specs.Capture.{Record}
use Rattle.sequence_track.specs.declared.seen.Findings.{Findings}
use Rattle.sequence_track.specs.Findings.{findings, tracked}
use Rattle.avtp_text.specs.Check.{finding_texts, malformed_line, packet_line, end_check_line}
use Rattle.avtp_text.specs.Notices.{capture_refused_line, limit_line, read_fault_line}
use Rattle.capture_io.specs.declared.end.End.{End}
use Rattle.avtp_text.specs.Listen.{capture_line}
use Rattle.capture_io.specs.declared.end.End.TheVariants as end
use Rattle.run_report.specs.Frame.{inside}
use Rattle.run_report.specs.Lines.{of_each}
use Rattle.run_report.specs.declared.status.Status.{Status}
use Rattle.run_report.specs.Status.{status_of}
use Rattle.run_report.specs.Reading.{Report, ReadPlan}
use Rattle.run_report.specs.Yield.{says}
use Rattle.run_report.specs.declared.status.Status.TheVariants as status
use Rattle.check_command.specs.declared.checked.Checked.{Checked}
use Rattle.check_command.specs.declared.checked.Checked.TheVariants.{Malformed, Passed, Unmarked, Marked}

-- ---- a record by itself

-- `Malformed` if there is a refusal, otherwise `checked`
abbrev pub malformed_or : Option Refusal → Checked → Checked
malformed_or (Some refusal) checked = Malformed refusal
malformed_or None checked = checked

-- what `check` notes about a packet
abbrev pub seen_of : PacketStream → AnyPacket → Seen
seen_of stream packet = record {
  id = stream.id;
  subtype = stream.subtype;
  seq = stream.seq;
  mr = stream.mr;
  reserved = has_reserved packet;
  stamp_wrong = stamp_is_off packet;
}

-- What `check` makes of a packet. If the format of a packet is not read, the packet is passed over. If a packet's
-- format is read and its stream ID is valid, the packet is noted. If the format is read but the stream ID is not valid,
-- the packet is checked only for reserved bits.
abbrev pub checked_stream : Option PacketStream → AnyPacket → Checked
checked_stream None packet = Passed
checked_stream (Some stream) packet =
    if stream.sv then Marked (seen_of stream packet) else Unmarked stream.id (has_reserved packet)

-- what `check` makes of an AVTP packet that begins at offset `start` of its frame
unfoldable pub checked_packet : ℕ → List ℕ → Checked
checked_packet start pdu =
    malformed_or (option_map (inside start) (packet_refusal pdu)) (checked_stream (stream_of (packet_of pdu)) (packet_of pdu))

-- what `check` makes of a frame: a frame whose EtherType is not AVTP's is passed over
unfoldable pub checked_frame : Frame → Checked
checked_frame frame = if frame.ethertype == avtp_ethertype then checked_packet frame.start frame.payload else Passed

-- what `check` makes of a record, given its bytes
unfoldable pub checked_record : List ℕ → Checked
checked_record bytes = malformed_or (frame_refusal bytes) (checked_frame (frame_of bytes))

-- ---- a record after others

-- what a record adds to the list of noted packets: its packet, or nothing
abbrev pub noted : Checked → List Seen
noted (Marked seen) = seen ∷ []
noted checked = []

-- the noted packets of these records, in order
abbrev pub notes_of : List Record → List Seen
notes_of records = flat_map (λ r. noted (checked_record r.bytes)) records

-- what `check` finds in a packet whose stream ID is not valid: only whether a reserved bit is set
abbrev pub unmarked_findings : Bool → Findings
unmarked_findings reserved = record { reserved = reserved; step = None; hold = None; stamp = false; untracked = false }

-- a line for each finding in the record `number`, given the packets that were noted before this record
abbrev pub found_lines : ℕ → List Seen → Checked → List (List ℕ)
found_lines number notes Passed = []
found_lines number notes (Malformed refusal) = malformed_line number refusal ∷ []
found_lines number notes (Unmarked id reserved) = map (packet_line number id) (finding_texts (unmarked_findings reserved))
found_lines number notes (Marked seen) = map (packet_line number seen.id) (finding_texts (findings notes seen))

-- a line for each finding in the record `r`, which follows the records `earlier`
abbrev pub check_lines : List Record → Record → List (List ℕ)
check_lines earlier r = found_lines (length earlier + 1) (notes_of earlier) (checked_record r.bytes)

-- ---- a capture

-- these lines in order, as one text
abbrev pub joined_lines : List (List ℕ) → List ℕ
joined_lines lines = flat_map (λ line. line) lines

-- the last line: the counts, or why the capture was not read to its end
abbrev pub total_line : ℕ → ℕ → ℕ → ℕ → End → List ℕ
total_line limit frames streams found end.Whole = end_check_line frames streams found
total_line limit frames streams found (end.Refused refusal) = capture_refused_line refusal
total_line limit frames streams found end.ReadFault = read_fault_line
total_line limit frames streams found end.Limit = limit_line limit

-- What `check` prints of the capture `name`, given its records and how its reading ends: the name, a line for each
-- finding, and the last line.
abbrev pub check_text : ℕ → List ℕ → List Record → End → List ℕ
check_text limit name records how =
    (capture_line name ++ joined_lines (of_each check_lines records))
    ++ total_line limit (length records) (length (tracked (notes_of records))) (length (of_each check_lines records)) how

-- The status of a capture. If the capture was read to its end, the status says whether there are findings. If the
-- capture was not read to its end, the status says how the reading ended: it is `Refused`, exit status 3, if the capture
-- was refused.
abbrev pub check_status : ℕ → End → Status
check_status found end.Whole = if found == 0 then status.Done else status.Findings
check_status found how = status_of how

-- what `check` makes of a file of this name
abbrev pub check_report : ℕ → List ℕ → Report
check_report limit name = record {
  status = λ records how. check_status (length (of_each check_lines records)) how;
  yields = λ records how. says (check_text limit name records how);
}

-- the plan of `check`: which files it reads, and what it makes of each
abbrev pub check_plan : ℕ → List (List ℕ) → ReadPlan
check_plan limit names = record { names = names; limit = limit; report = check_report limit }
