-- What `show` prints and how it ends.
use Rattle.std.specs.Prelude.{ℕ, ◌+◌, List, length, ◌++◌, [], ◌∷◌}
use Rattle.pcap_frames.specs.Capture.{Record}
use Rattle.avtp_text.specs.Show.{frame_line, end_frames_line}
use Rattle.avtp_text.specs.Notices.{capture_refused_line, read_fault_line, limit_line}
use Rattle.capture_io.specs.declared.end.End.{End}
use Rattle.capture_io.specs.declared.end.End.TheVariants as end
use Rattle.run_report.specs.Lines.{of_each}
use Rattle.run_report.specs.Reading.{Report, ReadPlan}
use Rattle.run_report.specs.Status.{status_of}
use Rattle.run_report.specs.Yield.{says}
use Rattle.avtp_tool.specs.Record.{record_content}

-- the line of the record `r`, which follows the records `earlier`
abbrev pub show_line : List Record → Record → List ℕ
show_line earlier r = frame_line (length earlier + 1) r.arrival (record_content r.bytes)

-- the last line of `show`: the number of records, or why the capture was not read to its end
abbrev pub end_line : ℕ → ℕ → End → List ℕ
end_line limit frames end.Whole = end_frames_line frames
end_line limit frames (end.Refused refusal) = capture_refused_line refusal
end_line limit frames end.ReadFault = read_fault_line
end_line limit frames end.Limit = limit_line limit

-- The text that `show` prints of a capture, given its records and how its reading ends: a line for each record,
-- numbered from 1, and the last line.
abbrev pub show_text : ℕ → List Record → End → List ℕ
show_text limit records how = of_each show_line records ++ end_line limit (length records) how

-- what `show` makes of a file
abbrev pub show_report : ℕ → Report
show_report limit = record { status = λ records how. status_of how; yields = λ records how. says (show_text limit records how) }

-- the plan of `show`: the file that it reads, and what it makes of the file
abbrev pub show_plan : ℕ → List ℕ → ReadPlan
show_plan limit file = record { names = file ∷ []; limit = limit; report = λ name. show_report limit }
