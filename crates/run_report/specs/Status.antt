-- The exit status of the command.
use Rattle.std.specs.Prelude.{ℕ}
use Rattle.capture_io.specs.declared.end.End.{End}
use Rattle.capture_io.specs.declared.end.End.TheVariants as end
use Rattle.run_report.specs.declared.status.Status.{Status}
use Rattle.run_report.specs.declared.status.Status.TheVariants.{Done, Findings, Words, Refused, ReadFault, WriteFault, Memory, Limit, DeviceFault, TalkInput}

-- the exit code of each status
abbrev pub code_of : Status → ℕ
code_of Done = 0
code_of Findings = 1
code_of Words = 2
code_of Refused = 3
code_of ReadFault = 4
code_of WriteFault = 5
code_of Memory = 6
code_of Limit = 7
code_of DeviceFault = 8
code_of TalkInput = 9

-- the status of a run, given how the reading of its last capture ended
abbrev pub status_of : End → Status
status_of end.Whole = Done
status_of (end.Refused refusal) = Refused
status_of end.ReadFault = ReadFault
status_of end.Limit = Limit
