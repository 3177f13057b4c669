-- How a run ends if a file cannot be read to its end, cannot be opened or cannot be made.
use Rattle.std.specs.Prelude.{ℕ, List, [], ◌≡◌, ◌⊎◌, None}
use Rattle.capture_io.specs.declared.end.End.{End}
use Rattle.avtp_text.specs.Notices.{capture_refused_line, limit_line, read_fault_line}
use Rattle.avtp_base.specs.Files.{Files}
use Rattle.avtp_base.specs.declared.failed.FaultPlace.{FaultPlace}
use Rattle.avtp_base.specs.declared.failed.FaultPlace.TheVariants as fault_place
use Rattle.avtp_base.specs.declared.failed.OpenFault.{OpenFault}
use Rattle.capture_io.specs.declared.end.End.TheVariants as end
use Rattle.avtp_base.specs.declared.failed.OpenFault.TheVariants as open_fault
use Rattle.run_report.specs.declared.status.Status.{Status}
use Rattle.run_report.specs.declared.status.Status.TheVariants as status

-- the line that says why a capture was not read to its end; empty if the capture was read to its end
abbrev pub side_line : ℕ → End → List ℕ
side_line limit end.Whole = []
side_line limit (end.Refused refusal) = capture_refused_line refusal
side_line limit end.ReadFault = read_fault_line
side_line limit end.Limit = limit_line limit

-- a file was not opened: it is missing, or a read fault occurred
abbrev pub IsUnopened : Files → (FaultPlace → Type 0) → List ℕ → Type 0
IsUnopened files fault name = (files name ≡ None) ⊎ fault fault_place.Opening

-- the status of a run whose file could not be made
abbrev pub unmade_as : OpenFault → Status
unmade_as open_fault.Memory = status.Memory
unmade_as fault = status.WriteFault
