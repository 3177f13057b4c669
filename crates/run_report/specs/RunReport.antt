-- What a run of a command does.
use Rattle.std.specs.Prelude.{ℕ, List, Option, None, ◌≡◌}
use Rattle.avtp_text.specs.Notices.{read_fault_line}
use Rattle.run_report.specs.declared.status.Status.{Status}
use Rattle.run_report.specs.Halt.{Halt}
use Rattle.run_report.specs.Yield.{Yield, says}
use Rattle.run_report.specs.declared.status.Status.TheVariants as status

-- What a run does: the names that it asks for, in order, its status, its yield, and the capture that it makes, if any.
pub record RunReport : Type 0 where
  pub came : List (List ℕ)
  pub ended : Status
  pub yields : Yield
  pub made : Option (List ℕ)

-- a run that asks for files of these names, and that ends because the last of them was not opened
abbrev pub ends_unread : List (List ℕ) → RunReport
ends_unread came = record { came = came; ended = status.ReadFault; yields = says read_fault_line; made = None }

-- a run that asks for these names, ends with this status, yields this and makes this capture, if any
abbrev pub run_of : List (List ℕ) → Status → Yield → Option (List ℕ) → RunReport
run_of came ended yields made = record { came = came; ended = ended; yields = yields; made = made }

-- A run asks for these names, ends with this status, yields this and makes this capture, if any. This is what `report`
-- says of one of the read faults that are possible. `Can` says which are possible.
abbrev pub Halts : (Halt → Type 0) → (Halt → RunReport) → List (List ℕ) → Status → Yield → Option (List ℕ) → Type 0
Halts Can report came ended yields made = (halt : Halt) × Can halt × (run_of came ended yields made ≡ report halt)
