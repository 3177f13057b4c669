-- Only private functions and proofs use these definitions. What a device leaves in its sink.
use Rattle.std.specs.Prelude.{ℕ, List, Option, Result, OnOk, OnErr}
use mathlib.Core.List.{IsPrefix}
use Rattle.avtp_base.specs.declared.failed.Failed.{Failed}
use Rattle.avtp_base.specs.Faults.{IsCounted}
use Rattle.avtp_base.specs.States.{SinkState}
use Rattle.avtp_base.specs.Told.{Appends}

-- if the bytes of a sink are known, they grew by a prefix of `bs`
abbrev pub AppendsPrefix : Option (List ℕ) → Option (List ℕ) → List ℕ → Type 0
AppendsPrefix before after bs = (part : List ℕ) × IsPrefix part bs × Appends before after part

-- A sink was given bytes. If the result is `Ok`, the sink took all the bytes. If the result is `Err`, the sink took a
-- prefix of the bytes. The sink's count of faults rose only if the sink failed.
pub record HasWritten {T : Type 0} (before after : SinkState) (result : Result T Failed) (bytes : List ℕ) : Type 0 where
  pub whole : OnOk result (Appends before.held after.held bytes)
  pub part : OnErr result (AppendsPrefix before.held after.held bytes)
  pub counted : IsCounted before.faults after.faults result
