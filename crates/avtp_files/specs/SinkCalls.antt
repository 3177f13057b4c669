-- What a write to a sink does, depending on the result of the write.
use Rattle.std.specs.Prelude.{ℕ, ◌≤◌, ◌<◌, List, length, IfOk, Result}
use Rattle.avtp_base.specs.declared.failed.Failed.{Failed}
use Rattle.avtp_base.specs.Faults.{IsCounted}
use Rattle.avtp_base.specs.States.{SinkState}
use Rattle.avtp_base.specs.Told.{WriteAppends}

-- If the result is `Ok(n)`, n is at least 1. If the sink also shows its bytes, the first n bytes of the piece were
-- appended to the bytes that the sink holds. At `Err` nothing was appended, and a fault was counted.
pub record WritesPiece (before after : SinkState) (piece : List ℕ) (result : Result ℕ Failed) : Type 0 where
  pub some : IfOk result (λ n. 0 < n)
  pub within : IfOk result (λ n. n ≤ length piece)
  pub appends : WriteAppends before.held after.held result piece
  pub counted : IsCounted before.faults after.faults result
