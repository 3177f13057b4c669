-- Only private functions and proofs use these definitions. Bytes that move from the buffer to a sink.
use Rattle.std.specs.Prelude.{◌≡◌, ℕ, ◌+◌, ◌≤◌, ◌<◌, List, [], length, take, Result, OnOk}
use Rattle.avtp_base.specs.Told.{Appends, Keeps}
use Rattle.avtp_base.specs.declared.failed.Failed.{Failed}
use Rattle.avtp_base.specs.Faults.{IsCounted, Rose}
use Rattle.avtp_base.specs.States.{SinkState}
use Rattle.avtp_text.specs.Written.{Grows, written}

-- A sink took the first `taken` bytes of a piece. The sink's count of faults rose if and only if bytes of the piece are
-- left.
pub record TakesFront (before after : SinkState) (bytes : List ℕ) (taken : ℕ) : Type 0 where
  pub within : taken ≤ length bytes
  pub took : Appends before.held after.held (take taken bytes)
  pub never_falls : before.faults ≤ after.faults
  pub whole : taken ≡ length bytes → after.faults ≡ before.faults
  pub failed : taken < length bytes → Rose before.faults after.faults

-- Buffered bytes may have moved to the sink, but all text that was written so far is unchanged. The sink's count of
-- faults rose if and only if the call failed.
pub record Moves (before after : SinkState) (waits waits' : List ℕ) (result : Result Unit Failed) : Type 0 where
  pub written : Keeps (written before.held waits) (written after.held waits')
  pub grows : Grows before.held after.held
  pub counted : IsCounted before.faults after.faults result

-- Buffered bytes may have moved to the sink. At `Ok`, none is left.
pub record MovesAll (before after : SinkState) (waits waits' : List ℕ) (result : Result Unit Failed) : Type 0 where
  pub moves : Moves before after waits waits' result
  pub none_waits : OnOk result (waits' ≡ [])

-- Buffered bytes may have moved to the sink. At `Ok`, the buffer has room for `len` bytes.
pub record MakesRoom (before after : SinkState) (waits waits' : List ℕ) (result : Result Unit Failed) (len : ℕ) : Type 0 where
  pub moves : Moves before after waits waits' result
  pub room : OnOk result (length waits' + len ≤ 65536)
