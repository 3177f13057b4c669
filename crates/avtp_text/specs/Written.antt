-- A sink, the text that is buffered for the sink, and how a printing call changes the sink and the text.
use Rattle.std.specs.Prelude.{◌≡◌, List, [], ◌++◌, ℕ, Option, Result, MatchResult, OnOk}
use Rattle.avtp_base.specs.Told.{append_known, Appends, Keeps}
use Rattle.avtp_base.specs.declared.failed.Failed.{Failed}
use Rattle.avtp_base.specs.Faults.{IsCounted}
use Rattle.avtp_base.specs.States.{SinkState}

-- all text that was written so far: what the sink holds, if that is known, followed by what is buffered
abbrev pub written : Option (List ℕ) → List ℕ → Option (List ℕ)
written held waiting = append_known held waiting

-- a prefix of `text` was appended to the bytes that the sink held before, if those bytes are known
pub record AppendsPrefix (before now : Option (List ℕ)) (text : List ℕ) : Type 0 where
  pub prefix : List ℕ
  pub rest : List ℕ
  pub split : text ≡ prefix ++ rest
  pub appends : Appends before now prefix

-- At `Ok`, the whole text was written. If the result is `Err`, nothing was written.
abbrev pub Writes : Option (List ℕ) → Option (List ℕ) → Result Unit Failed → List ℕ → Type 0
Writes before now result text = MatchResult result (λ _. Appends before now text) (λ _. Keeps before now)

-- At `Ok`, the whole text was written. If the result is `Err`, a prefix of the text was written.
abbrev pub WritesPrefix : Option (List ℕ) → Option (List ℕ) → Result Unit Failed → List ℕ → Type 0
WritesPrefix before now result text = MatchResult result (λ _. Appends before now text) (λ _. AppendsPrefix before now text)

-- the bytes in the sink begin with the bytes that the sink held before
pub record Grows (before now : Option (List ℕ)) : Type 0 where
  pub more : List ℕ
  pub appends : Appends before now more

-- A call printed `text` whole, or printed nothing if the sink failed. What the sink holds begins with what it held
-- before the call. The sink's count of faults rose if and only if the call failed.
pub record Prints (before after : SinkState) (waits waits' : List ℕ) (result : Result Unit Failed) (text : List ℕ) : Type 0 where
  pub written : Writes (written before.held waits) (written after.held waits') result text
  pub grows : Grows before.held after.held
  pub counted : IsCounted before.faults after.faults result

-- A call printed `text`, which may be long: all of it, or a prefix if the sink failed. What the sink holds begins with
-- what it held before the call. The sink's count of faults rose if and only if the call failed.
pub record PrintsPart (before after : SinkState) (waits waits' : List ℕ) (result : Result Unit Failed) (text : List ℕ) : Type 0 where
  pub written : WritesPrefix (written before.held waits) (written after.held waits') result text
  pub grows : Grows before.held after.held
  pub counted : IsCounted before.faults after.faults result

-- A call wrote the buffered text to the sink, all of it unless the sink failed. All text that was written so far is
-- unchanged. What the sink holds begins with what it held before the call. The sink's count of faults rose if and only
-- if the call failed.
pub record Flushes (before after : SinkState) (waits waits' : List ℕ) (result : Result Unit Failed) : Type 0 where
  pub written : Keeps (written before.held waits) (written after.held waits')
  pub none_waits : OnOk result (waits' ≡ [])
  pub grows : Grows before.held after.held
  pub counted : IsCounted before.faults after.faults result
