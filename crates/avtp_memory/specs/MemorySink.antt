-- What contracts see of a sink in memory.
use Rattle.std.specs.Prelude.{◌≡◌, ◌^◌, ◌-◌, ℕ, List, [], Contains, Result, IfOk, IsErr, length, min}
use Rattle.avtp_base.specs.declared.failed.Failed.{Failed}
use Rattle.avtp_memory.specs.declared.memory_sink.MemorySink.{MemorySink}
use Rattle.avtp_memory.specs.Calls.{next_number}

-- the bytes that were written
abbrev pub kept : MemorySink → List ℕ
kept sink = sink.bytes.items

-- the number of calls counted so far; it stops at the greatest 64-bit number
abbrev pub calls : MemorySink → ℕ
calls sink = sink.calls.count

-- the numbers of the calls that fail, counted from 1
abbrev pub failing_calls : MemorySink → List ℕ
failing_calls sink = sink.calls.fails.items

-- the greatest number of bytes that a call takes
abbrev pub most : MemorySink → ℕ
most sink = sink.most

-- the number of faults so far
abbrev pub fault_count : MemorySink → ℕ
fault_count sink = sink.faults

-- What a write to a sink in memory does in addition to what a write does on every sink. If the number of the write is
-- one of `failing_calls`, the write failed. If the result is `Ok`, the number of bytes taken is the lesser of two: the
-- length of the piece, and the greatest number of bytes that a call takes. The call was counted. The failing calls, and
-- the greatest number of bytes that a call takes, are unchanged.
pub record TakesByNumber (old new : MemorySink) (piece : List ℕ) (result : Result ℕ Failed) : Type 0 where
  pub told : Contains (failing_calls old) (next_number (calls old)) → IsErr result
  pub whole : IfOk result (λ n. n ≡ min (length piece) (most old))
  pub next : calls new ≡ next_number (calls old)
  pub fails : failing_calls new ≡ failing_calls old
  pub most : most new ≡ most old

-- A new sink: it holds no bytes, and no call or fault was counted. The calls whose numbers are in `failing` fail. No
-- number limits how many bytes a call takes.
pub record IsNew (sink : MemorySink) (failing : List ℕ) : Type 0 where
  pub empty : kept sink ≡ []
  pub fails : failing_calls sink ≡ failing
  pub calls : calls sink ≡ 0
  pub most : most sink ≡ 2 ^ 64 - 1
  pub faults : fault_count sink ≡ 0

-- A call of the new sink takes at most n bytes. Everything else is as in the old sink.
pub record SetsMost (old new : MemorySink) (n : ℕ) : Type 0 where
  pub kept : kept new ≡ kept old
  pub fails : failing_calls new ≡ failing_calls old
  pub calls : calls new ≡ calls old
  pub most : most new ≡ n
  pub faults : fault_count new ≡ fault_count old
