-- Only private functions and proofs use these definitions. What contracts see of a shelf of real
-- files.
use Rattle.std.specs.Prelude.{◌≡◌, ◌≤◌, ℕ, List, Option, None, IfOk, Result, length}
use Rattle.std.specs.Io.KnownBytes.{ReadConsumes}
use Rattle.avtp_base.specs.Files as files
use Rattle.avtp_base.specs.States.{ShelfState}

-- The state of a shelf of real files, as contracts see it. The shelf shows no files, and keeps no account of the names
-- that it was asked for.
abbrev pub real_state : files.Slots → ℕ → ℕ → ShelfState
real_state slots reading writing = record { files = None; slots = slots; reading_faults = record { count = reading; last = None }; writing_faults = writing; asked = None }

-- At `Ok(n)` the file in a slot gave its next n bytes to the buffer. `before` and `after` are its bytes that are left to
-- read, if the system shows them. Every slot keeps its file.
pub record ReadsOpen {E : Type 0} (before after : Option (List ℕ)) (old new : files.Slots) (result : Result ℕ E) (buffer : List ℕ) : Type 0 where
  pub within : IfOk result (λ n. n ≤ length buffer)
  pub moved : ReadConsumes before after result buffer
  pub same : (k : ℕ) → new k ≡ old k
