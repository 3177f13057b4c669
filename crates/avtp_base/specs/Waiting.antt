-- A buffer whose bytes can be borrowed and changed.
use Rattle.std.specs.Prelude.{ℕ, List, length}
use Rattle.std.specs.List.{refill}
use Rattle.std.specs.Borrow.{Lends, MutBor, Fml, Array, u8}
use Rattle.avtp_base.specs.contracts.buffer.Buffer.{the_row}

-- The buffer lends its bytes as `bytes`. When the loan ends, the final content of `bytes` overwrites the start of the
-- buffer. The buffer keeps its length.
abbrev pub LendsWaiting : MutBor (List ℕ) → MutBor (List ℕ) → Fml
LendsWaiting buffer bytes = Lends the_row (Array u8 0) buffer bytes (λ left. refill (length buffer.now) buffer.now left)
