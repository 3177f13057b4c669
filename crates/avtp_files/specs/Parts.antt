-- Writes that can take only a part of a piece.
use Rattle.std.specs.Prelude.{ℕ, ◌≤◌, ◌<◌, List, Option, length, IfOk, Result}
use Rattle.std.specs.Io.KnownBytes.{WriteAppends}

-- At `Ok(n)` a file took the first n bytes of the piece, at least one. `before` and `after` are the file's bytes, if the
-- system shows them.
pub record WritesPart {E : Type 0} (before after : Option (List ℕ)) (piece : List ℕ) (result : Result ℕ E) : Type 0 where
  pub some : IfOk result (λ n. 0 < n)
  pub within : IfOk result (λ n. n ≤ length piece)
  pub taken : WriteAppends before after result piece
