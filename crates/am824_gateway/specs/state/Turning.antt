-- Only private functions and proofs use these definitions. How values are converted.
use Rattle.std.specs.Prelude.{◌≡◌, ℕ, ◌*◌, List, length}
use Rattle.am824_gateway.specs.declared.scan.To.{To}
use Rattle.am824_gateway.specs.Labels.{value_in, value_out}

-- `values` are n values of 24 bits before they are converted to this format, and `out` has the length of the converted
-- values.
pub record CanTurn (to : To) (n : ℕ) (values out : List ℕ) : Type 0 where
  pub size : length values ≡ n * value_in to
  pub room : length out ≡ n * value_out to
