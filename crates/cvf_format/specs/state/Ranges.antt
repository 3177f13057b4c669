-- Only private functions and proofs use these definitions. Ranges of bytes in which NAL units lie.
use Rattle.std.specs.Prelude.{◌≡◌, ℕ, ◌<◌, ◌≤◌, List, length}
use Rattle.cvf_format.specs.AnnexB.{end_behind}

-- the range from index `from` to before index `to` is within the bytes
pub record IsRange (bytes : List ℕ) (from to : ℕ) : Type 0 where
  pub order : from ≤ to
  pub inside : to ≤ length bytes

-- a unit that begins at index `from` ends before index `to`
pub record EndsUnit (bytes : List ℕ) (from to : ℕ) : Type 0 where
  pub value : to ≡ end_behind bytes from
  pub range : IsRange bytes from to

-- `range`, which begins at index `from`, has at least one byte and ends before index `to`
pub record IsNonempty (from to : ℕ) (range : ℕ × ℕ) : Type 0 where
  pub some : from < range.1
  pub within : range.1 ≤ to
