-- Only private functions and proofs use these definitions. Numbers of calls.
use Rattle.std.specs.Prelude.{◌≡◌, ◌↔◌, ℕ, Bool, List, Contains, IsTrue}
use Rattle.avtp_memory.specs.Calls.{next_number}

-- The next call was counted, and the result says whether it is one of the calls that fail.
pub record CountsNext (failing failing' : List ℕ) (before after : ℕ) (result : Bool) : Type 0 where
  pub fails : IsTrue result ↔ Contains failing (next_number before)
  pub count : after ≡ next_number before
  pub same : failing' ≡ failing
