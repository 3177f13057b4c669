-- Only private functions and proofs use these definitions. The copies of one packet are delivered.
use Rattle.std.specs.Prelude.{◌≡◌, ℕ, ℤ, suc, List, ◌++◌}
use Rattle.soak_run.specs.Generator.{state_after}
use Rattle.soak_run.specs.Network.{copies, draws_before}

-- after the copies of packet `number` were delivered, the noise has the state `noise`, and the list `old` of copies has
-- become `new`
pub record HasDelivered (seed number noise : ℕ) (old new : List (ℤ × ℕ)) : Type 0 where
  pub drawn : noise ≡ state_after seed (draws_before seed (suc number))
  pub copied : new ≡ old ++ copies seed number
