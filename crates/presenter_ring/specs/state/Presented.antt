-- Only private functions and proofs use these definitions. The presentation of one item.
use Rattle.std.specs.Prelude.{ℕ, ◌++◌, ◌∷◌, List, [], Result}
use Rattle.avtp_base.specs.declared.failed.Failed.{Failed}
use Rattle.avtp_base.specs.Faults.{IsCounted}
use Rattle.sample_schedule.specs.declared.shown.Shown.{Shown}

-- an item was presented, or its presentation failed and was counted
pub record IsPresented {P : Type 0} (hands : P → P → List Shown → Type 0) (faults : P → ℕ)
    (presenter presenter' : P) (shown : Shown) (result : Result Unit Failed) : Type 0 where
  pub handed : (begun : P) (items : List Shown) → hands begun presenter items → hands begun presenter' (items ++ shown ∷ [])
  pub counted : IsCounted (faults presenter) (faults presenter') result
