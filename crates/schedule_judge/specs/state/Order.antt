-- Only private functions and proofs use these definitions. Accepted items, sorted by their first
-- instants.
use Rattle.std.specs.Prelude.{Bool, false, ℤ, int_lt, List, [], ◌∷◌}
use Rattle.sample_schedule.specs.declared.accepted.Accepted.{Accepted}

abbrev pub starts_due : ℤ → List Accepted → Bool
starts_due now [] = false
starts_due now (a ∷ rest) = int_lt a.instant now
