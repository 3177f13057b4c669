-- What a device reports about its future failing calls.
use Rattle.std.specs.Prelude.{◌≡◌, ℕ, ◌-◌, ◌==◌, ◌↔◌, not, List, map, filter, Contains, Option, Some, Result, IsErr}
use Rattle.avtp_base.specs.declared.failed.Failed.{Failed}

-- the numbers of the failing calls after `calls` more calls were made; the next call then has number 1
abbrev pub later : ℕ → List ℕ → List ℕ
later calls numbers = filter (λ n. not (n == 0)) (map (λ n. n - calls) numbers)

-- A device that reports the numbers of its future failing calls was called once. The call failed if and only if 1 is
-- among the numbers. The device now reports the numbers of the failing calls after this call; the next call has number
-- 1.
pub record FailsAsTold {T : Type 0} (numbers : List ℕ) (after : Option (List ℕ)) (result : Result T Failed) : Type 0 where
  pub failed : IsErr result ↔ Contains numbers 1
  pub told : after ≡ Some (later 1 numbers)
