-- Listeners whose buffers are never full while they hear what a gateway sends.
use Rattle.std.specs.Prelude.{◌≡◌, ℕ, ◌≤◌, ℤ, pos, ◌+ℤ◌, ◌≤ℤ◌, List, [], ◌∷◌, map, Option, Some, None, ⊤}
use Rattle.std.specs.List.{AllByRecursion}
use Rattle.sample_schedule.specs.Batches.{Presented}
use Rattle.listener.specs.declared.plan.ListenPlan.{ListenPlan}
use Rattle.am824_gateway.specs.declared.scan.Shape.{Shape}
use Rattle.am824_gateway.specs.declared.scan.To.{To}
use Rattle.am824_gateway.specs.Laws.{cut_instant, cuts_after}
use Rattle.am824_gateway.specs.Pieces.{nothing_given}

-- each instant is at least 500 ns after all earlier instants
abbrev pub AreSpread : List ℤ → Type 0
AreSpread [] = ⊤
AreSpread (x ∷ xs) = AllByRecursion (λ y. (x +ℤ pos 500) ≤ℤ y) xs × AreSpread xs

-- The packets that a gateway makes from these batches are presented at least 500 ns apart. If the stream has no shape,
-- there are no packets.
abbrev pub ArePacketsSpread : To → Option Shape → List Presented → Type 0
ArePacketsSpread to None batches = ⊤
ArePacketsSpread to (Some shape) batches = AreSpread (map cut_instant (cuts_after to shape nothing_given batches))

-- The listener hears the stream with this ID and has no clock. The listener's buffer is at least as large as the
-- default of `listen`: 4,096 packets and 64 MiB.
pub record HasDefaultRoom (id : ℕ) (plan : ListenPlan) : Type 0 where
  pub stream : plan.stream ≡ id
  pub clock : plan.clock ≡ None
  pub buffer : 4096 ≤ plan.buffer
  pub room : 67108864 ≤ plan.room
