-- Devices that are given items until they fail.
use Rattle.std.specs.Prelude.{◌≡◌, ℕ, ⊤, true, List, MatchBool, Option, None, Some, if◌then◌else◌}
use Rattle.sample_schedule.specs.declared.shown.Shown.{Shown}
use Rattle.device_rack.specs.Handed.{WasHandedAll}
use Rattle.device_rack.specs.Racks.{WasHanded}
use Rattle.device_rack.specs.declared.outlet.Outlet.{Outlet}

-- A device of type D. What is known of the device: the items that it took, its count of faults, and, if the device
-- reports them, the numbers of its future failing calls.
module _ {D : Type 0} (took : D → List Shown → Type 0) (faults : D → ℕ) (failing : D → Option (List ℕ)) where
  -- A live device is given an item, and stays live if it takes the item. A failed device is unchanged.
  abbrev pub IsHandedTo : Shown → Outlet D → Outlet D → Type 0
  IsHandedTo shown before after = MatchBool before.live (WasHanded took faults failing shown before.device after.device after.live) (after ≡ before)

  -- A live device is given items until it fails, and stays live if it takes all of them. A failed device is unchanged.
  abbrev pub AreHandedTo : List Shown → Outlet D → Outlet D → Type 0
  AreHandedTo items before after = MatchBool before.live (WasHandedAll took faults failing items before.device after.device after.live) (after ≡ before)

-- two options are both `None`, or both `Some` with related values
abbrev pub Both : {X : Type 0} → (X → X → Type 0) → Option X → Option X → Type 0
Both R None None = ⊤
Both R None (Some y) = ⊥
Both R (Some x) None = ⊥
Both R (Some x) (Some y) = R x y

-- 1 for a device that has failed, else 0
abbrev pub failed_in : {D : Type 0} → Option (Outlet D) → ℕ
failed_in None = 0
failed_in (Some outlet) = if outlet.live then 0 else 1

-- the outlet has the given device, and is live
pub record IsLive {D : Type 0} (given : D) (outlet : Outlet D) : Type 0 where
  pub device : outlet.device ≡ given
  pub live : outlet.live ≡ true
