-- Only private functions and proofs use these definitions. The number of failed devices in an outlet.
use Rattle.std.specs.Prelude.{◌≡◌, ◌≤◌, ℕ, Option}
use Rattle.device_rack.specs.declared.outlet.Outlet.{Outlet}
use Rattle.device_rack.specs.Outlets.{failed_in}

-- the number is 1 for a device that has failed, else 0
pub record CountsFailed {D : Type 0} (outlet : Option (Outlet D)) (failures : ℕ) : Type 0 where
  pub count : failures ≡ failed_in outlet
  pub most : failures ≤ 1
