-- Only private functions and proofs use these definitions. The effect of giving an item to one place.
use Rattle.std.specs.Prelude.{◌≡◌, ◌&&◌, ℕ, Bool, false, not, List, Option}
use Rattle.std.specs.Global.{Global}
use Rattle.std.specs.declared.dyn_box.DynBox.{DynBox}
use Rattle.sample_schedule.specs.declared.shown.Shown.{Shown}
use Rattle.device_rack.specs.declared.place.Place.{Place}
use Rattle.device_rack.specs.Racks.{IsHanded}

-- A place is given an item if it is live. `failed` says whether the place failed in this call.
pub record HandsPlace {Kind : Type 0} {Value : Kind → Type 0} (took : DynBox Kind Global Value → List Shown → Type 0)
    (faults : DynBox Kind Global Value → ℕ) (failing : DynBox Kind Global Value → Option (List ℕ))
    (shown : Shown) (before after : Place Kind Value) (failed : Bool) : Type 0 where
  pub handed : IsHanded took faults failing shown before after
  pub stays : before.live ≡ false → after.live ≡ false
  pub turned : failed ≡ (before.live && not after.live)
