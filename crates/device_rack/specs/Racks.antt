-- Several devices, and what happens when an item is given to them.
use Rattle.std.specs.Prelude.{◌≡◌, ℕ, ◌+◌, ◌++◌, [], ◌∷◌, ◌↔◌, Bool, true, false, not, List, count_by, Contains, MatchBool, Option, Some, IfSome}
use Rattle.std.specs.List.{AllZip}
use Rattle.std.specs.Global.{Global}
use Rattle.std.specs.declared.dyn_box.DynBox.{DynBox}
use Rattle.avtp_base.specs.Faults.{Rose}
use Rattle.sample_schedule.specs.declared.shown.Shown.{Shown}
use Rattle.device_rack.specs.Devices.{later}
use Rattle.device_rack.specs.declared.place.Place.{Place}
use Rattle.device_rack.specs.declared.rack.Rack.{Rack}

-- A device was given an item, and `live` says whether it took the item. What is known of a device: the items that it
-- took, its count of faults, and, if the device reports them, the numbers of its future failing calls.
pub record WasHanded {Device : Type 0} (took : Device → List Shown → Type 0) (faults : Device → ℕ) (failing : Device → Option (List ℕ)) (shown : Shown) (before after : Device) (live : Bool) : Type 0 where
  pub takes : live ≡ true → (items : List Shown) → took before items → took after (items ++ shown ∷ [])
  pub quiet : live ≡ true → faults after ≡ faults before
  pub refuses : live ≡ false → (items : List Shown) → took before items → took after items
  pub counts : live ≡ false → Rose (faults before) (faults after)
  pub told : IfSome (failing before) (λ numbers. (live ≡ false ↔ Contains numbers 1) × (failing after ≡ Some (later 1 numbers)))

-- The places of a rack, the effect of giving an item to a place, and the numbers of live and of failed places. The
-- device of each place has a type of its own.
module _ {Kind : Type 0} {Value : Kind → Type 0} where
  -- the places of a rack, in their order
  abbrev pub places_of : Rack Kind Value → List (Place Kind Value)
  places_of rack = rack.places.items

  -- A live place is given an item, and stays live if its device takes the item. A failed place is unchanged.
  abbrev pub IsHanded : (DynBox Kind Global Value → List Shown → Type 0) → (DynBox Kind Global Value → ℕ) → (DynBox Kind Global Value → Option (List ℕ)) → Shown → Place Kind Value → Place Kind Value → Type 0
  IsHanded took faults failing shown before after =
      MatchBool before.live (WasHanded took faults failing shown before.device after.device after.live) (after ≡ before)

  -- the number of live places
  abbrev pub live_count : List (Place Kind Value) → ℕ
  live_count places = count_by (λ place. place.live) places

  -- the number of failed places
  abbrev pub failed_count : List (Place Kind Value) → ℕ
  failed_count places = count_by (λ place. not place.live) places

  -- each live place is given an item, and this number of places fails
  pub record HandsEach (took : DynBox Kind Global Value → List Shown → Type 0) (faults : DynBox Kind Global Value → ℕ)
      (failing : DynBox Kind Global Value → Option (List ℕ)) (shown : Shown) (before after : List (Place Kind Value)) (count : ℕ) : Type 0 where
    pub places : AllZip (IsHanded took faults failing shown) before after
    pub failures : failed_count after ≡ failed_count before + count
