-- What happens when a list of items is given to several devices.
use Rattle.std.specs.Prelude.{◌≡◌, ℕ, ◌<◌, ◌≤◌, ◌++◌, [], ◌∷◌, ◌↔◌, Bool, true, false, List, length, Any, MatchBool, Option, IfSome}
use Rattle.std.specs.Global.{Global}
use Rattle.std.specs.List.{AllZip}
use Rattle.std.specs.declared.dyn_box.DynBox.{DynBox}
use Rattle.avtp_base.specs.Faults.{Rose}
use Rattle.sample_schedule.specs.declared.shown.Shown.{Shown}
use Rattle.device_rack.specs.Racks.{IsHanded}
use Rattle.device_rack.specs.declared.place.Place.{Place}

-- A device was given these items, one after another, up to the first item that it did not take. `live` says whether the
-- device took all items; if not, it took a proper prefix of the items. Suppose that a device reports the numbers of its
-- future failing calls. Then the device fails if and only if one of these numbers is at most the number of items.
pub record WasHandedAll {Device : Type 0} (took : Device → List Shown → Type 0) (faults : Device → ℕ) (failing : Device → Option (List ℕ)) (items : List Shown) (before after : Device) (live : Bool) : Type 0 where
  pub takes : live ≡ true → (earlier : List Shown) → took before earlier → took after (earlier ++ items)
  pub quiet : live ≡ true → faults after ≡ faults before
  pub stops : live ≡ false → (front : List Shown) × (rest : List Shown) × (items ≡ front ++ rest) × (0 < length rest) × ((earlier : List Shown) → took before earlier → took after (earlier ++ front))
  pub counts : live ≡ false → Rose (faults before) (faults after)
  pub told : IfSome (failing before) (λ numbers. live ≡ false ↔ Any (λ n. (1 ≤ n) × (n ≤ length items)) numbers)

-- The effect of giving items to the places of a rack. The device of each place has a type of its own.
module _ {Kind : Type 0} {Value : Kind → Type 0} where
  -- places were given the items of a list, one after another
  unfoldable pub HandsAll : (DynBox Kind Global Value → List Shown → Type 0) → (DynBox Kind Global Value → ℕ) → (DynBox Kind Global Value → Option (List ℕ)) → List Shown → List (Place Kind Value) → List (Place Kind Value) → Type 0
  HandsAll took faults failing [] before after = after ≡ before
  HandsAll took faults failing (shown ∷ items) before after =
      (between : List (Place Kind Value)) × AllZip (IsHanded took faults failing shown) before between × HandsAll took faults failing items between after

  -- A live place is given the items until its device fails, and stays live if the device takes all of them. A failed
  -- place is unchanged.
  abbrev pub AreHanded : (DynBox Kind Global Value → List Shown → Type 0) → (DynBox Kind Global Value → ℕ) → (DynBox Kind Global Value → Option (List ℕ)) → List Shown → Place Kind Value → Place Kind Value → Type 0
  AreHanded took faults failing items before after =
      MatchBool before.live (WasHandedAll took faults failing items before.device after.device after.live) (after ≡ before)
