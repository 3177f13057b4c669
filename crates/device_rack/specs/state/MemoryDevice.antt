-- Only private functions and proofs use these definitions. The items that a `MemoryDevice` has taken.
use Rattle.std.specs.Prelude.{◌≡◌, ◌↔◌, Bool, IsTrue, List, Contains, MatchBool}
use mathlib.Core.List.{IsPrefix}
use Rattle.device_rack.specs.declared.memory_device.MemoryDevice.{MemoryDevice}
use Rattle.sample_schedule.specs.declared.shown.Shown.{Shown}
use Rattle.device_rack.specs.Devices.{later}
use Rattle.device_rack.specs.MemoryDevice.{failing_calls, fault_count, kept_items, is_cut}

-- the device has taken these items: it keeps all of them, or a prefix of them once memory has run out
abbrev pub HasTaken : MemoryDevice → List Shown → Type 0
HasTaken device items = MatchBool (is_cut device) (IsPrefix (kept_items device) items) (kept_items device ≡ items)

-- the next call was counted, and `failed` says whether it fails; the items are unchanged
pub record CountsCall (old new : MemoryDevice) (failed : Bool) : Type 0 where
  pub fails : IsTrue failed ↔ Contains (failing_calls old) 1
  pub next : failing_calls new ≡ later 1 (failing_calls old)
  pub kept : kept_items new ≡ kept_items old
  pub cut : is_cut new ≡ is_cut old
  pub faults : fault_count new ≡ fault_count old

-- the calls that will fail, and the number of faults, are unchanged
pub record KeepsCalls (old new : MemoryDevice) : Type 0 where
  pub fails : failing_calls new ≡ failing_calls old
  pub faults : fault_count new ≡ fault_count old
