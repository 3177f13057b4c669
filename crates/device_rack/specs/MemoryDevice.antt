-- The state of a device that keeps its items in memory.
use Rattle.std.specs.Prelude.{◌≡◌, ℕ, Bool, false, List, []}
use Rattle.device_rack.specs.declared.memory_device.MemoryDevice.{MemoryDevice}
use Rattle.sample_schedule.specs.declared.shown.Shown.{Shown}
use Rattle.device_rack.specs.Devices.{later}

-- the items that the device keeps
abbrev pub kept_items : MemoryDevice → List Shown
kept_items device = device.items.items

-- memory ran out for an item; the device took this item and all later items without keeping them
abbrev pub is_cut : MemoryDevice → Bool
is_cut device = device.is_cut

-- the numbers of the failing calls that are left, counted from 1
abbrev pub failing_calls : MemoryDevice → List ℕ
failing_calls device = later device.calls device.fails.items

-- the number of faults so far
abbrev pub fault_count : MemoryDevice → ℕ
fault_count device = device.faults

-- the device has taken nothing, and its calls with these numbers will fail
pub record IsNewMemory (numbers : List ℕ) (device : MemoryDevice) : Type 0 where
  pub empty : kept_items device ≡ []
  pub whole : is_cut device ≡ false
  pub fails : failing_calls device ≡ later 0 numbers
  pub faults : fault_count device ≡ 0
