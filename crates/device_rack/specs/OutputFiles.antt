-- The two devices of a program, and what giving items to them does.
use Rattle.std.specs.Prelude.{◌≡◌, ℕ, ⊤, ◌+◌, true, List, Option, None, Some}
use Rattle.avtp_base.specs.States.{SinkState}
use Rattle.sample_schedule.specs.declared.shown.Shown.{Shown}
use Rattle.device_rack.specs.Outlets.{AreHandedTo, Both, failed_in}
use Rattle.device_rack.specs.Written.{HasTakenRaw, HasTakenUnits, annexb_sink, raw_sink}
use Rattle.device_rack.specs.declared.annex_b.AnnexBDevice.{AnnexBDevice}
use Rattle.device_rack.specs.declared.outlet.Outlet.{Outlet}
use Rattle.device_rack.specs.declared.output_files.OutputFiles.{OutputFiles}
use Rattle.device_rack.specs.declared.raw.RawDevice.{RawDevice}

-- there is no device and no outlet, or the outlet has the device and is live
abbrev pub AreLive : {D : Type 0} → Option D → Option (Outlet D) → Type 0
AreLive None None = ⊤
AreLive None (Some outlet) = ⊥
AreLive (Some device) None = ⊥
AreLive (Some device) (Some outlet) = (outlet.device ≡ device) × (outlet.live ≡ true)

-- The two devices of a program, whether each device is live, and what giving items to the devices does. Either device
-- can be missing.
module _ {S : Type 0} where
  abbrev pub raw_outlet : OutputFiles S → Option (Outlet (RawDevice S))
  raw_outlet outputs = outputs.raw

  abbrev pub units_outlet : OutputFiles S → Option (Outlet (AnnexBDevice S))
  units_outlet outputs = outputs.units

  -- a device of raw samples was given the items of a list, up to the first item that the device did not take; the
  -- device's sink can hold any bytes before
  abbrev pub RawHanded : (S → SinkState) → List Shown → Outlet (RawDevice S) → Outlet (RawDevice S) → Type 0
  RawHanded state = AreHandedTo (λ device items. (start : SinkState) × HasTakenRaw state start device items) (λ device. (state (raw_sink device)).faults) (λ device. None)

  -- a device of units was given the items of a list up to the first item that the device did not take; this holds
  -- whatever the device's sink held before
  abbrev pub UnitsHanded : (S → SinkState) → List Shown → Outlet (AnnexBDevice S) → Outlet (AnnexBDevice S) → Type 0
  UnitsHanded state = AreHandedTo (λ device items. (start : SinkState) × HasTakenUnits state start device items) (λ device. (state (annexb_sink device)).faults) (λ device. None)

  -- each device that exists was given `items` up to the first item that it did not take
  pub record AreOutput (state : S → SinkState) (items : List Shown) (before after : OutputFiles S) : Type 0 where
    pub raw : Both (RawHanded state items) before.raw after.raw
    pub units : Both (UnitsHanded state items) before.units after.units

  -- how many of the devices have failed
  abbrev pub failures_of : OutputFiles S → ℕ
  failures_of outputs = failed_in outputs.raw + failed_in outputs.units

  -- the given devices, all of them live
  pub record AreNew (samples : Option (RawDevice S)) (stream : Option (AnnexBDevice S)) (outputs : OutputFiles S) : Type 0 where
    pub raw : AreLive samples (raw_outlet outputs)
    pub units : AreLive stream (units_outlet outputs)
