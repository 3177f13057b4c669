-- What a device leaves in its sink.
use Rattle.std.specs.Prelude.{◌≡◌, ℕ, Bool, false, List, [], ◌++◌, ⊤, Option, None, Some}
use Rattle.std.specs.List.{last_or}
use mathlib.Core.List.{IsPrefix}
use Rattle.avtp_base.specs.States.{SinkState}
use Rattle.avtp_base.specs.Told.{Appends}
use Rattle.sample_schedule.specs.Batches.{Presented, sample_instant}
use Rattle.sample_schedule.specs.declared.shown.Shown.{Shown}
use Rattle.device_rack.specs.declared.annex_b.AnnexBDevice.{AnnexBDevice}
use Rattle.device_rack.specs.declared.previous.Previous.{Previous}
use Rattle.device_rack.specs.declared.raw.RawDevice.{RawDevice}
use Rattle.device_rack.specs.declared.silent_bytes.Silence.{Silence}
use Rattle.device_rack.specs.RawOutput.{annexb, raw, sample_batches, sample_size}

-- what is kept of a batch: its line, the instant after its last sample, and the number of bytes in one sample
pub record IsPrevious (previous : Previous) (batch : Presented) : Type 0 where
  pub line : previous.line ≡ batch.line
  pub end : previous.end ≡ sample_instant batch batch.count
  pub size : previous.size ≡ sample_size batch

-- what is kept of the previous batch, or nothing if there was no previous batch
abbrev pub IsPreviousOf : Option Previous → Option Presented → Type 0
IsPreviousOf None None = ⊤
IsPreviousOf None (Some batch) = ⊥
IsPreviousOf (Some previous) None = ⊥
IsPreviousOf (Some previous) (Some batch) = IsPrevious previous batch

-- what is known of a device: its sink, whether it has failed, the kind of its silence, and which items it has taken
module _ {S : Type 0} where
  abbrev pub raw_sink : RawDevice S → S
  raw_sink device = device.sink

  abbrev pub raw_failed : RawDevice S → Bool
  raw_failed device = device.failed

  abbrev pub silence_in : RawDevice S → Silence
  silence_in device = device.silence

  abbrev pub annexb_sink : AnnexBDevice S → S
  annexb_sink device = device.sink

  abbrev pub annexb_failed : AnnexBDevice S → Bool
  annexb_failed device = device.failed

  -- The device has taken these items, in this order, since its sink was in the state `start`. If the device has not
  -- failed, the sink holds what it held at `start`, followed by the output of the items.
  pub record HasTakenRaw (state : S → SinkState) (start : SinkState) (device : RawDevice S) (items : List Shown) : Type 0 where
    pub previous : IsPreviousOf device.previous (last_or None (sample_batches items))
    pub holds : raw_failed device ≡ false → Appends start.held (state (raw_sink device)).held (raw (silence_in device) items)

  -- The device has taken these items since its sink was in the state `start`. If the device has not failed, the sink
  -- holds what it held at `start`, followed by the units of the items as a byte stream.
  abbrev pub HasTakenUnits : (S → SinkState) → SinkState → AnnexBDevice S → List Shown → Type 0
  HasTakenUnits state start device items = annexb_failed device ≡ false → Appends start.held (state (annexb_sink device)).held (annexb items)

  -- a device of raw samples that has taken nothing, with this sink and this kind of silence
  pub record IsNewRaw (state : S → SinkState) (kept : S) (filling : Silence) (device : RawDevice S) : Type 0 where
    pub new : HasTakenRaw state (state kept) device []
    pub sink : raw_sink device ≡ kept
    pub silence : silence_in device ≡ filling
    pub failed : raw_failed device ≡ false

  -- a device of units that has taken nothing, with this sink
  pub record IsNewUnits (state : S → SinkState) (kept : S) (device : AnnexBDevice S) : Type 0 where
    pub new : HasTakenUnits state (state kept) device []
    pub sink : annexb_sink device ≡ kept
    pub failed : annexb_failed device ≡ false

-- a sink took bytes that begin with `bs` and are a prefix of `more`
abbrev pub AppendsUpTo : SinkState → SinkState → List ℕ → List ℕ → Type 0
AppendsUpTo before after bs more = (part : List ℕ) × IsPrefix (bs ++ part) more × Appends before.held after.held (bs ++ part)
