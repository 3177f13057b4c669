-- What a program does with the arguments that its system shows.
use Rattle.std.specs.Prelude.{◌≡◌, ◌⊎◌, ℕ, ⊤, true, false, nat_lt, List, [], ◌++◌, Option, None, Some, option_map, option_to_list}
use Rattle.avtp_base.specs.States.{ShelfState, SinkState}
use Rattle.device_rack.specs.OutputFiles.{AreOutput, failures_of, raw_outlet, units_outlet}
use Rattle.device_rack.specs.Written.{HasTakenRaw, HasTakenUnits, annexb_failed, annexb_sink, raw_failed, raw_sink, silence_in}
use Rattle.device_rack.specs.declared.annex_b.AnnexBDevice.{AnnexBDevice}
use Rattle.device_rack.specs.declared.outlet.Outlet.{Outlet}
use Rattle.device_rack.specs.declared.output_files.OutputFiles.{OutputFiles}
use Rattle.device_rack.specs.declared.raw.RawDevice.{RawDevice}
use Rattle.avtp_words.specs.Grammar.{IsCommandLine, IsOffence, listen, Listening, NamedFile, NamedRaw, Request}
use Rattle.run_report.specs.declared.status.Status.{Status}
use Rattle.run_report.specs.declared.status.Status.TheVariants as status
use Rattle.avtp_tool.specs.DeviceWords.{silence_as}
use Rattle.avtp_tool.specs.HasRun.{HasRun, RefusesWords}
use Rattle.run_report.specs.Yield.{HandsOn}

-- the names of the files that a device's file must differ from: the captures, and the file of the other device, if any
abbrev pub names_apart : List (List ℕ) → Option NamedFile → List (List ℕ)
names_apart captures other = captures ++ option_to_list (option_map (λ file. file.name) other)

-- `path` gives the path of a sink's file, `others` gives the paths of the files that the sink's file must differ from,
-- and `state` gives the sink's state.
module _ {S : Type 0} (path : S → List ℕ) (others : S → List (List ℕ)) (state : S → SinkState) where
  -- The device writes raw samples to the file that was asked for, with the silence that was asked for. The file must
  -- differ from the captures and from the file for NAL units. The device has taken no item yet.
  pub record WritesRaw (request : Listening) (asked : NamedRaw) (device : RawDevice S) : Type 0 where
    pub name : path (raw_sink device) ≡ asked.file.name
    pub apart : others (raw_sink device) ≡ names_apart request.files request.annexb
    pub silence : silence_in device ≡ silence_as asked.silence
    pub failed : raw_failed device ≡ false
    pub new : HasTakenRaw state (state (raw_sink device)) device []

  -- The device writes NAL units to the file that was asked for. The file must differ from the captures and from the file
  -- for raw samples. The device has taken no item yet.
  pub record WritesUnits (request : Listening) (asked : NamedFile) (device : AnnexBDevice S) : Type 0 where
    pub name : path (annexb_sink device) ≡ asked.name
    pub apart : others (annexb_sink device) ≡ names_apart request.files (option_map (λ raw. raw.file) request.raw)
    pub failed : annexb_failed device ≡ false
    pub new : HasTakenUnits state (state (annexb_sink device)) device []

  -- If a device was asked for, there is a device. This device is live and does what was asked for. If no device was
  -- asked for, there is no device.
  abbrev pub IsFor : {Asked D : Type 0} → (Asked → D → Type 0) → Option Asked → Option (Outlet D) → Type 0
  IsFor Writes None None = ⊤
  IsFor Writes None (Some outlet) = ⊥
  IsFor Writes (Some asked) None = ⊥
  IsFor Writes (Some asked) (Some outlet) = Writes asked outlet.device × (outlet.live ≡ true)

  -- The devices are those that a request asks for. `listen` asks for a device for raw samples, for a device for NAL
  -- units, for both or for neither; no other command asks for a device.
  abbrev pub AreAsked : Request → OutputFiles S → Type 0
  AreAsked (listen asked) outputs = IsFor (WritesRaw asked) asked.raw (raw_outlet outputs) × IsFor (WritesUnits asked) asked.annexb (units_outlet outputs)
  AreAsked request outputs = (raw_outlet outputs ≡ None) × (units_outlet outputs ≡ None)

  -- A request was run with the devices that it asks for. `HasRun` says which items these devices got.
  pub record RunsWith (request : Request) (shelf shelf' : ShelfState) (out out' : SinkState) (ended : Status) : Type 0 where
    pub before : OutputFiles S
    pub after : OutputFiles S
    pub asked : AreAsked request before
    pub run : HasRun request (HandsOn (λ begun now items. AreOutput state items begun now) before after) (after ≡ before)
        (nat_lt (failures_of before) (failures_of after)) shelf shelf' out out' ended

-- memory ran out for the arguments or the devices, and nothing was done
abbrev pub IsLacking : Type 0 → Status → Type 0
IsLacking untouched ended = (ended ≡ status.Memory) × untouched

-- What a program with these arguments did. `still` says that the shelf is unchanged. `untouched` says that the shelf
-- and the sink are unchanged.
pub record HasEnded {S : Type 0} (path : S → List ℕ) (others : S → List (List ℕ)) (state : S → SinkState) (arguments : List (List ℕ)) (still untouched : Type 0)
    (shelf shelf' : ShelfState) (out out' : SinkState) (ended : Status) : Type 0 where
  pub runs : (request : Request) → IsCommandLine arguments request → IsLacking untouched ended ⊎ RunsWith path others state request shelf shelf' out out' ended
  pub refuses : (position : ℕ) → IsOffence arguments position → IsLacking untouched ended ⊎ RefusesWords position still out out' ended
