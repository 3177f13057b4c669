-- A stream of H.264 as it is sent: the units of its byte stream, with the packets that carry them.
use Rattle.std.specs.Prelude.{◌≡◌, ℕ, ◌<◌, ◌≤◌, Bool, List, length, map, None}
use Rattle.std.specs.List.{range_with_len}
use Rattle.cvf_format.specs.AnnexB.{nal_units}
use Rattle.cvf_format.specs.Cvf.{Cvf}
use Rattle.talk_plan.specs.declared.plan.TalkKind.TheVariants.{H264}
use Rattle.talk_plan.specs.declared.plan.TalkPlan.{TalkPlan}
use Rattle.talk_video.specs.declared.units.NalUnit.{NalUnit}
use Rattle.talk_video.specs.declared.video.VideoStream.{VideoStream}
use Rattle.talk_video.specs.AccessUnits.{access_unit, unit_at}
use Rattle.talk_video.specs.Fragments.{all_packets, packets_before}
use Rattle.talk_plan.specs.Plan.{IsVideoPlan, most_input}
use Rattle.talk_video.specs.Units.{units_fault}
use Rattle.talk_video.specs.Video.{cvf_packet}

-- unit i of a byte stream, as an entry of the list
abbrev pub unit_in : List ℕ → ℕ → NalUnit
unit_in bytes i = record {
  from = (unit_at (nal_units bytes) i).0;
  to = (unit_at (nal_units bytes) i).1;
  access_unit = access_unit bytes (nal_units bytes) i;
  first = packets_before (nal_units bytes) i;
}

-- the first `number` units of a byte stream
abbrev pub first_units : List ℕ → ℕ → List NalUnit
first_units bytes number = map (unit_in bytes) (range_with_len 0 number)

-- the unit has at least one byte, and is within the stream
pub record IsInside (bytes : List ℕ) (unit : ℕ × ℕ) : Type 0 where
  pub some : unit.0 < unit.1
  pub inside : unit.1 ≤ length bytes

-- each of the first `number` units of a byte stream has at least one byte and is within the stream
abbrev pub AreInside : List ℕ → ℕ → Type 0
AreInside bytes number = (i : ℕ) → i < number → IsInside bytes (unit_at (nal_units bytes) i)

-- `units` lists all units of a byte stream, and `packets` is the number of packets that carry them
pub record HasListed (bytes : List ℕ) (units : List NalUnit) (packets : ℕ) : Type 0 where
  pub units_are : units ≡ first_units bytes (length (nal_units bytes))
  pub inside : AreInside bytes (length (nal_units bytes))
  pub packets_are : packets ≡ all_packets (nal_units bytes)
  pub few : packets ≤ most_input

-- a plan of H.264, a byte stream without a fault, and the list of its units
pub record IsVideo (v : VideoStream) : Type 0 where
  pub plan : IsVideoPlan v.plan
  pub kind : v.plan.kind ≡ H264 v.last_stamp
  pub limit : length v.input.now ≤ most_input
  pub accepted : units_fault v.input.now ≡ None
  pub units : v.units.items ≡ first_units v.input.now (length (nal_units v.input.now))
  pub inside : AreInside v.input.now (length (nal_units v.input.now))
  pub packets : v.packets ≡ all_packets (nal_units v.input.now)
  pub few : v.packets ≤ most_input

-- A valid plan of H.264 sends `input`, a byte stream that is not too long and has no fault. If `last_stamp` is true, the
-- plan stamps only the last packet of each unit.
pub record SendsVideo (plan : TalkPlan) (last_stamp : Bool) (input : List ℕ) : Type 0 where
  pub valid : IsVideoPlan plan
  pub kind : plan.kind ≡ H264 last_stamp
  pub limit : length input ≤ most_input
  pub accepted : units_fault input ≡ None

-- `v` is the stream of H.264 of this plan and this byte stream
pub record IsVideoOf (plan : TalkPlan) (input : List ℕ) (v : VideoStream) : Type 0 where
  pub video : IsVideo v
  pub plan_is : v.plan ≡ plan
  pub input_is : v.input.now ≡ input

-- packet n of a stream of H.264
abbrev pub video_packet : VideoStream → ℕ → Cvf
video_packet v n = cvf_packet v.last_stamp v.plan v.input.now (nal_units v.input.now) n

-- the stream of H.264 has a packet n
pub record IsPacketOfVideo (v : VideoStream) (n : ℕ) : Type 0 where
  pub video : IsVideo v
  pub known : n < v.packets
