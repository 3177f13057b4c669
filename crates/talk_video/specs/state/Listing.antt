-- Only private functions and proofs use these definitions. A walk over the NAL units of a byte stream.
use Rattle.std.specs.Prelude.{◌≡◌, ℕ, zero, suc, ◌+◌, ◌-◌, ◌<◌, ◌≤◌, ◌*◌, Bool, false, not, ◌&&◌, ◌||◌, nat_lt, if◌then◌else◌, List, length, take, drop}
use Rattle.cvf_format.specs.AnnexB.{nal_units, units_from}
use Rattle.talk_video.specs.declared.units.NalUnit.{NalUnit}
use Rattle.talk_video.specs.declared.units.Units.{Units}
use Rattle.avtp_base.specs.Octets.{flag}
use Rattle.talk_video.specs.AccessUnits.{begins, begun_before, has_slice, is_sliced, may_begin}
use Rattle.talk_video.specs.Fragments.{packets_before, packets_for, Place, place_of}
use Rattle.talk_video.specs.Streams.{IsInside, IsPacketOfVideo, unit_in}
use Rattle.talk_video.specs.Units.{most_packets}
use Rattle.talk_video.specs.declared.video.VideoStream.{VideoStream}
use Rattle.talk_plan.specs.Plan.{IsVideoPlan, most_input}

-- how many packets precede the access unit of unit i - 1; 0 if i is 0
abbrev pub packets_behind : List ℕ → List (ℕ × ℕ) → ℕ → ℕ
packets_behind bytes units zero = 0
packets_behind bytes units (suc i) = if begins bytes units i then packets_before units i else packets_behind bytes units i

-- the walk `u` has passed the first `u.number` units of a byte stream, which is not too long
pub record IsWalk (bytes : List ℕ) (u : Units) : Type 0 where
  pub limit : length bytes ≤ most_input
  pub known : u.number ≤ length (nal_units bytes)
  pub rest : drop u.number (nal_units bytes) ≡ units_from bytes u.at
  pub within : u.at ≤ length bytes
  pub sliced : u.sliced ≡ is_sliced bytes (nal_units bytes) u.number
  pub begun : u.begun ≡ begun_before bytes (nal_units bytes) u.number
  pub packets : u.packets ≡ packets_before (nal_units bytes) u.number
  pub before : u.before ≡ packets_behind bytes (nal_units bytes) u.number
  pub few : u.number ≤ u.at
  pub few_begun : u.begun ≤ u.at
  pub few_packets : u.packets ≤ u.at
  pub order : u.before ≤ u.packets

-- the walk can pass `unit`, which is within the byte stream
pub record CanPass (bytes : List ℕ) (u : Units) (unit : ℕ × ℕ) : Type 0 where
  pub walk : IsWalk bytes u
  pub inside : IsInside bytes unit

-- `unit`, which follows the units that the walk has passed, begins a new access unit
abbrev pub is_begun_by : List ℕ → Units → ℕ × ℕ → Bool
is_begun_by bytes u unit = u.sliced && may_begin bytes unit

-- the walk after it has passed one more unit
abbrev pub walked : List ℕ → Units → ℕ × ℕ → Units
walked bytes u unit = record {
  number = u.number + 1;
  at = unit.1;
  sliced = has_slice bytes unit || (u.sliced && not (is_begun_by bytes u unit));
  begun = u.begun + flag (is_begun_by bytes u unit);
  packets = u.packets + packets_for unit;
  before = if is_begun_by bytes u unit then u.packets else u.before;
}

-- `unit` is unit i of the byte stream, and `next` is i + 1
pub record IsNext (bytes : List ℕ) (i next : ℕ) (unit : NalUnit) : Type 0 where
  pub known : i < length (nal_units bytes)
  pub is_unit : unit ≡ unit_in bytes i
  pub number : next ≡ suc i
  pub some : unit.from < unit.to
  pub inside : unit.to ≤ length bytes

-- the walk `old` has passed all units of the byte stream, and `new` is the same as `old`
pub record IsEnded (bytes : List ℕ) (old new : Units) : Type 0 where
  pub all : old.number ≡ length (nal_units bytes)
  pub same : new ≡ old

-- among the first i units, the units of some access unit need more than 255 packets
abbrev pub is_long_in : List ℕ → List (ℕ × ℕ) → ℕ → Bool
is_long_in bytes units zero = false
is_long_in bytes units (suc i) =
    is_long_in bytes units i || nat_lt most_packets (packets_before units (suc i) - packets_behind bytes units (suc i))

-- `unit` is within the byte stream, and packet n carries the unit or a fragment of it
pub record IsCarried (bytes : List ℕ) (unit : NalUnit) (n : ℕ) : Type 0 where
  pub some : unit.from < unit.to
  pub inside : unit.to ≤ length bytes
  pub limit : length bytes ≤ most_input
  pub begun : unit.first ≤ n
  pub within : n < unit.first + packets_for (unit.from, unit.to)

-- what packet n of the stream carries: which unit, and which fragment of that unit
abbrev pub place_in : VideoStream → ℕ → Place
place_in v n = place_of (nal_units v.input.now) n

-- `unit` is the unit that packet n of the stream carries, whole or in part
pub record IsUnitAt (v : VideoStream) (n : ℕ) (unit : NalUnit) : Type 0 where
  pub packet : IsPacketOfVideo v n
  pub value : unit ≡ unit_in v.input.now (place_in v n).unit
  pub carried : IsCarried v.input.now unit n
  pub few : unit.access_unit ≤ most_input

-- packet n carries the unit or a fragment of it
pub record IsFragmentAt (unit : NalUnit) (n : ℕ) : Type 0 where
  pub some : unit.from < unit.to
  pub limit : unit.to ≤ most_input
  pub begun : unit.first ≤ n
  pub within : n < unit.first + packets_for (unit.from, unit.to)

-- the plan of the stream is valid, and the number of an access unit is not too large
pub record HasAccessUnit (v : VideoStream) (access_unit : ℕ) : Type 0 where
  pub plan : IsVideoPlan v.plan
  pub few : access_unit ≤ most_input

-- `bytes` are fragment k of `rest`, the bytes of a unit after its first byte
pub record IsFullPart (rest : List ℕ) (k : ℕ) (bytes : List ℕ) : Type 0 where
  pub value : bytes ≡ take 1398 (drop (k * 1398) rest)
  pub short : length bytes ≤ 1398
