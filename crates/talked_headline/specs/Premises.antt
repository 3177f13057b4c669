-- A plan of a talker, and a listener to its stream.
use Rattle.std.specs.Prelude.{◌≡◌, ◌^◌, ◌<◌, ◌≤◌, ℕ, Bool, pos, List, length}
use Rattle.pcap_frames.specs.Capture.{Record, whole_records}
use Rattle.stream_journal.specs.Journal.{Part}
use Rattle.packet_journal.specs.Packets.{part_of}
use Rattle.packet_journal.specs.Units.{AreUnit, unit_bytes}
use Rattle.listener.specs.declared.plan.ListenPlan.{ListenPlan}
use Rattle.listener.specs.Laws.{FollowsClock}
use Rattle.talk_plan.specs.declared.plan.TalkKind.TheVariants.{H264}
use Rattle.talk_plan.specs.declared.plan.TalkPlan.{TalkPlan}
use Rattle.talk_video.specs.Fragments.{part_at, place_of}
use Rattle.talker.specs.Frames.{StaysNear, capture_of, frames_at}
use Rattle.talker.specs.Journal.{journal}
use Rattle.talk_plan.specs.Plan.{Expects, IsAudioPlan, IsVideoPlan, most_input}
use Rattle.talk_video.specs.Units.{sent_units}

-- the records of a capture of the plan's frames at the indices `places`, in that order
abbrev pub captured : TalkPlan → List ℕ → List ℕ → List Record
captured plan input places = whole_records (capture_of (frames_at plan input places))

-- An audio plan sends `input`, and the listener listens to the plan's stream, with or without the plan's clock. If the
-- plan has packets without a timestamp, the listener's lead is near the plan's lead, so the listener can identify these
-- packets by their arrival times.
pub record ListensTo (plan : TalkPlan) (input : List ℕ) (listen : ListenPlan) : Type 0 where
  pub talked : IsAudioPlan plan
  pub id : plan.id < 2 ^ 64
  pub limit : length input ≤ most_input
  pub lead : Expects plan listen.lead
  pub stream : listen.stream ≡ plan.id
  pub clock : FollowsClock (pos 0) (journal plan input) listen.shift listen.clock

-- ---- H.264

-- An H.264 plan sends `input`, and the listener listens to the plan's stream. If the plan stamps only the last
-- fragments of units, two adjacent captured packets are both stamped, or their numbers differ by at most 254. Any lead
-- of the listener will do.
pub record ListensToVideo (plan : TalkPlan) (input places : List ℕ) (listen : ListenPlan) : Type 0 where
  pub last_stamp : Bool
  pub kind : plan.kind ≡ H264 last_stamp
  pub talked : IsVideoPlan plan
  pub stream_id : plan.id < 2 ^ 64
  pub limit : length input ≤ most_input
  pub near : StaysNear plan input (frames_at plan input places)
  pub stream : listen.stream ≡ plan.id
  pub clock : FollowsClock (pos 0) (journal plan input) listen.shift listen.clock

-- the part of a unit that packet n carries if this byte stream is sent
abbrev pub part_sent : List ℕ → ℕ → Part
part_sent input n = part_of (part_at (sent_units input) (place_of (sent_units input) n))

-- Packets `from` to `n` of the plan carry one unit, and the unit fits the listener's buffer.
pub record HasRoomForUnit (plan : TalkPlan) (input : List ℕ) (listen : ListenPlan) (from n : ℕ) : Type 0 where
  pub known : n < (journal plan input).times.packets
  pub packets : AreUnit (part_sent input) from n
  pub some : 1 ≤ listen.buffer
  pub fits : length (unit_bytes (journal plan input) from n) ≤ listen.room
