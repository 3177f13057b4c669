-- Which plans a talker accepts.
use Rattle.std.specs.Prelude.{◌≡◌, ℕ, ◌+◌, ◌*◌, ◌/◌, ◌%◌, ◌^◌, ◌<◌, ◌≤◌, ◌==◌, true, false, pos, ◌≤ℤ◌, if◌then◌else◌, Option, Some, None, IsSome}
use Rattle.std.specs.Prelude.{option_and_then, unwrap_or, ⊤}
use Rattle.aaf_format.specs.Aaf.{frame_size}
use Rattle.iec61883_format.specs.Iec.{block_size, syt_interval}
use Rattle.clock_track.specs.PairLines.{pull_down, pull_up}
use Rattle.talk_plan.specs.declared.plan.CrfPlan.{CrfPlan}
use Rattle.talk_plan.specs.declared.plan.TalkKind.{TalkKind}
use Rattle.talk_plan.specs.declared.plan.TalkKind.TheVariants.{Aaf, Am824, H264}
use Rattle.talk_plan.specs.declared.plan.TalkPlan.{TalkPlan}

-- the code that AAF gives a sample rate, if any (IEEE 1722-2016, 7)
abbrev pub rate_code : ℕ → Option ℕ
rate_code rate =
    if rate == 8000 then Some 1 else
    if rate == 16000 then Some 2 else
    if rate == 32000 then Some 3 else
    if rate == 44100 then Some 4 else
    if rate == 48000 then Some 5 else
    if rate == 88200 then Some 6 else
    if rate == 96000 then Some 7 else
    if rate == 176400 then Some 8 else
    if rate == 192000 then Some 9 else
    if rate == 24000 then Some 10 else None

-- the code (FDF) that IEC 61883-6 gives a sample rate, if any
abbrev pub fdf_of : ℕ → Option ℕ
fdf_of rate =
    if rate == 32000 then Some 0 else
    if rate == 44100 then Some 1 else
    if rate == 48000 then Some 2 else
    if rate == 88200 then Some 3 else
    if rate == 96000 then Some 4 else
    if rate == 176400 then Some 5 else
    if rate == 192000 then Some 6 else None

-- SYT_INTERVAL at a sample rate: the number of data blocks from one stamped data block to the next (IEC 61883-6)
abbrev pub interval_of : ℕ → ℕ
interval_of rate = unwrap_or (option_and_then syt_interval (fdf_of rate)) 8

-- the maximum number of sample bytes in an AAF packet that fits an Ethernet frame
abbrev pub most_samples : ℕ
most_samples = 1476

-- the maximum number of data block bytes in an IEC 61883 packet that fits an Ethernet frame
abbrev pub most_blocks : ℕ
most_blocks = 1468

-- ---- audio

-- the kind is audio: PCM or AM824
abbrev pub IsAudioKind : TalkKind → Type 0
IsAudioKind (Aaf format sparse) = ⊤
IsAudioKind Am824 = ⊤
IsAudioKind (H264 last_stamp) = ⊥

-- the format has a code for the rate
abbrev pub HasRate : TalkKind → ℕ → Type 0
HasRate (Aaf format sparse) rate = IsSome (rate_code rate)
HasRate Am824 rate = IsSome (fdf_of rate)
HasRate (H264 last_stamp) rate = ⊥

-- The data blocks of an AM824 packet have at most 256 quadlets each, and fit an Ethernet frame. A packet has at least
-- SYT_INTERVAL / 8 data blocks, so among any 8 packets in a row, at least one has a stamped block.
pub record FitsBlocks (plan : TalkPlan) : Type 0 where
  pub quadlets : plan.channels ≤ 256
  pub some : interval_of plan.rate ≤ 8 * plan.count
  pub size : plan.count * block_size plan.channels ≤ most_blocks

-- a packet of the plan's sample frames fits an Ethernet frame; for AM824, the other limits of `FitsBlocks` are kept too
abbrev pub FitsPacket : TalkKind → TalkPlan → Type 0
FitsPacket (Aaf format sparse) plan = plan.count * frame_size plan.channels format ≤ most_samples
FitsPacket Am824 plan = FitsBlocks plan
FitsPacket (H264 last_stamp) plan = ⊥

-- There is a restart after every `packets` packets, and each restart sets presentation times `jump` nanoseconds
-- forward. `packets` is at least 8: listeners rely on the restart bit to keep each value for at least 8 packets.
pub record IsRestart (packets jump : ℕ) : Type 0 where
  pub some : 8 ≤ packets
  pub most : packets ≤ 1000000000
  pub least_jump : 4 ≤ jump
  pub most_jump : jump ≤ 1000000000

-- the plan has no restarts, or restarts within the limits
abbrev pub Restarts : Option ℕ → ℕ → Type 0
Restarts None jump = ⊤
Restarts (Some packets) jump = IsRestart packets jump

-- ---- the media clock

-- How many sample frames a stream has from one point of the clock to the next. The sample frames between two points
-- take as long as `interval` events of the clock. The clock's frequency is its base frequency times the factor of its
-- pull (IEEE 1722-2016, 10). `rate` is the stream's sample rate.
unfoldable pub spacing_of : CrfPlan → ℕ → ℕ
spacing_of crf rate = crf.interval * rate * pull_down crf.pull / (crf.rate * pull_up crf.pull)

-- If there are restarts, a run has `packets` packets, and the time of these packets is a whole multiple of the time of
-- 8 clock packets.
abbrev pub HasWholeRuns : CrfPlan → ℕ → ℕ → Option ℕ → Type 0
HasWholeRuns crf rate count None = ⊤
HasWholeRuns crf rate count (Some packets) = packets * count % (8 * spacing_of crf rate * crf.points) ≡ 0

-- The limits of a clock. The clock stamps a stream with `rate` sample frames a second and `count` sample frames in a
-- packet. The stream restarts after every `restart` packets, or never if `restart` is `None`.
pub record IsClockPlan (crf : CrfPlan) (rate count : ℕ) (restart : Option ℕ) : Type 0 where
  pub id : crf.id < 2 ^ 64
  pub some_rate : 1 ≤ crf.rate
  pub most_rate : crf.rate ≤ 200000000
  pub pull : crf.pull ≤ 5
  pub some_interval : 1 ≤ crf.interval
  pub most_interval : crf.interval ≤ 65535
  pub some_points : 1 ≤ crf.points
  pub most_points : crf.points ≤ 180
  -- each point of the clock is at a sample frame
  pub whole : crf.interval * rate * pull_down crf.pull % (crf.rate * pull_up crf.pull) ≡ 0
  pub runs : HasWholeRuns crf rate count restart

-- the plan has no clock, or its clock fits the stream
abbrev pub HasClock : Option CrfPlan → ℕ → ℕ → Option ℕ → Type 0
HasClock None rate count restart = ⊤
HasClock (Some crf) rate count restart = IsClockPlan crf rate count restart

-- If there is a clock, the lead is at least 3 ns. The reason: a timestamp can be up to 2 ns earlier than its sample's
-- nominal instant, and the first sample of a packet can be due up to 3 ns earlier than its nominal instant.
abbrev pub IsAhead : Option CrfPlan → ℕ → Type 0
IsAhead None lead = ⊤
IsAhead (Some crf) lead = 3 ≤ lead

-- A plan of audio: AM824, or PCM in the AVTP audio format (sparse or not). An audio plan can have restarts, a media
-- clock, or both.
pub record IsAudioPlan (plan : TalkPlan) : Type 0 where
  pub kind : IsAudioKind plan.kind
  pub rate : HasRate plan.kind plan.rate
  pub some_channels : 1 ≤ plan.channels
  pub channels : plan.channels ≤ 1023
  pub some_count : 1 ≤ plan.count
  pub count : plan.count ≤ 1476
  pub fits : FitsPacket plan.kind plan
  pub started : pos 0 ≤ℤ plan.start
  pub start : plan.start ≤ℤ pos (4 * 10 ^ 18)
  pub some_lead : 1 ≤ plan.lead
  pub lead : plan.lead ≤ 1000000000
  pub restart : Restarts plan.restart plan.jump
  pub crf : HasClock plan.crf plan.rate plan.count plan.restart

-- ---- H.264

-- A plan of H.264 has 1 to 240 access units a second, no restarts and no media clock. The plan's channels and count
-- have no meaning.
pub record IsVideoPlan (plan : TalkPlan) : Type 0 where
  pub some_rate : 1 ≤ plan.rate
  pub rate : plan.rate ≤ 240
  pub started : pos 0 ≤ℤ plan.start
  pub start : plan.start ≤ℤ pos (4 * 10 ^ 18)
  pub some_lead : 1 ≤ plan.lead
  pub lead : plan.lead ≤ 1000000000
  pub restart : plan.restart ≡ None
  pub crf : plan.crf ≡ None

-- ---- all plans

-- a valid plan of this kind
abbrev pub IsPlanOf : TalkKind → TalkPlan → Type 0
IsPlanOf (Aaf format sparse) plan = IsAudioPlan plan
IsPlanOf Am824 plan = IsAudioPlan plan
IsPlanOf (H264 last_stamp) plan = IsVideoPlan plan

-- a valid plan, of any kind
abbrev pub IsPlan : TalkPlan → Type 0
IsPlan plan = IsPlanOf plan.kind plan

-- ---- listeners

-- The leads of a listener and of the plan differ by less than the time of 127 packets.
pub record IsNearLead (plan : TalkPlan) (lead : ℕ) : Type 0 where
  pub from : plan.lead * plan.rate < lead * plan.rate + 127 * (plan.count * 1000000000)
  pub to : lead * plan.rate < plan.lead * plan.rate + 127 * (plan.count * 1000000000)

-- What a stream of this kind demands of a listener's lead. If some packets of audio have no timestamp, the listener's
-- lead must be near the plan's lead. For other streams, any lead will do.
abbrev pub ExpectsBy : TalkKind → TalkPlan → ℕ → Type 0
ExpectsBy (Aaf format false) plan lead = ⊤
ExpectsBy (Aaf format true) plan lead = IsNearLead plan lead
ExpectsBy Am824 plan lead = plan.count < interval_of plan.rate → IsNearLead plan lead
ExpectsBy (H264 last_stamp) plan lead = ⊤

-- If an audio packet has no timestamp, a listener identifies it by its arrival time. If a plan has audio packets
-- without a timestamp, the listener's lead must be near the plan's lead. Any lead will do for three kinds of plans: PCM
-- that is not sparse, AM824 whose packets have at least SYT_INTERVAL data blocks, and H.264.
abbrev pub Expects : TalkPlan → ℕ → Type 0
Expects plan lead = ExpectsBy plan.kind plan lead

-- the maximum number of bytes in an input
abbrev pub most_input : ℕ
most_input = 268435456
