-- The streams of plans, and their journals.
use Rattle.std.specs.Prelude.{ℕ, Bool, false, List, Option, Some, None}
use Rattle.packet_journal.specs.Packets.{PacketJournal}
use Rattle.talk_plan.specs.declared.plan.TalkKind.{TalkKind}
use Rattle.talk_plan.specs.declared.plan.TalkKind.TheVariants.{Aaf, Am824, H264}
use Rattle.talk_plan.specs.declared.plan.TalkPlan.{TalkPlan}
use Rattle.talk_audio.specs.Audio.{Audio, audio_by}
use Rattle.talk_clock.specs.Clock.{clock_arrival_by}
use Rattle.talk_plan.specs.Timing.{arrival_of}
use Rattle.talk_video.specs.Units.{sent_units}
use Rattle.talk_video.specs.Video.{video_arrival, video_journal}
use Rattle.talk_audio.specs.Journal.{audio_journal}

-- ---- streams

-- A stream as it is sent: the journal of its packets and of its clock, and when each packet of the stream and of the
-- clock is sent.
pub record Stream : Type 0 where
  pub journal : PacketJournal
  pub arrival : ℕ → ℕ
  pub clock_arrival : ℕ → ℕ

-- ---- H.264

-- the stream of a plan of H.264, with the time at which each packet is sent
abbrev pub video_stream : Bool → TalkPlan → List ℕ → List (ℕ × ℕ) → Stream
video_stream last_stamp plan input units = record {
  journal = video_journal last_stamp plan input units;
  arrival = λ n. video_arrival plan input units n;
  clock_arrival = λ m. clock_arrival_by plan.crf plan m;
}

-- a plan of this kind stamps only the last fragment of each NAL unit; this is possible only for H.264
abbrev pub stamps_last : TalkKind → Bool
stamps_last (Aaf format sparse) = false
stamps_last Am824 = false
stamps_last (H264 last_stamp) = last_stamp

-- ---- all streams

-- the stream of a plan and its input: audio if there is an audio format, else H.264
abbrev pub stream_by : Option Audio → TalkPlan → List ℕ → Stream
stream_by (Some audio) plan input = record {
  journal = audio_journal audio plan input;
  arrival = λ n. arrival_of plan n;
  clock_arrival = λ m. clock_arrival_by plan.crf plan m;
}
stream_by None plan input = video_stream (stamps_last plan.kind) plan input (sent_units input)

-- the stream of a plan and its input
abbrev pub stream_of : TalkPlan → List ℕ → Stream
stream_of plan input = stream_by (audio_by plan.kind plan) plan input

-- the journal of a plan and its input: the packets of its stream and of its clock, with their times
abbrev pub journal : TalkPlan → List ℕ → PacketJournal
journal plan input = (stream_of plan input).journal
