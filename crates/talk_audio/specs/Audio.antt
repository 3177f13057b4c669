-- What is specific to each audio format in a stream.
use Rattle.std.specs.Prelude.{ℕ, ◌*◌, Bool, List, flat_map, replicate, Option, Some, None}
use Rattle.byteorder.specs.Endian.{big_bytes}
use Rattle.aaf_format.specs.declared.aaf.AafFormat.{AafFormat}
use Rattle.aaf_format.specs.Aaf.{frame_size}
use Rattle.iec61883_format.specs.Iec.{block_size}
use Rattle.stream_journal.specs.Journal.{Kind}
use Rattle.packet_journal.specs.Packets.{PacketView, Pcm, Am824Data}
use Rattle.talk_plan.specs.declared.plan.TalkKind.{TalkKind}
use Rattle.talk_plan.specs.declared.plan.TalkKind.TheVariants.{Aaf, Am824, H264}
use Rattle.talk_plan.specs.declared.plan.TalkPlan.{TalkPlan}
use Rattle.talk_audio.specs.Packets.{aaf_packet, am824_kind, iec_packet, kind_of}

-- what an audio format defines: how its packets are stamped, the size of a sample frame, a packet of silence, and
-- packet n with given samples
pub record Audio : Type 0 where
  -- how the format's packets are stamped
  pub kind : Kind
  -- the number of bytes in a sample frame
  pub frame : ℕ
  -- the samples of a packet of silence; the last packet is filled up from them
  pub silence : List ℕ
  -- packet n, with the given samples
  pub packet : ℕ → List ℕ → PacketView

-- the given number of quadlets of silence; each has the label of linear audio of 24 bits, and the value 0 (IEC 61883-6)
unfoldable pub silent_quadlets : ℕ → List ℕ
silent_quadlets quadlets = flat_map (big_bytes 4) (replicate quadlets 0x40000000)

-- PCM in AAF (IEEE 1722-2016, 7): silence is zero bytes
abbrev pub pcm : AafFormat → Bool → TalkPlan → Audio
pcm format sparse plan = record {
  kind = kind_of sparse;
  frame = frame_size plan.channels format;
  silence = replicate (plan.count * frame_size plan.channels format) 0;
  packet = λ n samples. Pcm (aaf_packet format sparse plan n samples);
}

-- AM824: a sample frame is a data block with one quadlet for each channel; each quadlet of silence is 40 00 00 00
abbrev pub am824 : TalkPlan → Audio
am824 plan = record {
  kind = am824_kind plan;
  frame = block_size plan.channels;
  silence = silent_quadlets (plan.count * plan.channels);
  packet = λ n blocks. Am824Data (iec_packet plan n blocks);
}

-- the audio format of a plan, if the plan is a plan of audio
abbrev pub audio_by : TalkKind → TalkPlan → Option Audio
audio_by (Aaf format sparse) plan = Some (pcm format sparse plan)
audio_by Am824 plan = Some (am824 plan)
audio_by (H264 last_stamp) plan = None
