-- A stream of audio, as the code holds it: its plan, with the values that depend on the plan's format.
use Rattle.std.specs.Prelude.{Bool, false, ◌≡◌, ℕ, ℤ, ◌*◌, ◌<◌, ◌≤◌, List, [], length, take, drop, true, Some, None}
use Rattle.avtp_base.specs.Layout.{spelling}
use Rattle.aaf_format.specs.Aaf.{Aaf as Packet, aaf_layout}
use Rattle.iec61883_format.specs.Iec.{syt_interval}
use Rattle.pcap_frames.specs.Frame.{frame_layout}
use Rattle.talk_audio.specs.declared.am824.Am824Format.{Am824Format}
use Rattle.talk_audio.specs.declared.audio.AudioStream.{AudioStream}
use Rattle.talk_audio.specs.declared.audio.Format.{Format}
use Rattle.talk_audio.specs.declared.audio.Format.TheVariants.{Am824 as OfAm824, Pcm as OfPcm}
use Rattle.talk_audio.specs.declared.pcm.PcmFormat.{PcmFormat}
use Rattle.talk_plan.specs.declared.plan.TalkKind.TheVariants.{Aaf, Am824}
use Rattle.talk_plan.specs.declared.plan.TalkPlan.{TalkPlan}
use Rattle.talk_audio.specs.Audio.{Audio, am824, pcm}
use Rattle.talk_plan.specs.Ethernet.{ethernet}
use Rattle.talk_audio.specs.Journal.{packets_of as audio_packets}
use Rattle.talk_audio.specs.Packets.{aaf_packet}
use Rattle.talk_plan.specs.Places.{IsSentAt}
use Rattle.talk_plan.specs.Plan.{IsAudioPlan, fdf_of, most_input, rate_code}

-- `pcm` holds the sample format of a plan of PCM and the code of its sample rate, and says whether the plan is sparse
pub record IsPcm (pcm : PcmFormat) (plan : TalkPlan) : Type 0 where
  pub kind : plan.kind ≡ Aaf pcm.format pcm.sparse
  pub code : rate_code plan.rate ≡ Some pcm.code

-- `headers` is the Ethernet header of the frame of the PCM packet `v`, followed by the packet's own header
pub record HasHeaders (headers : List ℕ) (v : Packet) : Type 0 where
  pub frame : take 18 headers ≡ spelling (frame_layout true) (ethernet [])
  pub packet : drop 18 headers ≡ spelling aaf_layout v

-- each packet of a stream of PCM is stamped, and the stream's media clock never restarts
pub record IsSteady (sparse : Bool) (plan : TalkPlan) : Type 0 where
  pub dense : sparse ≡ false
  pub once : plan.restart ≡ None

-- `pcm` is the format of a plan of PCM, with the headers of packet 0's frame; the headers of all frames are made from
-- these headers
pub record IsPcmStream (pcm : PcmFormat) (plan : TalkPlan) : Type 0 where
  pub format : IsPcm pcm plan
  pub headers : HasHeaders pcm.headers (aaf_packet pcm.format pcm.sparse plan 0 [])
  pub steady : pcm.steady ≡ true → IsSteady pcm.sparse plan

-- `am824` is the format of a plan of AM824, with the code of its rate and the SYT interval
pub record IsAm824 (am824 : Am824Format) (plan : TalkPlan) : Type 0 where
  pub kind : plan.kind ≡ Am824
  pub code : fdf_of plan.rate ≡ Some am824.fdf
  pub interval : syt_interval am824.fdf ≡ Some am824.interval

-- the format, as the code holds it, is that of the plan
abbrev pub IsFormat : Format → TalkPlan → Type 0
IsFormat (OfPcm p) plan = IsPcmStream p plan
IsFormat (OfAm824 a) plan = IsAm824 a plan

-- the audio format of a plan, given the format as the code holds it
abbrev pub audio_in : Format → TalkPlan → Audio
audio_in (OfPcm p) plan = pcm p.format p.sparse plan
audio_in (OfAm824 a) plan = am824 plan

-- the audio format of a stream
abbrev pub audio_of : AudioStream → Audio
audio_of stream = audio_in stream.format stream.plan

-- how many bytes the samples of a packet have
abbrev pub samples_size : AudioStream → ℕ
samples_size stream = stream.plan.count * (audio_of stream).frame

-- a valid plan of audio, with its format and the size of a packet's samples
pub record IsAudio (stream : AudioStream) : Type 0 where
  pub plan : IsAudioPlan stream.plan
  pub format : IsFormat stream.format stream.plan
  pub size : stream.size ≡ samples_size stream
  pub fits : stream.size ≤ 1476

-- how many bytes the headers of a frame have: the tagged Ethernet header and the format's header
abbrev pub headers_by : Format → ℕ
headers_by (OfPcm p) = 42
headers_by (OfAm824 a) = 50

-- how many bytes the headers of each frame of a stream have
abbrev pub headers_of : AudioStream → ℕ
headers_of stream = headers_by stream.format

-- how many packets of the stream hold the input
abbrev pub packets_of : AudioStream → List ℕ → ℕ
packets_of stream input = audio_packets (audio_of stream) stream.plan input

-- packet n of a stream is sent at `arrival`
pub record IsSentOf (stream : AudioStream) (n : ℕ) (arrival : ℤ) : Type 0 where
  pub audio : IsAudio stream
  pub sent : IsSentAt stream.plan n arrival

-- The stream is a valid stream of audio. The input is not too long, and the stream has more than n packets.
pub record IsPacketOfInput (stream : AudioStream) (input : List ℕ) (n : ℕ) : Type 0 where
  pub audio : IsAudio stream
  pub limit : length input ≤ most_input
  pub known : n < packets_of stream input
