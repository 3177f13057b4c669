-- Only private functions and proofs use these definitions. The packets of a plan, each with its
-- samples.
use Rattle.std.specs.Prelude.{◌≡◌, ◌-◌, length, ℕ, ℤ, ◌+◌, ◌*◌, ◌≤◌, List, [], ◌∷◌, ◌++◌, take, drop}
use Rattle.avtp_base.specs.Octets.{flag}
use Rattle.avtp_header.specs.declared.header.StreamHeader.{StreamHeader}
use Rattle.byteorder.specs.Endian.{big_bytes}
use Rattle.aaf_format.specs.Aaf.{frame_size}
use Rattle.iec61883_format.specs.Iec.{block_size}
use Rattle.talk_audio.specs.declared.am824.Am824Format.{Am824Format}
use Rattle.talk_audio.specs.declared.pcm.PcmFormat.{PcmFormat}
use Rattle.talk_audio.specs.Streams.{IsAm824, IsPcm, IsPcmStream, IsSentOf, headers_of, samples_size}
use Rattle.talk_audio.specs.declared.audio.AudioStream.{AudioStream}
use Rattle.talk_plan.specs.declared.plan.TalkPlan.{TalkPlan}
use Rattle.talk_plan.specs.declared.plan.TalkKind.{TalkKind}
use Rattle.talk_plan.specs.Places.{IsPacketOf, IsSentAt}
use Rattle.talk_plan.specs.Plan.{IsAudioPlan}

-- the first four bytes of a packet with this header: its subtype, its flag bits, its sequence number, and whether its
-- timestamp is uncertain
abbrev pub front_of : StreamHeader → List ℕ
front_of header = header.subtype ∷ ((128 * flag header.sv + 8 * flag header.mr + flag header.tv) ∷ (header.seq ∷ (flag header.tu ∷ [])))

-- A header of 24 bytes with two changes: `part` is at offset `at`, within the first twelve bytes, and the timestamp is
-- `timestamp`.
abbrev pub patched : List ℕ → ℕ → List ℕ → ℕ → List ℕ
patched header at part timestamp =
    take at header ++ (part ++ (take (12 - (at + length part)) (drop (at + length part) header) ++ (big_bytes 4 timestamp ++ take 8 (drop 16 header))))

-- a valid plan of audio, whose kind is `kind`
pub record IsPlanWith (plan : TalkPlan) (kind : TalkKind) : Type 0 where
  pub valid : IsAudioPlan plan
  pub kind_is : plan.kind ≡ kind

-- Packet n of a plan of PCM is sent at `arrival`. `samples` has the length of a packet's samples, and `out` has the
-- length of a frame.
pub record IsPcmPacket (pcm : PcmFormat) (plan : TalkPlan) (n : ℕ) (arrival : ℤ) (samples out : List ℕ) : Type 0 where
  pub format : IsPcmStream pcm plan
  pub sent : IsSentAt plan n arrival
  pub whole : length samples ≡ plan.count * frame_size plan.channels pcm.format
  pub room : length out ≡ 42 + length samples

-- packet n of a plan of AM824
pub record IsAm824Packet (am824 : Am824Format) (plan : TalkPlan) (n : ℕ) : Type 0 where
  pub format : IsAm824 am824 plan
  pub packet : IsPacketOf plan n

-- `blocks` is as long as the data blocks of packet n of an AM824 plan, and `out` has the length of a frame
pub record IsBlockPacket (am824 : Am824Format) (plan : TalkPlan) (n : ℕ) (blocks out : List ℕ) : Type 0 where
  pub of_plan : IsAm824Packet am824 plan n
  pub whole : length blocks ≡ plan.count * block_size plan.channels
  pub room : length out ≡ 50 + length blocks

-- packet n of the stream is sent at `arrival`, and `out` has the length of a frame
pub record IsSentInto (stream : AudioStream) (n : ℕ) (arrival : ℤ) (out : List ℕ) : Type 0 where
  pub sent : IsSentOf stream n arrival
  pub room : length out ≡ headers_of stream + samples_size stream

-- packet n of the stream is sent at `arrival`; `samples` has the length of a packet's samples, and `out` has the length
-- of a frame
pub record TakesSamples (stream : AudioStream) (n : ℕ) (arrival : ℤ) (samples out : List ℕ) : Type 0 where
  pub frame : IsSentInto stream n arrival out
  pub whole : length samples ≡ samples_size stream

-- packet n of the stream is sent at `arrival`; `rest` is not longer than a packet's samples, and `out` has the length of
-- a frame
pub record TakesRest (stream : AudioStream) (n : ℕ) (arrival : ℤ) (rest out : List ℕ) : Type 0 where
  pub frame : IsSentInto stream n arrival out
  pub part : length rest ≤ samples_size stream

-- `pcm` holds the sample format of a valid plan of PCM
pub record IsPcmOf (pcm : PcmFormat) (plan : TalkPlan) : Type 0 where
  pub valid : IsAudioPlan plan
  pub format : IsPcm pcm plan

-- `size` bytes at offset `at` of a packet's header are within its first twelve bytes; `headers` has the length of both
-- headers of a frame, and `out` has the length of a frame with these samples
pub record CanPatch (headers : List ℕ) (at size : ℕ) (samples out : List ℕ) : Type 0 where
  pub room : length out ≡ 42 + length samples
  pub whole : length headers ≡ 42
  pub within : at + size ≤ 12
