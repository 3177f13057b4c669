-- What a gateway reads from a record.
use Rattle.std.specs.Prelude.{ℕ, ◌==◌, Bool, true, false, ◌&&◌, ◌||◌, if◌then◌else◌, List, Option, Some, None}
use Rattle.avtp_base.specs.declared.refusal.Refusal.{Refusal}
use Rattle.aaf_format.specs.declared.aaf.AafFormat.{AafFormat}
use Rattle.aaf_format.specs.declared.aaf.AafFormat.TheVariants.{Float32, Int32, Int24, Int16}
use Rattle.aaf_format.specs.Aaf.{Aaf, aaf_of, aaf_refusal, aaf_subtype, rate_of}
use Rattle.iec61883_format.specs.Iec.{Iec, iec_of, iec_refusal, rate_of_fdf}
use Rattle.cvf_format.specs.Cvf.{cvf_subtype}
use Rattle.packet_journal.specs.Deliveries.{belongs, stream_kinds}
use Rattle.listener.specs.Streams.{PacketOfStream, stream_packet}
use Rattle.am824_gateway.specs.declared.content.Content.{Content}
use Rattle.am824_gateway.specs.declared.content.Content.TheVariants.{Silent, Video, Audio}
use Rattle.am824_gateway.specs.declared.content.Samples.{Samples}
use Rattle.am824_gateway.specs.declared.scan.To.TheVariants.{Aaf as ToAaf, Am824 as ToAm824}
use Rattle.am824_gateway.specs.Labels.{are_linear}

-- the samples are integers of 24 bits
abbrev pub has_24_bits : AafFormat → Bool
has_24_bits Float32 = false
has_24_bits Int32 = false
has_24_bits Int24 = true
has_24_bits Int16 = false

-- PCM of this rate. The bit depth says how many bits of each sample are used; 0 means all bits (IEEE 1722-2016, 7).
abbrev pub pcm : Aaf → ℕ → Samples
pcm v rate = record {
  format = ToAaf;
  whole = has_24_bits v.format && (v.depth == 0 || v.depth == 24);
  rate = rate;
  channels = v.channels;
  linear = true;
}

-- AM824 of this rate: a data block has one quadlet for each channel
abbrev pub am824 : Iec → ℕ → Samples
am824 v rate = record {
  format = ToAm824;
  whole = true;
  rate = rate;
  channels = v.cip.dbs;
  linear = are_linear v.payload;
}

-- The content of a packet with `count` samples at this rate. If there are no samples or the rate is unknown, the packet
-- is never presented, and its content is `Silent`.
abbrev pub samples_or_silent : ℕ → Option ℕ → (ℕ → Samples) → Content
samples_or_silent count None samples = Silent
samples_or_silent count (Some rate) samples = if count == 0 then Silent else Audio (samples rate)

-- the samples of a PCM packet; `Silent` if the AAF reader refuses the packet, or if the packet has no samples or an
-- unknown rate
abbrev pub pcm_content : Option Refusal → Aaf → Content
pcm_content None v = samples_or_silent v.count (rate_of v.nsr) (pcm v)
pcm_content (Some refusal) v = Silent

-- the samples of an IEC 61883-6 packet; `Silent` if the IEC 61883 reader refuses the packet, or if the packet has no
-- samples or an unknown rate
abbrev pub am824_content : Option Refusal → Iec → Content
am824_content None v = samples_or_silent v.count (rate_of_fdf v.cip.fdf) (am824 v)
am824_content (Some refusal) v = Silent

-- the content of a packet; a packet of H.264 is `Video`, and is not read any further
abbrev pub packet_content : PacketOfStream → Content
packet_content p =
    if p.subtype == cvf_subtype then Video
    else if p.subtype == aaf_subtype then pcm_content (aaf_refusal p.bytes) (aaf_of p.bytes)
    else am824_content (iec_refusal p.bytes) (iec_of p.bytes)

-- the content of a record's bytes for the stream with this ID; `Silent` if the record has no packet of the stream
abbrev pub content : ℕ → List ℕ → Content
content stream bytes = if belongs stream_kinds stream bytes then packet_content (stream_packet bytes) else Silent
