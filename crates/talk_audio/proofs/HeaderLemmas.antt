-- The headers of packets of audio, and how long their frames are.
use Rattle.std.proofs.Common.{◌≡◌, ℕ, refl, arith, ◌+◌, length}
use Rattle.avtp_base.specs.Layout.{spelling}
use Rattle.stream_journal.specs.Journal.{Kind}
use Rattle.packet_journal.specs.Packets.{IsHeader, Pcm, Am824Data}
use Rattle.talk_plan.specs.declared.plan.TalkPlan.{TalkPlan}
use Rattle.talk_audio.specs.Journal.{audio_times}
use Rattle.talk_plan.specs.Headers.{header_of}
use Rattle.talk_audio.specs.Packets.{stamp_of}
use Rattle.talk_plan.proofs.HeaderLemmas.{stamped_at, bytes_size}
use Rattle.std.proofs.lemmas.List.{length-append}
use Rattle.aaf_format.specs.Aaf.{Aaf, aaf_layout}
use Rattle.iec61883_format.specs.Iec.{Iec, iec_layout}
use Rattle.talk_plan.specs.Ethernet.{packet_bytes}
use Rattle.avtp_base.proofs.OnlySpelling.{length-spelling}

-- the header of packet n agrees with the journal
pub header_is : (kind : Kind) (plan : TalkPlan) (packets subtype n length : ℕ)
    → IsHeader (audio_times kind plan packets) plan.id n (header_of subtype (stamp_of kind plan n) plan n length)
header_is kind plan packets subtype n length = record {
  valid_id = refl;
  id = refl;
  seq = refl;
  mr = refl;
  stamped = refl;
  timestamp = stamped_at (stamp_of kind plan n);
  certain = refl;
}

pub aaf_size : (v : Aaf) → length (packet_bytes (Pcm v)) ≡ 42 + length v.payload
aaf_size v =
    let header = length-spelling aaf_layout v in
    let whole = length-append (spelling aaf_layout v) v.payload in
    omega (arith, bytes_size (Pcm v))

pub iec_size : (v : Iec) → length (packet_bytes (Am824Data v)) ≡ 50 + length v.payload
iec_size v =
    let header = length-spelling iec_layout v in
    let whole = length-append (spelling iec_layout v) v.payload in
    omega (arith, bytes_size (Am824Data v))
