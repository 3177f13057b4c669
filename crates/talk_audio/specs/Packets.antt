-- The packets of audio, each with its samples.
use Rattle.std.specs.Prelude.{ℕ, ◌+◌, ◌*◌, ◌%◌, Bool, true, false, List, Option, Some, None, unwrap_or, if◌then◌else◌}
use Rattle.aaf_format.specs.declared.aaf.AafFormat.{AafFormat}
use Rattle.aaf_format.specs.Aaf.{Aaf as Packet, aaf_subtype, frame_size, width_of}
use Rattle.iec61883_format.specs.Iec.{Iec, block_size, iec_subtype}
use Rattle.stream_journal.specs.Conforming.{is_stamped}
use Rattle.stream_journal.specs.Journal.{Kind, DenseAaf, SparseAaf, Am824, rule_of}
use Rattle.time_unfold.specs.Heads.{stamped_index}
use Rattle.talk_plan.specs.declared.plan.TalkPlan.{TalkPlan}
use Rattle.talk_plan.specs.Stamps.{stamped_instant}
use Rattle.talk_plan.specs.Plan.{fdf_of, interval_of, rate_code}
use Rattle.talk_plan.specs.Headers.{header_of}
use Rattle.packet_journal.specs.Packets.{Pcm}
use Rattle.talk_plan.specs.Ethernet.{packet_bytes}

-- The instant in the timestamp of packet n. If a stream of this kind stamps a sample frame of the packet, the result is
-- the instant of that sample frame. If a stream of this kind stamps no sample frame of the packet, the packet has no
-- timestamp.
abbrev pub stamp_of : Kind → TalkPlan → ℕ → Option ℕ
stamp_of kind plan n =
    if is_stamped (rule_of kind n) n plan.count then Some (stamped_instant plan n (stamped_index (rule_of kind n))) else None

-- ---- PCM (IEEE 1722-2016, 7)

-- the kind of a stream of PCM: sparse (`true`) if one packet in eight is stamped, dense (`false`) if each packet is
-- stamped
abbrev pub kind_of : Bool → Kind
kind_of false = DenseAaf
kind_of true = SparseAaf

-- packet n of PCM, with the given samples
abbrev pub aaf_packet : AafFormat → Bool → TalkPlan → ℕ → List ℕ → Packet
aaf_packet format sparse plan n samples = record {
  header = header_of aaf_subtype (stamp_of (kind_of sparse) plan n) plan n (plan.count * frame_size plan.channels format);
  format = format;
  nsr = unwrap_or (rate_code plan.rate) 0;
  channels = plan.channels;
  depth = 8 * width_of format;
  sparse = sparse;
  evt = 0;
  count = plan.count;
  payload = samples;
  reserved = false;
}

-- ---- AM824 (IEC 61883-6, in AVTP by IEEE 1722-2016, 5)

-- the block count, modulo 256, of packet n's first data block; blocks are counted from 0, across all restarts
abbrev pub dbc_of : TalkPlan → ℕ → ℕ
dbc_of plan n = n * plan.count % 256

-- the kind of a stream of AM824: the SYT interval of the stream's rate decides which blocks are stamped, and blocks are
-- counted from 0
abbrev pub am824_kind : TalkPlan → Kind
am824_kind plan = Am824 (interval_of plan.rate) (λ n. dbc_of plan n)

-- packet n of AM824, with the given data blocks; the packet is not from an IEEE 1394 bus
abbrev pub iec_packet : TalkPlan → ℕ → List ℕ → Iec
iec_packet plan n blocks = record {
  header = header_of iec_subtype (stamp_of (am824_kind plan) plan n) plan n (8 + plan.count * block_size plan.channels);
  gateway_info = 0;
  channel = 31;
  tcode = 0xA;
  sy = 0;
  cip = record {
    sid = 63;
    dbs = plan.channels;
    dbc = dbc_of plan n;
    fdf = unwrap_or (fdf_of plan.rate) 0;
    syt = 0xFFFF;
  };
  count = plan.count;
  payload = blocks;
  reserved = false;
}

-- the bytes of the frame of packet n of PCM, with the given samples
abbrev pub aaf_bytes : AafFormat → Bool → TalkPlan → ℕ → List ℕ → List ℕ
aaf_bytes format sparse plan n samples = packet_bytes (Pcm (aaf_packet format sparse plan n samples))
