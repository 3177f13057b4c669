-- The packets of a journal, as they are sent.
use Rattle.std.specs.Prelude.{◌≡◌, ℕ, ◌*◌, ◌%◌, ◌^◌, ◌<◌, Bool, true, false, ℤ, pos, ◌+ℤ◌, List, length, get_or, Some, is_some, IfSome}
use Rattle.avtp_base.specs.Layout.{Fits}
use Rattle.avtp_header.specs.declared.header.StreamHeader.{StreamHeader}
use Rattle.aaf_format.specs.Aaf.{Aaf, IsWritableAaf, aaf_layout, aaf_spelling, rate_of}
use Rattle.iec61883_format.specs.Iec.{Iec, IsWritableIec, iec_layout, iec_spelling, rate_of_fdf, syt_interval}
use Rattle.cvf_format.specs.declared.cvf.NalPart.{NalPart}
use Rattle.cvf_format.specs.declared.cvf.NalPart.TheVariants.{Single as SingleNal, First as FirstNal, Middle as MiddleNal, Last as LastNal}
use Rattle.cvf_format.specs.Cvf.{Cvf, IsWritableCvf, cvf_spelling, layout_of}
use Rattle.crf_format.specs.Crf.{Crf, IsWritableCrf, crf_layout, point_at}
use Rattle.stream_journal.specs.Clocks.{ClockJournal}
use Rattle.stream_journal.specs.Conforming.{Conforms}
use Rattle.stream_journal.specs.Journal.{Journal, Kind, DenseAaf, SparseAaf, Am824, H264, Part, Single, First, Middle, Last}

-- A packet of a stream, as a view of its format: AAF, IEC 61883-6 or H.264.
pub data PacketView : Type 0 where
  Pcm : Aaf → PacketView
  Am824Data : Iec → PacketView
  H264Data : Cvf → PacketView

-- A talker's stream and its clock, with the packets that the talker sent. `times` is the journal of the packets' times.
pub record PacketJournal : Type 0 where
  pub times : Journal
  pub stream : ℕ
  pub packet : ℕ → PacketView
  pub clock : ℕ
  pub clock_packet : ℕ → Crf

-- ---- which packets belong to which times

-- The header of packet n of a stream (IEEE 1722-2016, 4.4.4). The header has the low 8 bits of the packet's number, and
-- the low 32 bits of the packet's timestamp if there is one. The bit `tu` is 0, and the restart bit is the one in the
-- journal.
pub record IsHeader (j : Journal) (stream n : ℕ) (h : StreamHeader) : Type 0 where
  pub valid_id : h.sv ≡ true
  pub id : h.stream_id ≡ stream
  pub seq : h.seq ≡ n % 256
  pub mr : h.mr ≡ j.mr n
  pub stamped : h.tv ≡ is_some (j.stamp n)
  pub timestamp : IfSome (j.stamp n) (λ instant. h.timestamp ≡ instant % 2 ^ 32)
  pub certain : h.tu ≡ false

-- packet n of an AAF stream (IEEE 1722-2016, 7)
pub record IsAafPacket (j : Journal) (mode : Bool) (stream n : ℕ) (v : Aaf) : Type 0 where
  pub writable : IsWritableAaf v
  pub fits : Fits aaf_layout v
  pub header : IsHeader j stream n v.header
  pub sparse : v.sparse ≡ mode
  pub rate : rate_of v.nsr ≡ Some j.rate
  pub count : v.count ≡ j.count

-- packet n of an IEC 61883-6 stream; its first block has the block count `dbc`
pub record IsIecPacket (j : Journal) (interval dbc stream n : ℕ) (v : Iec) : Type 0 where
  pub writable : IsWritableIec v
  pub fits : Fits iec_layout v
  pub header : IsHeader j stream n v.header
  pub rate : rate_of_fdf v.cip.fdf ≡ Some j.rate
  pub interval_is : syt_interval v.cip.fdf ≡ Some interval
  pub block : v.cip.dbc ≡ dbc
  pub count : v.count ≡ j.count

-- the part of a NAL unit that a packet of H.264 carries
abbrev pub part_of : NalPart → Part
part_of SingleNal = Single
part_of FirstNal = First
part_of MiddleNal = Middle
part_of LastNal = Last

-- packet n of an H.264 stream (IEEE 1722-2016, 8)
pub record IsCvfPacket (j : Journal) (part : Part) (stream n : ℕ) (v : Cvf) : Type 0 where
  pub writable : IsWritableCvf v
  pub fits : Fits (layout_of v.part) v
  pub header : IsHeader j stream n v.header
  pub part_is : part_of v.part ≡ part

-- packet n of a stream of this kind
abbrev pub IsPacket : Kind → Journal → ℕ → ℕ → PacketView → Type 0
IsPacket DenseAaf j stream n (Pcm v) = IsAafPacket j false stream n v
IsPacket DenseAaf j stream n (Am824Data v) = ⊥
IsPacket DenseAaf j stream n (H264Data v) = ⊥
IsPacket SparseAaf j stream n (Pcm v) = IsAafPacket j true stream n v
IsPacket SparseAaf j stream n (Am824Data v) = ⊥
IsPacket SparseAaf j stream n (H264Data v) = ⊥
IsPacket (Am824 interval dbc) j stream n (Pcm v) = ⊥
IsPacket (Am824 interval dbc) j stream n (Am824Data v) = IsIecPacket j interval (dbc n) stream n v
IsPacket (Am824 interval dbc) j stream n (H264Data v) = ⊥
IsPacket (H264 part) j stream n (Pcm v) = ⊥
IsPacket (H264 part) j stream n (Am824Data v) = ⊥
IsPacket (H264 part) j stream n (H264Data v) = IsCvfPacket j (part n) stream n v

-- the type of CRF packets whose events are audio samples (IEEE 1722-2016, 10)
abbrev pub audio_sample_type : ℕ
audio_sample_type = 1

-- Packet m of a clock (IEEE 1722-2016, 10). The packet has the type for audio samples, and its bit `tu` is 0. The
-- packet's base frequency, pull, interval and restart bit are those in the clock's journal. The packet's timestamps
-- plus `shift` are the journal's points.
pub record IsClockPacket (c : ClockJournal) (shift : ℤ) (id m : ℕ) (v : Crf) : Type 0 where
  pub writable : IsWritableCrf v
  pub fits : Fits crf_layout v
  pub valid_id : v.sv ≡ true
  pub id_is : v.stream_id ≡ id
  pub seq : v.seq ≡ m % 256
  pub mr : v.mr ≡ c.mr m
  pub certain : v.tu ≡ false
  pub kind : v.kind ≡ audio_sample_type
  pub base : v.base_frequency ≡ c.base
  pub pull : v.pull ≡ c.pull
  pub interval : v.interval ≡ c.interval
  pub size : length v.payload ≡ 8 * length (c.points m)
  pub points : (i : ℕ) → i < length (c.points m) → pos (get_or (c.points m) i 0) ≡ pos (point_at i v.payload) +ℤ shift

-- The talker keeps the rules: the journal of its times conforms, and its packets have these times. `shift` is what
-- listeners add to the clock's timestamps.
pub record IsConforming (shift : ℤ) (p : PacketJournal) : Type 0 where
  pub times : Conforms p.times
  pub packets : (n : ℕ) → n < p.times.packets → IsPacket p.times.kind p.times p.stream n (p.packet n)
  pub clock_packets : (m : ℕ) → m < p.times.clock.packets → IsClockPacket p.times.clock shift p.clock m (p.clock_packet m)

-- ---- bytes

-- the canonical encoding of a packet, with every reserved bit 0
abbrev pub spelling_of : PacketView → List ℕ
spelling_of (Pcm v) = aaf_spelling v
spelling_of (Am824Data v) = iec_spelling v
spelling_of (H264Data v) = cvf_spelling v

-- what a packet carries: audio samples, or bytes of a NAL unit after the unit's first byte
abbrev pub carried : PacketView → List ℕ
carried (Pcm v) = v.payload
carried (Am824Data v) = v.payload
carried (H264Data v) = v.body
