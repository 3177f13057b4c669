-- A copy is read as the packet that was sent.
use Rattle.std.proofs.Common.{ℕ, ℤ, List, ◌++◌}
use Rattle.avtp_base.specs.Layout.{Fits}
use Rattle.aaf_format.specs.Aaf.{Aaf, IsWritableAaf, SpellsAaf, aaf_layout, aaf_spelling, plain_aaf}
use Rattle.aaf_format.proofs.AafLemmas.{aaf_again}
use Rattle.iec61883_format.specs.Iec.{Iec, IsWritableIec, SpellsIec, iec_layout, iec_spelling, plain_iec}
use Rattle.iec61883_format.proofs.IecLemmas.{iec_again}
use Rattle.cvf_format.specs.Cvf.{Cvf, IsWritableCvf, SpellsCvf, cvf_spelling, layout_of, plain_cvf}
use Rattle.crf_format.specs.Crf.{Crf, IsWritableCrf, SpellsCrf, crf_layout, crf_spelling, plain_crf}
use Rattle.crf_format.proofs.CrfLemmas.{crf_again}
use Rattle.stream_journal.specs.Journal.{Journal, Kind, DenseAaf, SparseAaf, Am824, H264}
use Rattle.packet_journal.specs.Deliveries.{Delivery}
use Rattle.packet_journal.specs.Packets.{IsConforming, IsPacket, PacketJournal, PacketView, Pcm, Am824Data, H264Data, spelling_of}
use Rattle.packet_journal.specs.Delivered.{IsClockCopyOf, IsCopyOf, Spells}
use Rattle.packet_journal.specs.Laws.{IsClockReadAs, IsReadAs}

-- what `cvf_format::laws::packet_again` states: if bytes are written for a packet, the bytes spell the packet
abbrev pub CvfAgain : Type 0
CvfAgain = (v : Cvf) (trail : List ℕ) → IsWritableCvf v → Fits (layout_of v.part) v → SpellsCvf (cvf_spelling v ++ trail) (plain_cvf v)

aaf_read : (v : Aaf) (bytes : List ℕ) → IsWritableAaf v → Fits aaf_layout v → Spells (aaf_spelling v) bytes → SpellsAaf bytes (plain_aaf v)
aaf_read v bytes writable fits s = rw s.whole (aaf_again v s.trail writable fits)

iec_read : (v : Iec) (bytes : List ℕ) → IsWritableIec v → Fits iec_layout v → Spells (iec_spelling v) bytes → SpellsIec bytes (plain_iec v)
iec_read v bytes writable fits s = rw s.whole (iec_again v s.trail writable fits)

cvf_read : CvfAgain → (v : Cvf) (bytes : List ℕ) → IsWritableCvf v → Fits (layout_of v.part) v → Spells (cvf_spelling v) bytes → SpellsCvf bytes (plain_cvf v)
cvf_read again v bytes writable fits s = rw s.whole (again v s.trail writable fits)

pub crf_read : (v : Crf) (bytes : List ℕ) → IsWritableCrf v → Fits crf_layout v → Spells (crf_spelling v) bytes → SpellsCrf bytes (plain_crf v)
crf_read v bytes writable fits s = rw s.whole (crf_again v s.trail writable fits)

pub packet_read : CvfAgain → (kind : Kind) (j : Journal) (stream n : ℕ) (view : PacketView) (bytes : List ℕ) → IsPacket kind j stream n view → Spells (spelling_of view) bytes → IsReadAs view bytes
packet_read again DenseAaf j stream n (Pcm v) bytes is s = aaf_read v bytes is.writable is.fits s
packet_read again DenseAaf j stream n (Am824Data v) bytes is s = absurd is
packet_read again DenseAaf j stream n (H264Data v) bytes is s = absurd is
packet_read again SparseAaf j stream n (Pcm v) bytes is s = aaf_read v bytes is.writable is.fits s
packet_read again SparseAaf j stream n (Am824Data v) bytes is s = absurd is
packet_read again SparseAaf j stream n (H264Data v) bytes is s = absurd is
packet_read again (Am824 interval dbc) j stream n (Pcm v) bytes is s = absurd is
packet_read again (Am824 interval dbc) j stream n (Am824Data v) bytes is s = iec_read v bytes is.writable is.fits s
packet_read again (Am824 interval dbc) j stream n (H264Data v) bytes is s = absurd is
packet_read again (H264 part) j stream n (Pcm v) bytes is s = absurd is
packet_read again (H264 part) j stream n (Am824Data v) bytes is s = absurd is
packet_read again (H264 part) j stream n (H264Data v) bytes is s = cvf_read again v bytes is.writable is.fits s

pub copy_read : CvfAgain → (shift : ℤ) (p : PacketJournal) (lead n : ℕ) (d : Delivery) → IsConforming shift p → IsCopyOf p lead n d → IsReadAs (p.packet n) d.packet
copy_read again shift p lead n d is copy =
    packet_read again p.times.kind p.times p.stream n (p.packet n) d.packet (is.packets n copy.delivered.known) copy.spelled

pub clock_copy_read : (shift : ℤ) (p : PacketJournal) (m : ℕ) (d : Delivery) → IsConforming shift p → IsClockCopyOf p m d → IsClockReadAs (p.clock_packet m) d.packet
clock_copy_read shift p m d is copy =
    let packet = is.clock_packets m copy.known in
    crf_read (p.clock_packet m) d.packet packet.writable packet.fits copy.spelled
