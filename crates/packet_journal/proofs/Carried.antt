-- If a record carries a packet, the record belongs to the stream, and the record's delivery is a copy of the packet.
use Rattle.std.proofs.Common.{◌≡◌, ℕ, ◌+◌, ◌≤◌, true, false, ℤ, List, [], ◌∷◌, length, map, filter, Option, None, is_none, refl, sym, ap, ◌∙◌, eq-eqb, arith}
use Rattle.std.specs.Prelude.{Bool, nat_le, nat_lt, ◌==◌, if◌then◌else◌}
use Rattle.std.specs.List.{enumerate_from, list_any}
use Rattle.std.proofs.lemmas.Bool.Decides.{nat_tests}
use Rattle.avtp_base.specs.Octets.{bits, flag, is_set}
use Rattle.avtp_base.specs.Layout.{first_short, short_row}
use Rattle.avtp_base.specs.Rows.{first_row, or_else}
use Rattle.avtp_base.proofs.RowLemmas.{or_else-none, rows_passed}
use Rattle.pcap_frames.specs.Capture.{Record}
use Rattle.pcap_frames.specs.Frame.{Frame, IsWritableFrame, frame_of, frame_refusal, frame_spelling, plain_frame}
use Rattle.pcap_frames.proofs.FrameLemmas.{frame_again, one_frame}
use Rattle.avtp_header.specs.Header.{header_layout, kind_refusal, subtype_row, version_row}
use Rattle.avtp_header.specs.declared.header.StreamHeader.{StreamHeader}
use Rattle.aaf_format.specs.Aaf.{Aaf, IsWritableAaf, SpellsAaf, aaf_subtype, length_rows, plain_aaf, sample_rows}
use Rattle.iec61883_format.specs.Iec.{Iec, IsWritableIec, SpellsIec, carrier_rows, cip_refusal, iec_subtype, plain_iec}
use Rattle.cvf_format.specs.Cvf.{Cvf, IsWritableCvf, SpellsCvf, cvf_subtype, format_rows, nal_rows, plain_cvf}
use Rattle.crf_format.specs.Crf.{Crf, SpellsCrf, clock_rows, crf_layout, crf_subtype, plain_crf, shared_rows}
use Rattle.stream_journal.specs.Clocks.{ClockJournal}
use Rattle.stream_journal.specs.Journal.{Journal, Kind, DenseAaf, SparseAaf, Am824, H264}
use Rattle.stream_journal.specs.Delivered.{AreNear}
use Rattle.packet_journal.specs.Deliveries.{Delivery, avtp_ethertype, belongs, clock_kinds, delivery, is_delivered, packet_in, stream_kinds}
use Rattle.packet_journal.specs.Packets.{IsClockPacket, IsConforming, IsHeader, IsPacket, PacketJournal, PacketView, Pcm, Am824Data, H264Data}
use Rattle.packet_journal.specs.Delivered.{AreFrom, Delivers, IsClockCopyOf, IsCopyOf, OfClock, OfStream, Origin, stream_numbers}
use Rattle.packet_journal.specs.Carried.{AllCarry, AllCarryFrom, Carries, CarriesClock}
use Rattle.packet_journal.specs.Laws.{IsReadAs}
use Rattle.packet_journal.proofs.Copies.{CvfAgain, crf_read, packet_read}

-- ---- the packet of a frame

record IsFrame (bytes payload : List ℕ) : Type 0 where
  accepted : frame_refusal bytes ≡ None
  ethertype : (frame_of bytes).ethertype ≡ avtp_ethertype
  payload_is : packet_in bytes ≡ payload

frame_by : (frame : Frame) (bytes : List ℕ) → IsWritableFrame frame → bytes ≡ frame_spelling frame → frame.ethertype ≡ avtp_ethertype → IsFrame bytes frame.payload
frame_by frame bytes writable spelled avtp =
    let again = frame_again frame writable in
    let same : plain_frame frame ≡ frame_of (frame_spelling frame) = one_frame (frame_spelling frame) (plain_frame frame) again in
    rw spelled (record {
      accepted = again.accepted;
      ethertype = sym (ap (λ (f : Frame). f.ethertype) same) ∙ avtp;
      payload_is = sym (ap (λ (f : Frame). f.payload) same);
    })

frame_is : (p : PacketJournal) (lead n : ℕ) (r : Record) (c : Carries p lead n r) → IsFrame r.bytes c.frame.payload
frame_is p lead n r c = frame_by c.frame r.bytes c.writable c.bytes c.avtp

clock_frame_is : (p : PacketJournal) (m : ℕ) (r : Record) (c : CarriesClock p m r) → IsFrame r.bytes c.frame.payload
clock_frame_is p m r c = frame_by c.frame r.bytes c.writable c.bytes c.avtp

-- ---- a packet belongs to its stream

kind_long : (subtype : ℕ) (bytes : List ℕ) → kind_refusal subtype bytes ≡ None → 12 ≤ length bytes
kind_long subtype bytes accepted =
    let start = or_else-none (first_short header_layout (length bytes)) (first_row (subtype_row subtype bytes ∷ version_row bytes ∷ [])) accepted in
    let within = rows_passed (map (short_row (length bytes)) header_layout) start.0 in
    let short : nat_lt (length bytes) 12 ≡ false = within.1.1.1.1.0 in
    grind (arith, nat_tests)

-- the bytes have this subtype and a valid stream ID, which is `stream`
record IsOfStream (subtype stream : ℕ) (bytes : List ℕ) : Type 0 where
  long : 12 ≤ length bytes
  kind : bits 0 0 8 bytes ≡ subtype
  valid : is_set 1 0 bytes ≡ true
  id : bits 4 0 64 bytes ≡ stream

-- if bytes have the header of a packet of the stream, they have the stream's subtype and its stream ID
of_stream : (j : Journal) (subtype stream n : ℕ) (h : StreamHeader) (bytes : List ℕ) → kind_refusal subtype bytes ≡ None → IsHeader j stream n h → h.subtype ≡ subtype
    → bits 0 0 8 bytes ≡ h.subtype → bits 1 0 1 bytes ≡ flag h.sv → bits 4 0 64 bytes ≡ h.stream_id → IsOfStream subtype stream bytes
of_stream j subtype stream n h bytes accepted is kind a b c = record {
  long = kind_long subtype bytes accepted;
  kind = a ∙ kind;
  valid = rw (b, is.valid_id) refl;
  id = c ∙ is.id;
}

aaf_of_stream : (j : Journal) (stream n : ℕ) (v : Aaf) (bytes : List ℕ) → IsWritableAaf v → IsHeader j stream n v.header → SpellsAaf bytes (plain_aaf v) → IsOfStream aaf_subtype stream bytes
aaf_of_stream j stream n v bytes writable is s =
    let kind = or_else-none (kind_refusal aaf_subtype bytes) (or_else (first_row (sample_rows bytes)) (first_row (length_rows bytes))) s.accepted in
    let f = s.fields in
    of_stream j aaf_subtype stream n v.header bytes kind.0 is writable.subtype f.0.0 f.1.0.0 f.1.1.1.1.0.0

iec_of_stream : (j : Journal) (stream n : ℕ) (v : Iec) (bytes : List ℕ) → IsWritableIec v → IsHeader j stream n v.header → SpellsIec bytes (plain_iec v) → IsOfStream iec_subtype stream bytes
iec_of_stream j stream n v bytes writable is s =
    let kind = or_else-none (kind_refusal iec_subtype bytes) (or_else (first_row (carrier_rows bytes)) (cip_refusal bytes)) s.accepted in
    let f = s.fields in
    of_stream j iec_subtype stream n v.header bytes kind.0 is writable.subtype f.0.0 f.1.0.0 f.1.1.1.1.0.0

cvf_of_stream : (j : Journal) (stream n : ℕ) (v : Cvf) (bytes : List ℕ) → IsWritableCvf v → IsHeader j stream n v.header → SpellsCvf bytes (plain_cvf v) → IsOfStream cvf_subtype stream bytes
cvf_of_stream j stream n v bytes writable is s =
    let kind = or_else-none (kind_refusal cvf_subtype bytes) (or_else (first_row (format_rows bytes)) (first_row (nal_rows bytes))) s.accepted in
    let f = s.fields in
    of_stream j cvf_subtype stream n v.header bytes kind.0 is writable.subtype f.0.0 f.1.0.0 f.1.1.1.1.0.0

-- the subtype of a stream's packets
abbrev subtype_of : Kind → ℕ
subtype_of DenseAaf = aaf_subtype
subtype_of SparseAaf = aaf_subtype
subtype_of (Am824 interval dbc) = iec_subtype
subtype_of (H264 part) = cvf_subtype

-- the subtype of each kind of stream is one that listeners read
is_read : (kind : Kind) → list_any (λ (k : ℕ). subtype_of kind == k) stream_kinds ≡ true
is_read DenseAaf = refl
is_read SparseAaf = refl
is_read (Am824 interval dbc) = refl
is_read (H264 part) = refl

packet_of_stream : (kind : Kind) (j : Journal) (stream n : ℕ) (view : PacketView) (bytes : List ℕ) → IsPacket kind j stream n view → IsReadAs view bytes → IsOfStream (subtype_of kind) stream bytes
packet_of_stream DenseAaf j stream n (Pcm v) bytes is read = aaf_of_stream j stream n v bytes is.writable is.header read
packet_of_stream DenseAaf j stream n (Am824Data v) bytes is read = absurd is
packet_of_stream DenseAaf j stream n (H264Data v) bytes is read = absurd is
packet_of_stream SparseAaf j stream n (Pcm v) bytes is read = aaf_of_stream j stream n v bytes is.writable is.header read
packet_of_stream SparseAaf j stream n (Am824Data v) bytes is read = absurd is
packet_of_stream SparseAaf j stream n (H264Data v) bytes is read = absurd is
packet_of_stream (Am824 interval dbc) j stream n (Pcm v) bytes is read = absurd is
packet_of_stream (Am824 interval dbc) j stream n (Am824Data v) bytes is read = iec_of_stream j stream n v bytes is.writable is.header read
packet_of_stream (Am824 interval dbc) j stream n (H264Data v) bytes is read = absurd is
packet_of_stream (H264 part) j stream n (Pcm v) bytes is read = absurd is
packet_of_stream (H264 part) j stream n (Am824Data v) bytes is read = absurd is
packet_of_stream (H264 part) j stream n (H264Data v) bytes is read = cvf_of_stream j stream n v bytes is.writable is.header read

belongs_so : (kinds : List ℕ) (subtype stream : ℕ) (bytes payload : List ℕ) → list_any (λ (k : ℕ). subtype == k) kinds ≡ true → IsFrame bytes payload → IsOfStream subtype stream payload → belongs kinds stream bytes ≡ true
belongs_so kinds subtype stream bytes payload known f is =
    let long = is.long in
    let a : is_none (frame_refusal bytes) ≡ true = rw f.accepted refl in
    let b : ((frame_of bytes).ethertype == avtp_ethertype) ≡ true = rw f.ethertype refl in
    let c : nat_le 12 (length (packet_in bytes)) ≡ true = rw f.payload_is (grind (arith, nat_tests)) in
    let d : list_any (λ kind. bits 0 0 8 (packet_in bytes) == kind) kinds ≡ true = rw (f.payload_is, is.kind) known in
    let e : is_set 1 0 (packet_in bytes) ≡ true = rw f.payload_is is.valid in
    let g : (bits 4 0 64 (packet_in bytes) == stream) ≡ true = rw (f.payload_is, is.id) (eq-eqb stream stream refl) in
    rw (a, b, c, d, e, g) refl

clock_of_stream : (c : ClockJournal) (shift : ℤ) (id m : ℕ) (v : Crf) (bytes : List ℕ) → IsClockPacket c shift id m v → SpellsCrf bytes (plain_crf v) → IsOfStream crf_subtype id bytes
clock_of_stream c shift id m v bytes is s =
    let start = or_else-none (first_short crf_layout (length bytes)) (or_else (first_row (shared_rows bytes)) (first_row (clock_rows bytes))) s.accepted in
    let f = s.fields in
    record {
      long = crf_long bytes start.0;
      kind = f.0.0;
      valid = rw (f.1.0.0, is.valid_id) refl;
      id = f.1.1.1.1.0.0 ∙ is.id_is;
    }
  where
    crf_long : (bytes : List ℕ) → first_short crf_layout (length bytes) ≡ None → 12 ≤ length bytes
    crf_long bytes none =
        let within = rows_passed (map (short_row (length bytes)) crf_layout) none in
        let short : nat_lt (length bytes) 12 ≡ false = within.1.1.1.1.0 in
        grind (arith, nat_tests)

pub carried_belongs : CvfAgain → (shift : ℤ) (p : PacketJournal) (lead n : ℕ) (r : Record) → IsConforming shift p → Carries p lead n r → belongs stream_kinds p.stream r.bytes ≡ true
carried_belongs again shift p lead n r is c =
    let packet = is.packets n c.delivered.known in
    let read = packet_read again p.times.kind p.times p.stream n (p.packet n) c.frame.payload packet c.packet in
    belongs_so stream_kinds (subtype_of p.times.kind) p.stream r.bytes c.frame.payload (is_read p.times.kind) (frame_is p lead n r c)
    (packet_of_stream p.times.kind p.times p.stream n (p.packet n) c.frame.payload packet read)

pub copy_of : (p : PacketJournal) (lead n i : ℕ) (r : Record) → Carries p lead n r → IsCopyOf p lead n (delivery i r)
copy_of p lead n i r c = record {
  arrival = c.arrival;
  arrived = c.arrived;
  delivered = c.delivered;
  spelled = rw (frame_is p lead n r c).payload_is c.packet;
}

-- ---- all records

numbers_again : (numbers : List ℕ) → stream_numbers (map OfStream numbers) ≡ numbers
numbers_again [] = refl
numbers_again (n ∷ numbers) = ap (λ (l : List ℕ). n ∷ l) (numbers_again numbers)

all_from : CvfAgain → (shift : ℤ) (p : PacketJournal) (clock : Option ℕ) (lead i : ℕ) (numbers : List ℕ) (records : List Record) → IsConforming shift p → AllCarry p lead numbers records
    → AreFrom p lead (map OfStream numbers) (map (λ (x : ℕ × Record). delivery x.0 x.1) (filter (λ (x : ℕ × Record). is_delivered p.stream clock x.1.bytes) (enumerate_from i records)))
all_from again shift p clock lead i [] [] is all = tt
all_from again shift p clock lead i [] (r ∷ records) is all = absurd all
all_from again shift p clock lead i (n ∷ numbers) [] is all = absurd all
all_from again shift p clock lead i (n ∷ numbers) (r ∷ records) is all =
    rw (carried_belongs again shift p lead n r is all.0)
    (copy_of p lead n i r all.0, all_from again shift p clock lead (i + 1) numbers records is all.1)

pub all_delivered : CvfAgain → (shift : ℤ) (p : PacketJournal) (clock : Option ℕ) (lead : ℕ) (numbers : List ℕ) (records : List Record) → IsConforming shift p → AllCarry p lead numbers records
    → AreNear p.times numbers → Delivers p clock lead records
all_delivered again shift p clock lead numbers records is all near = record {
  origins = map OfStream numbers;
  copies = all_from again shift p clock lead 1 numbers records is all;
  near = rw (numbers_again numbers) near;
}

-- ---- records of the stream and of its clock

pub clock_belongs : (shift : ℤ) (p : PacketJournal) (m : ℕ) (r : Record) → IsConforming shift p → CarriesClock p m r → belongs clock_kinds p.clock r.bytes ≡ true
clock_belongs shift p m r is c =
    let packet = is.clock_packets m c.known in
    let read = crf_read (p.clock_packet m) c.frame.payload packet.writable packet.fits c.packet in
    belongs_so clock_kinds crf_subtype p.clock r.bytes c.frame.payload refl (clock_frame_is p m r c)
    (clock_of_stream p.times.clock shift p.clock m (p.clock_packet m) c.frame.payload packet read)

pub clock_copy_of : (p : PacketJournal) (m i : ℕ) (r : Record) → CarriesClock p m r → IsClockCopyOf p m (delivery i r)
clock_copy_of p m i r c = record { known = c.known; spelled = rw (clock_frame_is p m r c).payload_is c.packet }

-- Each delivery of `ds` is a copy of a packet of the stream or of the clock. `numbers` are the numbers of the copied
-- packets of the stream, in order.
record AreKept (p : PacketJournal) (lead : ℕ) (numbers : List ℕ) (ds : List Delivery) : Type 0 where
  origins : List Origin
  copies : AreFrom p lead origins ds
  same : stream_numbers origins ≡ numbers

clock_kept : (p : PacketJournal) (lead m : ℕ) (numbers : List ℕ) (d : Delivery) (i : ℕ) (r : Record) (rest : List (ℕ × Record)) (b : Bool) → IsClockCopyOf p m (delivery i r)
    → AreKept p lead numbers (map (λ (x : ℕ × Record). delivery x.0 x.1) rest)
    → AreKept p lead numbers (map (λ (x : ℕ × Record). delivery x.0 x.1) (if b then (i, r) ∷ rest else rest))
clock_kept p lead m numbers d i r rest true copy kept = record { origins = OfClock m ∷ kept.origins; copies = (copy, kept.copies); same = kept.same }
clock_kept p lead m numbers d i r rest false copy kept = kept

both_from : CvfAgain → (shift : ℤ) (p : PacketJournal) (clock : Option ℕ) (lead i : ℕ) (origins : List Origin) (records : List Record) → IsConforming shift p
    → AllCarryFrom p lead origins records
    → AreKept p lead (stream_numbers origins) (map (λ (x : ℕ × Record). delivery x.0 x.1) (filter (λ (x : ℕ × Record). is_delivered p.stream clock x.1.bytes) (enumerate_from i records)))
both_from again shift p clock lead i [] [] is all = record { origins = []; copies = tt; same = refl }
both_from again shift p clock lead i [] (r ∷ records) is all = absurd all
both_from again shift p clock lead i (o ∷ origins) [] is all = absurd all
both_from again shift p clock lead i (OfStream n ∷ origins) (r ∷ records) is all =
    let rest = both_from again shift p clock lead (i + 1) origins records is all.1 in
    rw (carried_belongs again shift p lead n r is all.0)
    (record {
      origins = OfStream n ∷ rest.origins;
      copies = (copy_of p lead n i r all.0, rest.copies);
      same = ap (λ (l : List ℕ). n ∷ l) rest.same;
    })
both_from again shift p clock lead i (OfClock m ∷ origins) (r ∷ records) is all =
    clock_kept p lead m (stream_numbers origins) (delivery i r) i r
    (filter (λ (x : ℕ × Record). is_delivered p.stream clock x.1.bytes) (enumerate_from (i + 1) records))
    (is_delivered p.stream clock r.bytes) (clock_copy_of p m i r all.0)
    (both_from again shift p clock lead (i + 1) origins records is all.1)

pub both_delivered : CvfAgain → (shift : ℤ) (p : PacketJournal) (clock : Option ℕ) (lead : ℕ) (origins : List Origin) (records : List Record) → IsConforming shift p
    → AllCarryFrom p lead origins records → AreNear p.times (stream_numbers origins) → Delivers p clock lead records
both_delivered again shift p clock lead origins records is all near =
    let kept = both_from again shift p clock lead 1 origins records is all in
    record { origins = kept.origins; copies = kept.copies; near = rw kept.same near }
