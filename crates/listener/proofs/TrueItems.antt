-- If an item is made of a copy of a packet, the item has the content of that packet.
use Rattle.std.proofs.Common.{◌≡◌, ℕ, ◌%◌, ◌^◌, ◌<◌, Bool, true, false, ℤ, pos, List, [], ◌∷◌, All, Option, Some, None, refl, sym, ap, ◌∙◌, subst, inl, inr}
use Rattle.std.specs.Prelude.{◌==◌, ◌⊎◌, is_some, if◌then◌else◌, unwrap_or, option_map, IfSome, map, filter}
use Rattle.std.specs.List.{enumerate_from}
use Rattle.std.proofs.lemmas.List.Elements.{All-cons, All-head, All-nil, All-tail}
use Rattle.avtp_base.specs.Octets.{bits}
use Rattle.aaf_format.specs.Aaf.{Aaf, SpellsAaf, aaf_of, aaf_spelling, aaf_subtype, plain_aaf, rate_of as aaf_rate}
use Rattle.aaf_format.proofs.AafLemmas.{aaf_again, one_packet as one_aaf}
use Rattle.crf_format.specs.Crf.{Crf, crf_of, crf_subtype, plain_crf}
use Rattle.crf_format.proofs.CrfLemmas.{one_packet as one_crf}
use Rattle.iec61883_format.specs.Iec.{Iec, SpellsIec, iec_of, iec_spelling, iec_subtype, plain_iec, rate_of_fdf, syt_interval}
use Rattle.iec61883_format.proofs.IecLemmas.{iec_again, one_packet as one_iec}
use Rattle.avtp_base.specs.declared.refusal.Refusal.{Refusal}
use Rattle.pcap_frames.specs.Capture.{Record}
use Rattle.time_unfold.specs.declared.head_rule.HeadRule.{HeadRule}
use Rattle.time_unfold.specs.declared.head_rule.HeadRule.TheVariants.{Own, Eight, Blocks}
use Rattle.sample_schedule.specs.declared.entry.Entry.TheVariants.{Item as OfItem, Clock as OfClock}
use Rattle.sample_schedule.specs.declared.item.Item.TheVariants.{Packet as OfPacket}
use Rattle.sample_schedule.specs.declared.item.Packet.{Packet}
use Rattle.clock_track.specs.declared.clock_row.ClockRow.{ClockRow}
use Rattle.stream_journal.specs.ClockRows.{IsRowOf, IsTrueRow}
use Rattle.stream_journal.specs.Clocks.{ClockJournal}
use Rattle.stream_journal.specs.Delivered.{IsAudioKind}
use Rattle.stream_journal.specs.Journal.{Journal, Kind, DenseAaf, SparseAaf, Am824, H264, rule_of}
use Rattle.packet_journal.specs.Deliveries.{Delivery, deliveries, delivery, is_delivered}
use Rattle.packet_journal.specs.Delivered.{AreFrom, IsClockCopyOf, IsCopyOf, IsFrom, OfClock as OfClockPacket, OfStream, Origin, Spells}
use Rattle.packet_journal.specs.Packets.{IsAafPacket, IsClockPacket, IsConforming, IsIecPacket, IsPacket, PacketJournal, PacketView, Pcm, Am824Data, H264Data, carried, spelling_of}
use Rattle.packet_journal.proofs.Copies.{clock_copy_read}
use Rattle.cvf_format.specs.Cvf.{SpellsCvf, cvf_subtype, plain_cvf}
use Rattle.cvf_format.proofs.CvfLemmas.{cvf_again}
use Rattle.listener.proofs.Made.{IsOther}
use Rattle.listener.specs.Items.{aaf_item, block_rule, blocks_of, clock_row, entry_of, iec_item, item_of, points_of, points_or_none, refused_or, samples_of}

-- ---- the item of a copy

abbrev pub sent : Journal → ℕ → ℕ → ℕ → List ℕ → Packet
sent j n frame arrival bytes = record {
  frame = frame;
  arrival = pos arrival;
  seq = n % 256;
  mr = j.mr n;
  tu = false;
  stamp = option_map (λ (instant : ℕ). instant % 2 ^ 32) (j.stamp n);
  rule = rule_of j.kind n;
  rate = j.rate;
  count = j.count;
  bytes = bytes;
}

stamp_read : (r : Option ℕ) (tv : Bool) (timestamp : ℕ) → tv ≡ is_some r → IfSome r (λ (instant : ℕ). timestamp ≡ instant % 2 ^ 32)
    → (if tv then Some timestamp else None) ≡ option_map (λ (instant : ℕ). instant % 2 ^ 32) r
stamp_read None tv timestamp e h = rw e refl
stamp_read (Some instant) tv timestamp e h = rw (e, h) refl

same_packet : (frame : ℕ) (a a' : ℤ) (s s' : ℕ) (m m' : Bool) (u u' : Bool) (t t' : Option ℕ) (r r' : HeadRule) (f f' c c' : ℕ) (bytes : List ℕ)
    → a ≡ a' → s ≡ s' → m ≡ m' → u ≡ u' → t ≡ t' → r ≡ r' → f ≡ f' → c ≡ c'
    → OfPacket (record { frame = frame; arrival = a; seq = s; mr = m; tu = u; stamp = t; rule = r; rate = f; count = c; bytes = bytes })
    ≡ OfPacket (record { frame = frame; arrival = a'; seq = s'; mr = m'; tu = u'; stamp = t'; rule = r'; rate = f'; count = c'; bytes = bytes })
same_packet frame a a' s s' m m' u u' t t' r r' f f' c c' bytes e1 e2 e3 e4 e5 e6 e7 e8 = rw (e1, e2, e3, e4, e5, e6, e7, e8) refl

-- The fields of a delivery are those in the bytes of its packet.
pub record Shows (d : Delivery) : Type 0 where
  pub subtype : d.subtype ≡ bits 0 0 8 d.packet
  pub seq : d.seq ≡ bits 2 0 8 d.packet

shown_one : (i : ℕ) (r : Record) → Shows (delivery i r)
shown_one i r = record { subtype = refl; seq = refl }

shown_made : (xs : List (ℕ × Record)) → All Shows (map (λ (x : ℕ × Record). delivery x.0 x.1) xs)
shown_made [] = All-nil Shows
shown_made (x ∷ xs) = All-cons Shows (delivery x.0 x.1) (map (λ (y : ℕ × Record). delivery y.0 y.1) xs) (shown_one x.0 x.1) (shown_made xs)

pub all_shown : (stream : ℕ) (clock : Option ℕ) (records : List Record) → All Shows (deliveries stream clock records)
all_shown stream clock records = shown_made (filter (λ numbered. is_delivered stream clock numbered.1.bytes) (enumerate_from 1 records))

of_aaf : (d : Delivery) → d.subtype ≡ aaf_subtype → item_of d ≡ aaf_item d
of_aaf d e = rw e refl

of_iec : (d : Delivery) → d.subtype ≡ iec_subtype → item_of d ≡ iec_item d
of_iec d e = rw e refl

aaf_copy : (j : Journal) (mode : Bool) (stream n arrival : ℕ) (v : Aaf) (d : Delivery) → (if mode then Eight else Own) ≡ rule_of j.kind n → IsAafPacket j mode stream n v → Spells (aaf_spelling v) d.packet
    → d.arrival ≡ pos arrival → Shows d → item_of d ≡ OfPacket (sent j n d.frame arrival v.payload)
aaf_copy j mode stream n arrival v d rule is s arrived shows =
    let read : SpellsAaf d.packet (plain_aaf v) = rw s.whole (aaf_again v s.trail is.writable is.fits) in
    let same : plain_aaf v ≡ aaf_of d.packet = one_aaf d.packet (plain_aaf v) read in
    let f = read.fields in
    let subtype : d.subtype ≡ aaf_subtype = shows.subtype ∙ (f.0.0 ∙ is.writable.subtype) in
    let number : d.seq ≡ n % 256 = shows.seq ∙ (f.1.1.0.0 ∙ is.header.seq) in
    let rate : unwrap_or (aaf_rate v.nsr) 0 ≡ j.rate = ap (λ (o : Option ℕ). unwrap_or o 0) is.rate in
    of_aaf d subtype
    ∙ ap (λ (r : Option Refusal). refused_or d r (samples_of d (aaf_of d.packet))) read.accepted
    ∙ ap (λ (w : Aaf). samples_of d w) (sym same)
    ∙ same_packet d.frame d.arrival (pos arrival) d.seq (n % 256) v.header.mr (j.mr n) v.header.tu false
    (if v.header.tv then Some v.header.timestamp else None) (option_map (λ (instant : ℕ). instant % 2 ^ 32) (j.stamp n))
    (if v.sparse then Eight else Own) (rule_of j.kind n) (unwrap_or (aaf_rate v.nsr) 0) j.rate v.count j.count v.payload
    arrived number is.header.mr is.header.certain
    (stamp_read (j.stamp n) v.header.tv v.header.timestamp is.header.stamped is.header.timestamp)
    (ap (λ (b : Bool). if b then Eight else Own) is.sparse ∙ rule) rate is.count

iec_copy : (j : Journal) (interval dbc stream n arrival : ℕ) (v : Iec) (d : Delivery) → Blocks dbc interval ≡ rule_of j.kind n → IsIecPacket j interval dbc stream n v → Spells (iec_spelling v) d.packet
    → d.arrival ≡ pos arrival → Shows d → item_of d ≡ OfPacket (sent j n d.frame arrival v.payload)
iec_copy j interval dbc stream n arrival v d rule is s arrived shows =
    let read : SpellsIec d.packet (plain_iec v) = rw s.whole (iec_again v s.trail is.writable is.fits) in
    let same : plain_iec v ≡ iec_of d.packet = one_iec d.packet (plain_iec v) read in
    let f = read.fields in
    let subtype : d.subtype ≡ iec_subtype = shows.subtype ∙ (f.0.0 ∙ is.writable.subtype) in
    let number : d.seq ≡ n % 256 = shows.seq ∙ (f.1.1.0.0 ∙ is.header.seq) in
    let rate : unwrap_or (rate_of_fdf v.cip.fdf) 0 ≡ j.rate = ap (λ (o : Option ℕ). unwrap_or o 0) is.rate in
    let blocks : block_rule v.cip.dbc (syt_interval v.cip.fdf) ≡ Blocks dbc interval = rw (is.interval_is, is.block) refl in
    of_iec d subtype
    ∙ ap (λ (r : Option Refusal). refused_or d r (blocks_of d (iec_of d.packet))) read.accepted
    ∙ ap (λ (w : Iec). blocks_of d w) (sym same)
    ∙ same_packet d.frame d.arrival (pos arrival) d.seq (n % 256) v.header.mr (j.mr n) v.header.tu false
    (if v.header.tv then Some v.header.timestamp else None) (option_map (λ (instant : ℕ). instant % 2 ^ 32) (j.stamp n))
    (block_rule v.cip.dbc (syt_interval v.cip.fdf)) (rule_of j.kind n) (unwrap_or (rate_of_fdf v.cip.fdf) 0) j.rate v.count j.count v.payload
    arrived number is.header.mr is.header.certain
    (stamp_read (j.stamp n) v.header.tv v.header.timestamp is.header.stamped is.header.timestamp)
    (blocks ∙ rule) rate is.count

view_copy : (j : Journal) (kind : Kind) (stream n arrival : ℕ) (view : PacketView) (d : Delivery) → j.kind ≡ kind → IsAudioKind kind → IsPacket kind j stream n view → Spells (spelling_of view) d.packet
    → d.arrival ≡ pos arrival → Shows d → item_of d ≡ OfPacket (sent j n d.frame arrival (carried view))
view_copy j DenseAaf stream n arrival (Pcm v) d k heard is s arrived shows = aaf_copy j false stream n arrival v d (rw k refl) is s arrived shows
view_copy j DenseAaf stream n arrival (Am824Data v) d k heard is s arrived shows = absurd is
view_copy j DenseAaf stream n arrival (H264Data v) d k heard is s arrived shows = absurd is
view_copy j SparseAaf stream n arrival (Pcm v) d k heard is s arrived shows = aaf_copy j true stream n arrival v d (rw k refl) is s arrived shows
view_copy j SparseAaf stream n arrival (Am824Data v) d k heard is s arrived shows = absurd is
view_copy j SparseAaf stream n arrival (H264Data v) d k heard is s arrived shows = absurd is
view_copy j (Am824 interval dbc) stream n arrival (Pcm v) d k heard is s arrived shows = absurd is
view_copy j (Am824 interval dbc) stream n arrival (Am824Data v) d k heard is s arrived shows = iec_copy j interval (dbc n) stream n arrival v d (rw k refl) is s arrived shows
view_copy j (Am824 interval dbc) stream n arrival (H264Data v) d k heard is s arrived shows = absurd is
view_copy j (H264 part) stream n arrival view d k heard is s arrived shows = absurd heard

-- The delivery is a copy of a packet of the stream or of its clock.

pub record IsCopied (p : PacketJournal) (lead : ℕ) (d : Delivery) : Type 0 where
  pub origin : Origin
  pub copy : IsFrom p lead origin d
  pub shows : Shows d

all_copied : (p : PacketJournal) (lead : ℕ) (os : List Origin) (ds : List Delivery) → All Shows ds → AreFrom p lead os ds → All (IsCopied p lead) ds
all_copied p lead [] [] s from = All-nil (IsCopied p lead)
all_copied p lead [] (d ∷ ds) s from = absurd from
all_copied p lead (o ∷ os) [] s from = absurd from
all_copied p lead (o ∷ os) (d ∷ ds) s from =
    All-cons (IsCopied p lead) d ds (record { origin = o; copy = from.0; shows = All-head Shows d ds s }) (all_copied p lead os ds (All-tail Shows d ds s) from.1)

pub deliveries_copied : (p : PacketJournal) (clock : Option ℕ) (lead stream : ℕ) (os : List Origin) (records : List Record) → AreFrom p lead os (deliveries stream clock records) → All (IsCopied p lead) (deliveries stream clock records)
deliveries_copied p clock lead stream os records from = all_copied p lead os (deliveries stream clock records) (all_shown stream clock records) from

pub copy_item : (shift : ℤ) (p : PacketJournal) (lead n : ℕ) (d : Delivery) → IsConforming shift p → IsAudioKind p.times.kind → (copy : IsCopyOf p lead n d) → Shows d
    → item_of d ≡ OfPacket (sent p.times n d.frame copy.arrival (carried (p.packet n)))
copy_item shift p lead n d is heard copy shows = view_copy p.times p.times.kind p.stream n copy.arrival (p.packet n) d refl heard (is.packets n copy.delivered.known) copy.spelled copy.arrived shows

-- ---- entries

not_of_clock : (subtype : ℕ) → (subtype ≡ aaf_subtype) ⊎ (subtype ≡ iec_subtype) → (subtype == crf_subtype) ≡ false
not_of_clock subtype (inl e) = rw e refl
not_of_clock subtype (inr e) = rw e refl

aaf_kind : (j : Journal) (mode : Bool) (stream n : ℕ) (v : Aaf) (d : Delivery) → IsAafPacket j mode stream n v → Spells (aaf_spelling v) d.packet → Shows d → d.subtype ≡ aaf_subtype
aaf_kind j mode stream n v d is s shows =
    let read : SpellsAaf d.packet (plain_aaf v) = rw s.whole (aaf_again v s.trail is.writable is.fits) in
    shows.subtype ∙ (read.fields.0.0 ∙ is.writable.subtype)

iec_kind : (j : Journal) (interval dbc stream n : ℕ) (v : Iec) (d : Delivery) → IsIecPacket j interval dbc stream n v → Spells (iec_spelling v) d.packet → Shows d → d.subtype ≡ iec_subtype
iec_kind j interval dbc stream n v d is s shows =
    let read : SpellsIec d.packet (plain_iec v) = rw s.whole (iec_again v s.trail is.writable is.fits) in
    shows.subtype ∙ (read.fields.0.0 ∙ is.writable.subtype)

audio_kind : (j : Journal) (kind : Kind) (stream n : ℕ) (view : PacketView) (d : Delivery) → IsAudioKind kind → IsPacket kind j stream n view → Spells (spelling_of view) d.packet → Shows d
    → (d.subtype ≡ aaf_subtype) ⊎ (d.subtype ≡ iec_subtype)
audio_kind j DenseAaf stream n (Pcm v) d heard is s shows = inl (aaf_kind j false stream n v d is s shows)
audio_kind j DenseAaf stream n (Am824Data v) d heard is s shows = absurd is
audio_kind j DenseAaf stream n (H264Data v) d heard is s shows = absurd is
audio_kind j SparseAaf stream n (Pcm v) d heard is s shows = inl (aaf_kind j true stream n v d is s shows)
audio_kind j SparseAaf stream n (Am824Data v) d heard is s shows = absurd is
audio_kind j SparseAaf stream n (H264Data v) d heard is s shows = absurd is
audio_kind j (Am824 interval dbc) stream n (Pcm v) d heard is s shows = absurd is
audio_kind j (Am824 interval dbc) stream n (Am824Data v) d heard is s shows = inr (iec_kind j interval (dbc n) stream n v d is s shows)
audio_kind j (Am824 interval dbc) stream n (H264Data v) d heard is s shows = absurd is
audio_kind j (H264 part) stream n view d heard is s shows = absurd heard

pub copy_entry : (shift : ℤ) (p : PacketJournal) (lead n : ℕ) (d : Delivery) → IsConforming shift p → IsAudioKind p.times.kind → (copy : IsCopyOf p lead n d) → Shows d
    → entry_of d ≡ OfItem (OfPacket (sent p.times n d.frame copy.arrival (carried (p.packet n))))
copy_entry shift p lead n d is heard copy shows =
    let kind = audio_kind p.times p.times.kind p.stream n (p.packet n) d heard (is.packets n copy.delivered.known) copy.spelled shows in
    rw (not_of_clock d.subtype kind) (ap OfItem (copy_item shift p lead n d is heard copy shows))

-- the row is a copy of the clock's packet `m`, and the row's timestamps are used
pub record IsCopiedRow (c : ClockJournal) (shift : ℤ) (m : ℕ) (row : ClockRow) : Type 0 where
  pub usable : row.usable ≡ true
  pub is : IsRowOf c shift m row

row_read : (c : ClockJournal) (shift : ℤ) (id m : ℕ) (v : Crf) (w : Crf) → IsClockPacket c shift id m v → plain_crf v ≡ w → m < c.packets → IsCopiedRow c shift m (points_of w)
row_read c shift id m v w is same known =
    subst (λ (x : Crf). IsCopiedRow c shift m (points_of x)) same (record {
      usable = rw (is.kind, is.certain) refl;
      is = record {
        known = known;
        seq = is.seq;
        mr = is.mr;
        base = is.base;
        pull = is.pull;
        interval = is.interval;
        size = is.size;
        points = is.points;
      };
    })

pub copied_row : (shift : ℤ) (p : PacketJournal) (m : ℕ) (d : Delivery) → IsConforming shift p → IsClockCopyOf p m d → IsCopiedRow p.times.clock shift m (clock_row d)
copied_row shift p m d is copy =
    let read = clock_copy_read shift p m d is copy in
    let same : plain_crf (p.clock_packet m) ≡ crf_of d.packet = one_crf d.packet (plain_crf (p.clock_packet m)) read in
    subst (λ (r : Option Refusal). IsCopiedRow p.times.clock shift m (points_or_none r (crf_of d.packet))) (sym read.accepted)
    (row_read p.times.clock shift p.clock m (p.clock_packet m) (crf_of d.packet) (is.clock_packets m copy.known) same copy.known)

pub copy_row : (shift : ℤ) (p : PacketJournal) (m : ℕ) (d : Delivery) → IsConforming shift p → IsClockCopyOf p m d → IsTrueRow p.times.clock shift (clock_row d)
copy_row shift p m d is copy = λ usable. (m, (copied_row shift p m d is copy).is)

pub clock_entry : (shift : ℤ) (p : PacketJournal) (m : ℕ) (d : Delivery) → IsConforming shift p → IsClockCopyOf p m d → Shows d → entry_of d ≡ OfClock d.arrival (clock_row d)
clock_entry shift p m d is copy shows =
    let read = clock_copy_read shift p m d is copy in
    let kind : d.subtype ≡ crf_subtype = shows.subtype ∙ read.fields.0.0 in
    rw kind refl

-- ---- which deliveries are packets of H.264

other_kind : (subtype : ℕ) → (subtype ≡ aaf_subtype) ⊎ (subtype ≡ iec_subtype) → (subtype == cvf_subtype) ≡ false
other_kind subtype (inl e) = rw e refl
other_kind subtype (inr e) = rw e refl

origin_other : (shift : ℤ) (p : PacketJournal) (lead : ℕ) (o : Origin) (d : Delivery) → IsConforming shift p → IsAudioKind p.times.kind → IsFrom p lead o d → Shows d → IsOther d
origin_other shift p lead (OfStream n) d is heard copy shows =
    other_kind d.subtype (audio_kind p.times p.times.kind p.stream n (p.packet n) d heard (is.packets n copy.delivered.known) copy.spelled shows)
origin_other shift p lead (OfClockPacket m) d is heard copy shows =
    let read = clock_copy_read shift p m d is copy in
    let kind : d.subtype ≡ crf_subtype = shows.subtype ∙ read.fields.0.0 in
    rw kind refl

audio_one : (j : Journal) (kind : Kind) (stream n : ℕ) (view : PacketView) (d : Delivery) → IsPacket kind j stream n view → Spells (spelling_of view) d.packet → Shows d → IsOther d → IsAudioKind kind
audio_one j DenseAaf stream n view d is s shows other = tt
audio_one j SparseAaf stream n view d is s shows other = tt
audio_one j (Am824 interval dbc) stream n view d is s shows other = tt
audio_one j (H264 part) stream n (Pcm v) d is s shows other = absurd is
audio_one j (H264 part) stream n (Am824Data v) d is s shows other = absurd is
audio_one j (H264 part) stream n (H264Data v) d is s shows other =
    let read : SpellsCvf d.packet (plain_cvf v) = rw s.whole (cvf_again v s.trail is.writable is.fits) in
    let kind : d.subtype ≡ cvf_subtype = shows.subtype ∙ (read.fields.0.0 ∙ is.writable.subtype) in
    absurd (let none = rw kind at other in cc)

pub audio_other : (shift : ℤ) (p : PacketJournal) (lead n : ℕ) (d : Delivery) → IsConforming shift p → IsCopyOf p lead n d → Shows d → IsOther d → IsAudioKind p.times.kind
audio_other shift p lead n d is copy shows other = audio_one p.times p.times.kind p.stream n (p.packet n) d (is.packets n copy.delivered.known) copy.spelled shows other

pub copied_other : (shift : ℤ) (p : PacketJournal) (lead : ℕ) (d : Delivery) → IsConforming shift p → IsAudioKind p.times.kind → IsCopied p lead d → IsOther d
copied_other shift p lead d is heard c = origin_other shift p lead c.origin d is heard c.copy c.shows
