-- If a stream has no fault, each item that a listener makes of the stream has the stream's shape.
use Rattle.std.proofs.Common.{◌≡◌, ◌⊎◌, inl, inr, ℕ, zero, suc, ◌+◌, ◌*◌, ◌≤◌, Bool, true, false, List, [], ◌∷◌, All, length, drop, filter, map, Option, Some, None, refl, sym, ap, subst, ◌∙◌, arith}
use Rattle.std.specs.Prelude.{⊤, ◌==◌, ◌&&◌, ◌||◌, if◌then◌else◌, cond, nat_lt, not, slice_get, unwrap_or}
use Rattle.std.specs.List.{AllByRecursion, enumerate_from}
use Rattle.std.proofs.lemmas.Bool.{eqb-true, ltb-false}
use Rattle.std.proofs.lemmas.Bool.Decides.{nat_tests}
use Rattle.std.proofs.lemmas.List.{length-drop, length-take}
use Rattle.std.proofs.lemmas.List.Elements.{All-cons, All-head, All-nil, All-tail}
use Rattle.avtp_base.specs.declared.refusal.Refusal.{Refusal}
use Rattle.avtp_base.specs.Octets.{bits}
use Rattle.avtp_base.specs.Rows.{first_row, or_else}
use Rattle.avtp_base.proofs.RowLemmas.{or_else-none, rows_passed}
use Rattle.avtp_header.specs.Header.{kind_refusal, peeked_of}
use Rattle.aaf_format.specs.declared.aaf.AafFormat.{AafFormat}
use Rattle.aaf_format.specs.declared.aaf.AafFormat.TheVariants.{Float32, Int32, Int24, Int16}
use Rattle.aaf_format.specs.Aaf.{Aaf as AafPacket, aaf_of, aaf_refusal, aaf_subtype, length_rows, rate_of, sample_rows, width_of}
use Rattle.aaf_format.proofs.AafLemmas.{aaf_spelled}
use Rattle.crf_format.specs.Crf.{crf_subtype}
use Rattle.cvf_format.specs.Cvf.{cvf_subtype}
use Rattle.iec61883_format.specs.Iec.{Iec, data_size, iec_of, iec_refusal, rate_of_fdf}
use Rattle.iec61883_format.proofs.IecLemmas.{iec_spelled, iec_writable}
use Rattle.pcap_frames.specs.Capture.{Record}
use Rattle.packet_journal.specs.Deliveries.{Delivery, belongs, belongs_to_clock, delivery, is_avtp, is_delivered, packet_in, stream_kinds}
use Rattle.sample_schedule.specs.declared.entry.Entry.{Entry}
use Rattle.sample_schedule.specs.declared.entry.Entry.TheVariants.{Item as OfItem, Clock as OfClock}
use Rattle.sample_schedule.specs.declared.item.Item.TheVariants.{Packet as OfPacket, Unit as OfUnit, Bad as OfBad}
use Rattle.sample_schedule.specs.declared.item.Packet.{Packet}
use Rattle.listener.specs.Items.{aaf_item, blocks_of, clock_row, entry_of, iec_item, item_of, made_entry, made_of_one, refused_or, samples_of}
use Rattle.listener.specs.Streams.{stream_packet}
use Rattle.listener.proofs.Made.{IsOther}
use Rattle.am824_gateway.specs.declared.content.Content.{Content}
use Rattle.am824_gateway.specs.declared.content.Content.TheVariants.{Silent, Video, Audio}
use Rattle.am824_gateway.specs.declared.content.Samples.{Samples}
use Rattle.am824_gateway.specs.declared.scan.Shape.{Shape}
use Rattle.am824_gateway.specs.declared.scan.ScanFault.TheVariants.{Kind, Format, Rate, Channels, Label}
use Rattle.am824_gateway.specs.declared.scan.To.{To}
use Rattle.am824_gateway.specs.declared.scan.To.TheVariants.{Aaf, Am824}
use Rattle.am824_gateway.specs.Content.{am824, am824_content, content, has_24_bits, packet_content, pcm, pcm_content, samples_or_silent}
use Rattle.am824_gateway.specs.Labels.{value_in}
use Rattle.am824_gateway.specs.Pieces.{has_labels}
use Rattle.am824_gateway.specs.Scan.{content_fault, fault_from, fault_rows, first_of, other_rate, row, same_format, shape_after, shape_from, shape_of}
use Rattle.am824_gateway.proofs.ScanLemmas.{passed}

-- ---- the scan

-- a record with this content has no fault, if the stream has this shape
abbrev pub IsFine : To → Option Shape → Content → Type 0
IsFine to shape Silent = ⊤
IsFine to shape Video = ⊥
IsFine to None (Audio s) = ⊥
IsFine to (Some shape) (Audio s) = first_of (fault_rows to shape s) ≡ None

shape_kept : (stream : ℕ) (shape : Shape) (records : List Record) → shape_from stream (Some shape) records ≡ Some shape
shape_kept stream shape [] = refl
shape_kept stream shape (r ∷ records) = shape_kept stream shape records

fine_one : (to : To) (stream : ℕ) (first : Option Shape) (c : Content) (records : List Record) → content_fault to first c ≡ None → IsFine to (shape_from stream (shape_after first c) records) c
fine_one to stream first Silent records none = tt
fine_one to stream first Video records none = absurd cc
fine_one to stream None (Audio s) records none = subst (λ (o : Option Shape). IsFine to o (Audio s)) (sym (shape_kept stream (shape_of s) records)) none
fine_one to stream (Some shape) (Audio s) records none = subst (λ (o : Option Shape). IsFine to o (Audio s)) (sym (shape_kept stream shape records)) none

pub all_fine : (to : To) (stream : ℕ) (first : Option Shape) (frame : ℕ) (records : List Record) → fault_from to stream first frame records ≡ None
    → AllByRecursion (λ (r : Record). IsFine to (shape_from stream first records) (content stream r.bytes)) records
all_fine to stream first frame [] none = tt
all_fine to stream first frame (r ∷ records) none =
    let c : Content = content stream r.bytes in
    let both = passed frame (content_fault to first c) (fault_from to stream (shape_after first c) (suc frame) records) none in
    (fine_one to stream first c records both.0, all_fine to stream (shape_after first c) (suc frame) records both.1)

-- ---- deliveries

-- the delivery is a CRF packet, or its content has no fault
abbrev pub IsFineDelivery : To → Option Shape → Delivery → Type 0
IsFineDelivery to shape d = ((d.subtype == crf_subtype) ≡ true) ⊎ IsFine to shape (packet_content (record { subtype = d.subtype; bytes = d.packet }))

clock_kind : (clock : Option ℕ) (bytes : List ℕ) → belongs_to_clock clock bytes ≡ true → ((peeked_of (packet_in bytes)).subtype == crf_subtype) ≡ true
clock_kind None bytes e = absurd cc
clock_kind (Some id) bytes e = by (is_avtp bytes) ((peeked_of (packet_in bytes)).subtype == crf_subtype) _ _ e
  where
    by : (a b c d : Bool) → (a && ((b || false) && c && d)) ≡ true → b ≡ true
    by true true c d h = refl
    by true false c d h = absurd cc
    by false b c d h = absurd cc

fine_delivery : (to : To) (shape : Option Shape) (stream : ℕ) (clock : Option ℕ) (i : ℕ) (r : Record) → is_delivered stream clock r.bytes ≡ true → IsFine to shape (content stream r.bytes) → IsFineDelivery to shape (delivery i r)
fine_delivery to shape stream clock i r e fine = by (belongs stream_kinds stream r.bytes) e fine
  where
    by : (b : Bool) → (b || belongs_to_clock clock r.bytes) ≡ true → IsFine to shape (if b then packet_content (stream_packet r.bytes) else Silent) → IsFineDelivery to shape (delivery i r)
    by true either is = inr is
    by false either is = inl (clock_kind clock r.bytes either)

pub fine_deliveries : (to : To) (shape : Option Shape) (stream : ℕ) (clock : Option ℕ) (i : ℕ) (records : List Record) → AllByRecursion (λ (r : Record). IsFine to shape (content stream r.bytes)) records
    → All (IsFineDelivery to shape) (map (λ (x : ℕ × Record). delivery x.0 x.1) (filter (λ (x : ℕ × Record). is_delivered stream clock x.1.bytes) (enumerate_from i records)))
fine_deliveries to shape stream clock i [] all = All-nil (IsFineDelivery to shape)
fine_deliveries to shape stream clock i (r ∷ records) all = by (is_delivered stream clock r.bytes) refl (fine_deliveries to shape stream clock (i + 1) records all.1)
  where
    by : (b : Bool) → is_delivered stream clock r.bytes ≡ b
        → All (IsFineDelivery to shape) (map (λ (x : ℕ × Record). delivery x.0 x.1) (filter (λ (x : ℕ × Record). is_delivered stream clock x.1.bytes) (enumerate_from (i + 1) records)))
        → All (IsFineDelivery to shape) (map (λ (x : ℕ × Record). delivery x.0 x.1) (cond b ((i, r) ∷ filter (λ (x : ℕ × Record). is_delivered stream clock x.1.bytes) (enumerate_from (i + 1) records)) (filter (λ (x : ℕ × Record). is_delivered stream clock x.1.bytes) (enumerate_from (i + 1) records))))
    by false e rest = rest
    by true e rest = All-cons (IsFineDelivery to shape) (delivery i r) _ (fine_delivery to shape stream clock i r e all.0) rest

not_video : (to : To) (shape : Option Shape) (d : Delivery) → IsFineDelivery to shape d → IsOther d
not_video to shape d (inl clock) = by (d.subtype == cvf_subtype) refl
  where
    by : (b : Bool) → (d.subtype == cvf_subtype) ≡ b → b ≡ false
    by false e = refl
    by true e = absurd (let x = eqb-true d.subtype crf_subtype clock in let y = eqb-true d.subtype cvf_subtype e in omega (arith, x, y))
not_video to shape d (inr fine) = by (d.subtype == cvf_subtype) fine
  where
    by : (b : Bool) → IsFine to shape (if b then Video else if d.subtype == aaf_subtype then pcm_content (aaf_refusal d.packet) (aaf_of d.packet) else am824_content (iec_refusal d.packet) (iec_of d.packet)) → b ≡ false
    by false is = refl
    by true is = absurd is

pub all_other : (to : To) (shape : Option Shape) (ds : List Delivery) → All (IsFineDelivery to shape) ds → All IsOther ds
all_other to shape [] all = All-nil IsOther
all_other to shape (d ∷ ds) all =
    All-cons IsOther d ds (not_video to shape d (All-head (IsFineDelivery to shape) d ds all)) (all_other to shape ds (All-tail (IsFineDelivery to shape) d ds all))

-- ---- packets of samples

-- The packet has one value of 24 bits for each channel of each sample. If the values have labels, each label is that of
-- linear audio of 24 bits.
pub record HasValues (to : To) (shape : Option Shape) (p : Packet) : Type 0 where
  pub found : Shape
  pub is : shape ≡ Some found
  pub size : length p.bytes ≡ p.count * (value_in to * found.channels)
  pub labels : has_labels to p.bytes ≡ true

-- A scan finds no fault in the samples.
record Passes (to : To) (shape : Shape) (s : Samples) : Type 0 where
  format : same_format s.format to ≡ false
  whole : s.whole ≡ true
  channels : s.channels ≡ shape.channels
  linear : s.linear ≡ true

passes : (to : To) (shape : Shape) (s : Samples) → first_of (fault_rows to shape s) ≡ None → Passes to shape s
passes to shape s e = by (same_format s.format to) refl s.whole refl (other_rate shape s.rate) (nat_lt 256 s.channels) (s.channels == shape.channels) refl s.linear refl e
  where
    by : (a : Bool) → same_format s.format to ≡ a → (b : Bool) → s.whole ≡ b → (c d f : Bool) → (s.channels == shape.channels) ≡ f → (g : Bool) → s.linear ≡ g
        → first_of (row Kind a ∷ row Format (not b) ∷ row Rate c ∷ row Channels (d || not f) ∷ row Label (not g) ∷ []) ≡ None → Passes to shape s
    by true ea b eb c d f ef g eg h = absurd cc
    by false ea false eb c d f ef g eg h = absurd cc
    by false ea true eb true d f ef g eg h = absurd cc
    by false ea true eb false true f ef g eg h = absurd cc
    by false ea true eb false false false ef g eg h = absurd cc
    by false ea true eb false false true ef false eg h = absurd cc
    by false ea true eb false false true ef true eg h = record { format = ea; whole = eb; channels = eqb-true s.channels shape.channels ef; linear = eg }

-- samples of 24 bits have three bytes
three_bytes : (f : AafFormat) (b : Bool) → (has_24_bits f && b) ≡ true → width_of f ≡ 3
three_bytes Float32 b e = absurd cc
three_bytes Int32 b e = absurd cc
three_bytes Int24 b e = refl
three_bytes Int16 b e = absurd cc

-- if the AAF reader accepts a packet, the packet's payload has the stated length
payload_long : (bytes : List ℕ) → aaf_refusal bytes ≡ None → length (aaf_of bytes).payload ≡ bits 20 0 16 bytes
payload_long bytes accepted =
    let kind = or_else-none (kind_refusal aaf_subtype bytes) (or_else (first_row (sample_rows bytes)) (first_row (length_rows bytes))) accepted in
    let rows = or_else-none (first_row (sample_rows bytes)) (first_row (length_rows bytes)) kind.1 in
    let within = rows_passed (length_rows bytes) rows.1 in
    let long : 24 + bits 20 0 16 bytes ≤ length bytes = ltb-false _ _ within.0 in
    let front = length-take (bits 20 0 16 bytes) (drop 24 bytes) in
    let rest = length-drop 24 bytes in
    omega (arith, long, front, rest)

sized : (long pc c ch w k stated : ℕ) → long ≡ stated → c * (ch * w) ≡ stated → w ≡ 3 → ch ≡ k → pc ≡ c → long ≡ pc * (3 * k)
sized long pc c ch w k stated same whole three channels count = rw (same, ← whole, three, channels, count) (omega arith)

pcm_values : (to : To) (shape : Option Shape) (d : Delivery) (rate : ℕ) → aaf_refusal d.packet ≡ None → IsFine to shape (Audio (pcm (aaf_of d.packet) rate)) → (p : Packet) → p.bytes ≡ (aaf_of d.packet).payload → p.count ≡ (aaf_of d.packet).count → HasValues to shape p
pcm_values to None d rate accepted fine p bytes count = absurd fine
pcm_values Aaf (Some shape) d rate accepted fine p bytes count = absurd (let is = passes Aaf shape (pcm (aaf_of d.packet) rate) fine in let format = is.format in cc)
pcm_values Am824 (Some shape) d rate accepted fine p bytes count =
    let v : AafPacket = aaf_of d.packet in
    let is = passes Am824 shape (pcm v rate) fine in
    let whole = (aaf_spelled d.packet accepted).count in
    let long = payload_long d.packet accepted in
    let three = three_bytes v.format (v.depth == 0 || v.depth == 24) is.whole in
    record { found = shape; is = refl; size = sized (length p.bytes) p.count v.count v.channels (width_of v.format) shape.channels (bits 20 0 16 d.packet) (ap (λ (l : List ℕ). length l) bytes ∙ long) whole three is.channels count; labels = refl }

block_values : (to : To) (shape : Option Shape) (d : Delivery) (rate : ℕ) → iec_refusal d.packet ≡ None → rate_of_fdf (iec_of d.packet).cip.fdf ≡ Some rate → IsFine to shape (Audio (am824 (iec_of d.packet) rate)) → (p : Packet) → p.bytes ≡ (iec_of d.packet).payload
    → p.count ≡ (iec_of d.packet).count → HasValues to shape p
block_values to None d rate accepted named fine p bytes count = absurd fine
block_values Am824 (Some shape) d rate accepted named fine p bytes count = absurd (let is = passes Am824 shape (am824 (iec_of d.packet) rate) fine in let format = is.format in cc)
block_values Aaf (Some shape) d rate accepted named fine p bytes count =
    let v : Iec = iec_of d.packet in
    let is = passes Aaf shape (am824 v rate) fine in
    let w = iec_writable d.packet v (iec_spelled d.packet accepted) in
    let whole = all_data v.cip.fdf (length v.payload) named in
    record { found = shape; is = refl; size = rw (bytes, count, ← whole, ← w.count, ← is.channels) refl; labels = rw bytes (is.linear) }
  where
    all_data : (fdf long : ℕ) → rate_of_fdf fdf ≡ Some rate → data_size fdf long ≡ long
    all_data fdf long known = let other : (fdf == 255) ≡ false = grind (arith, nat_tests) in rw other refl

-- ---- entries

-- The entry is not a unit. If the entry is a packet of samples with a known rate, this packet has values of this shape.
abbrev pub IsShapely : To → Option Shape → Entry → Type 0
IsShapely to shape (OfItem (OfPacket p)) = 1 ≤ p.count → 1 ≤ p.rate → HasValues to shape p
IsShapely to shape (OfItem (OfUnit u)) = ⊥
IsShapely to shape (OfItem (OfBad b)) = ⊤
IsShapely to shape (OfClock arrival row) = ⊤

pcm_shapely : (to : To) (shape : Option Shape) (d : Delivery) (o : Option Refusal) → aaf_refusal d.packet ≡ o → IsFine to shape (pcm_content o (aaf_of d.packet)) → IsShapely to shape (OfItem (refused_or d o (samples_of d (aaf_of d.packet))))
pcm_shapely to shape d (Some refusal) accepted fine = tt
pcm_shapely to shape d None accepted fine = by (rate_of (aaf_of d.packet).nsr) refl fine
  where
    counted : (rate : ℕ) (z : Bool) → ((aaf_of d.packet).count == 0) ≡ z → IsFine to shape (if z then Silent else Audio (pcm (aaf_of d.packet) rate)) → IsShapely to shape (OfItem (samples_of d (aaf_of d.packet)))
    counted rate true e is = λ some known. (let none = eqb-true (aaf_of d.packet).count 0 e in absurd (omega (arith, some, none)))
    counted rate false e is = λ some known. pcm_values to shape d rate accepted is _ refl refl

    by : (r : Option ℕ) → rate_of (aaf_of d.packet).nsr ≡ r → IsFine to shape (samples_or_silent (aaf_of d.packet).count r (pcm (aaf_of d.packet))) → IsShapely to shape (OfItem (samples_of d (aaf_of d.packet)))
    by None e is = λ some known. (let none : unwrap_or (rate_of (aaf_of d.packet).nsr) 0 ≡ 0 = rw e refl in absurd (omega (arith, known, none)))
    by (Some rate) e is = counted rate ((aaf_of d.packet).count == 0) refl is

block_shapely : (to : To) (shape : Option Shape) (d : Delivery) (o : Option Refusal) → iec_refusal d.packet ≡ o → IsFine to shape (am824_content o (iec_of d.packet)) → IsShapely to shape (OfItem (refused_or d o (blocks_of d (iec_of d.packet))))
block_shapely to shape d (Some refusal) accepted fine = tt
block_shapely to shape d None accepted fine = by (rate_of_fdf (iec_of d.packet).cip.fdf) refl fine
  where
    counted : (rate : ℕ) → rate_of_fdf (iec_of d.packet).cip.fdf ≡ Some rate → (z : Bool) → ((iec_of d.packet).count == 0) ≡ z → IsFine to shape (if z then Silent else Audio (am824 (iec_of d.packet) rate)) → IsShapely to shape (OfItem (blocks_of d (iec_of d.packet)))
    counted rate named true e is = λ some known. (let none = eqb-true (iec_of d.packet).count 0 e in absurd (omega (arith, some, none)))
    counted rate named false e is = λ some known. block_values to shape d rate accepted named is _ refl refl

    by : (r : Option ℕ) → rate_of_fdf (iec_of d.packet).cip.fdf ≡ r → IsFine to shape (samples_or_silent (iec_of d.packet).count r (am824 (iec_of d.packet))) → IsShapely to shape (OfItem (blocks_of d (iec_of d.packet)))
    by None e is = λ some known. (let none : unwrap_or (rate_of_fdf (iec_of d.packet).cip.fdf) 0 ≡ 0 = rw e refl in absurd (omega (arith, known, none)))
    by (Some rate) e is = counted rate e ((iec_of d.packet).count == 0) refl is

entry_shapely : (to : To) (shape : Option Shape) (d : Delivery) → IsFineDelivery to shape d → IsShapely to shape (entry_of d)
entry_shapely to shape d (inl clock) = rw clock tt
entry_shapely to shape d (inr fine) = by (d.subtype == crf_subtype)
  where
    of_item : (v a : Bool) → IsFine to shape (if v then Video else if a then pcm_content (aaf_refusal d.packet) (aaf_of d.packet) else am824_content (iec_refusal d.packet) (iec_of d.packet))
        → IsShapely to shape (OfItem (if a then aaf_item d else iec_item d))
    of_item true a is = absurd is
    of_item false true is = pcm_shapely to shape d (aaf_refusal d.packet) refl is
    of_item false false is = block_shapely to shape d (iec_refusal d.packet) refl is

    by : (b : Bool) → IsShapely to shape (if b then OfClock d.arrival (clock_row d) else OfItem (item_of d))
    by true = tt
    by false = of_item (d.subtype == cvf_subtype) (d.subtype == aaf_subtype) fine

pub shapely_at : (to : To) (shape : Option Shape) (ds : List Delivery) (i : ℕ) (e : Entry) → All (IsFineDelivery to shape) ds → slice_get (map made_entry (map made_of_one ds)) i ≡ Some e → IsShapely to shape e
shapely_at to shape [] i e all there = absurd cc
shapely_at to shape (d ∷ ds) zero e all there = (let same : entry_of d ≡ e = cc in subst (IsShapely to shape) same (entry_shapely to shape d (All-head (IsFineDelivery to shape) d ds all)))
shapely_at to shape (d ∷ ds) (suc i) e all there = shapely_at to shape ds i e (All-tail (IsFineDelivery to shape) d ds all) there
