-- A scan finds no fault in a gateway's frames, and finds their shape.
use Rattle.std.proofs.Common.{◌≡◌, ℕ, zero, suc, ◌*◌, ◌/◌, ◌^◌, ◌<◌, ◌≤◌, Bool, true, false, List, [], ◌∷◌, ◌++◌, length, drop, map, take, Option, Some, None, refl, sym, ap, ◌∙◌, eq-eqb, arith}
use Rattle.std.specs.Prelude.{◌==◌, ◌||◌, IfSome, IsSome, get_or, is_none, nat_lt, not}
use Rattle.std.specs.List.{AllByRecursion}
use Rattle.std.proofs.lemmas.Bool.Decides.{nat_tests}
use Rattle.avtp_base.specs.declared.refusal.Refusal.{Refusal}
use Rattle.aaf_format.specs.Aaf.{Aaf as AafPacket, aaf_of, aaf_refusal, aaf_subtype}
use Rattle.iec61883_format.specs.Iec.{Iec, iec_of, iec_refusal, iec_subtype}
use Rattle.pcap_frames.specs.Capture.{Record}
use Rattle.packet_journal.specs.Deliveries.{packet_in}
use Rattle.talk_plan.specs.Plan.{fdf_of}
use Rattle.talker.specs.Frames.{SentFrame, record_of}
use Rattle.sample_schedule.specs.Batches.{Presented}
use Rattle.listener.specs.Streams.{stream_packet}
use Rattle.am824_gateway.specs.declared.scan.ScanFault.TheVariants.{Kind, Format, Rate, Channels, Label}
use Rattle.am824_gateway.specs.declared.scan.Shape.{Shape}
use Rattle.am824_gateway.specs.declared.scan.To.{To}
use Rattle.am824_gateway.specs.declared.scan.To.TheVariants.{Aaf, Am824}
use Rattle.am824_gateway.specs.Content.{am824_content, content, packet_content, pcm_content}
use Rattle.am824_gateway.specs.Labels.{are_linear, first_are_linear, labelled}
use Rattle.am824_gateway.specs.Laws.{Cut, cut_frame, cuts_after}
use Rattle.am824_gateway.specs.Packets.{samples_of, values_of}
use Rattle.am824_gateway.specs.Pieces.{has_labels, nothing_given}
use Rattle.am824_gateway.specs.Scan.{IsShape, content_fault, fault_from, first_fault, first_of, row, shape_after, shape_from, shape_in}
use Rattle.am824_gateway.proofs.CutLemmas.{frames_are_cuts}
use Rattle.am824_gateway.proofs.GatewayLemmas.{length_labelled, length_values}
use Rattle.gateway_laws.specs.Returned.{gateway_records, other}
use Rattle.gateway_laws.proofs.Read.{IsCarried, aaf_read, all_carried, belongs_so, cut_aaf, cut_am824, iec_read, is_named, is_pcm_rate, of_stream}

-- ---- labels

linear_more : (n : ℕ) (xs ys : List ℕ) → 4 * n ≤ length xs → first_are_linear n (xs ++ ys) ≡ first_are_linear n xs
linear_more zero xs ys h = refl
linear_more (suc n) xs ys h =
    let rest = linear_more n xs ys (omega (arith, h)) in
    let here = get_front xs ys (4 * n) (omega (arith, h)) in
    rw (rest, here) refl
  where
    get_front : (us vs : List ℕ) (i : ℕ) → i < length us → get_or (us ++ vs) i 0 ≡ get_or us i 0
    get_front [] vs i lt = absurd (omega (arith, lt))
    get_front (u ∷ us) vs zero lt = refl
    get_front (u ∷ us) vs (suc i) lt = get_front us vs i (omega (arith, lt))

get_next : (xs ys : List ℕ) (y i : ℕ) → i ≡ length xs → get_or (xs ++ y ∷ ys) i 0 ≡ y
get_next [] ys y i e = rw e refl
get_next (x ∷ xs) ys y zero e = absurd (omega (arith, e))
get_next (x ∷ xs) ys y (suc i) e = get_next xs ys y i (omega (arith, e))

linear_labels : (n : ℕ) (v : List ℕ) → 3 * n ≤ length v → first_are_linear n (labelled n v) ≡ true
linear_labels zero v h = refl
linear_labels (suc n) v h =
    let long = length_labelled n v (omega (arith, h)) in
    let front = linear_more n (labelled n v) (0x40 ∷ take 3 (drop (3 * n) v)) (omega (arith, long)) ∙ linear_labels n v (omega (arith, h)) in
    let next = get_next (labelled n v) (take 3 (drop (3 * n) v)) 0x40 (4 * n) (sym long) in
    rw (front, next) refl

are_labels : (n : ℕ) (v : List ℕ) → 3 * n ≤ length v → are_linear (labelled n v) ≡ true
are_labels n v h =
    let long = length_labelled n v h in
    let fourth : length (labelled n v) / 4 ≡ n = omega (arith, long) in
    rw fourth (linear_labels n v h)

pub heard_labels : (to : To) (shape : Shape) (c : Cut) → IsCarried to shape c → has_labels (other to) (samples_of to shape c.batch c.piece) ≡ true
heard_labels Aaf shape c fine = refl
heard_labels Am824 shape c fine =
    let long = length_values Am824 shape c.batch c.piece fine.within.inside fine.size in
    are_labels (c.piece.count * shape.channels) (values_of Am824 shape c.batch c.piece) (omega (arith, long))

-- ---- one frame

-- A frame holds samples of this shape. A scan for the other format finds no fault in the frame.
record IsTurnable (to : To) (shape : Shape) (id : ℕ) (bytes : List ℕ) : Type 0 where
  first : content_fault (other to) None (content id bytes) ≡ None
  more : content_fault (other to) (Some shape) (content id bytes) ≡ None
  found : shape_after None (content id bytes) ≡ Some shape

pub no_row : (w r e m c l : Bool) → w ≡ true → r ≡ false → e ≡ true → m ≡ false → c ≡ true → l ≡ true → first_of (row Kind false ∷ row Format (not w) ∷ row Rate (r || not e) ∷ row Channels (m || not c) ∷ row Label (not l) ∷ []) ≡ None
no_row w r e m c l is_w is_r is_e is_m is_c is_l = rw (is_w, is_r, is_e, is_m, is_c, is_l) refl

-- the shape passes the tests of a scan
record PassesTests (shape : Shape) : Type 0 where
  named : is_none (fdf_of shape.rate) ≡ false
  one_rate : (shape.rate == shape.rate) ≡ true
  few : nat_lt 256 shape.channels ≡ false
  one_number : (shape.channels == shape.channels) ≡ true

tests : (shape : Shape) → IsShape shape → PassesTests shape
tests shape is =
    let most = is.most in
    record { named = known (fdf_of shape.rate) is.rate; one_rate = eq-eqb shape.rate shape.rate refl; few = grind (arith, nat_tests); one_number = eq-eqb shape.channels shape.channels refl }
  where
    known : (o : Option ℕ) → IsSome o → is_none o ≡ false
    known None some = absurd cc
    known (Some code) some = refl

pub of_pcm : (subtype : ℕ) (packet : List ℕ) → subtype ≡ aaf_subtype → packet_content (record { subtype = subtype; bytes = packet }) ≡ pcm_content (aaf_refusal packet) (aaf_of packet)
of_pcm subtype packet is = rw is refl

of_am824 : (subtype : ℕ) (packet : List ℕ) → subtype ≡ iec_subtype → packet_content (record { subtype = subtype; bytes = packet }) ≡ am824_content (iec_refusal packet) (iec_of packet)
of_am824 subtype packet is = rw is refl

held_pcm : (packet spelling : List ℕ) (v : AafPacket) → packet ≡ spelling → aaf_refusal spelling ≡ None → aaf_of spelling ≡ v → pcm_content (aaf_refusal packet) (aaf_of packet) ≡ pcm_content None v
held_pcm packet spelling v there accepted is =
    ap (λ (p : List ℕ). pcm_content (aaf_refusal p) (aaf_of p)) there ∙ (ap (λ (o : Option Refusal). pcm_content o (aaf_of spelling)) accepted ∙ ap (pcm_content None) is)

held_am824 : (packet spelling : List ℕ) (v : Iec) → packet ≡ spelling → iec_refusal spelling ≡ None → iec_of spelling ≡ v → am824_content (iec_refusal packet) (iec_of packet) ≡ am824_content None v
held_am824 packet spelling v there accepted is =
    ap (λ (p : List ℕ). am824_content (iec_refusal p) (iec_of p)) there ∙ (ap (λ (o : Option Refusal). am824_content o (iec_of spelling)) accepted ∙ ap (am824_content None) is)

turnable : (to : To) (shape : Shape) (id : ℕ) (c : Cut) → IsShape shape → id < 2 ^ 64 → IsCarried to shape c → IsTurnable to shape id (cut_frame to shape id c).bytes
turnable Aaf shape id c is small fine =
    let bytes : List ℕ = (cut_frame Aaf shape id c).bytes in
    let seen = of_stream Aaf shape id c is small fine in
    let read = aaf_read shape id c is small fine in
    let here = belongs_so Aaf id _ bytes seen in
    let rate = (is_pcm_rate shape is).named in
    let some = fine.within.some in
    let count : (c.piece.count == 0) ≡ false = grind (arith, nat_tests) in
    let belonging : content id bytes ≡ packet_content (stream_packet bytes) = rw here refl in
    let held = belonging ∙ (of_pcm _ (packet_in bytes) seen.kind ∙ held_pcm (packet_in bytes) _ (cut_aaf shape id c) read.holds.packet_is read.accepted read.is) in
    let t = tests shape is in
    record {
      first = rw (held, rate, count) (no_row _ _ _ _ _ _ refl t.named t.one_rate t.few t.one_number refl);
      more = rw (held, rate, count) (no_row _ _ _ _ _ _ refl t.named t.one_rate t.few t.one_number refl);
      found = rw (held, rate, count) refl;
    }
turnable Am824 shape id c is small fine =
    let bytes : List ℕ = (cut_frame Am824 shape id c).bytes in
    let seen = of_stream Am824 shape id c is small fine in
    let read = iec_read shape id c is small fine in
    let here = belongs_so Am824 id _ bytes seen in
    let rate = (is_named shape is).named in
    let some = fine.within.some in
    let count : (c.piece.count == 0) ≡ false = grind (arith, nat_tests) in
    let belonging : content id bytes ≡ packet_content (stream_packet bytes) = rw here refl in
    let held = belonging ∙ (of_am824 _ (packet_in bytes) seen.kind ∙ held_am824 (packet_in bytes) _ (cut_am824 shape id c) read.holds.packet_is read.accepted read.is) in
    let t = tests shape is in
    let labels = heard_labels Am824 shape c fine in
    record {
      first = rw (held, rate, count) (no_row _ _ _ _ _ _ refl t.named t.one_rate t.few t.one_number labels);
      more = rw (held, rate, count) (no_row _ _ _ _ _ _ refl t.named t.one_rate t.few t.one_number labels);
      found = rw (held, rate, count) refl;
    }

-- ---- all frames

clean_from : (to : To) (shape : Shape) (id frame : ℕ) (cs : List Cut) → IsShape shape → id < 2 ^ 64 → AllByRecursion (IsCarried to shape) cs → fault_from (other to) id (Some shape) frame (map record_of (map (cut_frame to shape id) cs)) ≡ None
clean_from to shape id frame [] is small fine = refl
clean_from to shape id frame (c ∷ cs) is small fine =
    let held = turnable to shape id c is small fine.0 in
    rw (held.more) (clean_from to shape id (suc frame) cs is small fine.1)

clean : (to : To) (shape : Shape) (id : ℕ) (cs : List Cut) → IsShape shape → id < 2 ^ 64 → AllByRecursion (IsCarried to shape) cs → first_fault (other to) id (map record_of (map (cut_frame to shape id) cs)) ≡ None
clean to shape id [] is small fine = refl
clean to shape id (c ∷ cs) is small fine =
    let held = turnable to shape id c is small fine.0 in
    rw (held.first, held.found) (clean_from to shape id 2 cs is small fine.1)

shape_kept : (id : ℕ) (shape : Shape) (records : List Record) → shape_from id (Some shape) records ≡ Some shape
shape_kept id shape [] = refl
shape_kept id shape (r ∷ records) = shape_kept id shape records

first_shape : (to : To) (shape : Shape) (id : ℕ) (cs : List Cut) → IsShape shape → id < 2 ^ 64 → AllByRecursion (IsCarried to shape) cs → 1 ≤ length (map record_of (map (cut_frame to shape id) cs))
    → shape_in id (map record_of (map (cut_frame to shape id) cs)) ≡ Some shape
first_shape to shape id [] is small fine some = absurd (omega (arith, some))
first_shape to shape id (c ∷ cs) is small fine some =
    let records : List Record = map record_of (map (cut_frame to shape id) cs) in
    ap (λ (o : Option Shape). shape_from id o records) (turnable to shape id c is small fine.0).found ∙ shape_kept id shape records

pub none_found : (to : To) (shape : Option Shape) (id : ℕ) (batches : List Presented) → IfSome shape IsShape → id < 2 ^ 64 → first_fault (other to) id (gateway_records to shape id batches) ≡ None
none_found to None id batches is small = refl
none_found to (Some shape) id batches is small =
    ap (λ (fs : List SentFrame). first_fault (other to) id (map record_of fs)) (frames_are_cuts to shape id nothing_given batches)
    ∙ clean to shape id (cuts_after to shape nothing_given batches) is small (all_carried to shape nothing_given batches is (omega arith))

pub shape_found : (to : To) (shape : Shape) (id : ℕ) (batches : List Presented) → IsShape shape → id < 2 ^ 64 → 1 ≤ length (gateway_records to (Some shape) id batches) → shape_in id (gateway_records to (Some shape) id batches) ≡ Some shape
shape_found to shape id batches is small some =
    let frames = frames_are_cuts to shape id nothing_given batches in
    let count = ap (λ (fs : List SentFrame). length (map record_of fs)) frames in
    ap (λ (fs : List SentFrame). shape_in id (map record_of fs)) frames
    ∙ first_shape to shape id (cuts_after to shape nothing_given batches) is small (all_carried to shape nothing_given batches is (omega arith)) (omega (arith, count, some))
