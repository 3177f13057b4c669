-- Which part of a NAL unit a packet carries, and how long the packet's frame is.
use Rattle.std.proofs.Common.{◌≡◌, ◌+◌, true, length, ◌∙◌, arith, ◌≢◌, ℕ, suc, ◌-◌, ◌*◌, ◌<◌, ◌≤◌, Bool, false, not, List, drop, refl, ap}
use Rattle.std.proofs.lemmas.List.{length-append, length-take}
use Rattle.avtp_base.specs.Layout.{spelling}
use Rattle.packet_journal.specs.Packets.{H264Data}
use Rattle.cvf_format.specs.Cvf.{Cvf, cvf_spelling, header_size, layout_of, IsWritableCvf, is_single_type, type_of}
use Rattle.talk_plan.specs.Ethernet.{packet_bytes}
use Rattle.cvf_format.proofs.CvfLemmas.{length_of_headers}
use Rattle.talk_plan.proofs.HeaderLemmas.{bytes_size}
use Rattle.std.specs.Prelude.{◌==◌, ◌^◌, ◌%◌, if◌then◌else◌, Option}
use Rattle.std.proofs.lemmas.Bool.Decides.{nat_tests}
use Rattle.cvf_format.specs.AnnexB.{nal_units}
use Rattle.cvf_format.specs.declared.cvf.NalPart.{NalPart}
use Rattle.cvf_format.specs.declared.cvf.NalPart.TheVariants.{Single, First, Middle, Last}
use Rattle.avtp_header.specs.declared.header.StreamHeader.{StreamHeader}
use Rattle.avtp_base.specs.Octets.{bits}
use Rattle.talk_plan.specs.declared.plan.TalkPlan.{TalkPlan}
use Rattle.talk_video.specs.declared.units.NalUnit.{NalUnit}
use Rattle.talk_video.specs.declared.video.VideoStream.{VideoStream}
use Rattle.talk_video.specs.AccessUnits.{nal_in, unit_at}
use Rattle.talk_video.specs.Fragments.{Place, access_unit_of, all_packets, body_at, body_by, ends_access_unit, packets_for, part_at, part_by, place_of, rest_in}
use Rattle.talk_plan.specs.Headers.{header_of}
use Rattle.talk_video.specs.Streams.{IsVideo, unit_in, video_packet}
use Rattle.talk_video.specs.state.Listing.{place_in}
use Rattle.talk_video.specs.Video.{access_instant, cvf_packet, stamp_by, video_due}
use Rattle.talk_video.proofs.FaultLemmas.{types_are}
use Rattle.talk_video.proofs.AccessLemmas.{placed, size_of, unit_known}

pub cvf_length : (v : Cvf) → length (cvf_spelling v) ≡ header_size v.part + length v.body
cvf_length v =
    let headers = length_of_headers v.part v in
    length-append (spelling (layout_of v.part) v) v.body ∙ omega arith

-- ---- the part of a unit

single_by : (a b c : Bool) → (if a then Single else if b then First else if c then Last else Middle) ≡ Single → a ≡ true
single_by true b c e = refl
single_by false true c e = absurd cc
single_by false false true e = absurd cc
single_by false false false e = absurd cc

pub single_is : (packets k : ℕ) → part_by packets k ≡ Single → packets ≡ 1
unfolding part_by
single_is packets k e = let one = single_by (packets == 1) (k == 0) (k + 1 == packets) e in grind (arith, nat_tests)

-- a NAL unit that is sent whole has at most 1400 bytes
pub short_single : (from to k : ℕ) → part_by (packets_for (from, to)) k ≡ Single → to - from ≤ 1400
short_single from to k e = (size_of (to - from)).whole (single_is (packets_for (from, to)) k e)

pub short_rest : (bytes : List ℕ) (from to k : ℕ) → part_by (packets_for (from, to)) k ≡ Single → length (rest_in bytes (from, to)) ≤ 1399
short_rest bytes from to k e =
    let few = short_single from to k e in
    let size = length-take (to - (from + 1)) (drop (from + 1) bytes) in
    omega arith

pub short_body : (part : NalPart) (k : ℕ) (rest : List ℕ) → (part ≡ Single → length rest ≤ 1399) → header_size part + length (body_by part k rest) ≤ 1428
short_body Single k rest short = let few = short refl in omega arith
short_body First k rest short = let size = length-take 1398 (drop (k * 1398) rest) in omega arith
short_body Middle k rest short = let size = length-take 1398 (drop (k * 1398) rest) in omega arith
short_body Last k rest short = let size = length-take 1398 (drop (k * 1398) rest) in omega arith

-- the headers and the body of a packet together have at most 1428 bytes
pub short_at : (bytes : List ℕ) (units : List (ℕ × ℕ)) (p : Place) → header_size (part_at units p) + length (body_at bytes units p) ≤ 1428
unfolding body_at
short_at bytes units p =
    let unit : ℕ × ℕ = unit_at units p.unit in
    short_body (part_at units p) p.fragment (rest_in bytes unit) (λ e. short_rest bytes unit.0 unit.1 p.fragment e)

-- ---- packet n of a stream

fragment_is : (v : VideoStream) (n : ℕ) (unit : NalUnit) → unit ≡ unit_in v.input.now (place_in v n).unit → n - unit.first ≡ (place_in v n).fragment
fragment_is v n unit same =
    let first = ap (λ (u : NalUnit). u.first) same in
    let at = placed (nal_units v.input.now) n in
    omega (arith, at.number)

pub part_is : (v : VideoStream) (n : ℕ) (unit : NalUnit) → unit ≡ unit_in v.input.now (place_in v n).unit
    → part_by (packets_for (unit.from, unit.to)) (n - unit.first) ≡ part_at (nal_units v.input.now) (place_in v n)
part_is v n unit same =
    ap (λ (u : NalUnit). part_by (packets_for (u.from, u.to)) (n - unit.first)) same
    ∙ ap (part_by (packets_for (unit_at (nal_units v.input.now) (place_in v n).unit))) (fragment_is v n unit same)

pub body_is : (v : VideoStream) (n : ℕ) (unit : NalUnit) → unit ≡ unit_in v.input.now (place_in v n).unit
    → body_by (part_by (packets_for (unit.from, unit.to)) (n - unit.first)) (n - unit.first) (rest_in v.input.now (unit.from, unit.to))
    ≡ body_at v.input.now (nal_units v.input.now) (place_in v n)
unfolding body_at
body_is v n unit same =
    ap (λ (u : NalUnit). body_by (part_by (packets_for (u.from, u.to)) (n - unit.first)) (n - unit.first) (rest_in v.input.now (u.from, u.to))) same
    ∙ ap (λ (k : ℕ). body_by (part_by (packets_for (unit_at (nal_units v.input.now) (place_in v n).unit)) k) k
    (rest_in v.input.now (unit_at (nal_units v.input.now) (place_in v n).unit))) (fragment_is v n unit same)

-- if packet n is not the last packet of the stream, packet n ends its access unit if and only if packet n + 1 is of
-- another access unit
pub ends_is : (v : VideoStream) (n access next : ℕ) → IsVideo v → n + 1 ≢ v.packets → next ≡ access_unit_of v.input.now (nal_units v.input.now) (n + 1)
    → access ≡ access_unit_of v.input.now (nal_units v.input.now) n → not (next == access) ≡ ends_access_unit v.input.now (nal_units v.input.now) n
ends_is v n access next is more e f =
    let s : n + 1 ≡ suc n = omega arith in
    let count = is.packets in
    let other : (suc n == all_packets (nal_units v.input.now)) ≡ false = grind (arith, nat_tests) in
    rw (other, e, f, s) refl

pub packet_is : (v : VideoStream) (n : ℕ) (unit : NalUnit) (part : NalPart) (body : List ℕ) (instant counted nal : ℕ) (stamp : Option ℕ) (header : StreamHeader) (marker : Bool)
    → unit ≡ unit_in v.input.now (place_in v n).unit → part ≡ part_by (packets_for (unit.from, unit.to)) (n - unit.first)
    → body ≡ body_by (part_by (packets_for (unit.from, unit.to)) (n - unit.first)) (n - unit.first) (rest_in v.input.now (unit.from, unit.to))
    → instant ≡ access_instant v.plan unit.access_unit → stamp ≡ stamp_by v.last_stamp part instant → counted ≡ header_size part - 24
    → header ≡ header_of 3 stamp v.plan n (counted + length body) → marker ≡ ends_access_unit v.input.now (nal_units v.input.now) n
    → nal ≡ bits unit.from 0 8 v.input.now
    → record { header = header; ptv = true; marker = marker; evt = 0; h264_timestamp = instant % 2 ^ 32; nal = nal; part = part; body = body; reserved = false } ≡ video_packet v n
packet_is v n unit part body instant counted nal stamp header marker same p b i s c h m g =
    let units : List (ℕ × ℕ) = nal_units v.input.now in
    let part_e : part ≡ part_at units (place_in v n) = p ∙ part_is v n unit same in
    let body_e : body ≡ body_at v.input.now units (place_in v n) = b ∙ body_is v n unit same in
    let instant_e : instant ≡ video_due v.plan v.input.now units n = i ∙ ap (λ (u : NalUnit). access_instant v.plan u.access_unit) same in
    let nal_e : nal ≡ nal_in v.input.now (unit_at units (place_in v n).unit) = g ∙ ap (λ (u : NalUnit). bits u.from 0 8 v.input.now) same in
    rw (h, s, c, m, part_e, body_e, instant_e, nal_e) refl

-- ---- packets that can be written

counted_is : (part : NalPart) (size : ℕ) → 24 + (header_size part - 24 + size) ≡ header_size part + size
counted_is Single size = omega arith
counted_is First size = omega arith
counted_is Middle size = omega arith
counted_is Last size = omega arith

pub writable : (last_stamp : Bool) (plan : TalkPlan) (bytes : List ℕ) (units : List (ℕ × ℕ)) (n : ℕ)
    → is_single_type (type_of (nal_in bytes (unit_at units (place_of units n).unit))) ≡ true → IsWritableCvf (cvf_packet last_stamp plan bytes units n)
writable last_stamp plan bytes units n type = record {
  subtype = refl;
  evt = omega arith;
  type = type;
  data_length = counted_is (part_at units (place_of units n)) (length (body_at bytes units (place_of units n)));
}

pub writable_in : (v : VideoStream) (n : ℕ) → IsVideo v → n < v.packets → IsWritableCvf (video_packet v n)
writable_in v n is known =
    writable v.last_stamp v.plan v.input.now (nal_units v.input.now) n
    (types_are v.input.now (place_in v n).unit is.accepted (unit_known (nal_units v.input.now) n (omega (arith, is.packets))))

pub packet_short : (last_stamp : Bool) (plan : TalkPlan) (bytes : List ℕ) (units : List (ℕ × ℕ)) (n : ℕ)
    → length (cvf_spelling (cvf_packet last_stamp plan bytes units n)) ≤ 1428
packet_short last_stamp plan bytes units n =
    let size = cvf_length (cvf_packet last_stamp plan bytes units n) in
    let short = short_at bytes units (place_of units n) in
    omega arith

pub frame_length : (v : VideoStream) (n : ℕ) (unit : NalUnit) (part : NalPart) (body : List ℕ) (counted : ℕ)
    → unit ≡ unit_in v.input.now (place_in v n).unit → part ≡ part_by (packets_for (unit.from, unit.to)) (n - unit.first)
    → body ≡ body_by (part_by (packets_for (unit.from, unit.to)) (n - unit.first)) (n - unit.first) (rest_in v.input.now (unit.from, unit.to))
    → counted ≡ header_size part - 24 → 42 + counted + length body ≡ length (packet_bytes (H264Data (video_packet v n)))
frame_length v n unit part body counted same p b c =
    let header = ap header_size (p ∙ part_is v n unit same) in
    let carried = ap (λ (xs : List ℕ). length xs) (b ∙ body_is v n unit same) in
    let counts = counted_is part (length body) in
    omega (arith, header, carried, counts, c, cvf_length (video_packet v n), bytes_size (H264Data (video_packet v n)))
