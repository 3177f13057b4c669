-- The stream of each H.264 plan fulfils `IsStream`.
use Rattle.std.proofs.Common.{◌≡◌, inl, inr, ℕ, suc, ◌+◌, ◌-◌, ◌^◌, ◌<◌, ◌≤◌, Bool, true, false, List, [], ◌∷◌, length, Option, Some, None, pos, refl, sym}
use Rattle.std.proofs.Common.{subst, ◌∙◌, arith}
use Rattle.avtp_base.specs.Layout.{Fits, Layout}
use Rattle.avtp_base.proofs.BitLemmas.{bits-below, flag-below}
use Rattle.avtp_header.specs.state.Header.{filled_layout}
use Rattle.cvf_format.specs.declared.cvf.NalPart.{NalPart}
use Rattle.cvf_format.specs.declared.cvf.NalPart.TheVariants.{Single, First, Middle, Last}
use Rattle.cvf_format.specs.Cvf.{Cvf, cvf_layout, cvf_subtype, ends, header_size, headers_of, layout_of, starts}
use Rattle.stream_journal.specs.Conforming.{Conforms, IsClock}
use Rattle.stream_journal.specs.Delivered.{AreNear, IsDelivered}
use Rattle.stream_journal.specs.Regular.{IsRegular, IsRegularClock}
use Rattle.stream_journal.proofs.Worked.{no_clock-is, no_clock-regular}
use Rattle.packet_journal.specs.Packets.{H264Data, IsConforming, IsCvfPacket, part_of}
use Rattle.talk_plan.specs.declared.plan.CrfPlan.{CrfPlan}
use Rattle.talk_plan.specs.declared.plan.TalkKind.{TalkKind}
use Rattle.talk_plan.specs.declared.plan.TalkKind.TheVariants.{H264}
use Rattle.talk_plan.specs.declared.plan.TalkPlan.{TalkPlan}
use Rattle.talk_video.specs.AccessUnits.{unit_at}
use Rattle.talk_clock.specs.Clock.{clock_by, clock_arrival_by}
use Rattle.talk_video.specs.Fragments.{access_unit_of, all_packets, body_at, part_at, place_of}
use Rattle.talker.specs.Frames.{StaysNearBy}
use Rattle.talk_video.specs.Video.{video_journal, cvf_packet, video_arrival, video_due, video_stamp, video_times}
use Rattle.talker.specs.Journal.{video_stream}
use Rattle.talk_plan.specs.Plan.{IsVideoPlan}
use Rattle.talk_plan.specs.Timing.{mr_of}
use Rattle.talk_video.proofs.AccessLemmas.{access_step, unit_known}
use Rattle.talk_plan.proofs.HeaderLemmas.{header_fits, stamped_at, bytes_size}
use Rattle.talker.proofs.StreamLemmas.{IsStream}
use Rattle.talk_video.proofs.VideoParts.{packet_short, short_at, writable}
use Rattle.talk_video.proofs.VideoRules.{AreSent, access_known, in_time, instant_rises, stamp_is, together, video_is}

-- ---- what a packet's fields hold

shared_fits : (nal_headers : Layout Cvf) (v : Cvf) → Fits (filled_layout 0 0 0) v.header → v.evt < 16 → v.h264_timestamp < 2 ^ 32 → Fits nal_headers v
    → Fits (cvf_layout nal_headers) v
shared_fits nal_headers v (subtype, (second, (seq, (tu, (id, (timestamp, (_, (stated, _)))))))) evt time nal = (
  subtype,
  (
    second,
    (
      seq,
      (
        tu,
        (
          id,
          (
            timestamp,
            (
              (omega arith, tt),
              (
                (omega arith, tt),
                (
                  (omega arith, tt),
                  (
                    stated,
                    ((omega arith, (flag-below v.ptv, (flag-below v.marker, (evt, tt)))), ((omega arith, tt), ((time, tt), nal))),
                  ),
                ),
              ),
            ),
          ),
        ),
      ),
    ),
  ),
)

nal_fits : (part : NalPart) (v : Cvf) → v.nal < 256 → Fits (headers_of part) v
nal_fits Single v nal = ((omega arith, (omega arith, tt)), tt)
nal_fits First v nal = ((omega arith, (omega arith, tt)), ((flag-below (starts v.part), (flag-below (ends v.part), (omega arith, (omega arith, tt)))), tt))
nal_fits Middle v nal = ((omega arith, (omega arith, tt)), ((flag-below (starts v.part), (flag-below (ends v.part), (omega arith, (omega arith, tt)))), tt))
nal_fits Last v nal = ((omega arith, (omega arith, tt)), ((flag-below (starts v.part), (flag-below (ends v.part), (omega arith, (omega arith, tt)))), tt))

fits_by : (part : NalPart) (v : Cvf) → Fits (filled_layout 0 0 0) v.header → v.evt < 16 → v.h264_timestamp < 2 ^ 32 → v.nal < 256 → Fits (layout_of part) v
fits_by part v header evt time nal = shared_fits (headers_of part) v header evt time (nal_fits part v nal)

fits : (last_stamp : Bool) (plan : TalkPlan) (bytes : List ℕ) (units : List (ℕ × ℕ)) (n : ℕ) → plan.id < 2 ^ 64
    → Fits (layout_of (part_at units (place_of units n))) (cvf_packet last_stamp plan bytes units n)
fits last_stamp plan bytes units n id =
    let place = place_of units n in
    let short = short_at bytes units place in
    let part : NalPart = part_at units place in
    fits_by part (cvf_packet last_stamp plan bytes units n)
    (header_fits cvf_subtype (video_stamp last_stamp plan bytes units n) plan n (header_size part - 24 + length (body_at bytes units place)) (omega arith) id
    (omega arith))
    (omega arith) (omega arith) (bits-below (unit_at units place.unit).0 0 8 bytes)

pub packet_is : (last_stamp : Bool) (plan : TalkPlan) (bytes : List ℕ) (units : List (ℕ × ℕ)) (n : ℕ) → AreSent bytes units → plan.id < 2 ^ 64
    → n < all_packets units
    → IsCvfPacket (video_times last_stamp plan bytes units) (part_of (part_at units (place_of units n))) plan.id n (cvf_packet last_stamp plan bytes units n)
packet_is last_stamp plan bytes units n sent id h = record {
  writable = writable last_stamp plan bytes units n (sent.types (place_of units n).unit (unit_known units n h));
  fits = fits last_stamp plan bytes units n id;
  header = record {
    valid_id = refl;
    id = refl;
    seq = refl;
    mr = refl;
    stamped = refl;
    timestamp = stamped_at (video_stamp last_stamp plan bytes units n);
    certain = refl;
  };
  part_is = refl;
}

-- ---- the times of a stream

one_bit : (plan : TalkPlan) (n : ℕ) → plan.restart ≡ None → mr_of plan n ≡ false
one_bit plan n e = rw e refl

no_clock_of : (crf : Option CrfPlan) (plan : TalkPlan) (packets : ℕ) → crf ≡ None → IsClock (clock_by crf plan packets)
no_clock_of None plan packets e = no_clock-is
no_clock_of (Some crf) plan packets e = absurd cc

no_clock_regular : (crf : Option CrfPlan) (plan : TalkPlan) (packets : ℕ) → crf ≡ None → IsRegularClock (clock_by crf plan packets)
no_clock_regular None plan packets e = no_clock-regular
no_clock_regular (Some crf) plan packets e = absurd cc

pub none_sent : (crf : Option CrfPlan) (plan : TalkPlan) (packets : ℕ) → crf ≡ None → (clock_by crf plan packets).packets ≡ 0
none_sent None plan packets e = refl
none_sent (Some crf) plan packets e = absurd cc

due_within : (plan : TalkPlan) (bytes : List ℕ) (units : List (ℕ × ℕ)) (n : ℕ) → IsVideoPlan plan → AreSent bytes units → length bytes ≤ 268435456
    → n < all_packets units → video_due plan bytes units n ≤ 2 ^ 62
due_within plan bytes units n p sent limit h =
    let time = in_time plan (access_unit_of bytes units n) p (access_known bytes units n sent h limit) in
    omega (arith, time.to, p.lead)

times_conform : (last_stamp : Bool) (plan : TalkPlan) (bytes : List ℕ) (units : List (ℕ × ℕ)) → IsVideoPlan plan → AreSent bytes units
    → length bytes ≤ 268435456
    → Conforms (video_times last_stamp plan bytes units)
times_conform last_stamp plan bytes units p sent limit = record {
  kind = video_is last_stamp plan bytes units p sent;
  holds = λ n k other few known. absurd (other (one_bit plan (suc n) p.restart ∙ sym (one_bit plan n p.restart)));
  clock = no_clock_of plan.crf plan (all_packets units) p.crf;
}

times_regular : (last_stamp : Bool) (plan : TalkPlan) (bytes : List ℕ) (units : List (ℕ × ℕ)) → IsVideoPlan plan → AreSent bytes units
    → length bytes ≤ 268435456
    → IsRegular (video_times last_stamp plan bytes units)
times_regular last_stamp plan bytes units p sent limit = record {
  instants = record {
    due = λ n h. due_within plan bytes units n p sent limit h;
    stamp = λ n instant h e. (let same = stamp_is last_stamp (part_at units (place_of units n)) (video_due plan bytes units n) instant e in rw same
        (due_within plan bytes units n p sent limit h));
  };
  together = λ n k m low high h e. together plan bytes units n k m p low high e;
  clock = no_clock_regular plan.crf plan (all_packets units) p.crf;
}

conforms : (last_stamp : Bool) (plan : TalkPlan) (bytes : List ℕ) (units : List (ℕ × ℕ)) → IsVideoPlan plan → AreSent bytes units → length bytes ≤ 268435456
    → plan.id < 2 ^ 64
    → IsConforming (pos 0) (video_journal last_stamp plan bytes units)
conforms last_stamp plan bytes units p sent limit id = record {
  times = times_conform last_stamp plan bytes units p sent limit;
  packets = λ n h. packet_is last_stamp plan bytes units n sent id h;
  clock_packets = λ m h. absurd (let none = none_sent plan.crf plan (all_packets units) p.crf in omega arith);
}

-- ---- when packets are sent

ahead : (plan : TalkPlan) (bytes : List ℕ) (units : List (ℕ × ℕ)) (n : ℕ) → IsVideoPlan plan → AreSent bytes units → length bytes ≤ 268435456
    → n < all_packets units
    → video_arrival plan bytes units n + plan.lead ≡ video_due plan bytes units n
ahead plan bytes units n p sent limit h =
    let time = in_time plan (access_unit_of bytes units n) p (access_known bytes units n sent h limit) in
    omega (arith, time.from)

rising : (plan : TalkPlan) (bytes : List ℕ) (units : List (ℕ × ℕ)) (n : ℕ) → IsVideoPlan plan
    → video_arrival plan bytes units n ≤ video_arrival plan bytes units (n + 1)
rising plan bytes units n p =
    let next : n + 1 ≡ suc n = omega arith in
    let rise = instant_rises plan (access_unit_of bytes units n) (access_unit_of bytes units (suc n)) p (access_step bytes units n) in
    rw next (omega arith)

on_time : (last_stamp : Bool) (plan : TalkPlan) (bytes : List ℕ) (units : List (ℕ × ℕ)) (lead n : ℕ) → IsVideoPlan plan → AreSent bytes units
    → length bytes ≤ 268435456 → n < all_packets units
    → IsDelivered (video_times last_stamp plan bytes units) lead (record { number = n; arrival = video_arrival plan bytes units n })
on_time last_stamp plan bytes units lead n p sent limit h =
    let at = ahead plan bytes units n p sent limit h in
    let due = due_within plan bytes units n p sent limit h in
    record {
      known = h;
      arrival = omega arith;
      stamped = λ instant e. (let same = stamp_is last_stamp (part_at units (place_of units n)) (video_due plan bytes units n) instant
          e in record { from = omega (arith, p.lead); to = omega arith });
      unstamped = λ audio none. absurd audio;
    }

-- ---- adjacent packets

all_near : (plan : TalkPlan) (bytes : List ℕ) (units : List (ℕ × ℕ)) (numbers : List ℕ) → AreNear (video_times false plan bytes units) numbers
all_near plan bytes units [] = tt
all_near plan bytes units (n ∷ []) = tt
all_near plan bytes units (n ∷ m ∷ numbers) = (
  (λ first second unstamped. elim unstamped [ inl e ↦ absurd cc | inr e ↦ absurd cc ]),
  all_near plan bytes units
      (m ∷ numbers),
)

near_by : (last_stamp : Bool) (plan : TalkPlan) (bytes : List ℕ) (units : List (ℕ × ℕ)) (numbers : List ℕ)
    → StaysNearBy (H264 last_stamp) (video_times last_stamp plan bytes units) numbers
    → AreNear (video_times last_stamp plan bytes units) numbers
near_by false plan bytes units numbers near = all_near plan bytes units numbers
near_by true plan bytes units numbers near = near

-- ---- the whole stream

no_arrival : (crf : Option CrfPlan) (plan : TalkPlan) (m : ℕ) → crf ≡ None → clock_arrival_by crf plan m ≡ 0
no_arrival None plan m e = refl
no_arrival (Some crf) plan m e = absurd cc

pub video_stream_keeps : (last_stamp : Bool) (plan : TalkPlan) (bytes : List ℕ) (units : List (ℕ × ℕ)) → IsVideoPlan plan → plan.kind ≡ H264 last_stamp
    → AreSent bytes units → length bytes ≤ 268435456
    → IsStream plan (video_stream last_stamp plan bytes units)
video_stream_keeps last_stamp plan bytes units p kind sent limit = record {
  rising = λ n. rising plan bytes units n p;
  early = λ n ready h. omega arith;
  sent = λ n h. (let time = in_time plan (access_unit_of bytes units n) p (access_known bytes units n sent h limit) in let at = ahead plan bytes units n p sent
      limit h in omega (arith, time.to));
  size = λ n h. (let size = bytes_size (H264Data (cvf_packet last_stamp plan bytes units n)) in let short = packet_short last_stamp plan bytes units
      n in omega arith);
  clock_rising = λ m. (let here = no_arrival plan.crf plan m p.crf in omega arith);
  clock_sent = λ m h. absurd (let none = none_sent plan.crf plan (all_packets units) p.crf in omega arith);
  clock_size = λ m h. absurd (let none = none_sent plan.crf plan (all_packets units) p.crf in omega arith);
  conforms = λ id. conforms last_stamp plan bytes units p sent limit id;
  regular = times_regular last_stamp plan bytes units p sent limit;
  on_time = λ lead n expects h. on_time last_stamp plan bytes units lead n p sent limit h;
  near = λ numbers near. near_by last_stamp plan bytes units numbers
      (subst (λ (k : TalkKind). StaysNearBy k (video_times last_stamp plan bytes units) numbers) kind near);
}
