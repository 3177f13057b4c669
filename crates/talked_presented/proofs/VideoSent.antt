-- What a listener gets from a whole capture of an H.264 plan: packet n in record n, in order and in time.
use Rattle.std.proofs.Common.{◌≡◌, ℕ, zero, suc, ◌+◌, ◌<◌, ◌≤◌, Bool, pos, List, ◌∷◌, length, map, refl, sym, ap, ◌∙◌, subst, arith}
use Rattle.std.specs.List.{range_with_len}
use Rattle.pcap_frames.specs.Capture.{Record}
use Rattle.stream_journal.specs.Conforming.{IsVideo}
use Rattle.stream_journal.specs.Delivered.{AreNear}
use Rattle.stream_journal.specs.Journal.{Part}
use Rattle.listener_laws.proofs.Carried.{AreRead, all_delivered, all_from, numbered}
use Rattle.packet_journal.specs.Deliveries.{Delivery, deliveries, delivery}
use Rattle.packet_journal.specs.Delivered.{AreFrom, IsCopyOf, OfStream, stream_numbers}
use Rattle.packet_journal.specs.Packets.{IsConforming}
use Rattle.listener.specs.declared.plan.ListenPlan.{ListenPlan}
use Rattle.listener.specs.Heard.{shown_of}
use Rattle.listener.specs.Laws.{FollowsClock, by_clock}
use Rattle.listener.proofs.TrueUnits.{video, video_copy, video_streamed}
use Rattle.talk_plan.specs.declared.plan.TalkKind.TheVariants.{H264}
use Rattle.talk_plan.specs.declared.plan.TalkPlan.{TalkPlan}
use Rattle.talk_plan.specs.Plan.{Expects, IsAhead, IsVideoPlan, most_input}
use Rattle.talk_video.specs.Fragments.{access_unit_of}
use Rattle.talk_video.specs.Units.{sent_units}
use Rattle.talk_video.proofs.AccessLemmas.{access_rises}
use Rattle.talk_video.proofs.VideoRules.{instant_rises}
use Rattle.talker.specs.Frames.{frame_of, record_of, records}
use Rattle.talker.specs.Journal.{Stream, journal, stream_of}
use Rattle.talker.proofs.StreamLemmas.{IsStream, next_near}
use Rattle.talker.proofs.TalkLemmas.{frames_alone, plan_keeps}
use Rattle.talked_headline.specs.Premises.{part_sent}
use Rattle.talked_presented.specs.Whole.{ArePresented, HearsUnits, unit_ends}
use Rattle.talked_headline.proofs.Fragments.{due_is, few_packets, parts_are, same_byte, unit_small}
use Rattle.talked_presented.proofs.Caught.{stream_heard}
use Rattle.talked_presented.proofs.Merged.{all_by, carried_by, frame_by, stream_frames_are}
use Rattle.talked_presented.proofs.Sent.{all_sent}
use Rattle.talked_headline.proofs.Talked.{stream_is, video_expects, video_plan}
use Rattle.talked_presented.proofs.UnitCapture.{IsHeardFront}
use Rattle.talked_presented.proofs.UnitRuns.{unit_low}
use Rattle.talked_presented.proofs.UnitsPresented.{AreTimelyUnits, units_presented}

-- the records of m packets from packet a on
abbrev pub front_records : Stream → ℕ → ℕ → List Record
front_records s a m = map record_of (map (frame_by s) (map OfStream (range_with_len a m)))

-- the delivery of the frame of packet n
abbrev pub delivered : Stream → ℕ → Delivery
delivered s n = delivery (1 + n) (record_of (frame_of s n))

front_numbered : (s : Stream) (a m : ℕ) → numbered (1 + a) (front_records s a m) ≡ map (delivered s) (range_with_len a m)
front_numbered s a zero = refl
front_numbered s a (suc m) =
    let next : 1 + a + 1 ≡ 1 + (a + 1) = omega arith in
    ap (λ (l : List Delivery). delivered s a ∷ l) (ap (λ (b : ℕ). numbered b (front_records s (a + 1) m)) next ∙ front_numbered s (a + 1) m)

numbers_are : (a m : ℕ) → stream_numbers (map OfStream (range_with_len a m)) ≡ range_with_len a m
numbers_are a zero = refl
numbers_are a (suc m) = ap (λ (l : List ℕ). a ∷ l) (numbers_are (a + 1) m)

-- ---- the first m packets are heard

front_heard : (plan : TalkPlan) (input : List ℕ) (listen : ListenPlan) (m : ℕ) → IsConforming (pos 0) (journal plan input) → listen.stream ≡ (journal plan input).stream → FollowsClock (pos 0) (journal plan input) listen.shift listen.clock → IsStream plan (stream_of plan input) → Expects plan listen.lead
    → AreRead (journal plan input) listen.lead → m ≤ (journal plan input).times.packets → IsHeardFront (journal plan input) listen (delivered (stream_of plan input)) m
front_heard plan input listen m conforming stream clock is expects are le =
    let p = journal plan input in
    let s = stream_of plan input in
    let os = map OfStream (range_with_len 0 m) in
    let rs = front_records s 0 m in
    let one : 1 + 0 ≡ 1 = omega arith in
    let carry = all_by plan s listen.lead os is expects (all_sent s 0 m (omega (arith, le))) in
    let all : deliveries p.stream listen.clock rs ≡ numbered 1 rs = all_delivered p listen.clock listen.lead os rs are (stream_heard p listen.clock (range_with_len 0 m)) carry in
    record {
      records = rs;
      heard = record {
        conforming = conforming;
        stream = stream;
        clock = clock;
        delivered = record {
          origins = os;
          copies = subst (λ (l : List Delivery). AreFrom p listen.lead os l) (sym all) (all_from p listen.lead 1 os rs are carry);
          near = subst (λ (l : List ℕ). AreNear p.times l) (sym (numbers_are 0 m)) (next_near p.times 0 m);
        };
      };
      are = ap (λ (id : ℕ). deliveries id listen.clock rs) stream ∙ (all ∙ (ap (λ (b : ℕ). numbered b rs) (sym one) ∙ front_numbered s 0 m));
    }

-- ---- a whole capture

whole_records_are : (plan : TalkPlan) (input : List ℕ) (last_stamp : Bool) → plan.kind ≡ H264 last_stamp → IsVideoPlan plan → length input ≤ most_input → records plan input ≡ front_records (stream_of plan input) 0 (journal plan input).times.packets
whole_records_are plan input last_stamp kind talked limit =
    ap (map record_of) (frames_alone plan input (video_plan plan last_stamp kind talked) talked.crf limit ∙ sym (stream_frames_are (stream_of plan input) (range_with_len 0 (journal plan input).times.packets)))

units_timely : (plan : TalkPlan) (input : List ℕ) (listen : ListenPlan) → HearsUnits plan input listen → IsConforming (pos 0) (journal plan input)
    → AreRead (journal plan input) listen.lead
    → AreTimelyUnits (journal plan input) (part_sent input) listen (delivered (stream_of plan input)) (stream_of plan input).arrival
units_timely plan input listen h conforming are =
    let p = journal plan input in
    let s = stream_of plan input in
    let N : ℕ = p.times.packets in
    let part : ℕ → Part = part_sent input in
    let plan_is = video_plan plan h.last_stamp h.kind h.talked in
    let stream_of_plan = plan_keeps plan input plan_is h.limit in
    let kind = parts_are plan input h.last_stamp h.kind in
    let is : IsVideo p.times part = video p part kind conforming.times in
    let expects = video_expects plan h.last_stamp listen.lead h.kind in
    let copy : (n : ℕ) → n < N → IsCopyOf p listen.lead n (delivered s n) = λ n lt. are.copy n (1 + n) (record_of (frame_of s n)) (carried_by plan s listen.lead (OfStream n) stream_of_plan expects lt) in
    let ready : IsAhead plan.crf plan.lead = let none = h.talked.crf in rw none tt in
    record {
      capture = record {
        kind = kind;
        is = is;
        front = λ m le. front_heard plan input listen m conforming (h.stream ∙ stream_is plan input) h.clock stream_of_plan expects are le;
        copy = copy;
        frame = λ n. omega arith;
        streamed = λ n lt. video_streamed (delivered s n) (video_copy (pos 0) p part listen.lead n (delivered s n) conforming kind (copy n lt) (record { subtype = refl; seq = refl })).subtype;
        byte = λ m n k unit low high. same_byte plan input h.last_stamp m n k h.kind unit low high;
        size = λ m n unit lt. unit_small plan input h.last_stamp m n h.kind (unit_low part m n unit);
        few = λ m n unit lt. few_packets plan input h.last_stamp m n h.kind is lt unit;
      };
      arrived = λ n. refl;
      rise = stream_of_plan.rising;
      early = λ n lt. stream_of_plan.early n ready lt;
      few = h.room.packets;
      due_rise = λ k n le. rw (due_is plan input h.last_stamp k h.kind, due_is plan input h.last_stamp n h.kind)
          (instant_rises plan (access_unit_of input (sent_units input) k) (access_unit_of input (sent_units input) n) h.talked (access_rises input (sent_units input) k n le));
      bytes = h.room.bytes;
    }

-- each unit of a plan of H.264 is presented
pub video_presented : (plan : TalkPlan) (input : List ℕ) (listen : ListenPlan) → HearsUnits plan input listen → IsConforming (pos 0) (journal plan input)
    → AreRead (journal plan input) listen.lead
    → ArePresented (by_clock listen) (journal plan input) (unit_ends plan input) (shown_of listen (records plan input))
unfolding units_timely front_heard
video_presented plan input listen h conforming are =
    let p = journal plan input in
    let timely = units_timely plan input listen h conforming are in
    subst (λ (l : List Record). ArePresented (by_clock listen) p (unit_ends plan input) (shown_of listen l)) (sym (whole_records_are plan input h.last_stamp h.kind h.talked h.limit))
    (units_presented p (part_sent input) listen (delivered (stream_of plan input)) (stream_of plan input).arrival timely)
