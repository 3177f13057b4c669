-- The deliveries are captured, and the capture delivers the stream.
use Rattle.std.proofs.Common.{◌≡◌, ℕ, ℤ, pos, ◌+◌, ◌*◌, ◌^◌, ◌<◌, ◌≤◌, List, [], ◌∷◌, map, refl, sym, subst, arith, append-nil}
use Rattle.std.specs.Prelude.{◌%◌, ◌==◌, ◌≤ℤ◌, ◌<ℤ◌, nat_abs}
use Rattle.std.specs.List.{AllByRecursion}
use Rattle.std.proofs.Math.Nat.{mod-one}
use Rattle.std.proofs.lemmas.Int.{ints}
use Rattle.pcap_frames.specs.Capture.{HasSpelling}
use Rattle.stream_journal.specs.Delivered.{AreNear, IsAudioKind, IsDelivered, IsInHalfCircle, IsWithin}
use Rattle.packet_journal.specs.Carried.{AllCarry, Carries}
use Rattle.packet_journal.specs.Packets.{IsConforming, spelling_of}
use Rattle.talker.specs.Frames.{capture_style}
use Rattle.talk_plan.specs.Ethernet.{ethernet, packet_bytes}
use Rattle.talker.specs.Journal.{Stream, stream_of}
use Rattle.talk_plan.specs.Plan.{Expects}
use Rattle.soak_run.specs.Network.{deliveries_of, soak_plan}
use Rattle.talk_plan.specs.Timing.{arrival_of, nominal_instant}
use Rattle.talk_audio.proofs.DueLemmas.{stamp_is}
use Rattle.soak_run.proofs.SoakLemmas.{sent_soon}
use Rattle.talker.proofs.StreamLemmas.{IsStream, packets_in, writable_frame}
use Rattle.talker.proofs.TalkLemmas.{plan_keeps}
use Rattle.soak_run.specs.Captured.{captured, soak_input, soak_listener, soak_records, soak_stream}
use Rattle.soak_run.proofs.DeliveryLemmas.{IsCopy, are_copies}
use Rattle.soak_run.proofs.StreamSizes.{input_within, soak_is_plan, stream_long}

-- the soak plan's stream keeps the rules that `IsStream` states
pub stream_keeps : (packets : ℕ) → packets ≤ 1000000 → IsStream soak_plan (stream_of soak_plan (soak_input packets))
stream_keeps packets few = plan_keeps soak_plan (soak_input packets) soak_is_plan (input_within packets few)

-- ---- a delivery can be spelled

one_spelled : (packets : ℕ) (s : Stream) (d : ℤ × ℕ) → packets ≤ 1000000 → IsStream soak_plan s → packets_in s ≡ packets → IsCopy packets d → HasSpelling capture_style (captured s d)
one_spelled packets s d few stream long is =
    let soon = sent_soon d.1 (omega (arith, is.known)) in
    let short = is.short in
    let size = stream.size d.1 (omega (arith, is.known)) in
    record {
      begun = subst (λ (t : ℤ). pos 0 ≤ℤ t) (sym is.time) (omega (arith, ints));
      ended = subst (λ (t : ℤ). t <ℤ pos (2 ^ 32 * 1000000000)) (sym is.time) (omega (arith, ints));
      whole = mod-one (nat_abs d.0);
      orig_len = omega arith;
      limit = omega arith;
    }

each_spelled : (packets : ℕ) (s : Stream) (ds : List (ℤ × ℕ)) → packets ≤ 1000000 → IsStream soak_plan s → packets_in s ≡ packets → AllByRecursion (IsCopy packets) ds
    → AllByRecursion (HasSpelling capture_style) (map (captured s) ds)
each_spelled packets s [] few stream long all = tt
each_spelled packets s (d ∷ ds) few stream long all = (one_spelled packets s d few stream long all.0, each_spelled packets s ds few stream long all.1)

pub all_spelled : (packets : ℕ) → packets ≤ 1000000 → AllByRecursion (HasSpelling capture_style) (soak_records packets)
unfolding soak_records soak_stream
all_spelled packets few =
    each_spelled packets (stream_of soak_plan (soak_input packets)) (deliveries_of packets) few (stream_keeps packets few) (stream_long packets) (are_copies packets)

-- ---- a delivery is not so late that it could be taken for another packet

near_lead : (delay : ℕ) → delay ≤ 2520000 → Expects soak_plan (2000000 + delay)
near_lead delay short = record { from = omega arith; to = omega arith }

in_circle : (n delay instant : ℕ) → nominal_instant soak_plan n 0 ≡ instant → delay ≤ 2520000 → IsInHalfCircle instant (arrival_of soak_plan n + delay)
unfolding nominal_instant
in_circle n delay instant e short = record { from = omega arith; to = omega arith }

copy_delivered : (packets n delay : ℕ) → packets ≤ 1000000 → n < packets → delay ≤ 2520000
    → IsDelivered (stream_of soak_plan (soak_input packets)).journal.times 2000000 (record { number = n; arrival = arrival_of soak_plan n + delay })
copy_delivered packets n delay few h short =
    let s = stream_of soak_plan (soak_input packets) in
    let known : n < packets_in s = subst (λ (m : ℕ). n < m) (sym (stream_long packets)) h in
    let at = (stream_keeps packets few).on_time (2000000 + delay) n (near_lead delay short) known in
    let moved : arrival_of soak_plan n + (2000000 + delay) ≡ arrival_of soak_plan n + delay + 2000000 = omega arith in
    let soon = sent_soon n (omega arith) in
    record {
      known = known;
      arrival = omega arith;
      stamped = λ instant e. in_circle n delay instant (stamp_is (n % 8 == 0) (nominal_instant soak_plan n 0) instant e) short;
      unstamped = λ audio none. subst (λ (t : ℕ). IsWithin s.journal.times 128 t (s.journal.times.due n)) moved (at.unstamped audio none);
    }

one_carried : (packets : ℕ) (d : ℤ × ℕ) → packets ≤ 1000000 → IsCopy packets d
    → Carries (stream_of soak_plan (soak_input packets)).journal 2000000 d.1 (captured (stream_of soak_plan (soak_input packets)) d)
unfolding packet_bytes
one_carried packets d few is =
    let s = stream_of soak_plan (soak_input packets) in
    let packet : List ℕ = spelling_of (s.journal.packet d.1) in
    record {
      frame = ethernet packet;
      writable = writable_frame packet;
      bytes = refl;
      avtp = refl;
      packet = record { trail = []; whole = sym (append-nil packet) };
      arrival = arrival_of soak_plan d.1 + is.delay;
      arrived = is.time;
      delivered = copy_delivered packets d.1 is.delay few is.known is.short;
    }

each_carried : (packets : ℕ) (ds : List (ℤ × ℕ)) → packets ≤ 1000000 → AllByRecursion (IsCopy packets) ds
    → AllCarry (stream_of soak_plan (soak_input packets)).journal 2000000 (map (λ (d : ℤ × ℕ). d.1) ds) (map (captured (stream_of soak_plan (soak_input packets))) ds)
each_carried packets [] few all = tt
each_carried packets (d ∷ ds) few all = (one_carried packets d few all.0, each_carried packets ds few all.1)

-- the numbers of the packets that are delivered
abbrev pub numbers_of : ℕ → List ℕ
numbers_of packets = map (λ (d : ℤ × ℕ). d.1) (deliveries_of packets)

pub all_carried : (packets : ℕ) → packets ≤ 1000000 → AllCarry (soak_stream packets).journal 2000000 (numbers_of packets) (soak_records packets)
unfolding soak_records soak_stream
all_carried packets few = each_carried packets (deliveries_of packets) few (are_copies packets)

-- ---- the stream

pub conforms : (packets : ℕ) → packets ≤ 1000000 → IsConforming (pos 0) (soak_stream packets).journal
unfolding soak_stream
conforms packets few = (stream_keeps packets few).conforms (omega arith)

pub all_near : (packets : ℕ) (numbers : List ℕ) → packets ≤ 1000000 → AreNear (soak_stream packets).journal.times numbers
unfolding soak_stream
all_near packets numbers few = (stream_keeps packets few).near numbers tt

pub audio_stream : (packets : ℕ) → IsAudioKind (soak_stream packets).journal.times.kind
unfolding soak_stream
audio_stream packets = tt

pub stream_id : (packets : ℕ) → soak_listener.stream ≡ (soak_stream packets).journal.stream
unfolding soak_stream
stream_id packets = refl
