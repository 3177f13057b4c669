-- The stream of an audio plan fulfils `IsStream`, whatever its format.
use Rattle.std.proofs.Common.{◌≡◌, inl, inr, ℕ, suc, ◌+◌, ◌*◌, ◌^◌, ◌%◌, ◌<◌, ◌≤◌, Bool, true, false, List, [], ◌∷◌, length, Option, Some, None, is_some, pos, refl, sym}
use Rattle.std.proofs.Common.{ap, ◌∙◌, arith}
use Rattle.std.specs.Prelude.{◌==◌, if◌then◌else◌}
use Rattle.std.proofs.Math.Nat.{le-mul_of_pos_right, mul-le-mul_right, mul_assoc}
use Rattle.stream_journal.specs.Conforming.{Conforms, HoldsEight, IsApart, IsAudio, is_stamped}
use Rattle.std.proofs.lemmas.Bool.{cases_lt}
use Rattle.stream_journal.specs.Delivered.{AreNear, IsDelivered, IsInHalfCircle, IsWithin}
use Rattle.stream_journal.specs.Journal.{Journal, Kind, rule_of}
use Rattle.stream_journal.specs.Regular.{IsRegular}
use Rattle.stream_journal.proofs.Spacing.{rising as due_rises}
use Rattle.time_unfold.specs.Heads.{stamped_index}
use Rattle.packet_journal.specs.Packets.{IsConforming}
use Rattle.talk_plan.specs.declared.plan.CrfPlan.{CrfPlan}
use Rattle.talk_plan.specs.declared.plan.TalkPlan.{TalkPlan}
use Rattle.talk_audio.specs.Audio.{Audio}
use Rattle.talker.specs.Journal.{Stream, stream_by}
use Rattle.talk_audio.specs.Journal.{audio_journal, audio_times, due_in, nominal_times, packets_of, samples_in}
use Rattle.talk_plan.specs.Stamps.{stamped_instant}
use Rattle.talk_audio.specs.Packets.{stamp_of}
use Rattle.talk_plan.specs.Plan.{Expects, IsAhead, IsNearLead, IsAudioPlan, most_input}
use Rattle.talk_plan.specs.Timing.{arrival_of, event_of, first_instant, mr_of, nominal_instant}
use Rattle.talk_plan.proofs.StampLemmas.{early_by, most_early, most_late, stamped_near}
use Rattle.talk_clock.proofs.ClockPackets.{clock_early, clock_fits, clock_packet_is, clock_rises}
use Rattle.talk_clock.proofs.ClockRules.{clock_is, clock_regular}
use Rattle.talk_audio.proofs.ClockStamps.{clock_agrees}
use Rattle.talk_audio.proofs.DueLemmas.{IsKindOf, due_near, head_due, stamp_is}
use Rattle.talk_plan.proofs.RateLemmas.{rate_from, rate_range}
use Rattle.talk_plan.proofs.RunLemmas.{new_bit}
use Rattle.talk_audio.proofs.SampleLemmas.{begun_within, samples_whole}
use Rattle.talker.proofs.StreamLemmas.{IsStream}
use Rattle.talk_plan.proofs.TimingLemmas.{apart, in_time, rising, short_offset, sum_of, lead_within}
use Rattle.talk_audio.proofs.DueLemmas.{IsFormatOf}

abbrev pub stream_in : Audio → TalkPlan → List ℕ → Stream
stream_in a plan input = stream_by (Some a) plan input

-- ---- packet n of an input that is not too long

-- at most 2^28 sample frames precede packet n
pub timely : (plan : TalkPlan) (a : Audio) (headers : ℕ) (input : List ℕ) (n : ℕ) → IsAudioPlan plan → IsFormatOf plan a headers → length input ≤ most_input
    → n < packets_of a plan input
    → n * plan.count ≤ 268435456
timely plan a headers input n p is limit h =
    let begins : n * (plan.count * a.frame) < length input = begun_within a.frame plan.count n input is.some p.some_count h in
    let fewer : n * plan.count ≤ n * plan.count * a.frame = le-mul_of_pos_right (n * plan.count) is.some in
    omega (arith, mul_assoc n plan.count a.frame)

-- the nominal instant of each sample frame of packet n is at most 184,500,001 ns after that of the first sample frame
soon : (plan : TalkPlan) (n i : ℕ) → IsAudioPlan plan → i < plan.count
    → (first_instant plan n ≤ nominal_instant plan n i) × (nominal_instant plan n i ≤ first_instant plan n + 184500001)
unfolding nominal_instant
soon plan n i p within =
    let least = rate_from plan p in
    let events : event_of plan n 0 + i ≡ event_of plan n i = omega arith in
    let sum = sum_of plan.rate (event_of plan n 0) i (event_of plan n i) (omega arith) events in
    let few = short_offset plan.rate i least in
    (omega (arith, sum.from), omega (arith, sum.to, p.count))

-- ---- the rules of audio

apart_by : (due next x y rate time : ℕ) → due ≤ x + 1 → y ≤ next + 3 → 4 * (x * rate) + time + 16 * rate ≤ 4 * (y * rate)
    → 4 * (due * rate) + time ≤ 4 * (next * rate)
apart_by due next x y rate time from to far =
    let least : due * rate ≤ (x + 1) * rate = mul-le-mul_right rate from in
    let most : y * rate ≤ (next + 3) * rate = mul-le-mul_right rate to in
    omega arith

spaced : (kind : Kind) (plan : TalkPlan) (packets n : ℕ) → IsAudioPlan plan → IsKindOf plan kind
    → IsApart (audio_times kind plan packets) 3 (due_in (nominal_times kind plan packets) n) (due_in (nominal_times kind plan packets) (suc n))
spaced kind plan packets n p k =
    let here = due_near kind plan packets n p k in
    let next = due_near kind plan packets (suc n) p k in
    apart_by (due_in (nominal_times kind plan packets) n) (due_in (nominal_times kind plan packets) (suc n)) (first_instant plan n)
    (first_instant plan (suc n)) plan.rate
    (3 * (plan.count * 1000000000)) (omega (arith, here.from, most_late plan.crf)) (omega (arith, next.to, most_early plan.crf)) (apart plan n p)

pub some_by : (b : Bool) (instant : ℕ) → is_some (if b then Some instant else None) ≡ b
some_by true instant = refl
some_by false instant = refl

audio : (kind : Kind) (plan : TalkPlan) (packets : ℕ) → IsAudioPlan plan → IsKindOf plan kind → IsAudio (audio_times kind plan packets)
audio kind plan packets p k =
    let range = rate_range plan p in
    record {
      rate_from = range.least;
      rate_to = range.most;
      some = p.some_count;
      stamps = λ n h. some_by (is_stamped (rule_of kind n) n plan.count) (stamped_instant plan n (stamped_index (rule_of kind n)));
      blocks = k.blocks packets;
      spacing = λ n h. spaced kind plan packets n p k;
      first_instants = λ n head h e. head_due kind plan packets n head p k e;
    }

holds : (plan : TalkPlan) (packets : ℕ) → IsAudioPlan plan → HoldsEight packets (λ n. mr_of plan n)
holds plan packets p n k other few known =
    let new = new_bit plan.restart plan.jump n p.restart other in
    ap (λ (g : ℕ). g % 2 == 1) (new.kept k few ∙ sym new.run)

stamp_by : (kind : Kind) (plan : TalkPlan) (n instant : ℕ) (b : Bool) → is_stamped (rule_of kind n) n plan.count ≡ b → stamp_of kind plan n ≡ Some instant
    → (b ≡ true) × (stamped_instant plan n (stamped_index (rule_of kind n)) ≡ instant)
stamp_by kind plan n instant true e h = (refl, stamp_is true (stamped_instant plan n (stamped_index (rule_of kind n))) instant (rw e at h))
stamp_by kind plan n instant false e h = let none : stamp_of kind plan n ≡ None = rw e refl in absurd cc

-- the timestamp of a stamped packet belongs to one of the packet's own sample frames
record IsStamped (kind : Kind) (plan : TalkPlan) (n instant : ℕ) : Type 0 where
  within : stamped_index (rule_of kind n) < plan.count
  same : stamped_instant plan n (stamped_index (rule_of kind n)) ≡ instant

stamped : (kind : Kind) (plan : TalkPlan) (n instant : ℕ) → IsKindOf plan kind → stamp_of kind plan n ≡ Some instant → IsStamped kind plan n instant
stamped kind plan n instant k h =
    let is = stamp_by kind plan n instant (is_stamped (rule_of kind n) n plan.count) refl h in
    record { within = k.within n is.0; same = is.1 }

due_within : (plan : TalkPlan) (a : Audio) (headers packets : ℕ) (input : List ℕ) (n : ℕ) → IsAudioPlan plan → IsFormatOf plan a headers
    → length input ≤ most_input → n < packets_of a plan input
    → due_in (nominal_times a.kind plan packets) n ≤ 2 ^ 62
due_within plan a headers packets input n p is limit h =
    let near = due_near a.kind plan packets n p is.kind in
    let most = in_time plan n 0 p (timely plan a headers input n p is limit h) p.some_count in
    omega (arith, near.from, p.lead, most_late plan.crf)

stamp_within : (plan : TalkPlan) (a : Audio) (headers : ℕ) (input : List ℕ) (n instant : ℕ) → IsAudioPlan plan → IsFormatOf plan a headers
    → length input ≤ most_input → n < packets_of a plan input
    → stamp_of a.kind plan n ≡ Some instant → instant ≤ 2 ^ 62
stamp_within plan a headers input n instant p is limit h e =
    let stamp = stamped a.kind plan n instant is.kind e in
    let most = in_time plan n (stamped_index (rule_of a.kind n)) p (timely plan a headers input n p is limit h) stamp.within in
    let near = stamped_near plan n (stamped_index (rule_of a.kind n)) p in
    omega (arith, stamp.same, p.lead, near.late, most_late plan.crf)

times_conform : (plan : TalkPlan) (a : Audio) (headers : ℕ) (input : List ℕ) → IsAudioPlan plan → IsFormatOf plan a headers → length input ≤ most_input
    → Conforms (audio_times a.kind plan (packets_of a plan input))
times_conform plan a headers input p is limit =
    let packets : ℕ = packets_of a plan input in
    record {
      kind = is.kind.of_kind (audio_times a.kind plan packets) (audio a.kind plan packets p is.kind) (clock_agrees a.kind plan packets p is.kind);
      holds = holds plan packets p;
      clock = clock_is plan packets p (λ n h. timely plan a headers input n p is limit h);
    }

-- if packets n and m of audio are due at the same instant, each packet between them is due at that instant, too
due_once : (j : Journal) → IsAudio j → (n k m : ℕ) → n ≤ k → k ≤ m → m < j.packets → j.due n ≡ j.due m → j.due k ≡ j.due n
due_once j is n k m low high known e = elim (cases_lt n m) [
  | inl before ↦ absurd (let h = due_rises j is n m before known in omega arith)
  | inr same ↦ let here : k ≡ n = omega arith in ap j.due here
]

times_regular : (plan : TalkPlan) (a : Audio) (headers : ℕ) (input : List ℕ) → IsAudioPlan plan → IsFormatOf plan a headers → length input ≤ most_input
    → IsRegular (audio_times a.kind plan (packets_of a plan input))
times_regular plan a headers input p is limit =
    let packets : ℕ = packets_of a plan input in
    record {
      instants = record {
        due = λ n h. due_within plan a headers packets input n p is limit h;
        stamp = λ n instant h e. stamp_within plan a headers input n instant p is limit h e;
      };
      together = due_once (audio_times a.kind plan packets) (audio a.kind plan packets p is.kind);
      clock = clock_regular plan packets p (λ n h. timely plan a headers input n p is limit h);
    }

audio_conforms : (plan : TalkPlan) (a : Audio) (headers : ℕ) (input : List ℕ) → IsAudioPlan plan → IsFormatOf plan a headers → length input ≤ most_input
    → plan.id < 2 ^ 64
    → IsConforming (pos 0) (audio_journal a plan input)
audio_conforms plan a headers input p is limit id = record {
  times = times_conform plan a headers input p is limit;
  packets = λ n h. is.packet (packets_of a plan input) n (samples_in a plan input n) id (samples_whole a.silence a.frame plan.count n input is.silence);
  clock_packets = λ m h. clock_packet_is plan (packets_of a plan input) m p (λ n k. timely plan a headers input n p is limit k) h;
}

-- ---- packet n arrives in time

near_by : (arrival lead plan_lead first due rate time : ℕ) → arrival + plan_lead ≡ first → due ≤ first + 1 → first ≤ due + 3 → 3 * rate < time
    → plan_lead * rate < lead * rate + 127 * time → lead * rate < plan_lead * rate + 127 * time
    → (due * rate < (arrival + lead) * rate + 128 * time) × ((arrival + lead) * rate < due * rate + 128 * time)
near_by arrival lead plan_lead first due rate time at from to wide soon late =
    let least : due * rate ≤ (arrival + plan_lead + 1) * rate = mul-le-mul_right rate (omega arith) in
    let most : (arrival + plan_lead) * rate ≤ (due + 3) * rate = mul-le-mul_right rate (omega arith) in
    (omega arith, omega arith)

-- if a listener's `lead` is near the plan's lead, packet n arrives about `lead` before its nominal first instant
near_due : (kind : Kind) (plan : TalkPlan) (packets lead n : ℕ) → IsAudioPlan plan → IsKindOf plan kind → IsNearLead plan lead
    → IsWithin (audio_times kind plan packets) 128 (arrival_of plan n + lead) (due_in (nominal_times kind plan packets) n)
near_due kind plan packets lead n p k near =
    let range = rate_range plan p in
    let due = due_near kind plan packets n p k in
    let found = near_by (arrival_of plan n) lead plan.lead (first_instant plan n) (due_in (nominal_times kind plan packets) n) plan.rate
    (plan.count * 1000000000)
    (lead_within plan n) (omega (arith, due.from, most_late plan.crf)) (omega (arith, due.to, most_early plan.crf)) (omega (arith, range.most, p.some_count))
    near.from near.to in
    record { from = found.0; to = found.1 }

unstamped : (kind : Kind) (plan : TalkPlan) (n : ℕ) (b : Bool) → is_stamped (rule_of kind n) n plan.count ≡ b → stamp_of kind plan n ≡ None → b ≡ false
unstamped kind plan n true e none = let some : stamp_of kind plan n ≡ Some (stamped_instant plan n (stamped_index (rule_of kind n))) = rw e refl in absurd cc
unstamped kind plan n false e none = refl

in_circle : (kind : Kind) (plan : TalkPlan) (n instant : ℕ) → IsAudioPlan plan → IsKindOf plan kind → stamp_of kind plan n ≡ Some instant
    → IsInHalfCircle instant (arrival_of plan n)
in_circle kind plan n instant p k e =
    let stamp = stamped kind plan n instant k e in
    let near = soon plan n (stamped_index (rule_of kind n)) p stamp.within in
    let by = stamped_near plan n (stamped_index (rule_of kind n)) p in
    record {
      from = omega (arith, stamp.same, lead_within plan n, near.1, p.lead, by.late, most_late plan.crf);
      to = omega (arith, stamp.same, lead_within plan n, near.0, by.early, most_early plan.crf);
    }

on_time : (plan : TalkPlan) (a : Audio) (headers : ℕ) (input : List ℕ) (lead n : ℕ) → IsAudioPlan plan → IsFormatOf plan a headers → length input ≤ most_input
    → Expects plan lead
    → n < packets_of a plan input → IsDelivered (audio_times a.kind plan (packets_of a plan input)) lead (record { number = n; arrival = arrival_of plan n })
on_time plan a headers input lead n p is limit expects h =
    let most = in_time plan n 0 p (timely plan a headers input n p is limit h) p.some_count in
    record {
      known = h;
      arrival = omega (arith, lead_within plan n, p.lead);
      stamped = λ instant e. in_circle a.kind plan n instant p is.kind e;
      unstamped = λ audio none. near_due a.kind plan (packets_of a plan input) lead n p is.kind
          (is.leads lead n expects (unstamped a.kind plan n (is_stamped (rule_of a.kind n) n plan.count) refl none));
    }

-- no packet of audio is a fragment, so any two packets are near each other
all_near : (kind : Kind) (plan : TalkPlan) (packets : ℕ) (numbers : List ℕ) → IsKindOf plan kind → AreNear (audio_times kind plan packets) numbers
all_near kind plan packets [] k = tt
all_near kind plan packets (n ∷ []) k = tt
all_near kind plan packets (n ∷ m ∷ numbers) k = ((λ first second unstamped. absurd (k.whole n first)), all_near kind plan packets (m ∷ numbers) k)

early_lead : (crf : Option CrfPlan) (lead : ℕ) → 1 ≤ lead → IsAhead crf lead → 1 + early_by crf ≤ lead
early_lead None lead some ready = omega arith
early_lead (Some crf) lead some ready = omega arith

sent_early : (kind : Kind) (plan : TalkPlan) (packets n : ℕ) → IsAudioPlan plan → IsKindOf plan kind → IsAhead plan.crf plan.lead
    → arrival_of plan n ≤ due_in (nominal_times kind plan packets) n
sent_early kind plan packets n p k ready =
    let due = due_near kind plan packets n p k in
    omega (arith, lead_within plan n, due.to, early_lead plan.crf plan.lead p.some_lead ready)

-- ---- the whole stream

pub audio_stream : (plan : TalkPlan) (a : Audio) (headers : ℕ) (input : List ℕ) → IsAudioPlan plan → IsFormatOf plan a headers → length input ≤ most_input
    → IsStream plan (stream_in a plan input)
audio_stream plan a headers input p is limit = record {
  rising = λ n. rising plan n p;
  early = λ n ready h. sent_early a.kind plan (packets_of a plan input) n p is.kind ready;
  sent = λ n h. let most = in_time plan n 0 p (timely plan a headers input n p is limit h) p.some_count in omega (arith, lead_within plan n);
  size = λ n h.
      let bytes = is.bytes n (samples_in a plan input n) (samples_whole a.silence a.frame plan.count n input is.silence) in
      omega (arith, bytes, is.size);
  clock_rising = λ m. clock_rises plan m p;
  clock_sent = λ m h. clock_early plan (packets_of a plan input) m p (λ n k. timely plan a headers input n p is limit k) h;
  clock_size = λ m h. clock_fits plan (packets_of a plan input) m p h;
  conforms = λ id. audio_conforms plan a headers input p is limit id;
  regular = times_regular plan a headers input p is limit;
  on_time = λ lead n expects h. on_time plan a headers input lead n p is limit expects h;
  near = λ numbers near. all_near a.kind plan (packets_of a plan input) numbers is.kind;
}
