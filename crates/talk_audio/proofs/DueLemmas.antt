-- When the packets of an audio stream are due.
use Rattle.std.proofs.Common.{subst, zero, suc, ◌%◌, ◌≡◌, ℕ, ◌+◌, ◌-◌, ◌*◌, ◌<◌, ◌≤◌, Bool, true, false, ℤ, pos, neg_ℤ, nat_abs, ◌+ℤ◌, ◌-ℤ◌, ◌*ℤ◌, Option, Some}
use Rattle.std.proofs.Common.{None, inl, inr, refl, ap, ◌∙◌, arith, ◌^◌, List, length}
use Rattle.std.specs.Prelude.{IsSome, ◌==◌, if◌then◌else◌, nat_le, option_map}
use Rattle.std.specs.Int.{div_ceil}
use Rattle.std.proofs.Math.Nat.{mul-le-mul_right}
use Rattle.std.proofs.lemmas.Bool.{cases_lt}
use Rattle.std.proofs.lemmas.Bool.Decides.{nat_tests}
use Rattle.std.proofs.lemmas.Grind.{div_ceil_times}
use Rattle.std.proofs.lemmas.Int.{ints}
use Rattle.time_unfold.specs.declared.line.Line.{Line}
use Rattle.time_unfold.specs.Lines.{IsAt, floor_of, instant_at, nominal_line}
use Rattle.time_unfold.specs.Stamps.{same_flag}
use Rattle.time_unfold.proofs.OnLine.{instant_at-at, one_at}
use Rattle.time_unfold.specs.declared.head_rule.Distance.{Distance}
use Rattle.time_unfold.specs.declared.head_rule.Head.{Head}
use Rattle.time_unfold.specs.Heads.{distance, stamped_index}
use Rattle.stream_journal.specs.Journal.{Journal, Kind, head_of, nominal_instant as journal_instant, rule_of}
use Rattle.stream_journal.specs.Conforming.{AgreesWithClock, HasBlocks, IsAudio, IsOfKind, is_stamped}
use Rattle.stream_journal.specs.Delivered.{IsFragment}
use Rattle.stream_journal.proofs.Spacing.{IsBefore, scaled}
use Rattle.talk_plan.specs.declared.plan.TalkPlan.{TalkPlan}
use Rattle.talk_plan.specs.declared.plan.CrfPlan.{CrfPlan}
use Rattle.packet_journal.specs.Packets.{IsPacket}
use Rattle.talk_audio.specs.Audio.{Audio}
use Rattle.talk_plan.specs.Ethernet.{packet_bytes}
use Rattle.talk_plan.specs.Stamps.{stamped_instant}
use Rattle.talk_plan.specs.Plan.{Expects, IsAudioPlan, IsNearLead}
use Rattle.talk_audio.specs.Journal.{audio_times, due_by, due_in, nominal_times}
use Rattle.talk_audio.specs.Packets.{stamp_of}
use Rattle.talk_plan.specs.Timing.{event_of, first_instant, first_packet, mr_of, nominal_instant, nominal_offset, run_of, run_start}
use Rattle.talk_plan.proofs.StampLemmas.{IsNear, early_by, late_by, most_early, stamped_first, stamped_near}
use Rattle.talk_plan.proofs.RateLemmas.{rate_from, rate_range}
use Rattle.talk_plan.proofs.RunLemmas.{in_run, no_later_run, one_run, whole}
use Rattle.talk_plan.proofs.TimingLemmas.{apart, is_offset, sum_of}
use Rattle.stream_journal.proofs.TrueHeads.{flag_of, one_flag}
use Rattle.time_unfold.proofs.Floors.{one_more}

-- ---- what holds for kinds of audio

-- The time of packet n is counted from a stamped sample. The sample is at the distance `far`, in a packet at most 7
-- packets before packet n.
pub record IsCountedBack (kind : Kind) (count n : ℕ) (far : Distance) : Type 0 where
  pub few : far.packets ≤ 7
  pub place : stamped_index (rule_of kind (n - far.packets)) + far.samples ≡ far.packets * count

-- the time of packet n is counted from a stamped packet at most 7 packets before packet n
pub record IsFound (kind : Kind) (count n : ℕ) : Type 0 where
  pub far : Distance
  pub is_far : distance (rule_of kind n) n count ≡ Some far
  pub few : far.packets ≤ 7
  pub stamped : is_stamped (rule_of kind (n - far.packets)) (n - far.packets) count ≡ true

pub record IsKindOf (plan : TalkPlan) (kind : Kind) : Type 0 where
  pub within : (n : ℕ) → is_stamped (rule_of kind n) n plan.count ≡ true → stamped_index (rule_of kind n) < plan.count
  pub back : (n : ℕ) (far : Distance) → is_stamped (rule_of kind n) n plan.count ≡ false → far.packets ≤ n
      → distance (rule_of kind n) n plan.count ≡ Some far → IsCountedBack kind plan.count n far
  pub found : (n : ℕ) → 7 ≤ n → is_stamped (rule_of kind n) n plan.count ≡ false → IsFound kind plan.count n
  pub blocks : (packets : ℕ) → HasBlocks kind plan.count packets
  pub of_kind : (j : Journal) → IsAudio j → AgreesWithClock j → IsOfKind kind j
  pub whole : (n : ℕ) → ¬ IsFragment kind n
  pub first : stamped_index (rule_of kind 0) ≡ 0

-- ---- the head of a packet

-- The instant of `head` is near the nominal instant of an event of packet n's run. If the time of packet n is counted
-- from `head`, packet n is due at instant 0 or later.
pub record IsCounted (plan : TalkPlan) (n : ℕ) (head : Head) : Type 0 where
  pub event : ℕ
  pub stamp : ℕ
  pub instant : head.instant ≡ pos stamp
  pub near : IsNear plan.crf stamp (run_start plan (run_of plan n) + nominal_offset plan.rate event)
  pub room : run_start plan (run_of plan n) + nominal_offset plan.rate event + 1 ≤ stamp + first_instant plan n
  pub first : head.first ≡ pos (event_of plan n 0) -ℤ pos event

-- the first instant of packet n is at least 1, because the lead is at least 1
pub some_instant : (plan : TalkPlan) (n : ℕ) → IsAudioPlan plan → 1 ≤ first_instant plan n
unfolding nominal_instant
some_instant plan n p = omega (arith, p.some_lead)

third_by : (x y rate count : ℕ) → rate ≤ 192000 → 1 ≤ count → 4 * (x * rate) + 3 * (count * 1000000000) + 16 * rate ≤ 4 * (y * rate) → 3 ≤ y
third_by x y rate count slow some far = elim (cases_lt y 3) [
  | inl less ↦ let times : y * rate ≤ 2 * rate = mul-le-mul_right rate (omega arith) in absurd (omega arith)
  | inr not ↦ not
]

third : (plan : TalkPlan) (n : ℕ) → IsAudioPlan plan → 3 ≤ first_instant plan (suc n)
third plan n p =
    let range = rate_range plan p in
    third_by (first_instant plan n) (first_instant plan (suc n)) plan.rate plan.count range.most p.some_count (apart plan n p)

pub has_room : (plan : TalkPlan) (n m i : ℕ) → IsAudioPlan plan → (n ≡ 0 → event_of plan m i ≡ 0)
    → nominal_instant plan m i + 1 ≤ stamped_instant plan m i + first_instant plan n
has_room plan zero m i p first =
    let same = stamped_first plan m i p (first refl) in
    let some = some_instant plan 0 p in
    omega arith
has_room plan (suc n) m i p first =
    let near = stamped_near plan m i p in
    let early = most_early plan.crf in
    let some = third plan n p in
    omega (arith, near.early)

before : (a b : ℕ) → nat_le a b ≡ true → a ≤ b
before a b e = grind (arith, nat_tests)

pub stamp_is : (b : Bool) (first instant : ℕ) → (if b then Some first else None) ≡ Some instant → first ≡ instant
stamp_is true first instant e = cc
stamp_is false first instant e = absurd cc

-- packet 0 begins with event 0
event_none : (plan : TalkPlan) (n : ℕ) → n ≡ 0 → event_of plan n 0 ≡ 0
event_none plan n none =
    let before : n - first_packet plan (run_of plan n) ≡ 0 = omega arith in
    ap (λ (m : ℕ). m * plan.count + 0) before ∙ omega arith

own_counted : (kind : Kind) (plan : TalkPlan) (packets n : ℕ) (head : Head) → IsAudioPlan plan → IsKindOf plan kind
    → is_stamped (rule_of kind n) n plan.count ≡ true
    → head_of (nominal_times kind plan packets) n ≡ Some head → IsCounted plan n head
unfolding nominal_instant
own_counted kind plan packets n head p k e h =
    let i : ℕ = stamped_index (rule_of kind n) in
    let own : head_of (nominal_times kind plan packets) n ≡ Some (record { instant = pos (stamped_instant plan n i); first = neg_ℤ (pos i) }) = rw e refl in
    let same : record { instant = pos (stamped_instant plan n i); first = neg_ℤ (pos i) } ≡ head = cc in
    rw (← same)
    (record {
      event = event_of plan n i;
      stamp = stamped_instant plan n i;
      instant = refl;
      near = stamped_near plan n i p;
      room = has_room plan n n i p (own_first n);
      first = omega (arith, ints);
    })
  where
    own_first : (n : ℕ) → n ≡ 0 → event_of plan n (stamped_index (rule_of kind n)) ≡ 0
    own_first n none =
        let e = event_none plan n none in
        let first : stamped_index (rule_of kind n) ≡ 0 = rw none k.first in
        omega arith

record IsFrom (kind : Kind) (plan : TalkPlan) (n : ℕ) (far : Distance) (head : Head) : Type 0 where
  back : far.packets ≤ n
  one_run : mr_of plan (n - far.packets) ≡ mr_of plan n
  instant : head.instant ≡ pos (stamped_instant plan (n - far.packets) (stamped_index (rule_of kind (n - far.packets))))
  first : head.first ≡ pos far.samples

from_by : (kind : Kind) (plan : TalkPlan) (n : ℕ) (far : Distance) (head : Head) (a b : Bool) → nat_le far.packets n ≡ a
    → same_flag (mr_of plan (n - far.packets)) (mr_of plan n) ≡ b
    → (if a then if b then option_map (λ instant. record { instant = pos instant; first = pos far.samples }) (stamp_of kind plan (n - far.packets)) else None else None) ≡ Some head
    → IsFrom kind plan n far head
from_by kind plan n far head false b e f h = absurd cc
from_by kind plan n far head true false e f h = absurd cc
from_by kind plan n far head true true e f h = stamped_by (is_stamped (rule_of kind (n - far.packets)) (n - far.packets) plan.count) h
  where
    stamped_by : (t : Bool) → option_map (λ instant. record { instant = pos instant; first = pos far.samples })
        (if t then Some (stamped_instant plan (n - far.packets) (stamped_index (rule_of kind (n - far.packets)))) else None) ≡ Some head → IsFrom kind plan n
        far head
    stamped_by false h = absurd cc
    stamped_by true h =
        let same : record {
          instant = pos (stamped_instant plan (n - far.packets)
              (stamped_index (rule_of kind (n - far.packets))));
          first = pos far.samples;
        } ≡ head = cc in
        rw (← same) (record { back = before far.packets n e; one_run = one_flag (mr_of plan (n - far.packets)) (mr_of plan n) f; instant = refl; first = refl })

same_run : (plan : TalkPlan) (m d n i samples : ℕ) → IsAudioPlan plan → m + d ≡ n → run_of plan m ≡ run_of plan n → i + samples ≡ d * plan.count
    → event_of plan m i + samples ≡ event_of plan n 0
same_run plan m d n i samples p place same sum =
    let here = in_run plan.restart plan.jump plan.count m p.restart in
    let begun = here.begun in
    let first : first_packet plan (run_of plan m) ≡ first_packet plan (run_of plan n) = ap (λ (g : ℕ). first_packet plan g) same in
    let events = whole (m - first_packet plan (run_of plan m)) d (n - first_packet plan (run_of plan n)) plan.count (omega arith) in
    omega arith

back_counted : (kind : Kind) (plan : TalkPlan) (n : ℕ) (far : Distance) (head : Head) → IsAudioPlan plan → IsCountedBack kind plan.count n far
    → IsFrom kind plan n far head → IsCounted plan n head
unfolding nominal_instant
back_counted kind plan n far head p counted from =
    let m : ℕ = n - far.packets in
    let back = from.back in
    let few = counted.few in
    let place : m + far.packets ≡ n = omega arith in
    let same : run_of plan m ≡ run_of plan n = one_run plan.restart plan.jump m far.packets n p.restart few place from.one_run in
    let i : ℕ = stamped_index (rule_of kind m) in
    let events = same_run plan m far.packets n i far.samples p place same counted.place in
    let starts : run_start plan (run_of plan m) ≡ run_start plan (run_of plan n) = ap (λ (g : ℕ). run_start plan g) same in
    let nominal : nominal_instant plan m i ≡ run_start plan (run_of plan n) + nominal_offset plan.rate
    (event_of plan m i) = ap (λ (s : ℕ). s + nominal_offset plan.rate (event_of plan m i)) starts in
    record {
      event = event_of plan m i;
      stamp = stamped_instant plan m i;
      instant = from.instant;
      near = subst (IsNear plan.crf (stamped_instant plan m i)) nominal (stamped_near plan m i p);
      room = (let room = has_room plan n m i p (λ none. sum_first (event_of plan m i) far.samples (event_of plan n 0) events
          (event_none plan n none)) in omega (arith, nominal, room));
      first = from.first ∙ (omega (arith, ints));
    }
  where
    sum_first : (e samples e0 : ℕ) → e + samples ≡ e0 → e0 ≡ 0 → e ≡ 0
    sum_first e samples e0 sum none = omega arith

distant_by : (kind : Kind) (plan : TalkPlan) (packets n : ℕ) (head : Head) (far : Option Distance) → IsAudioPlan plan → IsKindOf plan kind
    → is_stamped (rule_of kind n) n plan.count ≡ false
    → distance (rule_of kind n) n plan.count ≡ far → head_of (nominal_times kind plan packets) n ≡ Some head → IsCounted plan n head
distant_by kind plan packets n head None p k e f h =
    let none : head_of (nominal_times kind plan packets) n ≡ None = rw (e, f) refl in
    absurd cc
distant_by kind plan packets n head (Some far) p k e f h =
    let same = rw (e, f) at h in
    let from = from_by kind plan n far head (nat_le far.packets n) (same_flag (mr_of plan (n - far.packets)) (mr_of plan n)) refl refl same in
    back_counted kind plan n far head p (k.back n far e from.back f) from

counted_by : (kind : Kind) (plan : TalkPlan) (packets n : ℕ) (head : Head) (b : Bool) → IsAudioPlan plan → IsKindOf plan kind
    → is_stamped (rule_of kind n) n plan.count ≡ b
    → head_of (nominal_times kind plan packets) n ≡ Some head → IsCounted plan n head
counted_by kind plan packets n head true p k e h = own_counted kind plan packets n head p k e h
counted_by kind plan packets n head false p k e h = distant_by kind plan packets n head (distance (rule_of kind n) n plan.count) p k e refl h

-- ---- a first sample is at the nominal first instant, or a nanosecond before

record IsNearby (x : ℤ) (first : ℕ) : Type 0 where
  due : ℕ
  same : x ≡ pos due
  from : due ≤ first
  to : first ≤ due + 1

at_before : (due stamp index rate : ℕ) → IsBefore rate due stamp index → IsAt (nominal_line (pos stamp) rate) (neg_ℤ (pos index) +ℤ pos 0) (pos due)
at_before due stamp index rate is =
    let z : ℤ = pos due -ℤ pos stamp in
    let m = one_more z rate in
    let s = scaled z due stamp rate refl in
    let from = is.from in
    let to = is.to in
    record { not_after = omega (arith, ints); last = omega (arith, ints) }

before_event : (start q f c e e0 i rate : ℕ) → 1 ≤ start → e0 + i ≡ e → 0 < rate → q * rate ≤ e * 1000000000 → e * 1000000000 < q * rate + rate
    → f * rate ≤ e0 * 1000000000 → e0 * 1000000000 < f * rate + rate → i * 1000000000 ≤ c * rate → c * rate < i * 1000000000 + rate
    → (c ≤ start + q) × (start + q ≤ start + f + c) × (start + f + c ≤ start + q + 1)
before_event start q f c e e0 i rate some sum some_rate under over least most from to =
    (most_by, least_by, last_by)
  where
    most_by : c ≤ start + q
    most_by = elim (cases_lt (q + 1) c) [
      | inl h ↦ let times : (q + 2) * rate ≤ c * rate = mul-le-mul_right rate (omega arith) in absurd (omega arith)
      | inr h ↦ omega arith
    ]

    least_by : start + q ≤ start + f + c
    least_by = elim (cases_lt (f + c) q) [
      | inl h ↦ let times : (f + c + 1) * rate ≤ q * rate = mul-le-mul_right rate (omega arith) in absurd (omega arith)
      | inr h ↦ omega arith
    ]

    last_by : start + f + c ≤ start + q + 1
    last_by = elim (cases_lt (q + 1) (f + c)) [
      | inl h ↦ let times : (q + 2) * rate ≤ (f + c) * rate = mul-le-mul_right rate (omega arith) in absurd (omega arith)
      | inr h ↦ omega arith
    ]

forward : (start e b e0 rate : ℕ) → 0 < rate → e + b ≡ e0
    → IsNearby (instant_at (nominal_line (pos (start + nominal_offset rate e)) rate) (pos b +ℤ pos 0)) (start + nominal_offset rate e0)
forward start e b e0 rate some sum =
    let is = sum_of rate e b e0 some sum in
    let none : b + 0 ≡ b = omega arith in
    record { due = start + nominal_offset rate e + nominal_offset rate b; same = rw none refl; from = omega (arith, is.from); to = omega (arith, is.to) }

backward : (start e i e0 rate : ℕ) → 1 ≤ start → 0 < rate → e0 + i ≡ e
    → IsNearby (instant_at (nominal_line (pos (start + nominal_offset rate e)) rate) (neg_ℤ (pos i) +ℤ pos 0)) (start + nominal_offset rate e0)
backward start e i e0 rate some some_rate sum =
    let stamp : ℕ = start + nominal_offset rate e in
    let line = nominal_line (pos stamp) rate in
    let c : ℕ = div_ceil (i * 1000000000) rate in
    let times = div_ceil_times (i * 1000000000) rate some_rate in
    let q = is_offset rate e some_rate in
    let f = is_offset rate e0 some_rate in
    let known = before_event start (nominal_offset rate e) (nominal_offset rate e0) c e e0 i rate some sum some_rate q.under q.over f.under f.over times.0
    times.1 in
    let due : ℕ = stamp - c in
    let place : due + c ≡ stamp = omega (arith, known.0) in
    let parts : due * rate + c * rate ≡ stamp * rate = whole due c stamp rate place in
    let is : IsBefore rate due stamp i = record { from = omega (arith, times.0, parts); to = omega (arith, times.1, parts) } in
    let k : ℤ = neg_ℤ (pos i) +ℤ pos 0 in
    record {
      due = due;
      same = one_at line k (instant_at line k) (pos due) (instant_at-at line k some_rate) (at_before due stamp i rate is);
      from = omega (arith, known.1);
      to = omega (arith, known.2);
    }

moved : (line : Line) (x y : ℤ) → x ≡ y → instant_at line (x +ℤ pos 0) ≡ instant_at line (y +ℤ pos 0)
moved line x y e = ap (λ (k : ℤ). instant_at line (k +ℤ pos 0)) e

nearby : (start e e0 rate : ℕ) (first : ℤ) → 1 ≤ start → 0 < rate → first ≡ pos e0 -ℤ pos e
    → IsNearby (instant_at (nominal_line (pos (start + nominal_offset rate e)) rate) (first +ℤ pos 0)) (start + nominal_offset rate e0)
nearby start e e0 rate first some some_rate at = elim (cases_lt e0 e) [
  | inl h ↦
      let back : first ≡ neg_ℤ (pos (e - e0)) = omega (arith, ints) in
      rw back (backward start e (e - e0) e0 rate some some_rate (omega arith))
  | inr h ↦
      let ahead : first ≡ pos (e0 - e) = omega (arith, ints) in
      rw ahead (forward start e (e0 - e) e0 rate some_rate (omega arith))
]

-- `x` is at most `late_by` after the nominal instant `first`, and at most `early_by` + 1 ns before `first`
record IsNearly (crf : Option CrfPlan) (x : ℤ) (first : ℕ) : Type 0 where
  due : ℕ
  same : x ≡ pos due
  from : due ≤ first + late_by crf
  to : first ≤ due + 1 + early_by crf

shifted : (q : ℤ) (nominal stamp due moved : ℕ) → pos nominal +ℤ q ≡ pos due → moved + nominal ≡ due + stamp → pos stamp +ℤ q ≡ pos moved
shifted q nominal stamp due moved e sum = omega (arith, ints)

nearly : (crf : Option CrfPlan) (start e e0 rate stamp : ℕ) (first : ℤ) → 1 ≤ start → 0 < rate → first ≡ pos e0 -ℤ pos e
    → IsNear crf stamp (start + nominal_offset rate e)
    → start + nominal_offset rate e + 1 ≤ stamp + (start + nominal_offset rate e0)
    → IsNearly crf (instant_at (nominal_line (pos stamp) rate) (first +ℤ pos 0)) (start + nominal_offset rate e0)
nearly crf start e e0 rate stamp first some some_rate at near room =
    let is = nearby start e e0 rate first some some_rate at in
    let nominal : ℕ = start + nominal_offset rate e in
    let due : ℕ = is.due + stamp - nominal in
    let place : due + nominal ≡ is.due + stamp = omega (arith, is.to, room) in
    record {
      due = due;
      same = shifted (floor_of ((first +ℤ pos 0) *ℤ pos 1000000000) rate) nominal stamp is.due due is.same place;
      from = omega (arith, is.from, near.late);
      to = omega (arith, is.to, near.early);
    }

head_nearby : (kind : Kind) (plan : TalkPlan) (packets n : ℕ) (head : Head) → IsAudioPlan plan → IsCounted plan n head
    → IsNearly plan.crf (journal_instant (nominal_times kind plan packets) head 0) (first_instant plan n)
unfolding nominal_instant
head_nearby kind plan packets n head p counted =
    let some : 0 < plan.rate = omega (arith, rate_from plan p) in
    let start : ℕ = run_start plan (run_of plan n) in
    let lead = p.some_lead in
    rw counted.instant (nearly plan.crf start counted.event (event_of plan n 0) plan.rate counted.stamp head.first (omega arith) some counted.first
    counted.near counted.room)

-- ---- a packet is due at the instant of its first sample, counted from its head; this instant is near the packet's
-- nominal first instant

pub record IsDueNear (kind : Kind) (plan : TalkPlan) (packets n : ℕ) : Type 0 where
  pub from : due_in (nominal_times kind plan packets) n ≤ first_instant plan n + late_by plan.crf
  pub to : first_instant plan n ≤ due_in (nominal_times kind plan packets) n + 1 + early_by plan.crf

near_by : (kind : Kind) (plan : TalkPlan) (packets n : ℕ) (head : Option Head) → IsAudioPlan plan → IsKindOf plan kind
    → head_of (nominal_times kind plan packets) n ≡ head
    → (due_by (nominal_times kind plan packets) n head ≤ first_instant plan n + late_by plan.crf) × (first_instant plan n ≤ due_by (nominal_times kind plan packets) n head + 1 + early_by plan.crf)
near_by kind plan packets n None p k e = (omega arith, omega arith)
near_by kind plan packets n (Some head) p k e =
    let counted = counted_by kind plan packets n head (is_stamped (rule_of kind n) n plan.count) p k refl e in
    let is = head_nearby kind plan packets n head p counted in
    rw is.same (is.from, is.to)

pub due_near : (kind : Kind) (plan : TalkPlan) (packets n : ℕ) → IsAudioPlan plan → IsKindOf plan kind → IsDueNear kind plan packets n
due_near kind plan packets n p k =
    let near = near_by kind plan packets n (head_of (nominal_times kind plan packets) n) p k refl in
    record { from = near.0; to = near.1 }

pub head_due : (kind : Kind) (plan : TalkPlan) (packets n : ℕ) (head : Head) → IsAudioPlan plan → IsKindOf plan kind
    → head_of (nominal_times kind plan packets) n ≡ Some head
    → pos (due_in (nominal_times kind plan packets) n) ≡ journal_instant (nominal_times kind plan packets) head 0
head_due kind plan packets n head p k e =
    let counted = counted_by kind plan packets n head (is_stamped (rule_of kind n) n plan.count) p k refl e in
    let is = head_nearby kind plan packets n head p counted in
    let due : due_in (nominal_times kind plan packets) n ≡ nat_abs
    (journal_instant (nominal_times kind plan packets) head 0) = ap (due_by (nominal_times kind plan packets) n) e in
    rw (due, is.same) refl

-- ---- if no restart lies shortly before a packet, the packet has a head

no_later : (a b : ℕ) → a ≤ b → nat_le a b ≡ true
no_later a b h = grind (arith, nat_tests)

some_of : (h : Option Head) (head : Head) → h ≡ Some head → IsSome h
some_of h head e = rw e refl

has_by : (kind : Kind) (plan : TalkPlan) (packets n : ℕ) (b : Bool) → IsAudioPlan plan → IsKindOf plan kind → is_stamped (rule_of kind n) n plan.count ≡ b
    → 7 ≤ n
    → run_of plan (n - 7) ≡ run_of plan n → IsSome (head_of (nominal_times kind plan packets) n)
has_by kind plan packets n true p k e behind same =
    some_of (head_of (nominal_times kind plan packets) n) (record {
      instant = pos (stamped_instant plan n (stamped_index (rule_of kind n)));
      first = neg_ℤ
          (pos (stamped_index (rule_of kind n)));
    }) (rw e refl)
has_by kind plan packets n false p k e behind same =
    let is = k.found n behind e in
    let d : ℕ = is.far.packets in
    let few = is.few in
    let after = no_later_run plan.restart plan.jump (n - 7) (n - d) p.restart (omega arith) in
    let before = no_later_run plan.restart plan.jump (n - d) n p.restart (omega arith) in
    let runs : run_of plan (n - d) ≡ run_of plan n = omega arith in
    let bits : mr_of plan (n - d) ≡ mr_of plan n = ap (λ (g : ℕ). g % 2 == 1) runs in
    let near : nat_le d n ≡ true = no_later d n (omega arith) in
    some_of (head_of (nominal_times kind plan packets) n)
    (record { instant = pos (stamped_instant plan (n - d) (stamped_index (rule_of kind (n - d)))); first = pos is.far.samples })
    (rw (e, is.is_far, near, flag_of (mr_of plan (n - d)) (mr_of plan n) bits, is.stamped) refl)

pub has_head : (kind : Kind) (plan : TalkPlan) (packets n : ℕ) → IsAudioPlan plan → IsKindOf plan kind → 7 ≤ n → run_of plan (n - 7) ≡ run_of plan n
    → IsSome (head_of (nominal_times kind plan packets) n)
has_head kind plan packets n p k behind same = has_by kind plan packets n (is_stamped (rule_of kind n) n plan.count) p k refl behind same

-- ---- what holds for a format

-- What holds for an audio format of a plan. `headers` is the number of bytes before the samples in each frame.
pub record IsFormatOf (plan : TalkPlan) (a : Audio) (headers : ℕ) : Type 0 where
  pub some : 0 < a.frame
  pub size : headers + plan.count * a.frame ≤ 1518
  pub silence : length a.silence ≡ plan.count * a.frame
  pub kind : IsKindOf plan a.kind
  pub bytes : (n : ℕ) (samples : List ℕ) → length samples ≡ plan.count * a.frame → length (packet_bytes (a.packet n samples)) ≡ headers + plan.count * a.frame
  pub packet : (packets n : ℕ) (samples : List ℕ) → plan.id < 2 ^ 64 → length samples ≡ plan.count * a.frame
      → IsPacket a.kind (audio_times a.kind plan packets) plan.id n (a.packet n samples)
  -- if a packet has no timestamp, a listener's lead must be near the plan's lead
  pub leads : (lead n : ℕ) → Expects plan lead → is_stamped (rule_of a.kind n) n plan.count ≡ false → IsNearLead plan lead
