-- What a listener with the talker's clock shows of a whole capture, if each packet stamps its first sample.
use Rattle.std.proofs.Common.{◌≡◌, ◌≢◌, ℕ, zero, suc, ◌+◌, ◌-◌, ◌*◌, ◌/◌, ◌%◌, ◌^◌, ◌<◌, ◌≤◌, Bool, true, false, ℤ, pos, neg_ℤ, ◌≤ℤ◌, List, [], ◌∷◌, All, length, filter, map, take, Option, Some, None, Ok, refl, sym, ap, ◌∙◌, subst, inl, inr, arith}
use Rattle.std.specs.Prelude.{AllPairs, Any, Err, IfSome, Result, is_some, option_map, nat_lt, slice_get, ◌==◌, if◌then◌else◌}
use Rattle.std.specs.List.{filter_map, range_with_len}
use Rattle.std.proofs.Math.Nat.{div-mul-le_self, lt-div-mul-add, mul-le-mul_right}
use Rattle.std.proofs.lemmas.List.FromFn.{length-range_with_len}
use Rattle.std.proofs.lemmas.Bool.{cases_lt}
use Rattle.std.proofs.lemmas.Bool.Decides.{nat_tests}
use Rattle.std.proofs.lemmas.Grind.{div_ceil_times}
use Rattle.std.proofs.lemmas.Int.{ints}
use Rattle.std.proofs.lemmas.List.Elements.{All-cons, All-nil, All-take}
use Rattle.std.proofs.lemmas.List.Sums.{count_by-le-length, length-filter}
use Rattle.avtp_base.specs.declared.refusal.Refusal.{Refusal}
use Rattle.clock_track.specs.PairLines.{Covers, Spot}
use Rattle.stream_journal.specs.Clocks.{pair_at}
use Rattle.clock_track.specs.declared.clock_row.ClockRow.{ClockRow}
use Rattle.clock_track.specs.Rows.{clock_spot}
use Rattle.time_unfold.specs.Heads.{stamped_index}
use Rattle.time_unfold.specs.Time.{unfolded}
use Rattle.time_unfold.specs.declared.head_rule.Head.{Head}
use Rattle.pcap_frames.specs.Capture.{Record}
use Rattle.aaf_format.specs.Aaf.{aaf_of, aaf_refusal, aaf_subtype}
use Rattle.iec61883_format.specs.Iec.{iec_of, iec_refusal}
use Rattle.stream_journal.specs.ClockRows.{IsSpotAt}
use Rattle.stream_journal.specs.Conforming.{AgreesWithClock, Conforms, IsAudio, IsOfKind}
use Rattle.stream_journal.specs.Delivered.{IsAudioKind, IsDelivered}
use Rattle.stream_journal.specs.Journal.{Am824, DenseAaf, H264, IsAt, IsAtBy, IsAtByClock, Journal, Kind, SparseAaf, head_of, rule_of}
use Rattle.stream_journal.specs.Known.{IsCoveredBy}
use Rattle.stream_journal.proofs.OneInstant.{one_instant}
use Rattle.stream_journal.proofs.TrueLines.{true_spot}
use Rattle.stream_journal.proofs.TrueTime.{true_time}
use Rattle.sample_schedule.specs.declared.accepted.Accepted.{Accepted}
use Rattle.sample_schedule.specs.declared.entry.Entry.{Entry}
use Rattle.sample_schedule.specs.declared.entry.Entry.TheVariants.{Item as OfItem, Clock as ClockEntry}
use Rattle.sample_schedule.specs.declared.item.Item.{Item}
use Rattle.sample_schedule.specs.declared.item.Item.TheVariants.{Packet as OfPacket}
use Rattle.sample_schedule.specs.declared.item.Packet.{Packet}
use Rattle.sample_schedule.specs.declared.plan.SchedulePlan.{SchedulePlan}
use Rattle.sample_schedule.specs.declared.shown.Reason.{Reason}
use Rattle.sample_schedule.specs.declared.shown.Reason.TheVariants.{Empty, NoClock, NoRate}
use Rattle.sample_schedule.specs.declared.shown.Shown.{Shown}
use Rattle.sample_schedule.specs.Batches.{Presented}
use Rattle.sample_schedule.specs.Schedule.{now_at, prefix_of, seq_of}
use Rattle.sample_schedule.specs.Verdicts.{counted_from, row_of, timed, verdict}
use Rattle.sample_schedule.specs.Heads as heads
use Rattle.packet_journal.specs.Deliveries.{Delivery}
use Rattle.packet_journal.specs.Delivered.{IsCopyOf, IsFrom as IsCopyFrom, Origin, OfClock, OfStream, stream_numbers}
use Rattle.packet_journal.specs.Packets.{PacketJournal, carried}
use Rattle.listener.specs.declared.plan.ListenPlan.{ListenPlan}
use Rattle.listener.specs.Heard.{deliveries_of, entries_in, items_in, schedule_plan, shown_of}
use Rattle.listener.specs.Items.{MadeItem, aaf_item, blocks_of, clock_row, entry_of, iec_item, made_of_one, refused_or, samples_of}
use Rattle.listener.specs.Known.{clock_numbers}
use Rattle.listener.specs.Laws.{AreOther, IsOfPacket, IsPresentedOf, IsShownItem, accepted_before, by_clock, presented_of, shown_by, time_of, verdict_of}
use Rattle.listener.proofs.ItemKinds.{at_place}
use Rattle.listener.proofs.Made.{items_other}
use Rattle.listener.proofs.Shown.{no_other_shown}
use Rattle.listener.proofs.TrueHeard.{usable}
use Rattle.listener.proofs.TrueItems.{Shows, all_shown, clock_entry, copy_entry, copy_item, sent}
use Rattle.listener.proofs.TrueList.{IsTrueEntry, audio, entries_true, followed, others, prefix_true}
use Rattle.listener.proofs.TrueOnce.{presented_once}
use Rattle.listener.proofs.TrueOrder.{never_falls}
use Rattle.listener.proofs.TrueTimely.{taken, welcome_judged, welcome_shown}
use Rattle.listener_laws.specs.Anywhere.{ComesInTime, MustBePresented}
use Rattle.listener_laws.proofs.Anywhere.{origin_at, welcome_here}
use Rattle.talk_plan.specs.declared.plan.CrfPlan.{CrfPlan}
use Rattle.talk_plan.specs.declared.plan.TalkPlan.{TalkPlan}
use Rattle.talk_plan.specs.Plan.{IsAudioPlan, spacing_of}
use Rattle.talk_plan.specs.Timing.{arrival_of, event_of, first_packet, nominal_instant, nominal_offset, run_of, run_start}
use Rattle.talk_plan.proofs.BeatLemmas.{more_offset}
use Rattle.talk_plan.proofs.RateLemmas.{rate_range}
use Rattle.talk_plan.proofs.StampLemmas.{clock_of, is_beat}
use Rattle.talk_plan.proofs.TimingLemmas.{is_offset}
use Rattle.talk_clock.specs.Clock.{clock_arrival, first_point}
use Rattle.talk_clock.proofs.ClockPoints.{steady_points}
use Rattle.talker.specs.Journal.{journal, stream_of}
use Rattle.talker.proofs.StreamLemmas.{clocks_in}
use Rattle.talked_clocked.specs.Clocked.{ArePresentedFrom, IsFrom, first_covered}
use Rattle.talked_presented.specs.Whole.{HoldsLead}
use Rattle.talked_presented.proofs.Caught.{IsCaught, came_by, not_before}
use Rattle.talked_clocked.proofs.Covered.{IsClocked, IsOverStamp, at_stamp, at_start, covered_here, first_head, head_is, not_over, over_stamp, stamp_at}
use Rattle.talked_presented.proofs.Merged.{AreMerged, IsPlaced, has_place, placed}
use Rattle.talked_presented.proofs.Sent.{few_wait, has_times, packet_size}

-- ---- what a listener gets from the capture

-- the listener has a whole capture of a stream and of its clock
pub record HasWhole (plan : TalkPlan) (crf : CrfPlan) (input : List ℕ) (listen : ListenPlan) (rs : List Record) (os : List Origin) : Type 0 where
  pub caught : IsCaught plan input listen rs os
  pub kind : IsAudioKind (journal plan input).times.kind
  pub clocked : IsClocked plan crf (journal plan input).times
  pub ahead : 3 ≤ plan.lead
  pub clock_sent : (m : ℕ) → (stream_of plan input).clock_arrival m ≡ clock_arrival crf plan m
  pub on : by_clock listen ≡ true
  pub shift : listen.shift ≡ pos 0
  pub now : listen.look ≡ 0
  pub room : HoldsLead plan listen
  pub merged : AreMerged (stream_of plan input) 0 0 os

agrees_by : (kind : Kind) (j : Journal) → IsAudioKind kind → IsOfKind kind j → AgreesWithClock j
agrees_by DenseAaf j audio is = is.1
agrees_by SparseAaf j audio is = is.1
agrees_by (Am824 interval dbc) j audio is = is.1
agrees_by (H264 part) j audio is = absurd audio

agrees : (plan : TalkPlan) (crf : CrfPlan) (j : Journal) → IsClocked plan crf j → Conforms j → AgreesWithClock j
agrees plan crf j c is = agrees_by j.kind j c.kind is.kind

-- ---- when packets are sent

before_next : (rate x y : ℕ) → 8000 ≤ rate → rate ≤ 192000 → nominal_offset rate y ≤ nominal_offset rate x → y ≤ x
before_next rate x y least most le = elim (cases_lt x y) [
  | inl less ↦
      let here = is_offset rate x (omega arith) in
      let next = is_offset rate (suc x) (omega arith) in
      let up = more_offset rate (suc x) y (omega arith) less in
      let times : nominal_offset rate (suc x) * rate ≤ nominal_offset rate x * rate = mul-le-mul_right rate (omega arith) in
      absurd (omega (arith, here.under, next.over, times))
  | inr not ↦ not
]

sent_is : (plan : TalkPlan) (n : ℕ) → plan.restart ≡ None → arrival_of plan n ≡ run_start plan 0 + nominal_offset plan.rate (n * plan.count) - plan.lead
unfolding nominal_instant
sent_is plan n r =
    let run : run_of plan n ≡ 0 = rw r refl in
    let first : first_packet plan (run_of plan n) ≡ 0 = rw r refl in
    let none : n - 0 ≡ n = omega arith in
    let events : event_of plan n 0 ≡ n * plan.count = ap (λ (z : ℕ). (n - z) * plan.count + 0) first ∙ rw none (omega arith) in
    ap (λ (g : ℕ). run_start plan g + nominal_offset plan.rate (event_of plan n 0) - plan.lead) run ∙ ap (λ (k : ℕ). run_start plan 0 + nominal_offset plan.rate k - plan.lead) events

clock_sent_is : (plan : TalkPlan) (crf : CrfPlan) (m : ℕ) → IsAudioPlan plan → plan.crf ≡ Some crf → plan.restart ≡ None → clock_arrival crf plan m ≡ run_start plan 0 + nominal_offset plan.rate (m * crf.points * spacing_of crf plan.rate) - plan.lead
clock_sent_is plan crf m p e r = ap (λ (x : ℕ). x - plan.lead) (steady_points plan crf (first_point crf m) p e r)

sent_by_then : (plan : TalkPlan) (crf : CrfPlan) (input : List ℕ) (m n : ℕ) → IsClocked plan crf (journal plan input).times → ((m : ℕ) → (stream_of plan input).clock_arrival m ≡ clock_arrival crf plan m)
    → (m * crf.points * spacing_of crf plan.rate ≤ n * plan.count → (stream_of plan input).clock_arrival m ≤ (stream_of plan input).arrival n) × ((stream_of plan input).clock_arrival m ≤ (stream_of plan input).arrival n → m * crf.points * spacing_of crf plan.rate ≤ n * plan.count)
sent_by_then plan crf input m n c sent =
    let range = rate_range plan c.talked in
    let here = (has_times plan input c.talked).arrival n ∙ sent_is plan n c.steady in
    let there = sent m ∙ clock_sent_is plan crf m c.talked c.crf_is c.steady in (
      (λ le. let up = more_offset plan.rate (m * crf.points * spacing_of crf plan.rate) (n * plan.count) (omega (arith, range.least)) le in omega (arith, here, there, up)),
      (λ le. before_next plan.rate (n * plan.count) (m * crf.points * spacing_of crf plan.rate) range.least range.most (omega (arith, here, there, le))),
    )

-- ---- which packets of the clock have arrived when a packet of the stream is sent

-- when packet n is sent, a packet of the clock has arrived if and only if this clock packet has a point at or before
-- packet n's first sample
came_upto : (plan : TalkPlan) (crf : CrfPlan) (input : List ℕ) (os : List Origin) (i n s : ℕ) → IsClocked plan crf (journal plan input).times → ((m : ℕ) → (stream_of plan input).clock_arrival m ≡ clock_arrival crf plan m) → IsOverStamp plan crf (journal plan input).times n s
    → n * plan.count / spacing_of crf plan.rate ≡ suc s → (q : IsPlaced (stream_of plan input) 0 0 os i n) → (suc s / crf.points < q.clocks) × (q.clocks ≤ suc s / crf.points + 1)
came_upto plan crf input os i n s c sent over at q =
    let w = spacing_of crf plan.rate in
    let last : ℕ = suc s / crf.points in
    let some = (clock_of plan crf c.talked c.crf_is).some_points in
    let up = div-mul-le_self (n * plan.count) w in
    let whole : n * plan.count / w * w ≡ suc s * w = ap (λ (k : ℕ). k * w) at in
    let down = div-mul-le_self (suc s) crf.points in
    let times : last * crf.points * w ≤ suc s * w = mul-le-mul_right w down in
    let known : last < clocks_in (stream_of plan input) = over.there.second.packet in (
      elim (cases_lt last q.clocks) [
        | inl below ↦ below
        | inr past ↦
            let late = q.not_sent last past known in
            let soon = (sent_by_then plan crf input last n c sent).0 (omega (arith, up, whole, times)) in
            absurd (omega (arith, late, soon))
      ],
      elim (cases_lt (last + 1) q.clocks) [
        | inl far ↦
            let soon = q.sent (last + 1) (omega arith) far in
            let first = (sent_by_then plan crf input (last + 1) n c sent).1 soon in
            let beat = (is_beat plan crf c.talked c.crf_is).some in
            let under : n * plan.count < n * plan.count / w * w + w = lt-div-mul-add beat in
            let over_all : n * plan.count < suc s * w + w = omega (arith, under, whole) in
            let next : suc s < last * crf.points + crf.points = lt-div-mul-add some in
            let more : (suc s + 1) * w ≤ (last + 1) * crf.points * w = mul-le-mul_right w (omega arith) in
            absurd (omega (arith, first, over_all, more))
        | inr not ↦ not
      ],
    )

-- ---- if a packet's first sample is at or after the second point, the packet must be presented

one_natural : (a b : ℕ) → pos a ≡ pos b → a ≡ b
one_natural a b e = omega (arith, ints)

-- a packet is due at its timestamp
due_is : (plan : TalkPlan) (crf : CrfPlan) (j : Journal) (n : ℕ) → IsClocked plan crf j → IsAudio j → n < j.packets → j.due n ≡ stamp_at plan crf n
due_is plan crf j n c is lt = one_natural (j.due n) (stamp_at plan crf n) (is.first_instants n (first_head (stamp_at plan crf n)) lt (head_is plan crf j n c) ∙ at_start (pos (stamp_at plan crf n)) 1000000000 j.rate)

at_clock : (kind : Kind) (j : Journal) (n k : ℕ) (x : ℤ) → IsAudioKind kind → IsAtByClock j n k x → IsAtBy kind true j n k x
at_clock DenseAaf j n k x audio at = at
at_clock SparseAaf j n k x audio at = at
at_clock (Am824 interval dbc) j n k x audio at = at
at_clock (H264 part) j n k x audio at = absurd audio

by_clock_at : (kind : Kind) (j : Journal) (n k : ℕ) (x : ℤ) → IsAudioKind kind → IsAtBy kind true j n k x → IsAtByClock j n k x
by_clock_at DenseAaf j n k x audio at = at
by_clock_at SparseAaf j n k x audio at = at
by_clock_at (Am824 interval dbc) j n k x audio at = at
by_clock_at (H264 part) j n k x audio at = absurd audio

-- point s + 1 of the clock is the last point at or before packet n's first sample
record IsLate (plan : TalkPlan) (crf : CrfPlan) (n : ℕ) : Type 0 where
  s : ℕ
  at : n * plan.count / spacing_of crf plan.rate ≡ suc s

is_late : (plan : TalkPlan) (crf : CrfPlan) (n : ℕ) → IsAudioPlan plan → plan.crf ≡ Some crf → first_covered crf plan ≤ n → IsLate plan crf n
is_late plan crf n p e le =
    let w = spacing_of crf plan.rate in
    let bound = div_ceil_times w plan.count p.some_count in
    let times : first_covered crf plan * plan.count ≤ n * plan.count = mul-le-mul_right plan.count le in
    let up : n * plan.count < n * plan.count / w * w + w = lt-div-mul-add (is_beat plan crf p e).some in
    let some : 1 ≤ n * plan.count / w = elim (cases_lt (n * plan.count / w) 1) [
      | inl none ↦ let no : n * plan.count / w ≡ 0 = omega arith in let none_of : n * plan.count / w * w ≡ 0 * w = ap (λ (k : ℕ). k * w) no in absurd (omega (arith, bound.0, times, up, none_of))
      | inr some ↦ some
    ] in
    record { s = n * plan.count / w - 1; at = omega arith }

is_early : (plan : TalkPlan) (crf : CrfPlan) (n : ℕ) → IsAudioPlan plan → n < first_covered crf plan → n * plan.count < spacing_of crf plan.rate
is_early plan crf n p lt =
    let bound = div_ceil_times (spacing_of crf plan.rate) plan.count p.some_count in
    let times : suc n * plan.count ≤ first_covered crf plan * plan.count = mul-le-mul_right plan.count lt in
    omega (arith, bound.1, times)

other_numbers : (n a k : ℕ) → a + k ≤ n → All (λ (m : ℕ). m ≢ n) (range_with_len a k)
other_numbers n a zero le = All-nil (λ (m : ℕ). m ≢ n)
other_numbers n a (suc k) le = All-cons (λ (m : ℕ). m ≢ n) a (range_with_len (a + 1) k) (λ e. absurd (omega arith)) (other_numbers n (a + 1) k (omega arith))

is_less : (a b : ℕ) → a < b → nat_lt a b ≡ true
is_less a b lt = grind (arith, nat_tests)

not_less : (a b : ℕ) → b ≤ a → nat_lt a b ≡ false
not_less a b le = grind (arith, nat_tests)

few_last : (n buffer a k : ℕ) → 1 ≤ buffer → a + k ≤ n → length (filter (λ (m : ℕ). nat_lt n (m + buffer)) (range_with_len a k)) < buffer
few_last n buffer a zero some le = some
few_last n buffer a (suc k) some le = elim (cases_lt n (a + buffer)) [
  | inl near ↦
      let waits : ℕ → Bool = λ (m : ℕ). nat_lt n (m + buffer) in
      omega (arith, near, length-filter waits (range_with_len a (suc k)), count_by-le-length waits (range_with_len a (suc k)), length-range_with_len a (suc k))
  | inr far ↦ rw (not_less n (a + buffer) far) (few_last n buffer (a + 1) k some (omega arith))
]

same_head : (a b : Head) → Some a ≡ Some b → a ≡ b
same_head a b e = cc

covered_at : (plan : TalkPlan) (crf : CrfPlan) (j : Journal) (n : ℕ) (shift look : ℕ) (came : List ℕ) (head : Head) (z : ℤ) → IsClocked plan crf j → z ≡ pos 0 → head_of j n ≡ Some head → IsCoveredBy j.clock (pos 0) j.rate came (pos (stamp_at plan crf n)) → IsCoveredBy j.clock z j.rate came head.instant
covered_at plan crf j n shift look came head z c none e over =
    let same : first_head (stamp_at plan crf n) ≡ head = same_head (first_head (stamp_at plan crf n)) head (sym (head_is plan crf j n c) ∙ e) in
    rw none (subst (λ (h : Head). IsCoveredBy j.clock (pos 0) j.rate came h.instant) same over)

came_is : (os : List Origin) (i look : ℕ) → look ≡ 0 → clock_numbers (take (i + look + 1) os) ≡ clock_numbers (take (suc i) os)
came_is os i look e = let same : i + look + 1 ≡ suc i = omega (arith, e) in ap (λ (k : ℕ). clock_numbers (take k os)) same

comes : (plan : TalkPlan) (crf : CrfPlan) (input : List ℕ) (listen : ListenPlan) (rs : List Record) (os : List Origin) (i n : ℕ) (d : Delivery) → HasWhole plan crf input listen rs os → slice_get os i ≡ Some (OfStream n) → slice_get (deliveries_of listen rs) i ≡ Some d → IsCopyOf (journal plan input) listen.lead n d
    → first_covered crf plan ≤ n → ComesInTime (journal plan input) listen rs i n d
comes plan crf input listen rs os i n d w at there copy le =
    let p = journal plan input in
    let j = p.times in
    let c = w.clocked in
    let known = copy.delivered.known in
    let conforming = w.caught.heard.conforming.times in
    let q = placed plan (stream_of plan input) 0 0 os i n w.caught.stream (omega arith) w.merged at in
    let late = is_late plan crf n c.talked c.crf_is le in
    let over = over_stamp plan crf j n late.s c known late.at in
    let came = came_upto plan crf input os i n late.s c w.clock_sent over late.at q in
    let all : q.clocks - 0 ≡ q.clocks = omega arith in
    let numbers : clock_numbers (take (i + listen.look + 1) os) ≡ range_with_len 0 q.clocks = came_is os i listen.look w.now ∙ (q.clock_numbers_are ∙ ap (range_with_len 0) all) in
    let covered = covered_here plan crf j n late.s q.clocks over (clock_of plan crf c.talked c.crf_is).some_points came.0 came.1 in
    let at_it = at_stamp plan crf j n late.s c conforming.clock (agrees plan crf j c conforming) known over in
    let due = due_is plan crf j n c (audio p w.kind conforming) known in
    let early : (stream_of plan input).arrival n ≤ stamp_at plan crf n = omega (arith, w.caught.stream.early n (rw c.crf_is w.ahead) known, due) in
    record {
      there = there;
      copy = copy;
      known = record {
        origins = os;
        from = w.caught.from;
        is = record {
          timed = inl (ap is_some (c.stamp n));
          covered = λ on head e. subst (λ (l : List ℕ). IsCoveredBy j.clock listen.shift j.rate l head.instant) (sym numbers) (covered_at plan crf j n 0 0 (range_with_len 0 q.clocks) head listen.shift c w.shift e covered);
        };
      };
      instant = stamp_at plan crf n;
      at = subst (λ (by : Bool). IsAt by j n 0 (pos (stamp_at plan crf n))) (sym w.on) (at_clock j.kind j n 0 (pos (stamp_at plan crf n)) c.kind at_it);
      in_time = λ k e before there. came_by plan input listen rs os k (stamp_at plan crf n) e w.caught there (λ o at. let sent = q.before k o before at in omega (arith, sent, early));
    }

-- if packet k still waits when packet n is judged, n is below k + `buffer`
waits_by : (plan : TalkPlan) (crf : CrfPlan) (input : List ℕ) (listen : ListenPlan) (rs : List Record) (os : List Origin) (i n k : ℕ) (x : ℤ) → HasWhole plan crf input listen rs os → slice_get os i ≡ Some (OfStream n) → n < (journal plan input).times.packets
    → IsAt (by_clock listen) (journal plan input).times k 0 x → time_of listen rs i ≤ℤ x → n < k + listen.buffer
waits_by plan crf input listen rs os i n k x w at known is late = elim (cases_lt n k) [
  | inl later ↦ omega arith
  | inr not ↦
      let p = journal plan input in
      let j = p.times in
      let c = w.clocked in
      let conforming = w.caught.heard.conforming.times in
      let sound = audio p w.kind conforming in
      let lt : k < j.packets = omega arith in
      let here = by_clock_at j.kind j k 0 x c.kind (subst (λ (by : Bool). IsAt by j k 0 x) w.on is) in
      elim (cases_lt k (first_covered crf plan)) [
        | inl early ↦
            let same : here.head ≡ first_head (stamp_at plan crf k) = same_head here.head (first_head (stamp_at plan crf k)) (sym here.is_head ∙ head_is plan crf j k c) in
            absurd (not_over plan crf j k here.earlier here.later c (is_early plan crf k c.talked early) here.joined (let covers = here.covers in subst (λ (h : Head). Covers (pair_at j.clock here.earlier here.later) j.rate h.instant) same covers))
        | inr from ↦
            let l = is_late plan crf k c.talked c.crf_is from in
            let at_it = at_stamp plan crf j k l.s c conforming.clock (agrees plan crf j c conforming) lt (over_stamp plan crf j k l.s c lt l.at) in
            let due = due_is plan crf j k c sound lt in
            let same : x ≡ pos (stamp_at plan crf k) = one_instant j conforming true k 0 x (pos (stamp_at plan crf k)) lt (at_clock j.kind j k 0 x c.kind here) (at_clock j.kind j k 0 (pos (stamp_at plan crf k)) c.kind at_it) in
            let sent = not_before plan input listen rs os i (OfStream n) w.caught w.kind at in
            few_wait plan input listen k n c.talked sound w.room (omega arith) known (omega (arith, ints, sent, late, same, due))
      ]
]

must_be : (plan : TalkPlan) (crf : CrfPlan) (input : List ℕ) (listen : ListenPlan) (rs : List Record) (os : List Origin) (i n : ℕ) (d : Delivery) → HasWhole plan crf input listen rs os → slice_get os i ≡ Some (OfStream n) → slice_get (deliveries_of listen rs) i ≡ Some d → IsCopyOf (journal plan input) listen.lead n d
    → first_covered crf plan ≤ n → MustBePresented (journal plan input) listen rs i n d
unfolding comes
must_be plan crf input listen rs os i n d w at there copy le =
    let p = journal plan input in
    let c = w.clocked in
    let known = copy.delivered.known in
    let conforming = w.caught.heard.conforming.times in
    let q = placed plan (stream_of plan input) 0 0 os i n w.caught.stream (omega arith) w.merged at in
    let all : n - 0 ≡ n = omega arith in
    let numbers : stream_numbers (take i os) ≡ range_with_len 0 n = q.numbers ∙ ap (range_with_len 0) all in
    let waits : ℕ → Bool = λ (k : ℕ). nat_lt n (k + listen.buffer) in
    let due = due_is plan crf p.times n c (audio p w.kind conforming) known in
    let early = w.caught.stream.early n (rw c.crf_is w.ahead) known in
    let own = few_wait plan input listen n n c.talked (audio p w.kind conforming) w.room (omega arith) known early in
    let few : length (filter waits (stream_numbers (take i os))) < listen.buffer = rw numbers (few_last n listen.buffer 0 n (omega arith) (omega arith)) in
    let times : (length (filter waits (stream_numbers (take i os))) + 1) * 1500 ≤ listen.buffer * 1500 = mul-le-mul_right 1500 (omega (arith, few)) in
    record {
      comes = comes plan crf input listen rs os i n d w at there copy le;
      first = subst (λ (l : List ℕ). All (λ (m : ℕ). m ≢ n) l) (sym numbers) (other_numbers n 0 n (omega arith));
      waits = waits;
      finds = λ k x lt is late. is_less n (k + listen.buffer) (waits_by plan crf input listen rs os i n k x w at known is late);
      some = few;
      most = 1500;
      size = λ m lt. packet_size plan input m w.caught.stream lt;
      bytes = let room = w.room.bytes in omega (arith, times, room);
    }

-- ---- a packet is flagged if its first sample is before the second point

refused_seq : (d : Delivery) (o : Option Refusal) (item : Item) → seq_of item ≡ d.seq → seq_of (refused_or d o item) ≡ d.seq
refused_seq d None item e = e
refused_seq d (Some refusal) item e = refl

seq_by : (aaf : Bool) (d : Delivery) → seq_of (if aaf then aaf_item d else iec_item d) ≡ d.seq
seq_by true d = refused_seq d (aaf_refusal d.packet) (samples_of d (aaf_of d.packet)) refl
seq_by false d = refused_seq d (iec_refusal d.packet) (blocks_of d (iec_of d.packet)) refl

no_count : (n : ℕ) → 1 ≤ n → (n == 0) ≡ false
no_count n some = grind (arith, nat_tests)

no_spot : (j : Journal) (x : ℕ) (o : Option Spot) → ((spot : Spot) → IsSpotAt j (pos x) spot → ⊥) → IfSome o (IsSpotAt j (pos x)) → o ≡ None
no_spot j x None never is = refl
no_spot j x (Some spot) never is = absurd (never spot is)

counted_early : (sp : SchedulePlan) (prefix : List Entry) (packet : Packet) (head : Head) (x : ℕ) → sp.clock ≡ true → head.instant ≡ pos x → clock_spot (filter_map row_of prefix) sp.shift (pos x) packet.rate ≡ None → counted_from clock_spot sp prefix packet (Some head) ≡ Err NoClock
counted_early sp prefix packet head x on same none = rw (on, same, none) refl

neither_is : (a b : Bool) (r q : Result Presented Reason) → a ≡ false → b ≡ false → r ≡ q → (if a then Err Empty else if b then Err NoRate else r) ≡ q
neither_is a b r q e f g = rw (e, f) g

head_by : (p : PacketJournal) (sp : SchedulePlan) (n frame arrival x : ℕ) (prefix : List Entry) → IsAudio p.times → p.times.stamp n ≡ Some x → n < p.times.packets
    → heads.head_of sp prefix (sent p.times n frame arrival (carried (p.packet n))) ≡ Some (record { instant = unfolded (x % 2 ^ 32) (pos arrival); first = neg_ℤ (pos (stamped_index (rule_of p.times.kind n))) })
head_by p sp n frame arrival x prefix is stamped known =
    let stamp : heads.usable_stamp (sent p.times n frame arrival (carried (p.packet n))) ≡ Some (x % 2 ^ 32) = usable p.times n frame arrival (carried (p.packet n)) is known ∙ ap (option_map (λ (instant : ℕ). instant % 2 ^ 32)) stamped in
    rw stamp refl

early_timed : (p : PacketJournal) (sp : SchedulePlan) (n frame arrival x : ℕ) (prefix : List Entry) → IsAudio p.times → p.times.stamp n ≡ Some x → IsDelivered p.times sp.lead (record { number = n; arrival = arrival }) → sp.clock ≡ true
    → clock_spot (filter_map row_of prefix) sp.shift (pos x) p.times.rate ≡ None → timed clock_spot sp prefix (OfPacket (sent p.times n frame arrival (carried (p.packet n)))) ≡ Err NoClock
unfolding timed
early_timed p sp n frame arrival x prefix is stamped came on none =
    let packet = sent p.times n frame arrival (carried (p.packet n)) in
    let head = head_by p sp n frame arrival x prefix is stamped came.known in
    let same : unfolded (x % 2 ^ 32) (pos arrival) ≡ pos x = true_time p.times sp.lead (record { number = n; arrival = arrival }) x came stamped in
    let least = is.rate_from in
    neither_is (p.times.count == 0) (p.times.rate == 0) (counted_from clock_spot sp prefix packet (heads.head_of sp prefix packet)) (Err NoClock) (no_count p.times.count is.some) (no_count p.times.rate (omega arith))
    (ap (counted_from clock_spot sp prefix packet) head ∙ counted_early sp prefix packet _ x on same none)

refused_at : (sp : SchedulePlan) (now : ℤ) (earlier : List Accepted) (place : ℕ) (r : Result Presented Reason) (reason : Reason) → r ≡ Err reason → verdict sp now earlier place r ≡ Err reason
unfolding verdict
refused_at sp now earlier place r reason e = rw e refl

flagged_early : (plan : TalkPlan) (crf : CrfPlan) (input : List ℕ) (listen : ListenPlan) (rs : List Record) (os : List Origin) (i n : ℕ) (d : Delivery) → HasWhole plan crf input listen rs os → (copy : IsCopyOf (journal plan input) listen.lead n d) → n < first_covered crf plan
    → verdict_of listen rs i (OfPacket (sent (journal plan input).times n d.frame copy.arrival (carried ((journal plan input).packet n)))) ≡ Err NoClock
flagged_early plan crf input listen rs os i n d w copy lt =
    let p = journal plan input in
    let j = p.times in
    let c = w.clocked in
    let sp = schedule_plan listen in
    let es = entries_in listen rs in
    let prefix = prefix_of sp es i in
    let kind = w.kind in
    let is = followed (pos 0) p listen rs w.caught.heard kind in
    let known = prefix_true (items_in listen rs) (pos 0) p listen.lead prefix (λ heard. is.audio) (All-take (IsTrueEntry (items_in listen rs) (pos 0) p listen.lead) (i + listen.look + 1) es (entries_true (pos 0) p listen rs w.caught.heard)) in
    let spot = true_spot j (pos 0) (pos (stamp_at plan crf n)) (filter_map row_of prefix) is.clock known.rows in
    let none = no_spot j (stamp_at plan crf n) (clock_spot (filter_map row_of prefix) (pos 0) (pos (stamp_at plan crf n)) j.rate) (λ x at. not_over plan crf j n at.earlier at.later c (is_early plan crf n c.talked lt) at.joined at.covers) spot in
    refused_at sp (now_at es i) (accepted_before listen rs i) i _ NoClock
    (early_timed p sp n d.frame copy.arrival (stamp_at plan crf n) prefix is.audio (c.stamp n) copy.delivered w.on (ap (λ (z : ℤ). clock_spot (filter_map row_of prefix) z (pos (stamp_at plan crf n)) j.rate) w.shift ∙ none))

-- ---- what is shown

made_at : (ds : List Delivery) (place : ℕ) (made : MadeItem) → slice_get (map made_of_one ds) place ≡ Some made → (d : Delivery) × ((slice_get ds place ≡ Some d) × (made_of_one d ≡ made))
made_at [] place made at = absurd cc
made_at (d ∷ ds) zero made at = let same : made_of_one d ≡ made = cc in (d, (refl, same))
made_at (d ∷ ds) (suc place) made at = made_at ds place made at

same_item : (a b : Item) → OfItem a ≡ OfItem b → a ≡ b
same_item a b e = cc

not_clock : (arrival : ℤ) (row : ClockRow) (item : Item) (e : Entry) → e ≡ ClockEntry arrival row → e ≡ OfItem item → ⊥
not_clock arrival row item e f g = let h = sym f ∙ g in cc

shown_stream : (plan : TalkPlan) (crf : CrfPlan) (input : List ℕ) (listen : ListenPlan) (rs : List Record) (os : List Origin) (i n : ℕ) (d : Delivery) (item : Item) → HasWhole plan crf input listen rs os → slice_get os i ≡ Some (OfStream n) → slice_get (deliveries_of listen rs) i ≡ Some d
    → IsCopyOf (journal plan input) listen.lead n d → entry_of d ≡ OfItem item → IsFrom (journal plan input) (first_covered crf plan) (shown_by d (verdict_of listen rs i item))
shown_stream plan crf input listen rs os i n d item w at there copy entry =
    let p = journal plan input in
    let c = w.clocked in
    let kind = w.kind in
    let shows = at_place Shows (deliveries_of listen rs) i d (all_shown listen.stream listen.clock rs) there in
    elim (cases_lt n (first_covered crf plan)) [
      | inl early ↦
          let packet = OfPacket (sent p.times n d.frame copy.arrival (carried (p.packet n))) in
          let same : item ≡ packet = same_item item packet (sym entry ∙ copy_entry (pos 0) p listen.lead n d w.caught.heard.conforming kind copy shows) in
          let seq : d.seq ≡ n % 256 = sym (seq_by (d.subtype == aaf_subtype) d) ∙ ap seq_of (copy_item (pos 0) p listen.lead n d w.caught.heard.conforming kind copy shows) in
          let flag : verdict_of listen rs i item ≡ Err NoClock = ap (verdict_of listen rs i) same ∙ flagged_early plan crf input listen rs os i n d w copy early in
          rw flag (n, (early, (seq, refl)))
      | inr from ↦
          let welcome = welcome_here (pos 0) p listen rs i n d w.caught.heard kind (must_be plan crf input listen rs os i n d w at there copy from) in
          let judged = welcome_judged (pos 0) p listen rs i n (made_of_one d) w.caught.heard welcome in
          let same : item ≡ judged.item = same_item item judged.item (sym entry ∙ judged.entry) in
          let ok : verdict_of listen rs i item ≡ Ok (taken i judged.batch) = ap (verdict_of listen rs i) same ∙ judged.verdict_is_ok in
          rw ok (n, (from, subst (λ (by : Bool). IsOfPacket by p n judged.batch) w.on judged.is.is))
    ]

shown_from : (plan : TalkPlan) (crf : CrfPlan) (input : List ℕ) (listen : ListenPlan) (rs : List Record) (os : List Origin) (o : Origin) (i : ℕ) (d : Delivery) (item : Item) → HasWhole plan crf input listen rs os → slice_get os i ≡ Some o → slice_get (deliveries_of listen rs) i ≡ Some d
    → IsCopyFrom (journal plan input) listen.lead o d → entry_of d ≡ OfItem item → IsFrom (journal plan input) (first_covered crf plan) (shown_by d (verdict_of listen rs i item))
shown_from plan crf input listen rs os (OfStream n) i d item w at there copy entry = shown_stream plan crf input listen rs os i n d item w at there copy entry
shown_from plan crf input listen rs os (OfClock m) i d item w at there copy entry =
    let shows = at_place Shows (deliveries_of listen rs) i d (all_shown listen.stream listen.clock rs) there in
    absurd (not_clock d.arrival (clock_row d) item (entry_of d) (clock_entry (pos 0) (journal plan input) m d w.caught.heard.conforming copy shows) entry)

shown_so : (plan : TalkPlan) (crf : CrfPlan) (input : List ℕ) (listen : ListenPlan) (rs : List Record) (os : List Origin) (s : Shown) → HasWhole plan crf input listen rs os → IsShownItem listen rs s → IsFrom (journal plan input) (first_covered crf plan) s
shown_so plan crf input listen rs os s w h =
    let p = journal plan input in
    let ds = deliveries_of listen rs in
    let all = others (pos 0) p listen rs w.caught.heard w.kind in
    let at = made_at ds h.place h.made (subst (λ (l : List MadeItem). slice_get l h.place ≡ Some h.made) (items_other ds all) h.there) in
    let o = origin_at p listen.lead os ds h.place at.0 w.caught.from at.1.0 in
    let entry : entry_of at.0 ≡ OfItem h.item = ap (λ (m : MadeItem). m.entry) at.1.1 ∙ h.is in
    let shown : s ≡ shown_by at.0 (verdict_of listen rs h.place h.item) = h.same ∙ ap (λ (m : MadeItem). shown_by m.last (verdict_of listen rs h.place h.item)) (sym at.1.1) in
    rw shown (shown_from plan crf input listen rs os o.o h.place at.0 h.item w o.at at.1.0 o.from entry)

any_packet : (p : PacketJournal) (n : ℕ) (made : MadeItem) (by : Bool) (batches : List Presented) → by ≡ true → Any (IsPresentedOf by p n made) batches → Any (IsOfPacket true p n) batches
any_packet p n made by batches on (k, batch, lt, at, is) = (k, batch, lt, at, subst (λ (b : Bool). IsOfPacket b p n batch) on is.is)

pub all_presented : (plan : TalkPlan) (crf : CrfPlan) (input : List ℕ) (listen : ListenPlan) (rs : List Record) (os : List Origin) → HasWhole plan crf input listen rs os → ArePresentedFrom (journal plan input) (first_covered crf plan) (shown_of listen rs)
all_presented plan crf input listen rs os w = record {
  each = λ n from lt.
      let p = journal plan input in
      let place = has_place (stream_of plan input) 0 0 os n w.merged (omega arith) lt in
      let here = w.caught.each place.0 (OfStream n) place.1 in
      let welcome = welcome_here (pos 0) p listen rs place.0 n here.d w.caught.heard w.kind (must_be plan crf input listen rs os place.0 n here.d w place.1 here.there here.copy from) in
      any_packet p n (made_of_one here.d) (by_clock listen) (presented_of (shown_of listen rs)) w.on (welcome_shown (pos 0) p listen rs place.0 n (made_of_one here.d) w.caught.heard welcome);
  once = subst (λ (by : Bool). AllPairs (AreOther by (journal plan input)) (presented_of (shown_of listen rs))) w.on (presented_once (pos 0) (journal plan input) listen rs w.caught.heard);
  in_order = never_falls (pos 0) (journal plan input) listen rs w.caught.heard;
  no_other = λ k s lt. shown_so plan crf input listen rs os _ w (no_other_shown listen rs k s lt);
}
