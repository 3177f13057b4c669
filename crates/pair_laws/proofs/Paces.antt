-- What a listener presents of a talker keeps the talker's pace.
use Rattle.std.proofs.Common.{◌≡◌, ℕ, zero, suc, ◌+◌, ◌*◌, ◌≤◌, Bool, true, false, inl, inr, ℤ, pos, List, [], ◌∷◌, length, map, Option, Some, None, Result, Ok, Err, refl, sym, ◌∙◌, subst, arith}
use Rattle.std.specs.Prelude.{◌==◌, if◌then◌else◌, All, IfOk, IfSome, option_map, option_and_then, slice_get}
use Rattle.std.specs.List.{AllByRecursion, filter_map}
use Rattle.std.proofs.lemmas.Bool.{eqb-true}
use Rattle.std.proofs.lemmas.List.Elements.{All-head, All-tail, All-take}
use Rattle.time_unfold.specs.declared.line.Line.{Line}
use Rattle.time_unfold.specs.declared.head_rule.Head.{Head}
use Rattle.clock_track.specs.declared.pair.Pair.{Pair}
use Rattle.clock_track.specs.PairLines.{IsJoined, Spot, event_line, nearest_event, period, spot_by, step_den, step_num}
use Rattle.clock_track.specs.Rows.{clock_spot}
use Rattle.clock_track.proofs.LineFacts.{product, spaced, spaced_least, spaced_own, spaced_own_least}
use Rattle.pcap_frames.specs.Capture.{Record}
use Rattle.stream_journal.specs.ClockRows.{IsSpotAt, IsTrueRow}
use Rattle.stream_journal.specs.Clocks.{pair_at}
use Rattle.stream_journal.specs.Conforming.{IsAudio, IsClock}
use Rattle.stream_journal.specs.Delivered.{IsAudioKind}
use Rattle.stream_journal.specs.Journal.{Am824, DenseAaf, H264, Journal, Kind, Part, SparseAaf}
use Rattle.stream_journal.proofs.TrueLines.{true_spot}
use Rattle.stream_journal.proofs.TrueClock.{some_down}
use Rattle.packet_journal.specs.Packets.{PacketJournal, carried}
use Rattle.sample_schedule.specs.declared.accepted.Accepted.{Accepted}
use Rattle.sample_schedule.specs.declared.entry.Entry.{Entry}
use Rattle.sample_schedule.specs.declared.item.Item.TheVariants.{Packet as OfPacket}
use Rattle.sample_schedule.specs.declared.item.Packet.{Packet}
use Rattle.sample_schedule.specs.declared.plan.SchedulePlan.{SchedulePlan}
use Rattle.sample_schedule.specs.declared.shown.Reason.{Reason}
use Rattle.sample_schedule.specs.declared.shown.Reason.TheVariants.{Empty, NoRate, NoClock}
use Rattle.sample_schedule.specs.Batches.{Presented, is_unit}
use Rattle.sample_schedule.specs.Heads.{head_of}
use Rattle.sample_schedule.specs.Laws.{presented}
use Rattle.sample_schedule.specs.Schedule.{accepted, accepted_by, given, judged, now_at, prefix_of, verdict_at}
use Rattle.sample_schedule.specs.Verdicts.{counted_from, decided, moved, nominal_spot, ok_or_reason, row_of, samples_at, spot_of, timed, unit_at_once, verdict}
use Rattle.sample_schedule.proofs.LawLemmas.{accepted-presented}
use Rattle.listener.specs.declared.plan.ListenPlan.{ListenPlan}
use Rattle.listener.specs.Heard.{entries_in, items_in, schedule_plan, shown_of}
use Rattle.listener.specs.Items.{MadeItem}
use Rattle.listener.specs.Laws.{HearsTalker, IsOfJournal, by_clock, presented_of}
use Rattle.listener.proofs.TrueHeard.{IsFollowed}
use Rattle.listener.proofs.TrueItems.{sent}
use Rattle.listener.proofs.TrueList.{IsBadEntry, IsClockEntry, IsStreamEntry, IsTrueEntry, IsUnitEntry, batches_are, entries_true, followed, prefix_true, presented_true}
use Rattle.capture_pair.proofs.Heard.{accepted-all, sorted-all}
use Rattle.pair_laws.specs.Agreeing.{IsPresentedOfTalker, KeepsPace}
use Rattle.listener_pair.proofs.Sorting.{all-join}

-- ---- lines

record LinePace (rate : ℕ) (line : Line) : Type 0 where
  some : 1 ≤ line.den
  least : 7000000000 * line.den ≤ 8 * (rate * line.num)
  spacing : 8 * (rate * line.num) ≤ 9000000000 * line.den

own-pace : (p : Pair) (rate : ℕ) → 1 ≤ p.interval → 1 ≤ p.down → IsJoined p → p.up ≡ rate * p.down → LinePace rate (event_line p)
own-pace p rate some down joined own = record {
  some = some;
  least = spaced_own_least p.interval p.down rate (period p) down (subst (λ (u : ℕ). 7 * (p.interval * 1000000000 * p.down) ≤ 8 * (period p * u)) own joined.least);
  spacing = spaced_own p.interval p.down rate (period p) down (subst (λ (u : ℕ). 8 * (period p * u) ≤ 9 * (p.interval * 1000000000 * p.down)) own joined.most);
}

other-pace : (p : Pair) (rate : ℕ) (base : ℤ) → 1 ≤ rate → 1 ≤ p.interval → 1 ≤ p.down → IsJoined p → LinePace rate (record { base = base; num = step_num p; den = step_den p rate })
other-pace p rate base rated some down joined = record {
  some = product (p.interval * rate) p.down (product p.interval rate some rated) down;
  least = spaced_least p.interval p.down rate (step_num p) joined.least;
  spacing = spaced p.interval p.down rate (step_num p) joined.most;
}

abbrev spot-in : Bool → Pair → ℕ → ℤ → Spot
spot-in b p rate instant = if b then record { line = event_line p; from = nearest_event p instant } else record { line = record { base = instant; num = step_num p; den = step_den p rate }; from = pos 0 }

pair-pace : (p : Pair) (rate : ℕ) (instant : ℤ) → 1 ≤ rate → 1 ≤ p.interval → 1 ≤ p.down → IsJoined p → LinePace rate (spot_by p rate instant).line
pair-pace p rate instant rated some down joined = by (p.up == rate * p.down) refl
  where
    by : (b : Bool) → (p.up == rate * p.down) ≡ b → LinePace rate (spot-in b p rate instant).line
    by true e = own-pace p rate some down joined (eqb-true p.up (rate * p.down) e)
    by false e = other-pace p rate instant rated some down joined

spot-pace : (j : Journal) (instant : ℤ) (spot : Spot) → IsAudio j → IsClock j.clock → IsSpotAt j instant spot → LinePace j.rate spot.line
spot-pace j instant spot audio clock s =
    subst (λ (x : Spot). LinePace j.rate x.line) (sym s.same)
    (pair-pace (pair_at j.clock s.earlier s.later) j.rate instant (let r = audio.rate_from in omega arith) clock.interval (some_down j.clock.pull) s.joined.joined)

nominal-pace : (rate : ℕ) (h : Head) → 1 ≤ rate → LinePace rate (nominal_spot rate h).line
nominal-pace rate h some = record { some = some; least = omega arith; spacing = omega arith }

moved-pace : (rate : ℕ) (first : ℤ) (o : Option Spot) → IfSome o (λ s. LinePace rate s.line) → IfSome (option_map (moved first) o) (λ s. LinePace rate s.line)
moved-pace rate first None h = tt
moved-pace rate first (Some s) h = h

some-pace : (j : Journal) (instant : ℤ) (o : Option Spot) → IsAudio j → IsClock j.clock → IfSome o (IsSpotAt j instant) → IfSome o (λ s. LinePace j.rate s.line)
some-pace j instant None audio clock h = tt
some-pace j instant (Some s) audio clock h = spot-pace j instant s audio clock h

spots-pace : (shift : ℤ) (j : Journal) (plan : SchedulePlan) (prefix : List Entry) (h : Head) (by : Bool) → plan.clock ≡ by → IsFollowed shift j plan → All (IsTrueRow j.clock shift) (filter_map row_of prefix)
    → IfSome (if by then option_map (moved h.first) (clock_spot (filter_map row_of prefix) plan.shift h.instant j.rate) else Some (nominal_spot j.rate h)) (λ s. LinePace j.rate s.line)
spots-pace shift j plan prefix h true on is rows =
    moved-pace j.rate h.first (clock_spot (filter_map row_of prefix) plan.shift h.instant j.rate)
    (some-pace j h.instant (clock_spot (filter_map row_of prefix) plan.shift h.instant j.rate) is.audio is.clock
    (subst (λ (x : ℤ). IfSome (clock_spot (filter_map row_of prefix) x h.instant j.rate) (IsSpotAt j h.instant)) (sym (is.shifted on)) (true_spot j shift h.instant (filter_map row_of prefix) is.clock rows)))
spots-pace shift j plan prefix h false off is rows = nominal-pace j.rate h (let r = is.audio.rate_from in omega arith)

-- ---- batches

at-spot : (q : Packet) (rate : ℕ) (o : Option Spot) → IfSome o (λ s. LinePace rate s.line) → IfOk (ok_or_reason NoClock (option_map (samples_at q) o)) (λ b. LinePace rate b.line)
at-spot q rate None h = tt
at-spot q rate (Some s) h = h

counted-pace : (shift : ℤ) (j : Journal) (plan : SchedulePlan) (n frame arrival : ℕ) (bytes : List ℕ) (prefix : List Entry) (r : Option Head) → IsFollowed shift j plan → All (IsTrueRow j.clock shift) (filter_map row_of prefix)
    → IfOk (counted_from clock_spot plan prefix (sent j n frame arrival bytes) r) (λ b. LinePace j.rate b.line)
counted-pace shift j plan n frame arrival bytes prefix None is rows = tt
counted-pace shift j plan n frame arrival bytes prefix (Some h) is rows =
    at-spot (sent j n frame arrival bytes) j.rate (spot_of clock_spot plan prefix j.rate h) (spots-pace shift j plan prefix h plan.clock refl is rows)

either-or : (a b : Bool) (r : Result Presented Reason) (P : Presented → Type 0) → IfOk r P → IfOk (if a then Err Empty else if b then Err NoRate else r) P
either-or true b r P h = tt
either-or false true r P h = tt
either-or false false r P h = h

timed-pace : (shift : ℤ) (j : Journal) (plan : SchedulePlan) (n frame arrival : ℕ) (bytes : List ℕ) (prefix : List Entry) → IsFollowed shift j plan → All (IsTrueRow j.clock shift) (filter_map row_of prefix)
    → IfOk (timed clock_spot plan prefix (OfPacket (sent j n frame arrival bytes))) (λ b. LinePace j.rate b.line)
unfolding timed
timed-pace shift j plan n frame arrival bytes prefix is rows =
    either-or (j.count == 0) (j.rate == 0) (counted_from clock_spot plan prefix (sent j n frame arrival bytes) (head_of plan prefix (sent j n frame arrival bytes))) (λ b. LinePace j.rate b.line)
    (counted-pace shift j plan n frame arrival bytes prefix (head_of plan prefix (sent j n frame arrival bytes)) is rows)

-- ---- what is accepted

audio-pace : (kind : Kind) (rate : ℕ) (batch : Presented) → IsAudioKind kind → LinePace rate batch.line → KeepsPace kind rate batch
audio-pace DenseAaf rate batch heard h = record { some = h.some; least = h.least; spacing = h.spacing }
audio-pace SparseAaf rate batch heard h = record { some = h.some; least = h.least; spacing = h.spacing }
audio-pace (Am824 interval dbc) rate batch heard h = record { some = h.some; least = h.least; spacing = h.spacing }
audio-pace (H264 part) rate batch heard h = absurd heard

abbrev Paced : PacketJournal → Presented → Type 0
Paced p batch = KeepsPace p.times.kind p.times.rate batch

abbrev AllPaced : PacketJournal → List Accepted → Type 0
AllPaced p xs = AllByRecursion (λ a. Paced p a.batch) xs

ok-audio : (p : PacketJournal) (r : Result Presented Reason) → IsAudioKind p.times.kind → IfOk r (λ b. LinePace p.times.rate b.line) → IfOk r (Paced p)
ok-audio p (Ok batch) heard h = audio-pace p.times.kind p.times.rate batch heard h
ok-audio p (Err reason) heard h = tt

decided-pace : (P : Presented → Type 0) (late copy full : Bool) (place : ℕ) (batch : Presented) → P batch → IfOk (decided late copy full place batch) (λ a. P a.batch)
decided-pace P true copy full place batch is = tt
decided-pace P false true full place batch is = tt
decided-pace P false false true place batch is = tt
decided-pace P false false false place batch is = is

verdict-pace : (P : Presented → Type 0) (plan : SchedulePlan) (now : ℤ) (earlier : List Accepted) (place : ℕ) (r : Result Presented Reason) → IfOk r P → IfOk (verdict plan now earlier place r) (λ a. P a.batch)
unfolding verdict
verdict-pace P plan now earlier place (Err reason) is = tt
verdict-pace P plan now earlier place (Ok batch) is = decided-pace P _ _ _ place batch is

judged-stream : (items : List MadeItem) (shift : ℤ) (p : PacketJournal) (plan : SchedulePlan) (es : List Entry) (n : ℕ) (earlier : List Accepted) (e : Entry) → (IsAudioKind p.times.kind → IsFollowed shift p.times plan) → All (IsTrueEntry items shift p plan.lead) es
    → IsStreamEntry items p plan.lead e → AllPaced p (accepted_by (judged clock_spot plan es n earlier e))
judged-stream items shift p plan es n earlier e is all t =
    let packet = sent p.times t.number t.delivery.frame t.copy.arrival (carried (p.packet t.number)) in
    let prefix = prefix_of plan es n in
    let known = prefix_true items shift p plan.lead prefix (λ heard. (is heard).audio) (All-take (IsTrueEntry items shift p plan.lead) (n + plan.look + 1) es all) in
    let r = timed clock_spot plan prefix (OfPacket packet) in
    subst (λ (x : Entry). AllPaced p (accepted_by (judged clock_spot plan es n earlier x))) (sym t.same)
    (accepted-all (λ a. Paced p a.batch) (verdict plan (now_at es n) earlier n r)
    (verdict-pace (Paced p) plan (now_at es n) earlier n r (ok-audio p r t.heard (timed-pace shift p.times plan t.number t.delivery.frame t.copy.arrival (carried (p.packet t.number)) prefix (is t.heard) known.rows))))

unit-pace : (kind : Kind) (part : ℕ → Part) (rate : ℕ) (batch : Presented) → kind ≡ H264 part → is_unit batch ≡ true → KeepsPace kind rate batch
unit-pace kind part rate batch e h = subst (λ (k : Kind). KeepsPace k rate batch) (sym e) h

judged-unit : (items : List MadeItem) (p : PacketJournal) (plan : SchedulePlan) (es : List Entry) (n : ℕ) (earlier : List Accepted) (e : Entry) → IsUnitEntry items p plan.lead e → AllPaced p (accepted_by (judged clock_spot plan es n earlier e))
unfolding timed
judged-unit items p plan es n earlier e t =
    subst (λ (x : Entry). AllPaced p (accepted_by (judged clock_spot plan es n earlier x))) (sym (t.same ∙ t.is.entry))
    (accepted-all (λ a. Paced p a.batch) (verdict plan (now_at es n) earlier n (Ok (unit_at_once t.is.unit)))
    (verdict-pace (Paced p) plan (now_at es n) earlier n (Ok (unit_at_once t.is.unit)) (unit-pace p.times.kind t.part p.times.rate (unit_at_once t.is.unit) t.kind refl)))

judged-bad : (p : PacketJournal) (plan : SchedulePlan) (es : List Entry) (n : ℕ) (earlier : List Accepted) (e : Entry) → IsBadEntry e → AllPaced p (accepted_by (judged clock_spot plan es n earlier e))
unfolding timed verdict
judged-bad p plan es n earlier e t = subst (λ (x : Entry). AllPaced p (accepted_by (judged clock_spot plan es n earlier x))) (sym t.same) tt

judged-clock : (shift : ℤ) (p : PacketJournal) (plan : SchedulePlan) (es : List Entry) (n : ℕ) (earlier : List Accepted) (e : Entry) → IsClockEntry shift p e → AllPaced p (accepted_by (judged clock_spot plan es n earlier e))
judged-clock shift p plan es n earlier e t = subst (λ (x : Entry). AllPaced p (accepted_by (judged clock_spot plan es n earlier x))) (sym t.same) tt

judged-pace : (items : List MadeItem) (shift : ℤ) (p : PacketJournal) (plan : SchedulePlan) (es : List Entry) (n : ℕ) (earlier : List Accepted) (o : Option Entry) → (IsAudioKind p.times.kind → IsFollowed shift p.times plan) → All (IsTrueEntry items shift p plan.lead) es
    → IfSome o (IsTrueEntry items shift p plan.lead) → AllPaced p (accepted_by (option_and_then (judged clock_spot plan es n earlier) o))
judged-pace items shift p plan es n earlier None is all t = tt
judged-pace items shift p plan es n earlier (Some e) is all (inl (inl t)) = judged-stream items shift p plan es n earlier e is all t
judged-pace items shift p plan es n earlier (Some e) is all (inl (inr t)) = judged-unit items p plan es n earlier e t
judged-pace items shift p plan es n earlier (Some e) is all (inr (inl t)) = judged-bad p plan es n earlier e t
judged-pace items shift p plan es n earlier (Some e) is all (inr (inr t)) = judged-clock shift p plan es n earlier e t

entry-at : (P : Entry → Type 0) (es : List Entry) (n : ℕ) → All P es → IfSome (slice_get es n) P
entry-at P [] n all = tt
entry-at P (e ∷ es) zero all = All-head P e es all
entry-at P (e ∷ es) (suc n) all = entry-at P es n (All-tail P e es all)

accepted-pace : (items : List MadeItem) (shift : ℤ) (p : PacketJournal) (plan : SchedulePlan) (es : List Entry) (n : ℕ) → (IsAudioKind p.times.kind → IsFollowed shift p.times plan) → All (IsTrueEntry items shift p plan.lead) es → AllPaced p (accepted clock_spot plan es n)
unfolding accepted verdict_at
accepted-pace items shift p plan es zero is all = tt
accepted-pace items shift p plan es (suc n) is all =
    all-join (λ a. Paced p a.batch) (accepted clock_spot plan es n) _ (accepted-pace items shift p plan es n is all)
    (judged-pace items shift p plan es n (accepted clock_spot plan es n) (slice_get es n) is all (entry-at (IsTrueEntry items shift p plan.lead) es n all))

-- ---- what is presented

batches-all : (P : Presented → Type 0) (xs : List Accepted) → AllByRecursion (λ a. P a.batch) xs → AllByRecursion P (map (λ (a : Accepted). a.batch) xs)
batches-all P [] h = tt
batches-all P (x ∷ xs) h = (h.0, batches-all P xs h.1)

presented-pace : (shift : ℤ) (p : PacketJournal) (plan : ListenPlan) (records : List Record) → HearsTalker shift p plan records → AllByRecursion (Paced p) (presented_of (shown_of plan records))
presented-pace shift p plan records h =
    let schedule = schedule_plan plan in
    let es = entries_in plan records in
    let gs = given clock_spot schedule es in
    let all = accepted-pace (items_in plan records) shift p schedule es (length es) (followed shift p plan records h) (entries_true shift p plan records h) in
    subst (AllByRecursion (Paced p)) (sym (batches_are gs))
    (batches-all (Paced p) (presented gs) (subst (AllPaced p) (sym (accepted-presented clock_spot schedule es)) (sorted-all (λ a. Paced p a.batch) (accepted clock_spot schedule es (length es)) all)))

both-hold : (by : Bool) (p : PacketJournal) (xs : List Presented) → All (IsOfJournal by p) xs → AllByRecursion (Paced p) xs → AllByRecursion (IsPresentedOfTalker by p) xs
both-hold by p [] all h = tt
both-hold by p (x ∷ xs) all h = (record { is = All-head (IsOfJournal by p) x xs all; pace = h.0 }, both-hold by p xs (All-tail (IsOfJournal by p) x xs all) h.1)

pub presented-of-talker : (shift : ℤ) (p : PacketJournal) (plan : ListenPlan) (records : List Record) → HearsTalker shift p plan records → AllByRecursion (IsPresentedOfTalker (by_clock plan) p) (presented_of (shown_of plan records))
presented-of-talker shift p plan records h = both-hold (by_clock plan) p (presented_of (shown_of plan records)) (presented_true shift p plan records h) (presented-pace shift p plan records h)
