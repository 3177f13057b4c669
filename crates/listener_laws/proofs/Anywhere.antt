-- A copy of an audio packet that must be presented, wherever it is in a capture.
use Rattle.std.proofs.Common.{◌≡◌, ◌≢◌, ℕ, zero, suc, ◌+◌, ◌-◌, ◌*◌, ◌<◌, ◌≤◌, Bool, true, false, ℤ, pos, ◌≤ℤ◌, List, [], ◌∷◌, ◌++◌, All, length, filter, take, Some, refl, sym, ap, ◌∙◌, subst, arith}
use Rattle.std.specs.Prelude.{Any, nat_le, nat_lt, if◌then◌else◌, slice_get}
use Rattle.std.proofs.lemmas.Bool.Decides.{nat_tests}
use Rattle.std.proofs.lemmas.Int.{ints}
use Rattle.std.proofs.lemmas.Option.{slice_get_within}
use Rattle.std.proofs.lemmas.List.Elements.{All-head, All-tail}
use Rattle.std.proofs.Math.Nat.{mul-le-mul_right}
use Rattle.clock_track.specs.Rows.{clock_spot}
use Rattle.pcap_frames.specs.Capture.{Record}
use Rattle.stream_journal.specs.Delivered.{IsAudioKind}
use Rattle.packet_journal.specs.Deliveries.{Delivery}
use Rattle.packet_journal.specs.Delivered.{AreFrom, IsFrom, Origin, OfClock, OfStream, stream_numbers}
use Rattle.packet_journal.specs.Packets.{PacketJournal, carried}
use Rattle.sample_schedule.specs.declared.accepted.Accepted.{Accepted}
use Rattle.sample_schedule.specs.declared.plan.SchedulePlan.{SchedulePlan}
use Rattle.sample_schedule.specs.Order.{standing}
use Rattle.sample_schedule.specs.Verdicts.{is_full, total_bytes}
use Rattle.sample_schedule.proofs.StageLemmas.{accepted-next, now-next}
use Rattle.listener.specs.declared.plan.ListenPlan.{ListenPlan}
use Rattle.listener.specs.Heard.{deliveries_of, entries_in, items_in, schedule_plan}
use Rattle.listener.specs.Items.{MadeItem, entry_of, made_of_one}
use Rattle.listener.specs.Laws.{HearsTalker, IsFurther, IsOfPacket, IsTimely, IsWelcome, accepted_before, by_clock, time_of}
use Rattle.listener.proofs.KnownItems.{audio_item}
use Rattle.listener.proofs.Shown.{entry_at}
use Rattle.listener.proofs.TrueHeard.{audio_content}
use Rattle.listener.proofs.TrueList.{others}
use Rattle.listener.proofs.TrueOnce.{one_number}
use Rattle.listener.proofs.TrueTimely.{entry_there, item_there, taken, welcome_judged}
use Rattle.listener.proofs.Welcome.{arrives, both_early, first_time}
use Rattle.listener_laws.specs.Anywhere.{ComesInTime, MustBePresented}
use Rattle.listener_laws.proofs.Taken.{HoldsOf, IsAtPlace, all_taken, any_last, audio_short, audio_step, light as bytes_light, none_first, none_is, passing, stays, taken_at}

-- ---- lists

pub some_at : (ds : List Delivery) (j : ℕ) → j < length ds → (d : Delivery) × (slice_get ds j ≡ Some d)
some_at [] j lt = absurd (omega arith)
some_at (x ∷ ds) zero lt = (x, refl)
some_at (x ∷ ds) (suc j) lt = some_at ds j (omega arith)

-- Delivery `j` has an origin, and `d` is a copy of the packet that this origin names.
pub record HasOrigin (p : PacketJournal) (lead : ℕ) (os : List Origin) (j : ℕ) (d : Delivery) : Type 0 where
  pub o : Origin
  pub at : slice_get os j ≡ Some o
  pub from : IsFrom p lead o d

pub origin_at : (p : PacketJournal) (lead : ℕ) (os : List Origin) (ds : List Delivery) (j : ℕ) (d : Delivery) → AreFrom p lead os ds → slice_get ds j ≡ Some d → HasOrigin p lead os j d
origin_at p lead [] [] j d from at = absurd cc
origin_at p lead [] (x ∷ ds) j d from at = absurd from
origin_at p lead (o ∷ os) [] j d from at = absurd cc
origin_at p lead (o ∷ os) (x ∷ ds) zero d from at = let same : x ≡ d = cc in record { o = o; at = refl; from = subst (IsFrom p lead o) same from.0 }
origin_at p lead (o ∷ os) (x ∷ ds) (suc j) d from at = let rest = origin_at p lead os ds j d from.1 at in record { o = rest.o; at = rest.at; from = rest.from }

-- ---- when an item is judged

judged_by : (shift : ℤ) (p : PacketJournal) (plan : ListenPlan) (records : List Record) (place instant : ℕ) → HearsTalker shift p plan records → IsAudioKind p.times.kind → place < length (deliveries_of plan records)
    → ((k : ℕ) (e : Delivery) → k ≤ place → slice_get (deliveries_of plan records) k ≡ Some e → e.arrival ≤ℤ pos instant) → time_of plan records place ≤ℤ pos instant
judged_by shift p plan records zero instant h kind lt early =
    let all = others shift p plan records h kind in
    let d = some_at (deliveries_of plan records) 0 lt in
    rw (first_time (entries_in plan records) (entry_of d.0) (entry_there (deliveries_of plan records) 0 d.0 all d.1), arrives d.0)
    (both_early (pos 0) d.0.arrival instant (omega (arith, ints)) (early 0 d.0 (omega arith) d.1))
judged_by shift p plan records (suc place) instant h kind lt early =
    let all = others shift p plan records h kind in
    let d = some_at (deliveries_of plan records) (suc place) lt in
    let before = judged_by shift p plan records place instant h kind (omega arith) (λ k e le at. early k e (omega (arith, le)) at) in
    rw (now-next (entries_in plan records) (suc place) (entry_of d.0) (entry_there (deliveries_of plan records) (suc place) d.0 all d.1), arrives d.0)
    (both_early (time_of plan records place) d.0.arrival instant before (early (suc place) d.0 (omega arith) d.1))

timely_here : (shift : ℤ) (p : PacketJournal) (plan : ListenPlan) (records : List Record) (place n : ℕ) (d : Delivery) → HearsTalker shift p plan records → IsAudioKind p.times.kind → ComesInTime p plan records place n d → IsTimely p plan records place n (made_of_one d)
timely_here shift p plan records place n d h kind c = record {
  there = item_there (deliveries_of plan records) place d (others shift p plan records h kind) c.there;
  copy = record { from = n; to = omega arith; earlier = tt; last = c.copy };
  known = audio_item p.times.kind p plan records place (record { number = n; arrival = c.copy.arrival }) (made_of_one d) kind c.known;
  instant = pos c.instant;
  at = c.at;
  in_time = judged_by shift p plan records place c.instant h kind (slice_get_within (deliveries_of plan records) place d c.there) c.in_time;
}

-- ---- the copy is welcome

before_it : (shift : ℤ) (p : PacketJournal) (plan : ListenPlan) (records : List Record) (Q : ℕ → Type 0) (os : List Origin) (place : ℕ) → HearsTalker shift p plan records → IsAudioKind p.times.kind → AreFrom p plan.lead os (deliveries_of plan records) → place < length (deliveries_of plan records)
    → ((j : ℕ) (o : Origin) → j < place → slice_get os j ≡ Some o → HoldsOf Q o) → (j : ℕ) → j < place → IsAtPlace p plan records Q os j
before_it shift p plan records Q os place h kind from within holds j lt =
    let d = some_at (deliveries_of plan records) j (omega arith) in
    let o = origin_at p plan.lead os (deliveries_of plan records) j d.0 from d.1 in
    record { o = o.o; at = o.at; holds = holds j o.o lt o.at; taken = taken_at shift p plan records j o.o d.0 h kind d.1 o.from }

holds_at : (Q : ℕ → Type 0) (os : List Origin) (place j : ℕ) (o : Origin) → j < place → slice_get os j ≡ Some o → All Q (stream_numbers (take place os)) → HoldsOf Q o
holds_at Q [] place j o lt at all = absurd cc
holds_at Q (x ∷ os) zero j o lt at all = absurd (omega arith)
holds_at Q (OfStream k ∷ os) (suc place) zero o lt at all = let same : OfStream k ≡ o = cc in subst (HoldsOf Q) same (All-head Q k (stream_numbers (take place os)) all)
holds_at Q (OfClock m ∷ os) (suc place) zero o lt at all = let same : OfClock m ≡ o = cc in subst (HoldsOf Q) same tt
holds_at Q (OfStream k ∷ os) (suc place) (suc j) o lt at all = holds_at Q os place j o (omega arith) at (All-tail Q k (stream_numbers (take place os)) all)
holds_at Q (OfClock m ∷ os) (suc place) (suc j) o lt at all = holds_at Q os place j o (omega arith) at all

pub not_full : (plan : SchedulePlan) (waiting : List Accepted) (size : ℕ) → length waiting < plan.buffer → total_bytes waiting + size ≤ plan.room → is_full plan waiting size ≡ false
not_full plan waiting size some fits = by (nat_le plan.buffer (length waiting)) (nat_lt plan.room (total_bytes waiting + size)) (grind (arith, nat_tests)) (grind (arith, nat_tests))
  where
    by : (a b : Bool) → a ≡ false → b ≡ false → (if a then true else b) ≡ false
    by a b e f = rw (e, f) refl

pub fits : (waiting count total size most room : ℕ) → waiting ≤ count → total ≤ waiting * most → size ≤ most → (count + 1) * most ≤ room → total + size ≤ room
fits waiting count total size most room few light short bytes = let times : waiting * most ≤ count * most = mul-le-mul_right most few in omega arith

pub welcome_here : (shift : ℤ) (p : PacketJournal) (plan : ListenPlan) (records : List Record) (place n : ℕ) (d : Delivery) → HearsTalker shift p plan records → IsAudioKind p.times.kind → MustBePresented p plan records place n d → IsWelcome p plan records place n (made_of_one d)
welcome_here shift p plan records place n d h kind m =
    let c = m.comes in
    let by = by_clock plan in
    let os = c.known.origins in
    let t = time_of plan records place in
    let xs = accepted_before plan records place in
    let Q : ℕ → Type 0 = λ (k : ℕ). k ≢ n in
    let within = slice_get_within (deliveries_of plan records) place d c.there in
    let each = before_it shift p plan records Q os place h kind c.known.from within (λ j o lt at. holds_at Q os place j o lt at m.first) in
    let taken = all_taken Q by p t (passing m.waits os) (accepted_before plan records) place (none_first plan records) (λ j lt. audio_step p plan records Q m.waits t os j m.finds (each j lt)) in
    let few = taken.few in
    let some = m.some in
    let light = bytes_light Q by p t m.most xs (λ k b is. audio_short by p m.most k b kind m.size is) taken.all in
    let own = m.size n c.copy.delivered.known in
    record {
      timely = timely_here shift p plan records place n d h kind c;
      first = none_is by p n xs (λ k b ne is other. ne (one_number by p k n b h.conforming.times is other)) taken.all;
      bytes = carried (p.packet n);
      content = audio_content p.times.kind p n kind;
      room = not_full (schedule_plan plan) (standing t xs) (length (carried (p.packet n))) (omega (arith, few, some))
          (fits (length (standing t xs)) (length (filter m.waits (stream_numbers (take place os)))) (total_bytes (standing t xs)) (length (carried (p.packet n))) m.most plan.room few light own m.bytes);
    }

-- ---- a further copy

-- if an earlier copy of packet `n` must be presented, packet `n` is among the batches that are accepted before the item
-- at `place`
pub accepted_later : (shift : ℤ) (p : PacketJournal) (plan : ListenPlan) (records : List Record) (earlier place n : ℕ) (made : MadeItem) → HearsTalker shift p plan records → IsWelcome p plan records earlier n made → earlier < place
    → Any (λ (a : Accepted). IsOfPacket (by_clock plan) p n a.batch) (accepted_before plan records place)
accepted_later shift p plan records earlier place n made h w lt =
    let P : Accepted → Type 0 = λ (a : Accepted). IsOfPacket (by_clock plan) p n a.batch in
    let judged = welcome_judged shift p plan records earlier n made h w in
    let there = entry_at (items_in plan records) earlier made w.timely.there ∙ ap Some judged.entry in
    let more : accepted_before plan records (suc earlier) ≡ accepted_before plan records earlier ++ taken earlier judged.batch ∷ [] =
    accepted-next clock_spot (schedule_plan plan) (entries_in plan records) earlier _ there ∙ rw judged.verdict_is_ok refl in
    let here : Any P (accepted_before plan records (suc earlier)) = subst (λ (xs : List Accepted). Any P xs) (sym more) (any_last P (accepted_before plan records earlier) (taken earlier judged.batch) judged.is.is) in
    let sum : suc earlier + (place - suc earlier) ≡ place = omega (arith, lt) in
    subst (λ (m : ℕ). Any P (accepted_before plan records m)) sum (stays P plan records (suc earlier) (place - suc earlier) here)

pub further_here : (shift : ℤ) (p : PacketJournal) (plan : ListenPlan) (records : List Record) (earlier place n : ℕ) (made : MadeItem) (d : Delivery) → HearsTalker shift p plan records → IsAudioKind p.times.kind → IsWelcome p plan records earlier n made → earlier < place → ComesInTime p plan records place n d
    → IsFurther p plan records place n (made_of_one d)
further_here shift p plan records earlier place n made d h kind w lt c = record {
  timely = timely_here shift p plan records place n d h kind c;
  before = accepted_later shift p plan records earlier place n made h w lt;
}
