-- What a listener gets from a capture of some frames of a plan.
use Rattle.std.proofs.Common.{◌≡◌, ℕ, zero, suc, ◌+◌, ◌≤◌, ℤ, pos, ◌≤ℤ◌, List, [], ◌∷◌, length, map, take, Option, Some, refl, sym, ap, ◌∙◌, subst, arith}
use Rattle.std.specs.Prelude.{slice_get}
use Rattle.std.specs.Int.{int_max}
use Rattle.std.specs.List.{AllByRecursion}
use Rattle.std.proofs.lemmas.Int.{ints}
use Rattle.pcap_frames.specs.Capture.{Record}
use Rattle.stream_journal.specs.Delivered.{IsAudioKind}
use Rattle.packet_journal.specs.Carried.{AllCarryFrom}
use Rattle.packet_journal.specs.Deliveries.{Delivery, deliveries, delivery}
use Rattle.packet_journal.specs.Delivered.{AreFrom, IsFrom, Origin, OfClock, OfStream}
use Rattle.packet_journal.specs.Packets.{PacketJournal}
use Rattle.sample_schedule.specs.Schedule.{latest}
use Rattle.sample_schedule.proofs.StageLemmas.{now-next}
use Rattle.listener.specs.declared.plan.ListenPlan.{ListenPlan}
use Rattle.listener.specs.Heard.{deliveries_of, entries_in}
use Rattle.listener.specs.Items.{entry_of}
use Rattle.listener.specs.Laws.{HearsTalker, time_of}
use Rattle.listener.proofs.TrueList.{others}
use Rattle.listener.proofs.TrueTimely.{entry_there}
use Rattle.listener.proofs.Welcome.{arrives, first_time}
use Rattle.listener_laws.proofs.Anywhere.{origin_at}
use Rattle.listener_laws.proofs.Carried.{AreRead, HearsOrigin, all_delivered, all_from, numbered, numbered_at}
use Rattle.talk_plan.specs.declared.plan.TalkPlan.{TalkPlan}
use Rattle.talk_plan.specs.Plan.{Expects}
use Rattle.talker.specs.Frames.{record_of}
use Rattle.talker.specs.Journal.{Stream, journal, stream_of}
use Rattle.talker.proofs.StreamLemmas.{IsStream}
use Rattle.talked_presented.proofs.Merged.{IsSent, all_by, frame_by, sent_by}

-- Delivery i is a copy of the packet that `o` names, captured when that packet was sent.
pub record IsCaughtAt (p : PacketJournal) (s : Stream) (listen : ListenPlan) (rs : List Record) (i : ℕ) (o : Origin) : Type 0 where
  pub d : Delivery
  pub there : slice_get (deliveries_of listen rs) i ≡ Some d
  pub arrived : d.arrival ≡ pos (sent_by s o)
  pub copy : IsFrom p listen.lead o d

-- The listener hears the talker, and its deliveries are copies of the packets that `os` names, in that order.
pub record IsCaught (plan : TalkPlan) (input : List ℕ) (listen : ListenPlan) (rs : List Record) (os : List Origin) : Type 0 where
  pub heard : HearsTalker (pos 0) (journal plan input) listen rs
  pub stream : IsStream plan (stream_of plan input)
  pub from : AreFrom (journal plan input) listen.lead os (deliveries_of listen rs)
  pub each : (i : ℕ) (o : Origin) → slice_get os i ≡ Some o → IsCaughtAt (journal plan input) (stream_of plan input) listen rs i o

record_at : (s : Stream) (os : List Origin) (i : ℕ) (o : Origin) → slice_get os i ≡ Some o → slice_get (map record_of (map (frame_by s) os)) i ≡ Some (record_of (frame_by s o))
record_at s [] i o e = absurd cc
record_at s (x ∷ os) zero o e = let same : x ≡ o = cc in ap (λ (y : Origin). Some (record_of (frame_by s y))) same
record_at s (x ∷ os) (suc i) o e = record_at s os i o e

copy_at : (p : PacketJournal) (lead : ℕ) (os : List Origin) (ds : List Delivery) (i : ℕ) (o : Origin) (d : Delivery) → AreFrom p lead os ds → slice_get os i ≡ Some o → slice_get ds i ≡ Some d → IsFrom p lead o d
copy_at p lead [] ds i o d from at there = absurd cc
copy_at p lead (x ∷ os) [] i o d from at there = absurd cc
copy_at p lead (x ∷ os) (y ∷ ds) zero o d from at there =
    let same : x ≡ o = cc in
    let here : y ≡ d = cc in
    subst (λ (z : Origin). IsFrom p lead z d) same (subst (λ (z : Delivery). IsFrom p lead x z) here from.0)
copy_at p lead (x ∷ os) (y ∷ ds) (suc i) o d from at there = copy_at p lead os ds i o d from.1 at there

arrives_at : (s : Stream) (i : ℕ) (o : Origin) → (delivery i (record_of (frame_by s o))).arrival ≡ pos (sent_by s o)
arrives_at s i (OfStream n) = refl
arrives_at s i (OfClock m) = refl

-- a listener with any clock hears the packets of the stream
pub stream_heard : (p : PacketJournal) (clock : Option ℕ) (ks : List ℕ) → AllByRecursion (HearsOrigin p clock) (map OfStream ks)
stream_heard p clock [] = tt
stream_heard p clock (k ∷ ks) = (tt, stream_heard p clock ks)

pub as_many : (p : PacketJournal) (lead : ℕ) (os : List Origin) (ds : List Delivery) → AreFrom p lead os ds → length ds ≡ length os
as_many p lead [] [] from = refl
as_many p lead [] (d ∷ ds) from = absurd from
as_many p lead (o ∷ os) [] from = absurd from
as_many p lead (o ∷ os) (d ∷ ds) from = ap suc (as_many p lead os ds from.1)

pub is_caught : (plan : TalkPlan) (input : List ℕ) (listen : ListenPlan) (rs : List Record) (os : List Origin) → HearsTalker (pos 0) (journal plan input) listen rs → IsStream plan (stream_of plan input) → Expects plan listen.lead → AreRead (journal plan input) listen.lead
    → AllByRecursion (IsSent (stream_of plan input)) os → AllByRecursion (HearsOrigin (journal plan input) listen.clock) os → rs ≡ map record_of (map (frame_by (stream_of plan input)) os) → IsCaught plan input listen rs os
is_caught plan input listen rs os heard stream expects are sent hears records =
    let p = journal plan input in
    let s = stream_of plan input in
    let all = map record_of (map (frame_by s) os) in
    let carry : AllCarryFrom p listen.lead os all = all_by plan s listen.lead os stream expects sent in
    let ds : deliveries_of listen rs ≡ numbered 1 all =
    ap (deliveries_of listen) records ∙ (ap (λ (id : ℕ). deliveries id listen.clock all) heard.stream ∙ all_delivered p listen.clock listen.lead os all are hears carry) in
    let from = all_from p listen.lead 1 os all are carry in
    record {
      heard = heard;
      stream = stream;
      from = subst (λ (l : List Delivery). AreFrom p listen.lead os l) (sym ds) from;
      each = λ i o at.
          let there = numbered_at 1 i all (record_of (frame_by s o)) (record_at s os i o at) in
          record {
            d = delivery (1 + i) (record_of (frame_by s o));
            there = ap (λ (l : List Delivery). slice_get l i) ds ∙ there;
            arrived = arrives_at s (1 + i) o;
            copy = copy_at p listen.lead os (numbered 1 all) i o (delivery (1 + i) (record_of (frame_by s o))) from at there;
          };
    }

-- ---- when a delivery is judged

late_by : (x y : ℤ) → y ≤ℤ int_max x y
late_by x y = grind (arith, ints)

pub not_before : (plan : TalkPlan) (input : List ℕ) (listen : ListenPlan) (rs : List Record) (os : List Origin) (i : ℕ) (o : Origin) → IsCaught plan input listen rs os → IsAudioKind (journal plan input).times.kind → slice_get os i ≡ Some o → pos (sent_by (stream_of plan input) o) ≤ℤ time_of listen rs i
not_before plan input listen rs os zero o w kind at =
    let here = w.each 0 o at in
    let all = others (pos 0) (journal plan input) listen rs w.heard kind in
    rw (first_time (entries_in listen rs) (entry_of here.d) (entry_there (deliveries_of listen rs) 0 here.d all here.there), arrives here.d, here.arrived) (late_by (pos 0) (pos (sent_by (stream_of plan input) o)))
not_before plan input listen rs os (suc i) o w kind at =
    let here = w.each (suc i) o at in
    let all = others (pos 0) (journal plan input) listen rs w.heard kind in
    rw (now-next (entries_in listen rs) (suc i) (entry_of here.d) (entry_there (deliveries_of listen rs) (suc i) here.d all here.there), arrives here.d, here.arrived) (late_by (latest (take (suc i) (entries_in listen rs))) (pos (sent_by (stream_of plan input) o)))

same_delivery : (a b : Delivery) → Some a ≡ Some b → a ≡ b
same_delivery a b e = cc

pub came_by : (plan : TalkPlan) (input : List ℕ) (listen : ListenPlan) (rs : List Record) (os : List Origin) (k last : ℕ) (e : Delivery) → IsCaught plan input listen rs os → slice_get (deliveries_of listen rs) k ≡ Some e → ((o : Origin) → slice_get os k ≡ Some o → sent_by (stream_of plan input) o ≤ last) → e.arrival ≤ℤ pos last
came_by plan input listen rs os k last e w at before =
    let o = origin_at (journal plan input) listen.lead os (deliveries_of listen rs) k e w.from at in
    let here = w.each k o.o o.at in
    let soon = before o.o o.at in
    subst (λ (d : Delivery). d.arrival ≤ℤ pos last) (same_delivery here.d e (sym here.there ∙ at)) (rw here.arrived (omega (arith, ints, soon)))
