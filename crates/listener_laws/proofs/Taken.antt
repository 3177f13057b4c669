-- If a capture carries audio, a listener accepts only packets that arrived.
use Rattle.std.proofs.Common.{◌≡◌, ◌≢◌, ◌⊎◌, ℕ, zero, suc, ◌+◌, ◌*◌, ◌<◌, ◌≤◌, Bool, true, false, ℤ, ◌≤ℤ◌, List, [], ◌∷◌, ◌++◌, All, length, filter, take, Some, Ok, refl, sym, ap, ◌∙◌, subst, inl, inr, arith, append-nil, length-append}
use Rattle.std.specs.Prelude.{Any, Err, IfOk, Result, int_le, slice_get}
use Rattle.std.specs.List.{AllByRecursion}
use Rattle.std.proofs.lemmas.Int.{by_lt_z}
use Rattle.std.proofs.lemmas.List.Elements.{All-cons, All-nil, All-take, filter-append}
use Rattle.std.proofs.lemmas.List.Sums.{sum_by-cons}
use Rattle.clock_track.specs.Rows.{clock_spot}
use Rattle.pcap_frames.specs.Capture.{Record}
use Rattle.stream_journal.specs.Conforming.{Conforms}
use Rattle.stream_journal.specs.Delivered.{IsAudioKind}
use Rattle.stream_journal.specs.Journal.{IsAt}
use Rattle.sample_schedule.specs.declared.accepted.Accepted.{Accepted}
use Rattle.sample_schedule.specs.declared.entry.Entry.{Entry}
use Rattle.sample_schedule.specs.declared.entry.Entry.TheVariants.{Item as OfItem, Clock as ClockEntry}
use Rattle.sample_schedule.specs.declared.item.Item.TheVariants.{Packet as OfPacket}
use Rattle.sample_schedule.specs.declared.plan.SchedulePlan.{SchedulePlan}
use Rattle.sample_schedule.specs.declared.shown.Reason.{Reason}
use Rattle.sample_schedule.specs.Batches.{Presented}
use Rattle.sample_schedule.specs.Order.{standing}
use Rattle.sample_schedule.specs.Schedule.{accepted, accepted_by, now_at, prefix_of}
use Rattle.sample_schedule.specs.Verdicts.{decided, first_instant, timed, total_bytes, verdict}
use Rattle.sample_schedule.proofs.LawLemmas.{all-after}
use Rattle.sample_schedule.proofs.OrderLemmas.{le_false, le_true}
use Rattle.sample_schedule.proofs.StageLemmas.{accepted-next}
use Rattle.packet_journal.specs.Deliveries.{Delivery}
use Rattle.packet_journal.specs.Delivered.{IsClockCopyOf, IsCopyOf, IsFrom, Origin, OfClock, OfStream, stream_numbers}
use Rattle.packet_journal.specs.Packets.{PacketJournal, carried}
use Rattle.listener.specs.declared.plan.ListenPlan.{ListenPlan}
use Rattle.listener.specs.Heard.{deliveries_of, entries_in, items_in, schedule_plan}
use Rattle.listener.specs.Items.{clock_row}
use Rattle.listener.specs.Laws.{HearsTalker, IsOfPacket, accepted_before, by_clock}
use Rattle.listener.proofs.ItemKinds.{at_place}
use Rattle.listener.proofs.TrueHeard.{IsBatchOf, audio_content, timed_true}
use Rattle.listener.proofs.TrueItems.{Shows, all_shown, clock_entry, copy_entry, sent}
use Rattle.listener.proofs.TrueList.{IsTrueEntry, entries_true, followed, others, prefix_true}
use Rattle.listener.proofs.TrueOnce.{first_at, same_content}
use Rattle.listener.proofs.TrueTimely.{entry_there}

-- ---- one delivery

-- The accepted item is packet k, at the packet's first instant.
pub record IsPacketAt (by : Bool) (p : PacketJournal) (k : ℕ) (a : Accepted) : Type 0 where
  pub at : IsAt by p.times k 0 a.instant
  pub is : IsOfPacket by p k a.batch

-- The batch of the accepted item has property `P`, and the item's instant is the batch's first instant.
pub record IsAcceptedOf (P : Presented → Type 0) (a : Accepted) : Type 0 where
  pub is : P a.batch
  pub instant : a.instant ≡ first_instant a.batch

decided_so : (P : Presented → Type 0) (late copy full : Bool) (place : ℕ) (batch : Presented) → P batch → IfOk (decided late copy full place batch) (IsAcceptedOf P)
decided_so P true copy full place batch is = tt
decided_so P false true full place batch is = tt
decided_so P false false true place batch is = tt
decided_so P false false false place batch is = record { is = is; instant = refl }

pub verdict_so : (P : Presented → Type 0) (plan : SchedulePlan) (now : ℤ) (earlier : List Accepted) (place : ℕ) (r : Result Presented Reason) → IfOk r P → IfOk (verdict plan now earlier place r) (IsAcceptedOf P)
unfolding verdict
verdict_so P plan now earlier place (Err reason) is = tt
verdict_so P plan now earlier place (Ok batch) is = decided_so P _ _ _ place batch is

-- What delivery `j` adds to the accepted items. A copy of a clock packet adds nothing. A copy of packet k of the stream
-- adds either packet k or nothing.
abbrev pub IsTakenAt : PacketJournal → ListenPlan → List Record → ℕ → Origin → Type 0
IsTakenAt p plan records j (OfClock m) = accepted_before plan records (suc j) ≡ accepted_before plan records j
IsTakenAt p plan records j (OfStream k) =
    (accepted_before plan records (suc j) ≡ accepted_before plan records j)
    ⊎ ((a : Accepted) × ((accepted_before plan records (suc j) ≡ accepted_before plan records j ++ a ∷ []) × IsPacketAt (by_clock plan) p k a))

taken_by : (p : PacketJournal) (plan : ListenPlan) (records : List Record) (j k frame : ℕ) (r : Result Accepted Reason) → Conforms p.times → accepted_before plan records (suc j) ≡ accepted_before plan records j ++ accepted_by (Some r)
    → IfOk r (IsAcceptedOf (IsBatchOf (by_clock plan) p k frame)) → IsTakenAt p plan records j (OfStream k)
taken_by p plan records j k frame (Err reason) is e t = inl (e ∙ append-nil (accepted_before plan records j))
taken_by p plan records j k frame (Ok a) is e t =
    inr (
      a,
      (
        e,
        record {
          at = subst (λ (x : ℤ). IsAt (by_clock plan) p.times k 0 x) (sym t.instant) (first_at (by_clock plan) p k a.batch is t.is.is);
          is = t.is.is;
        },
      ),
    )

stream_taken : (shift : ℤ) (p : PacketJournal) (plan : ListenPlan) (records : List Record) (j k : ℕ) (d : Delivery) → HearsTalker shift p plan records → IsAudioKind p.times.kind → slice_get (deliveries_of plan records) j ≡ Some d → IsCopyOf p plan.lead k d
    → IsTakenAt p plan records j (OfStream k)
stream_taken shift p plan records j k d h kind at copy =
    let sp = schedule_plan plan in
    let es = entries_in plan records in
    let earlier = accepted_before plan records j in
    let packet = sent p.times k d.frame copy.arrival (carried (p.packet k)) in
    let shows : Shows d = at_place Shows (deliveries_of plan records) j d (all_shown plan.stream plan.clock records) at in
    let there : slice_get es j ≡ Some (OfItem (OfPacket packet)) =
    entry_there (deliveries_of plan records) j d (others shift p plan records h kind) at ∙ ap (λ (e : Entry). Some e) (copy_entry shift p plan.lead k d h.conforming kind copy shows) in
    let is = followed shift p plan records h kind in
    let prefix = prefix_of sp es j in
    let known = prefix_true (items_in plan records) shift p plan.lead prefix (λ audio. is.audio) (All-take (IsTrueEntry (items_in plan records) shift p plan.lead) (j + plan.look + 1) es (entries_true shift p plan records h)) in
    let r = timed clock_spot sp prefix (OfPacket packet) in
    taken_by p plan records j k d.frame (verdict sp (now_at es j) earlier j r) h.conforming.times (accepted-next clock_spot sp es j (OfItem (OfPacket packet)) there)
    (verdict_so (IsBatchOf (by_clock plan) p k d.frame) sp (now_at es j) earlier j r (timed_true shift p sp k d.frame copy.arrival prefix is known copy.delivered))

clock_taken : (shift : ℤ) (p : PacketJournal) (plan : ListenPlan) (records : List Record) (j m : ℕ) (d : Delivery) → HearsTalker shift p plan records → IsAudioKind p.times.kind → slice_get (deliveries_of plan records) j ≡ Some d → IsClockCopyOf p m d
    → IsTakenAt p plan records j (OfClock m)
clock_taken shift p plan records j m d h kind at copy =
    let sp = schedule_plan plan in
    let es = entries_in plan records in
    let shows : Shows d = at_place Shows (deliveries_of plan records) j d (all_shown plan.stream plan.clock records) at in
    let there : slice_get es j ≡ Some (ClockEntry d.arrival (clock_row d)) =
    entry_there (deliveries_of plan records) j d (others shift p plan records h kind) at ∙ ap (λ (e : Entry). Some e) (clock_entry shift p m d h.conforming copy shows) in
    accepted-next clock_spot sp es j (ClockEntry d.arrival (clock_row d)) there ∙ append-nil (accepted_before plan records j)

pub taken_at : (shift : ℤ) (p : PacketJournal) (plan : ListenPlan) (records : List Record) (j : ℕ) (o : Origin) (d : Delivery) → HearsTalker shift p plan records → IsAudioKind p.times.kind → slice_get (deliveries_of plan records) j ≡ Some d → IsFrom p plan.lead o d
    → IsTakenAt p plan records j o
taken_at shift p plan records j (OfStream k) d h kind at copy = stream_taken shift p plan records j k d h kind at copy
taken_at shift p plan records j (OfClock m) d h kind at copy = clock_taken shift p plan records j m d h kind at copy

-- ---- all deliveries up to an index

more_taken : (os : List Origin) (j : ℕ) (o : Origin) → slice_get os j ≡ Some o → take (suc j) os ≡ take j os ++ o ∷ []
more_taken [] j o e = absurd cc
more_taken (x ∷ os) zero o e = let same : x ≡ o = cc in rw same refl
more_taken (x ∷ os) (suc j) o e = ap (λ (l : List Origin). x ∷ l) (more_taken os j o e)

numbers_more : (os rest : List Origin) → stream_numbers (os ++ rest) ≡ stream_numbers os ++ stream_numbers rest
numbers_more [] rest = refl
numbers_more (OfStream n ∷ os) rest = ap (λ (l : List ℕ). n ∷ l) (numbers_more os rest)
numbers_more (OfClock m ∷ os) rest = numbers_more os rest

-- The accepted item is a packet that has property `Q`.
pub record IsSomeOf (Q : ℕ → Type 0) (by : Bool) (p : PacketJournal) (a : Accepted) : Type 0 where
  pub k : ℕ
  pub holds : Q k
  pub is : IsPacketAt by p k a

-- One more packet that has property `Q` was accepted. If the first instant of the accepted packet is at `t` or later,
-- the count grew.
pub record IsMore (Q : ℕ → Type 0) (by : Bool) (p : PacketJournal) (t : ℤ) (count next : ℕ) (xs ys : List Accepted) : Type 0 where
  pub a : Accepted
  pub more : ys ≡ xs ++ a ∷ []
  pub some : IsSomeOf Q by p a
  pub counts : t ≤ℤ a.instant → count < next

-- One delivery changes the accepted items from `xs` to `ys`, and the count from `count` to `next`. The delivery adds
-- nothing, or one packet that has property `Q`.
pub record IsStep (Q : ℕ → Type 0) (by : Bool) (p : PacketJournal) (t : ℤ) (count next : ℕ) (xs ys : List Accepted) : Type 0 where
  pub grows : count ≤ next
  pub is : (ys ≡ xs) ⊎ IsMore Q by p t count next xs ys

-- Each accepted item in `xs` is a packet that has property `Q`. At most `count` of these items have a first instant at
-- `t` or later.
pub record AreTaken (Q : ℕ → Type 0) (by : Bool) (p : PacketJournal) (t : ℤ) (count : ℕ) (xs : List Accepted) : Type 0 where
  pub all : AllByRecursion (IsSomeOf Q by p) xs
  pub few : length (standing t xs) ≤ count

one_more : (Q : ℕ → Type 0) (by : Bool) (p : PacketJournal) (t : ℤ) (count next : ℕ) (xs : List Accepted) (a : Accepted) → IsSomeOf Q by p a → count ≤ next → (t ≤ℤ a.instant → count < next) → AreTaken Q by p t count xs → AreTaken Q by p t next (xs ++ a ∷ [])
one_more Q by p t count next xs a some grows counts w =
    let few = w.few in
    let items = ap (λ (l : List Accepted). length l) (filter-append (λ (b : Accepted). int_le t b.instant) xs (a ∷ [])) in
    let sum = length-append (standing t xs) (standing t (a ∷ [])) in
    record {
      all = all-after (IsSomeOf Q by p) xs (a ∷ []) w.all (some, tt);
      few = by_lt_z a.instant t
          (λ h. let none : length (standing t (a ∷ [])) ≡ 0 = rw (le_false t a.instant h) refl in omega arith)
          (λ h. let one : length (standing t (a ∷ [])) ≡ 1 = rw (le_true t a.instant h) refl in let less = counts h in omega arith);
    }

step_taken : (Q : ℕ → Type 0) (by : Bool) (p : PacketJournal) (t : ℤ) (count next : ℕ) (xs ys : List Accepted) → AreTaken Q by p t count xs → count ≤ next → (ys ≡ xs) ⊎ IsMore Q by p t count next xs ys → AreTaken Q by p t next ys
step_taken Q by p t count next xs ys w grows (inl same) = let few = w.few in subst (AreTaken Q by p t next) (sym same) (record { all = w.all; few = omega arith })
step_taken Q by p t count next xs ys w grows (inr m) = subst (AreTaken Q by p t next) (sym m.more) (one_more Q by p t count next xs m.a m.some grows m.counts w)

pub all_taken : (Q : ℕ → Type 0) (by : Bool) (p : PacketJournal) (t : ℤ) (count : ℕ → ℕ) (xs : ℕ → List Accepted) (i : ℕ) → xs 0 ≡ [] → ((j : ℕ) → j < i → IsStep Q by p t (count j) (count (suc j)) (xs j) (xs (suc j))) → AreTaken Q by p t (count i) (xs i)
all_taken Q by p t count xs zero none each = subst (AreTaken Q by p t (count 0)) (sym none) (record { all = tt; few = omega arith })
all_taken Q by p t count xs (suc i) none each =
    let here = each i (omega arith) in
    step_taken Q by p t (count i) (count (suc i)) (xs i) (xs (suc i)) (all_taken Q by p t count xs i none (λ j lt. each j (omega arith))) here.grows here.is

pub none_first : (plan : ListenPlan) (records : List Record) → accepted_before plan records 0 ≡ []
unfolding accepted
none_first plan records = refl

-- ---- a delivery of audio

-- if the origin is a packet of the stream, that packet has property `Q`
abbrev pub HoldsOf : (ℕ → Type 0) → Origin → Type 0
HoldsOf Q (OfStream k) = Q k
HoldsOf Q (OfClock m) = Unit {0}

-- Delivery `j` has an origin. The delivery adds at most one packet to the accepted items: the packet that the origin
-- names. If the origin is a packet of the stream, that packet has property `Q`.
pub record IsAtPlace (p : PacketJournal) (plan : ListenPlan) (records : List Record) (Q : ℕ → Type 0) (os : List Origin) (j : ℕ) : Type 0 where
  pub o : Origin
  pub at : slice_get os j ≡ Some o
  pub holds : HoldsOf Q o
  pub taken : IsTakenAt p plan records j o

-- how many of the first `j` origins are stream packets that pass the test `waits`
abbrev pub passing : (ℕ → Bool) → List Origin → ℕ → ℕ
passing waits os j = length (filter waits (stream_numbers (take j os)))

passing_more : (waits : ℕ → Bool) (os : List Origin) (j : ℕ) (o : Origin) → slice_get os j ≡ Some o → passing waits os (suc j) ≡ passing waits os j + length (filter waits (stream_numbers (o ∷ [])))
passing_more waits os j o at =
    ap (λ (l : List Origin). length (filter waits (stream_numbers l))) (more_taken os j o at)
    ∙ (ap (λ (l : List ℕ). length (filter waits l)) (numbers_more (take j os) (o ∷ []))
    ∙ (ap (λ (l : List ℕ). length l) (filter-append waits (stream_numbers (take j os)) (stream_numbers (o ∷ [])))
    ∙ length-append (filter waits (stream_numbers (take j os))) (filter waits (stream_numbers (o ∷ [])))))

taken_is : (p : PacketJournal) (plan : ListenPlan) (records : List Record) (Q : ℕ → Type 0) (waits : ℕ → Bool) (t : ℤ) (count next j : ℕ) (o : Origin) → ((k : ℕ) (x : ℤ) → k < p.times.packets → IsAt (by_clock plan) p.times k 0 x → t ≤ℤ x → waits k ≡ true)
    → next ≡ count + length (filter waits (stream_numbers (o ∷ []))) → HoldsOf Q o → IsTakenAt p plan records j o
    → (accepted_before plan records (suc j) ≡ accepted_before plan records j) ⊎ IsMore Q (by_clock plan) p t count next (accepted_before plan records j) (accepted_before plan records (suc j))
taken_is p plan records Q waits t count next j (OfClock m) test sum holds same = inl same
taken_is p plan records Q waits t count next j (OfStream k) test sum holds (inl same) = inl same
taken_is p plan records Q waits t count next j (OfStream k) test sum holds (inr (a, (more, is))) =
    inr (record {
      a = a;
      more = more;
      some = record { k = k; holds = holds; is = is };
      counts = λ h. let one : length (filter waits (k ∷ [])) ≡ 1 = rw (test k a.instant is.is.known is.at h) refl in omega arith;
    })

pub audio_step : (p : PacketJournal) (plan : ListenPlan) (records : List Record) (Q : ℕ → Type 0) (waits : ℕ → Bool) (t : ℤ) (os : List Origin) (j : ℕ) → ((k : ℕ) (x : ℤ) → k < p.times.packets → IsAt (by_clock plan) p.times k 0 x → t ≤ℤ x → waits k ≡ true) → IsAtPlace p plan records Q os j
    → IsStep Q (by_clock plan) p t (passing waits os j) (passing waits os (suc j)) (accepted_before plan records j) (accepted_before plan records (suc j))
audio_step p plan records Q waits t os j test here =
    let sum = passing_more waits os j here.o here.at in
    record { grows = omega arith; is = taken_is p plan records Q waits t (passing waits os j) (passing waits os (suc j)) j here.o test sum here.holds here.taken }

-- ---- what was accepted stays accepted

any_later : (P : Accepted → Type 0) (x : Accepted) (xs : List Accepted) → Any P xs → Any P (x ∷ xs)
any_later P x xs (k, a, within, there, holds) = (suc k, a, let lt = within in omega arith, there, holds)

any_front : (P : Accepted → Type 0) (xs ys : List Accepted) → Any P xs → Any P (xs ++ ys)
any_front P [] ys (k, a, within, there, holds) = absurd (omega arith)
any_front P (x ∷ xs) ys (zero, a, within, there, holds) = (zero, a, omega arith, there, holds)
any_front P (x ∷ xs) ys (suc k, a, within, there, holds) = any_later P x (xs ++ ys) (any_front P xs ys (k, a, let lt = within in omega arith, there, holds))

pub any_last : (P : Accepted → Type 0) (xs : List Accepted) (a : Accepted) → P a → Any P (xs ++ a ∷ [])
any_last P [] a holds = (0, a, omega arith, refl, holds)
any_last P (x ∷ xs) a holds = any_later P x (xs ++ a ∷ []) (any_last P xs a holds)

pub stays : (P : Accepted → Type 0) (plan : ListenPlan) (records : List Record) (j c : ℕ) → Any P (accepted_before plan records j) → Any P (accepted_before plan records (j + c))
unfolding accepted
stays P plan records j zero any = let same : j ≡ j + 0 = omega arith in subst (λ (m : ℕ). Any P (accepted_before plan records m)) same any
stays P plan records j (suc c) any =
    let next : suc (j + c) ≡ j + suc c = omega arith in
    subst (λ (m : ℕ). Any P (accepted_before plan records m)) next (any_front P (accepted_before plan records (j + c)) _ (stays P plan records j c any))

-- ---- the room

pub light : (Q : ℕ → Type 0) (by : Bool) (p : PacketJournal) (t : ℤ) (most : ℕ) (xs : List Accepted) → ((k : ℕ) (b : Presented) → IsOfPacket by p k b → length b.bytes ≤ most) → AllByRecursion (IsSomeOf Q by p) xs → total_bytes (standing t xs) ≤ length (standing t xs) * most
light Q by p t most [] short all = omega arith
light Q by p t most (x ∷ xs) short all =
    by_lt_z x.instant t
    (λ h. rw (le_false t x.instant h) (light Q by p t most xs short all.1))
    (λ h. rw (le_true t x.instant h)
    (let rest = light Q by p t most xs short all.1 in
    let one = short all.0.k x.batch all.0.is.is in
    let sum = sum_by-cons (λ (a : Accepted). length a.batch.bytes) x (standing t xs) in
    omega arith))

pub audio_short : (by : Bool) (p : PacketJournal) (most k : ℕ) (b : Presented) → IsAudioKind p.times.kind → ((m : ℕ) → m < p.times.packets → length (carried (p.packet m)) ≤ most) → IsOfPacket by p k b → length b.bytes ≤ most
audio_short by p most k b kind short is =
    let same : b.bytes ≡ carried (p.packet k) = same_content p k b.bytes (carried (p.packet k)) is.bytes (audio_content p.times.kind p k kind) in
    rw same (short k is.known)

pub none_is : (by : Bool) (p : PacketJournal) (n : ℕ) (xs : List Accepted) → ((k : ℕ) (b : Presented) → k ≢ n → IsOfPacket by p k b → IsOfPacket by p n b → ⊥) → AllByRecursion (IsSomeOf (λ (k : ℕ). k ≢ n) by p) xs → All (λ (a : Accepted). ¬ IsOfPacket by p n a.batch) xs
none_is by p n [] never all = All-nil (λ (a : Accepted). ¬ IsOfPacket by p n a.batch)
none_is by p n (x ∷ xs) never all = All-cons (λ (a : Accepted). ¬ IsOfPacket by p n a.batch) x xs (λ other. never all.0.k x.batch all.0.holds all.0.is.is other) (none_is by p n xs never all.1)
