-- If a copy must be presented, the copy is presented. A further copy is flagged as a repeat.
use Rattle.std.proofs.Common.{◌≡◌, inl, inr, ℕ, zero, suc, ◌+◌, ◌%◌, Bool, true, false, ℤ, ◌≤ℤ◌, List, [], ◌∷◌, All, length, Some, Ok, refl, sym, ap, ◌∙◌, subst, eq-eqb, arith}
use Rattle.std.specs.Prelude.{◌==◌, if◌then◌else◌, IfOk, Result, Err, Any, map, slice_get}
use Rattle.std.specs.List.{list_any}
use Rattle.std.proofs.lemmas.Bool.{eqb-true}
use Rattle.std.proofs.lemmas.Int.{ints}
use Rattle.std.proofs.lemmas.List.Folds.{list_any_at}
use Rattle.std.proofs.lemmas.List.Elements.{All-head, All-tail, All-take}
use Rattle.clock_track.specs.Rows.{clock_spot}
use Rattle.pcap_frames.specs.Capture.{Record}
use Rattle.stream_journal.specs.Conforming.{Conforms}
use Rattle.stream_journal.specs.Delivered.{IsAudioKind}
use Rattle.stream_journal.specs.Journal.{IsAt}
use Rattle.stream_journal.proofs.OneInstant.{one_instant}
use Rattle.sample_schedule.specs.declared.accepted.Accepted.{Accepted}
use Rattle.sample_schedule.specs.declared.entry.Entry.{Entry}
use Rattle.sample_schedule.specs.declared.entry.Entry.TheVariants.{Item as OfItem}
use Rattle.sample_schedule.specs.declared.item.Item.{Item}
use Rattle.sample_schedule.specs.declared.item.Item.TheVariants.{Packet as OfPacket, Unit as OfUnit}
use Rattle.sample_schedule.specs.declared.plan.SchedulePlan.{SchedulePlan}
use Rattle.sample_schedule.specs.declared.shown.Reason.{Reason}
use Rattle.sample_schedule.specs.Batches.{Presented}
use Rattle.sample_schedule.specs.Laws.{presented}
use Rattle.sample_schedule.specs.Order.{standing}
use Rattle.sample_schedule.specs.Schedule.{given, prefix_of}
use Rattle.sample_schedule.specs.Verdicts.{first_instant, is_copy, is_full, same_instant, timed, unit_at_once, verdict}
use Rattle.sample_schedule.specs.declared.shown.Reason.TheVariants.{Repeat}
use Rattle.sample_schedule.proofs.Judged.{In, ok-presented}
use Rattle.sample_schedule.proofs.OrderLemmas.{le_true, lt_false}
use Rattle.packet_journal.specs.Deliveries.{Delivery}
use Rattle.packet_journal.specs.Packets.{PacketJournal, carried}
use Rattle.listener.specs.declared.plan.ListenPlan.{ListenPlan}
use Rattle.listener.specs.Heard.{deliveries_of, entries_in, items_in, schedule_plan, shown_of}
use Rattle.listener.specs.Items.{MadeItem, entries, entry_of, items_of, made_of_one}
use Rattle.listener.specs.Laws.{HearsTalker, IsFurther, IsOfPacket, IsPresentedOf, IsTimely, IsWelcome, accepted_before, by_clock, presented_of, time_of, verdict_of}
use Rattle.listener.specs.state.Known.{is_known}
use Rattle.listener.proofs.ItemKinds.{IsFlagOf, IsKind, IsWholeOf, all_here, all_kinds, at_place}
use Rattle.listener.proofs.KnownItems.{item_known}
use Rattle.listener.proofs.Shown.{entry_at}
use Rattle.listener.proofs.TrueItems.{IsCopied, Shows, all_shown, audio_other, copy_entry, sent}
use Rattle.listener.proofs.TrueUnits.{unit_item, unit_packet}
use Rattle.listener.proofs.TrueHeard.{IsBatchOf, timed_ok, timed_true}
use Rattle.listener.proofs.TrueList.{IsTrueAccepted, IsTrueEntry, accepted_true, are_heard, batches_are, entries_true, followed, prefix_true, video_kind}
use Rattle.listener.proofs.Made.{IsOther, items_other}
use Rattle.listener.proofs.TrueOnce.{first_at, one_packet, same_content}

-- ---- elements of lists

any_batch : (P : Presented → Type 0) (xs : List Accepted) (x : Accepted) → In xs x → P x.batch → Any P (map (λ (a : Accepted). a.batch) xs)
unfolding In
any_batch P [] x h holds = absurd h
any_batch P (y ∷ xs) x (inl e) holds = (0, x.batch, omega arith, ap (λ (a : Accepted). a.batch) e, holds)
any_batch P (y ∷ xs) x (inr h) holds =
    let rest = any_batch P xs x h holds in
    (suc rest.0, rest.1, let within = rest.2 in omega arith, rest.3, rest.4)

one_there : (ds : List Delivery) (n : ℕ) (d : Delivery) → slice_get ds n ≡ Some d → slice_get (map made_of_one ds) n ≡ Some (made_of_one d)
one_there [] n d e = absurd cc
one_there (x ∷ ds) zero d e = let same : x ≡ d = cc in ap (λ (y : Delivery). Some (made_of_one y)) same
one_there (x ∷ ds) (suc n) d e = one_there ds n d e

pub item_there : (ds : List Delivery) (n : ℕ) (d : Delivery) → All IsOther ds → slice_get ds n ≡ Some d → slice_get (items_of ds) n ≡ Some (made_of_one d)
item_there ds n d others e = rw (items_other ds others) (one_there ds n d e)

pub entry_there : (ds : List Delivery) (n : ℕ) (d : Delivery) → All IsOther ds → slice_get ds n ≡ Some d → slice_get (entries ds) n ≡ Some (entry_of d)
entry_there ds n d others e = entry_at (items_of ds) n (made_of_one d) (item_there ds n d others e)

-- ---- no copy was accepted

one_instant_of : (x y : ℤ) → same_instant x y ≡ true → x ≡ y
one_instant_of x y e = grind (arith, ints)

-- The accepted item has this first instant and this sequence number.
record IsLike (instant : ℤ) (seq : ℕ) (a : Accepted) : Type 0 where
  instant_is : a.instant ≡ instant
  seq_is : a.batch.seq ≡ seq

is_copy_so : (instant : ℤ) (seq : ℕ) (a : Accepted) → is_copy instant seq a ≡ true → IsLike instant seq a
is_copy_so instant seq a e = by (same_instant a.instant instant) refl e
  where
    by : (b : Bool) → same_instant a.instant instant ≡ b → (if b then a.batch.seq == seq else false) ≡ true → IsLike instant seq a
    by true f g = record { instant_is = one_instant_of a.instant instant f; seq_is = eqb-true a.batch.seq seq g }
    by false f g = absurd cc

not_copied : (by : Bool) (p : PacketJournal) (n : ℕ) (batch : Presented) (a : Accepted) (b : Bool) → Conforms p.times → IsOfPacket by p n batch → IsTrueAccepted by p a → ¬ IsOfPacket by p n a.batch
    → is_copy (first_instant batch) batch.seq a ≡ b → b ≡ false
not_copied by p n batch a true is x t other e =
    let m = t.is.number in
    let like = is_copy_so (first_instant batch) batch.seq a e in
    let instant : first_instant a.batch ≡ first_instant batch = sym t.instant ∙ like.instant_is in
    let seq : m % 256 ≡ n % 256 = sym t.is.is.seq ∙ (like.seq_is ∙ x.seq) in
    let here : IsAt by p.times m 0 (first_instant batch) = subst (λ (z : ℤ). IsAt by p.times m 0 z) instant (first_at by p m a.batch is t.is.is) in
    let same : m ≡ n = one_packet by p m n (first_instant batch) is t.is.is.known x.known seq here (first_at by p n batch is x) in
    absurd (other (subst (λ (k : ℕ). IsOfPacket by p k a.batch) same t.is.is))
not_copied by p n batch a false is x t other e = refl

none_copied : (by : Bool) (p : PacketJournal) (n : ℕ) (batch : Presented) (earlier : List Accepted) → Conforms p.times → IsOfPacket by p n batch → All (IsTrueAccepted by p) earlier
    → All (λ a. ¬ IsOfPacket by p n a.batch) earlier → list_any (is_copy (first_instant batch) batch.seq) earlier ≡ false
none_copied by p n batch [] is x true_ones others = refl
none_copied by p n batch (a ∷ rest) is x true_ones others =
    rw (not_copied by p n batch a (is_copy (first_instant batch) batch.seq a) is x (All-head (IsTrueAccepted by p) a rest true_ones) (All-head (λ a. ¬ IsOfPacket by p n a.batch) a rest others) refl)
    (none_copied by p n batch rest is x (All-tail (IsTrueAccepted by p) a rest true_ones) (All-tail (λ a. ¬ IsOfPacket by p n a.batch) a rest others))

-- ---- a copy was accepted

same_copy : (instant : ℤ) (seq : ℕ) (a : Accepted) → a.instant ≡ instant → a.batch.seq ≡ seq → is_copy instant seq a ≡ true
same_copy instant seq a e f = rw (e, le_true instant instant (omega (arith, ints))) (eq-eqb a.batch.seq seq f)

is_copied : (by : Bool) (p : PacketJournal) (n : ℕ) (batch : Presented) (earlier : List Accepted) → Conforms p.times → IsOfPacket by p n batch → All (IsTrueAccepted by p) earlier
    → Any (λ a. IsOfPacket by p n a.batch) earlier → list_any (is_copy (first_instant batch) batch.seq) earlier ≡ true
is_copied by p n batch earlier is x true_ones (k, a, within, there, y) =
    let t : IsTrueAccepted by p a = subst (IsTrueAccepted by p) there (true_ones k a within) in
    let instant : a.instant ≡ first_instant batch = t.instant ∙ one_instant p.times is by n 0 (first_instant a.batch) (first_instant batch) x.known (first_at by p n a.batch is y) (first_at by p n batch is x) in
    let copy = same_copy (first_instant batch) batch.seq a instant (y.seq ∙ sym x.seq) in
    list_any_at (is_copy (first_instant batch) batch.seq) earlier k a within (subst (λ (b : Accepted). is_copy (first_instant batch) batch.seq b ≡ true) (sym there) copy)

-- ---- the verdict

abbrev pub taken : ℕ → Presented → Accepted
taken place batch = record { place = place; instant = first_instant batch; batch = batch }

verdict_is : (plan : SchedulePlan) (now : ℤ) (earlier : List Accepted) (place : ℕ) (r : Result Presented Reason) (batch : Presented) → r ≡ Ok batch → now ≤ℤ first_instant batch
    → list_any (is_copy (first_instant batch) batch.seq) earlier ≡ false → is_full plan (standing now earlier) (length batch.bytes) ≡ false → verdict plan now earlier place r ≡ Ok (taken place batch)
unfolding verdict
verdict_is plan now earlier place r batch e h fresh room = rw (e, lt_false (first_instant batch) now h, fresh, room) refl

verdict_repeats : (plan : SchedulePlan) (now : ℤ) (earlier : List Accepted) (place : ℕ) (r : Result Presented Reason) (batch : Presented) → r ≡ Ok batch → now ≤ℤ first_instant batch
    → list_any (is_copy (first_instant batch) batch.seq) earlier ≡ true → verdict plan now earlier place r ≡ Err Repeat
unfolding verdict
verdict_repeats plan now earlier place r batch e h copied = rw (e, lt_false (first_instant batch) now h, copied) refl

-- The listener can compute the instants of the item's samples.
record IsTimed (p : PacketJournal) (plan : ListenPlan) (records : List Record) (place n : ℕ) (made : MadeItem) : Type 0 where
  item : Item
  entry : made.entry ≡ OfItem item
  batch : Presented
  timed_is : timed clock_spot (schedule_plan plan) (prefix_of (schedule_plan plan) (entries_in plan records) place) item ≡ Ok batch
  is : IsBatchOf (by_clock plan) p n made.last.frame batch

abbrev IsKnownHere : ListenPlan → List Record → ℕ → MadeItem → Type 0
IsKnownHere plan records place made = is_known (schedule_plan plan) (prefix_of (schedule_plan plan) (entries_in plan records) place) made.entry ≡ true

audio_timed : (shift : ℤ) (p : PacketJournal) (plan : ListenPlan) (records : List Record) (place n : ℕ) (d : Delivery) → HearsTalker shift p plan records → IsAudioKind p.times.kind → Shows d → IsTimely p plan records place n (made_of_one d)
    → IsKnownHere plan records place (made_of_one d) → IsTimed p plan records place n (made_of_one d)
audio_timed shift p plan records place n d h heard shows w k =
    let sp = schedule_plan plan in
    let es = entries_in plan records in
    let items = items_in plan records in
    let prefix = prefix_of sp es place in
    let is = followed shift p plan records h heard in
    let copy = w.copy.last in
    let packet = sent p.times n d.frame copy.arrival (carried (p.packet n)) in
    let entry : entry_of d ≡ OfItem (OfPacket packet) = copy_entry shift p plan.lead n d h.conforming heard copy shows in
    let known = subst (λ (e : Entry). is_known sp prefix e ≡ true) entry k in
    let true_ones = prefix_true items shift p plan.lead prefix (λ heard. is.audio) (All-take (IsTrueEntry items shift p plan.lead) (place + plan.look + 1) es (entries_true shift p plan records h)) in
    let ok = timed_ok p sp n d.frame copy.arrival prefix is.audio known in
    let so = timed_true shift p sp n d.frame copy.arrival prefix is true_ones copy.delivered in
    record {
      item = OfPacket packet;
      entry = entry;
      batch = ok.batch;
      timed_is = ok.same;
      is = subst (λ (r : Result Presented Reason). IfOk r (IsBatchOf (by_clock plan) p n d.frame)) ok.same so;
    }

one_timed : (shift : ℤ) (p : PacketJournal) (plan : ListenPlan) (records : List Record) (place n : ℕ) (d : Delivery) → HearsTalker shift p plan records → Shows d → IsOther d → IsTimely p plan records place n (made_of_one d) → IsKnownHere plan records place (made_of_one d) → IsTimed p plan records place n (made_of_one d)
one_timed shift p plan records place n d h shows other w k =
    audio_timed shift p plan records place n d h (audio_other shift p plan.lead n d h.conforming w.copy.last shows other) shows w k

unit_timed : (shift : ℤ) (p : PacketJournal) (plan : ListenPlan) (records : List Record) (place n : ℕ) (made : MadeItem) → HearsTalker shift p plan records → IsWholeOf (deliveries_of plan records) made → IsTimely p plan records place n made
    → IsTimed p plan records place n made
unfolding timed
unit_timed shift p plan records place n made h v w =
    let ds = deliveries_of plan records in
    let heard = are_heard shift p plan records h in
    let copied = all_here (IsCopied p plan.lead) v.before v.rest v.delivery (subst (λ (l : List Delivery). All (IsCopied p plan.lead) l) v.is heard.copied) in
    let kind = video_kind shift p plan.lead v.delivery h.conforming copied v.video in
    let u = unit_item shift p kind.part plan.lead n ds made h.conforming kind.same heard.shows v w.copy in
    record {
      item = OfUnit u.unit;
      entry = u.entry;
      batch = unit_at_once u.unit;
      timed_is = refl;
      is = record { is = unit_packet (by_clock plan) p kind.part plan.lead n made kind.same u; frame_is = u.frame };
    }

flag_unknown : (plan : SchedulePlan) (prefix : List Entry) (made : MadeItem) → IsFlagOf made → is_known plan prefix made.entry ≡ true → ⊥
flag_unknown plan prefix made flag = subst (λ (m : MadeItem). is_known plan prefix m.entry ≡ true → ⊥) flag.same (λ e. cc)

timed_by : (shift : ℤ) (p : PacketJournal) (plan : ListenPlan) (records : List Record) (place n : ℕ) (made : MadeItem) → HearsTalker shift p plan records → IsKind (deliveries_of plan records) made → IsTimely p plan records place n made
    → IsKnownHere plan records place made → IsTimed p plan records place n made
timed_by shift p plan records place n made h (inl one) w k =
    let shows = all_here Shows one.before one.rest one.delivery (subst (λ (l : List Delivery). All Shows l) one.is (all_shown plan.stream plan.clock records)) in
    subst (λ (m : MadeItem). IsTimely p plan records place n m → IsKnownHere plan records place m → IsTimed p plan records place n m) one.same (one_timed shift p plan records place n one.delivery h shows one.other) w k
timed_by shift p plan records place n made h (inr (inl flag)) w k = absurd (flag_unknown (schedule_plan plan) (prefix_of (schedule_plan plan) (entries_in plan records) place) made flag k)
timed_by shift p plan records place n made h (inr (inr v)) w k = unit_timed shift p plan records place n made h v w

timely : (shift : ℤ) (p : PacketJournal) (plan : ListenPlan) (records : List Record) (place n : ℕ) (made : MadeItem) → HearsTalker shift p plan records → IsTimely p plan records place n made → IsTimed p plan records place n made
timely shift p plan records place n made h w =
    let ds = deliveries_of plan records in
    timed_by shift p plan records place n made h (at_place (IsKind ds) (items_of ds) place made (all_kinds ds) w.there) w (item_known shift p plan records place n made h w.there w.copy.last w.known)

in_time : (p : PacketJournal) (plan : ListenPlan) (records : List Record) (place n : ℕ) (made : MadeItem) → Conforms p.times → (w : IsTimely p plan records place n made) → (t : IsTimed p plan records place n made)
    → time_of plan records place ≤ℤ first_instant t.batch
in_time p plan records place n made is w t =
    let by = by_clock plan in
    let same = one_instant p.times is by n 0 w.instant (first_instant t.batch) t.is.is.known w.at (first_at by p n t.batch is t.is.is) in
    subst (λ (z : ℤ). time_of plan records place ≤ℤ z) same w.in_time

earlier_true : (shift : ℤ) (p : PacketJournal) (plan : ListenPlan) (records : List Record) (place : ℕ) → HearsTalker shift p plan records → All (IsTrueAccepted (by_clock plan) p) (accepted_before plan records place)
earlier_true shift p plan records place h =
    accepted_true (items_in plan records) shift p (schedule_plan plan) (entries_in plan records) place (followed shift p plan records h) (entries_true shift p plan records h)

-- The item at index `place` is accepted as packet `n`.
pub record IsAcceptedAs (p : PacketJournal) (plan : ListenPlan) (records : List Record) (place n : ℕ) (made : MadeItem) : Type 0 where
  pub item : Item
  pub entry : made.entry ≡ OfItem item
  pub batch : Presented
  pub verdict_is_ok : verdict_of plan records place item ≡ Ok (taken place batch)
  pub is : IsBatchOf (by_clock plan) p n made.last.frame batch

pub welcome_judged : (shift : ℤ) (p : PacketJournal) (plan : ListenPlan) (records : List Record) (place n : ℕ) (made : MadeItem) → HearsTalker shift p plan records → IsWelcome p plan records place n made → IsAcceptedAs p plan records place n made
welcome_judged shift p plan records place n made h w =
    let by = by_clock plan in
    let sp = schedule_plan plan in
    let earlier = accepted_before plan records place in
    let t = timely shift p plan records place n made h w.timely in
    let fresh = none_copied by p n t.batch earlier h.conforming.times t.is.is (earlier_true shift p plan records place h) w.first in
    let room : is_full sp (standing (time_of plan records place) earlier) (length t.batch.bytes) ≡ false =
    subst (λ (l : List ℕ). is_full sp (standing (time_of plan records place) earlier) (length l) ≡ false) (same_content p n w.bytes t.batch.bytes w.content t.is.is.bytes) w.room in
    record {
      item = t.item;
      entry = t.entry;
      batch = t.batch;
      verdict_is_ok = verdict_is sp (time_of plan records place) earlier place _ t.batch t.timed_is (in_time p plan records place n made h.conforming.times w.timely t) fresh room;
      is = t.is;
    }

pub welcome_shown : (shift : ℤ) (p : PacketJournal) (plan : ListenPlan) (records : List Record) (place n : ℕ) (made : MadeItem) → HearsTalker shift p plan records → IsWelcome p plan records place n made
    → Any (IsPresentedOf (by_clock plan) p n made) (presented_of (shown_of plan records))
welcome_shown shift p plan records place n made h w =
    let by = by_clock plan in
    let sp = schedule_plan plan in
    let es = entries_in plan records in
    let t = welcome_judged shift p plan records place n made h w in
    let there = entry_at (items_in plan records) place made w.timely.there ∙ ap Some t.entry in
    let shown = ok-presented clock_spot sp es place t.item (taken place t.batch) there t.verdict_is_ok in
    let gs = given clock_spot sp es in
    subst (λ (l : List Presented). Any (IsPresentedOf by p n made) l) (sym (batches_are gs))
    (any_batch (IsPresentedOf by p n made) (presented gs) (taken place t.batch) shown (record { frame = t.is.frame_is; is = t.is.is }))

-- The item at index `place` is flagged as a repeat.
pub record IsFlaggedAs (plan : ListenPlan) (records : List Record) (place : ℕ) (made : MadeItem) : Type 0 where
  pub item : Item
  pub entry : made.entry ≡ OfItem item
  pub repeat : verdict_of plan records place item ≡ Err Repeat

pub further_judged : (shift : ℤ) (p : PacketJournal) (plan : ListenPlan) (records : List Record) (place n : ℕ) (made : MadeItem) → HearsTalker shift p plan records → IsFurther p plan records place n made → IsFlaggedAs plan records place made
further_judged shift p plan records place n made h w =
    let earlier = accepted_before plan records place in
    let t = timely shift p plan records place n made h w.timely in
    record {
      item = t.item;
      entry = t.entry;
      repeat = verdict_repeats (schedule_plan plan) (time_of plan records place) earlier place _ t.batch t.timed_is (in_time p plan records place n made h.conforming.times w.timely t)
          (is_copied (by_clock plan) p n t.batch earlier h.conforming.times t.is.is (earlier_true shift p plan records place h) w.before);
    }
