-- Each batch that a listener presents is a packet of the journal.
use Rattle.std.proofs.Common.{◌≡◌, ◌≢◌, ℕ, zero, suc, ◌+◌, Bool, true, false, cond, ℤ, List, [], ◌∷◌, All, length, Option, Some, None, refl, sym, ap, ◌∙◌, subst, inl, inr, arith}
use Rattle.std.specs.Prelude.{◌⊎◌, ◌==◌, if◌then◌else◌, Contains, is_some, int_lt, option_and_then, IfSome, Result, Ok, Err, IfOk, map, fold, slice_get}
use Rattle.std.specs.List.{cons_option, filter_map}
use Rattle.std.proofs.lemmas.List.Elements.{All-append, All-contains_itself, All-cons, All-head, All-map, All-nil, All-tail, All-take, All-weaker}
use Rattle.clock_track.specs.declared.clock_row.ClockRow.{ClockRow}
use Rattle.clock_track.specs.Rows.{clock_spot}
use Rattle.pcap_frames.specs.Capture.{Record}
use Rattle.stream_journal.specs.ClockRows.{IsTrueRow}
use Rattle.stream_journal.specs.Journal.{Journal, Kind, DenseAaf, SparseAaf, Am824, H264, Part}
use Rattle.stream_journal.specs.Conforming.{Conforms, IsAudio, IsOfKind}
use Rattle.stream_journal.specs.Delivered.{IsAudioKind}
use Rattle.stream_journal.specs.Heads.{IsTrue}
use Rattle.sample_schedule.specs.declared.accepted.Accepted.{Accepted}
use Rattle.sample_schedule.specs.declared.entry.Entry.{Entry}
use Rattle.sample_schedule.specs.declared.entry.Entry.TheVariants.{Item as OfItem, Clock as OfClock}
use Rattle.sample_schedule.specs.declared.item.Bad.{Bad}
use Rattle.sample_schedule.specs.declared.item.Item.TheVariants.{Packet as OfPacket, Unit as OfUnit, Bad as OfBad}
use Rattle.sample_schedule.specs.declared.item.Unit.{Unit as WholeUnit}
use Rattle.sample_schedule.specs.declared.plan.SchedulePlan.{SchedulePlan}
use Rattle.sample_schedule.specs.declared.shown.Reason.{Reason}
use Rattle.sample_schedule.specs.Batches.{Presented}
use Rattle.sample_schedule.specs.Heads.{stamp_of}
use Rattle.sample_schedule.specs.Laws.{presented}
use Rattle.sample_schedule.specs.Order.{by_instant, put_behind}
use Rattle.sample_schedule.specs.Schedule.{Given, Presents, Flags, accepted, accepted_by, given, judged, now_at, prefix_of, shown_of as given_shown, verdict_at}
use Rattle.sample_schedule.specs.Verdicts.{decided, first_instant, row_of, timed, unit_at_once, verdict}
use Rattle.time_unfold.specs.declared.stamp.Stamp.{Stamp}
use Rattle.cvf_format.specs.Cvf.{cvf_subtype}
use Rattle.sample_schedule.proofs.LawLemmas.{accepted-presented}
use Rattle.packet_journal.specs.Deliveries.{Delivery, deliveries}
use Rattle.packet_journal.specs.Delivered.{IsCopyOf, IsFrom, Origin, OfStream, OfClock}
use Rattle.packet_journal.specs.Packets.{IsConforming, PacketJournal, carried}
use Rattle.listener.specs.declared.plan.ListenPlan.{ListenPlan}
use Rattle.listener.specs.Heard.{deliveries_of, entries_in, items_in, schedule_plan, shown_of}
use Rattle.avtp_base.specs.declared.refusal.Refusal.{Refusal}
use Rattle.aaf_format.specs.Aaf.{aaf_of, aaf_refusal, aaf_subtype}
use Rattle.iec61883_format.specs.Iec.{iec_of, iec_refusal}
use Rattle.sample_schedule.specs.declared.item.Item.{Item}
use Rattle.listener.specs.Items.{MadeItem, aaf_item, blocks_of, clock_row, entry_of, iec_item, items_of, made_entry, made_of_one, refused_or, samples_of}
use Rattle.listener.specs.Laws.{FollowsClock, HearsTalker, IsHeardFrom, IsMadeOf, IsOfJournal, IsUnitFrom, by_clock, presented_of}
use Rattle.listener.specs.Units.{in_stream}
use Rattle.listener.proofs.ItemKinds.{IsKind, IsWholeOf, all_here, all_kinds, at_place}
use Rattle.listener.proofs.Shown.{item_by}
use Rattle.listener.proofs.Made.{IsOther}
use Rattle.listener.proofs.TrueUnits.{AreChained, IsUnitItem, chained_of, unit_item, unit_made, unit_packet}
use Rattle.listener.proofs.TrueItems.{IsCopied, Shows, all_shown, audio_other, clock_entry, copied_other, copy_entry, copy_row, deliveries_copied, sent}
use Rattle.listener.proofs.TrueHeard.{IsBatchOf, IsFollowed, IsTruePrefix, timed_true, true_stamp}

-- ---- entries

pub record IsStreamEntry (items : List MadeItem) (p : PacketJournal) (lead : ℕ) (e : Entry) : Type 0 where
  pub heard : IsAudioKind p.times.kind
  pub delivery : Delivery
  pub number : ℕ
  pub copy : IsCopyOf p lead number delivery
  pub listed : Contains items (made_of_one delivery)
  pub same : e ≡ OfItem (OfPacket (sent p.times number delivery.frame copy.arrival (carried (p.packet number))))

-- The entry is a whole unit. The unit was made of one copy of each packet of a unit of the journal.
pub record IsUnitEntry (items : List MadeItem) (p : PacketJournal) (lead : ℕ) (e : Entry) : Type 0 where
  pub part : ℕ → Part
  pub kind : p.times.kind ≡ H264 part
  pub made : MadeItem
  pub number : ℕ
  pub listed : Contains items made
  pub is : IsUnitItem p part lead number made
  pub same : e ≡ made.entry

pub record IsBadEntry (e : Entry) : Type 0 where
  pub bad : Bad
  pub same : e ≡ OfItem (OfBad bad)

pub record IsClockEntry (shift : ℤ) (p : PacketJournal) (e : Entry) : Type 0 where
  pub arrival : ℤ
  pub row : ClockRow
  pub same : e ≡ OfClock arrival row
  pub is_true : IsTrueRow p.times.clock shift row

abbrev pub IsTrueEntry : List MadeItem → ℤ → PacketJournal → ℕ → Entry → Type 0
IsTrueEntry items shift p lead e = (IsStreamEntry items p lead e ⊎ IsUnitEntry items p lead e) ⊎ (IsBadEntry e ⊎ IsClockEntry shift p e)

audio_of : (kind : Kind) (j : Journal) → IsAudioKind kind → IsOfKind kind j → IsAudio j
audio_of DenseAaf j heard is = is.0
audio_of SparseAaf j heard is = is.0
audio_of (Am824 interval dbc) j heard is = is.0
audio_of (H264 part) j heard is = absurd heard

pub audio : (p : PacketJournal) → IsAudioKind p.times.kind → Conforms p.times → IsAudio p.times
audio p heard is = audio_of p.times.kind p.times heard is.kind

shifted_by : (shift added : ℤ) (p : PacketJournal) (clock : Option ℕ) → FollowsClock shift p added clock → is_some clock ≡ true → added ≡ shift
shifted_by shift added p None follows on = absurd cc
shifted_by shift added p (Some id) follows on = follows.1

pub followed : (shift : ℤ) (p : PacketJournal) (plan : ListenPlan) (records : List Record) → HearsTalker shift p plan records → IsAudioKind p.times.kind → IsFollowed shift p.times (schedule_plan plan)
followed shift p plan records h heard = record {
  audio = audio p heard h.conforming.times;
  kind = heard;
  clock = h.conforming.times.clock;
  shifted = shifted_by shift plan.shift p plan.clock h.clock;
}

pub deliveries_are : (shift : ℤ) (p : PacketJournal) (plan : ListenPlan) (records : List Record) → HearsTalker shift p plan records → All (IsCopied p plan.lead) (deliveries_of plan records)
deliveries_are shift p plan records h =
    let from = h.delivered in
    let copies = deliveries_copied p plan.clock plan.lead p.stream from.origins records from.copies in
    rw h.stream copies

pub others : (shift : ℤ) (p : PacketJournal) (plan : ListenPlan) (records : List Record) → HearsTalker shift p plan records → IsAudioKind p.times.kind → All IsOther (deliveries_of plan records)
others shift p plan records h heard =
    All-weaker (IsCopied p plan.lead) IsOther (λ d. copied_other shift p plan.lead d h.conforming heard) (deliveries_of plan records) (deliveries_are shift p plan records h)

true_entry : (items : List MadeItem) (shift : ℤ) (p : PacketJournal) (lead : ℕ) (d : Delivery) (o : Origin) → IsConforming shift p → IsFrom p lead o d → Shows d → IsOther d → Contains items (made_of_one d) → IsTrueEntry items shift p lead (entry_of d)
true_entry items shift p lead d (OfStream n) is copy shows other listed =
    let heard = audio_other shift p lead n d is copy shows other in
    inl (inl (record { heard = heard; delivery = d; number = n; copy = copy; listed = listed; same = copy_entry shift p lead n d is heard copy shows }))
true_entry items shift p lead d (OfClock m) is copy shows other listed = inr (inr (record { arrival = d.arrival; row = clock_row d; same = clock_entry shift p m d is copy shows; is_true = copy_row shift p m d is copy }))

pub record IsVideoKind (kind : Kind) : Type 0 where
  pub part : ℕ → Part
  pub same : kind ≡ H264 part

not_other : (b : Bool) → b ≡ false → b ≡ true → ⊥
not_other b e f = absurd cc

video_kind_by : (kind : Kind) (d : Delivery) → (IsAudioKind kind → IsOther d) → (d.subtype == cvf_subtype) ≡ true → IsVideoKind kind
video_kind_by DenseAaf d other e = absurd (not_other (d.subtype == cvf_subtype) (other tt) e)
video_kind_by SparseAaf d other e = absurd (not_other (d.subtype == cvf_subtype) (other tt) e)
video_kind_by (Am824 interval dbc) d other e = absurd (not_other (d.subtype == cvf_subtype) (other tt) e)
video_kind_by (H264 part) d other e = record { part = part; same = refl }

pub video_kind : (shift : ℤ) (p : PacketJournal) (lead : ℕ) (d : Delivery) → IsConforming shift p → IsCopied p lead d → (d.subtype == cvf_subtype) ≡ true → IsVideoKind p.times.kind
video_kind shift p lead d is c e = video_kind_by p.times.kind d (λ heard. copied_other shift p lead d is heard c) e

-- The deliveries of a capture are copies of packets, and the packets of adjacent fragments are near each other.
pub record AreHeard (shift : ℤ) (p : PacketJournal) (lead : ℕ) (ds : List Delivery) : Type 0 where
  pub conforming : IsConforming shift p
  pub copied : All (IsCopied p lead) ds
  pub shows : All Shows ds
  pub chained : (part : ℕ → Part) → p.times.kind ≡ H264 part → AreChained p lead (in_stream ds)

pub are_heard : (shift : ℤ) (p : PacketJournal) (plan : ListenPlan) (records : List Record) → HearsTalker shift p plan records → AreHeard shift p plan.lead (deliveries_of plan records)
are_heard shift p plan records h = record {
  conforming = h.conforming;
  copied = deliveries_are shift p plan records h;
  shows = all_shown plan.stream plan.clock records;
  chained = λ part kind.
      let from = h.delivered in
      let near = from.near in
      let copies = from.copies in
      rw h.stream (chained_of shift p part plan.lead from.origins (deliveries p.stream plan.clock records) h.conforming kind (all_shown p.stream plan.clock records) copies near);
}

made_entry_true : (items : List MadeItem) (shift : ℤ) (p : PacketJournal) (lead : ℕ) (ds : List Delivery) (made : MadeItem) → AreHeard shift p lead ds → Contains items made → IsKind ds made → IsTrueEntry items shift p lead made.entry
made_entry_true items shift p lead ds made h listed (inl one) =
    let c = all_here (IsCopied p lead) one.before one.rest one.delivery (subst (λ (l : List Delivery). All (IsCopied p lead) l) one.is h.copied) in
    subst (λ (m : MadeItem). Contains items m → IsTrueEntry items shift p lead m.entry) one.same (true_entry items shift p lead one.delivery c.origin h.conforming c.copy c.shows one.other) listed
made_entry_true items shift p lead ds made h listed (inr (inl flag)) = inr (inl (record { bad = bad_of flag.why flag.delivery; same = ap (λ (m : MadeItem). m.entry) (sym flag.same) }))
  where
    bad_of : Reason → Delivery → Bad
    bad_of reason d = record { frame = d.frame; arrival = d.arrival; seq = d.seq; reason = reason }
made_entry_true items shift p lead ds made h listed (inr (inr w)) =
    let c = all_here (IsCopied p lead) w.before w.rest w.delivery (subst (λ (l : List Delivery). All (IsCopied p lead) l) w.is h.copied) in
    let kind = video_kind shift p lead w.delivery h.conforming c w.video in
    let m = unit_made shift p kind.part lead ds made h.conforming kind.same (h.chained kind.part kind.same) h.shows w in
    inl (inr (record {
      part = kind.part;
      kind = kind.same;
      made = made;
      number = m.number;
      listed = listed;
      is = unit_item shift p kind.part lead m.number ds made h.conforming kind.same h.shows w m.copies;
      same = refl;
    }))

pub entries_true : (shift : ℤ) (p : PacketJournal) (plan : ListenPlan) (records : List Record) → HearsTalker shift p plan records → All (IsTrueEntry (items_in plan records) shift p plan.lead) (entries_in plan records)
entries_true shift p plan records h =
    let ds = deliveries_of plan records in
    let items = items_of ds in
    let heard = are_heard shift p plan records h in
    let kinds = all_kinds ds in
    All-map (IsTrueEntry items shift p plan.lead) made_entry items
    (λ k made within. made_entry_true items shift p plan.lead ds _ heard (All-contains_itself items k made within) (kinds k made within))

-- ---- whole units

refused_unit : (d : Delivery) (o : Option Refusal) (item : Item) (unit : WholeUnit) → item ≢ OfUnit unit → refused_or d o item ≢ OfUnit unit
refused_unit d None item unit no_unit = no_unit
refused_unit d (Some refusal) item unit no_unit = λ e. cc

audio_unit : (b : Bool) (d : Delivery) (unit : WholeUnit) → (if b then aaf_item d else iec_item d) ≢ OfUnit unit
audio_unit true d unit = refused_unit d (aaf_refusal d.packet) (samples_of d (aaf_of d.packet)) unit (λ e. cc)
audio_unit false d unit = refused_unit d (iec_refusal d.packet) (blocks_of d (iec_of d.packet)) unit (λ e. cc)

same_unit : (a b : WholeUnit) → OfItem (OfUnit a) ≡ OfItem (OfUnit b) → a ≡ b
same_unit a b e = cc

one_unit : (d : Delivery) (unit : WholeUnit) → entry_of d ≢ OfItem (OfUnit unit)
one_unit d unit e = audio_unit (d.subtype == aaf_subtype) d unit (item_by d (OfUnit unit) e)

unit_kind : (ds : List Delivery) (made : MadeItem) (unit : WholeUnit) → IsKind ds made → made.entry ≡ OfItem (OfUnit unit) → IsWholeOf ds made
unit_kind ds made unit (inl one) e = absurd (one_unit one.delivery unit (ap (λ (m : MadeItem). m.entry) one.same ∙ e))
unit_kind ds made unit (inr (inl flag)) e = absurd (let f = ap (λ (m : MadeItem). m.entry) flag.same ∙ e in cc)
unit_kind ds made unit (inr (inr w)) e = w

pub item_is_true : (shift : ℤ) (p : PacketJournal) (plan : ListenPlan) (records : List Record) (place : ℕ) (made : MadeItem) (unit : WholeUnit) (part : ℕ → Part) → HearsTalker shift p plan records → p.times.kind ≡ H264 part → slice_get (items_in plan records) place ≡ Some made
    → made.entry ≡ OfItem (OfUnit unit) → (n : ℕ) × IsUnitFrom p part plan.lead n made unit
item_is_true shift p plan records place made unit part h kind there entry =
    let ds = deliveries_of plan records in
    let heard = are_heard shift p plan records h in
    let w = unit_kind ds made unit (at_place (IsKind ds) (items_of ds) place made (all_kinds ds) there) entry in
    let m = unit_made shift p part plan.lead ds made h.conforming kind (heard.chained part kind) heard.shows w in
    let u = unit_item shift p part plan.lead m.number ds made h.conforming kind heard.shows w m.copies in
    (m.number, subst (λ (x : WholeUnit). IsUnitFrom p part plan.lead m.number made x) (same_unit u.unit unit (sym u.entry ∙ entry)) u.is)

-- ---- what is known

stream_stamp : (items : List MadeItem) (p : PacketJournal) (lead : ℕ) (e : Entry) → IsAudio p.times → IsStreamEntry items p lead e → IfSome (stamp_of e) (IsTrue p.times)
stream_stamp items p lead e is t =
    subst (λ (x : Entry). IfSome (stamp_of x) (IsTrue p.times)) (sym t.same)
    (true_stamp p.times lead t.number t.delivery.frame t.copy.arrival (carried (p.packet t.number)) is t.copy.delivered)

unit_stamp : (e : Entry) (unit : WholeUnit) (P : Stamp → Type 0) → e ≡ OfItem (OfUnit unit) → IfSome (stamp_of e) P
unit_stamp e unit P same = rw same tt

unit_row : (e : Entry) (unit : WholeUnit) (P : ClockRow → Type 0) → e ≡ OfItem (OfUnit unit) → IfSome (row_of e) P
unit_row e unit P same = rw same tt

entry_stamp : (items : List MadeItem) (shift : ℤ) (p : PacketJournal) (lead : ℕ) (e : Entry) → (IsAudioKind p.times.kind → IsAudio p.times) → IsTrueEntry items shift p lead e → IfSome (stamp_of e) (IsTrue p.times)
entry_stamp items shift p lead e is (inl (inl t)) = stream_stamp items p lead e (is t.heard) t
entry_stamp items shift p lead e is (inl (inr t)) = unit_stamp e t.is.unit (IsTrue p.times) (t.same ∙ t.is.entry)
entry_stamp items shift p lead e is (inr (inl t)) = rw t.same tt
entry_stamp items shift p lead e is (inr (inr t)) = rw t.same tt

entry_row : (items : List MadeItem) (shift : ℤ) (p : PacketJournal) (lead : ℕ) (e : Entry) → IsTrueEntry items shift p lead e → IfSome (row_of e) (IsTrueRow p.times.clock shift)
entry_row items shift p lead e (inl (inl t)) = rw t.same tt
entry_row items shift p lead e (inl (inr t)) = unit_row e t.is.unit (IsTrueRow p.times.clock shift) (t.same ∙ t.is.entry)
entry_row items shift p lead e (inr (inl t)) = rw t.same tt
entry_row items shift p lead e (inr (inr t)) = subst (λ (x : Entry). IfSome (row_of x) (IsTrueRow p.times.clock shift)) (sym t.same) t.is_true

put_first : {X : Type 0} (P : X → Type 0) (o : Option X) (xs : List X) → IfSome o P → All P xs → All P (cons_option o xs)
put_first {X} P None xs h all = all
put_first {X} P (Some s) xs h all = All-cons P s xs h all

all_picked : {X : Type 0} (pick : Entry → Option X) (P : X → Type 0) (Q : Entry → Type 0) → ((e : Entry) → Q e → IfSome (pick e) P) → (es : List Entry) → All Q es → All P (filter_map pick es)
all_picked {X} pick P Q each [] all = All-nil P
all_picked {X} pick P Q each (e ∷ es) all = put_first P (pick e) (filter_map pick es) (each e (All-head Q e es all)) (all_picked pick P Q each es (All-tail Q e es all))

pub prefix_true : (items : List MadeItem) (shift : ℤ) (p : PacketJournal) (lead : ℕ) (es : List Entry) → (IsAudioKind p.times.kind → IsAudio p.times) → All (IsTrueEntry items shift p lead) es → IsTruePrefix shift p.times es
prefix_true items shift p lead es is all = record {
  stamps = all_picked stamp_of (IsTrue p.times) (IsTrueEntry items shift p lead) (λ e. entry_stamp items shift p lead e is) es all;
  rows = all_picked row_of (IsTrueRow p.times.clock shift) (IsTrueEntry items shift p lead) (entry_row items shift p lead) es all;
}

-- ---- verdicts

-- One of the items was made of a packet, and the accepted batch is that packet. The accepted instant is the batch's
-- first instant.
record IsHeardAccepted (by : Bool) (items : List MadeItem) (p : PacketJournal) (lead : ℕ) (a : Accepted) : Type 0 where
  is : IsHeardFrom by items p lead a.batch
  instant : a.instant ≡ first_instant a.batch

-- The accepted batch is a packet of the journal, and the instant of the accepted item is the batch's first instant.
pub record IsTrueAccepted (by : Bool) (p : PacketJournal) (a : Accepted) : Type 0 where
  pub is : IsOfJournal by p a.batch
  pub instant : a.instant ≡ first_instant a.batch

pub one_copy : (p : PacketJournal) (lead n : ℕ) (d : Delivery) → IsCopyOf p lead n d → IsMadeOf p lead n (made_of_one d)
one_copy p lead n d copy = record { from = n; to = omega arith; earlier = tt; last = copy }

decided_true : (P : Presented → Type 0) (late copy full : Bool) (place : ℕ) (batch : Presented) → P batch → IfOk (decided late copy full place batch) (λ a. P a.batch × (a.instant ≡ first_instant a.batch))
decided_true P true copy full place batch is = tt
decided_true P false true full place batch is = tt
decided_true P false false true place batch is = tt
decided_true P false false false place batch is = (is, refl)

verdict_true : (P : Presented → Type 0) (plan : SchedulePlan) (now : ℤ) (earlier : List Accepted) (place : ℕ) (r : Result Presented Reason) → IfOk r P → IfOk (verdict plan now earlier place r) (λ a. P a.batch × (a.instant ≡ first_instant a.batch))
unfolding verdict
verdict_true P plan now earlier place (Err reason) is = tt
verdict_true P plan now earlier place (Ok batch) is = decided_true P _ _ _ place batch is

batch_heard : (by : Bool) (items : List MadeItem) (p : PacketJournal) (lead number : ℕ) (d : Delivery) (r : Result Presented Reason) → Contains items (made_of_one d) → IsCopyOf p lead number d → IfOk r (IsBatchOf by p number d.frame)
    → IfOk r (IsHeardFrom by items p lead)
batch_heard by items p lead number d (Err reason) listed copy is = tt
batch_heard by items p lead number d (Ok batch) listed copy is = record { item = made_of_one d; number = number; listed = listed; copy = one_copy p lead number d copy; is = record { frame = is.frame_is; is = is.is } }

accepted_one : (by : Bool) (items : List MadeItem) (p : PacketJournal) (lead : ℕ) (r : Result Accepted Reason) → IfOk r (λ a. IsHeardFrom by items p lead a.batch × (a.instant ≡ first_instant a.batch)) → All (IsHeardAccepted by items p lead) (accepted_by (Some r))
accepted_one by items p lead (Ok a) t = All-cons (IsHeardAccepted by items p lead) a [] (record { is = t.0; instant = t.1 }) (All-nil (IsHeardAccepted by items p lead))
accepted_one by items p lead (Err reason) t = All-nil (IsHeardAccepted by items p lead)

entry_at : (P : Entry → Type 0) (es : List Entry) (n : ℕ) → All P es → IfSome (slice_get es n) P
entry_at P [] n all = tt
entry_at P (e ∷ es) zero all = All-head P e es all
entry_at P (e ∷ es) (suc n) all = entry_at P es n (All-tail P e es all)

judged_stream : (items : List MadeItem) (shift : ℤ) (p : PacketJournal) (plan : SchedulePlan) (es : List Entry) (n : ℕ) (earlier : List Accepted) (e : Entry) → (IsAudioKind p.times.kind → IsFollowed shift p.times plan) → All (IsTrueEntry items shift p plan.lead) es
    → IsStreamEntry items p plan.lead e → All (IsHeardAccepted plan.clock items p plan.lead) (accepted_by (judged clock_spot plan es n earlier e))
judged_stream items shift p plan es n earlier e is all t =
    let packet = sent p.times t.number t.delivery.frame t.copy.arrival (carried (p.packet t.number)) in
    let prefix = prefix_of plan es n in
    let known = prefix_true items shift p plan.lead prefix (λ heard. (is heard).audio) (All-take (IsTrueEntry items shift p plan.lead) (n + plan.look + 1) es all) in
    let r = timed clock_spot plan prefix (OfPacket packet) in
    subst (λ (x : Entry). All (IsHeardAccepted plan.clock items p plan.lead) (accepted_by (judged clock_spot plan es n earlier x))) (sym t.same)
    (accepted_one plan.clock items p plan.lead (verdict plan (now_at es n) earlier n r)
    (verdict_true (IsHeardFrom plan.clock items p plan.lead) plan (now_at es n) earlier n r
    (batch_heard plan.clock items p plan.lead t.number t.delivery r t.listed t.copy
    (timed_true shift p plan t.number t.delivery.frame t.copy.arrival prefix (is t.heard) known t.copy.delivered))))

judged_unit : (items : List MadeItem) (p : PacketJournal) (plan : SchedulePlan) (es : List Entry) (n : ℕ) (earlier : List Accepted) (e : Entry) → IsUnitEntry items p plan.lead e
    → All (IsHeardAccepted plan.clock items p plan.lead) (accepted_by (judged clock_spot plan es n earlier e))
unfolding timed
judged_unit items p plan es n earlier e t =
    let heard : IsHeardFrom plan.clock items p plan.lead (unit_at_once t.is.unit) =
    record { item = t.made; number = t.number; listed = t.listed; copy = t.is.is.copies; is = record { frame = t.is.frame; is = unit_packet plan.clock p t.part plan.lead t.number t.made t.kind t.is } } in
    subst (λ (x : Entry). All (IsHeardAccepted plan.clock items p plan.lead) (accepted_by (judged clock_spot plan es n earlier x))) (sym (t.same ∙ t.is.entry))
    (accepted_one plan.clock items p plan.lead (verdict plan (now_at es n) earlier n (Ok (unit_at_once t.is.unit)))
    (verdict_true (IsHeardFrom plan.clock items p plan.lead) plan (now_at es n) earlier n (Ok (unit_at_once t.is.unit)) heard))

judged_bad : (items : List MadeItem) (p : PacketJournal) (plan : SchedulePlan) (es : List Entry) (n : ℕ) (earlier : List Accepted) (e : Entry) → IsBadEntry e
    → All (IsHeardAccepted plan.clock items p plan.lead) (accepted_by (judged clock_spot plan es n earlier e))
unfolding timed verdict
judged_bad items p plan es n earlier e t = rw t.same (All-nil (IsHeardAccepted plan.clock items p plan.lead))

judged_true : (items : List MadeItem) (shift : ℤ) (p : PacketJournal) (plan : SchedulePlan) (es : List Entry) (n : ℕ) (earlier : List Accepted) (o : Option Entry) → (IsAudioKind p.times.kind → IsFollowed shift p.times plan) → All (IsTrueEntry items shift p plan.lead) es
    → IfSome o (IsTrueEntry items shift p plan.lead) → All (IsHeardAccepted plan.clock items p plan.lead) (accepted_by (option_and_then (judged clock_spot plan es n earlier) o))
judged_true items shift p plan es n earlier None is all t = All-nil (IsHeardAccepted plan.clock items p plan.lead)
judged_true items shift p plan es n earlier (Some e) is all (inl (inl t)) = judged_stream items shift p plan es n earlier e is all t
judged_true items shift p plan es n earlier (Some e) is all (inl (inr t)) = judged_unit items p plan es n earlier e t
judged_true items shift p plan es n earlier (Some e) is all (inr (inl t)) = judged_bad items p plan es n earlier e t
judged_true items shift p plan es n earlier (Some e) is all (inr (inr t)) = rw t.same (All-nil (IsHeardAccepted plan.clock items p plan.lead))

accepted_heard : (items : List MadeItem) (shift : ℤ) (p : PacketJournal) (plan : SchedulePlan) (es : List Entry) (n : ℕ) → (IsAudioKind p.times.kind → IsFollowed shift p.times plan) → All (IsTrueEntry items shift p plan.lead) es
    → All (IsHeardAccepted plan.clock items p plan.lead) (accepted clock_spot plan es n)
unfolding accepted verdict_at
accepted_heard items shift p plan es zero is all = All-nil (IsHeardAccepted plan.clock items p plan.lead)
accepted_heard items shift p plan es (suc n) is all =
    All-append (IsHeardAccepted plan.clock items p plan.lead) (accepted clock_spot plan es n) _ (accepted_heard items shift p plan es n is all)
    (judged_true items shift p plan es n (accepted clock_spot plan es n) (slice_get es n) is all (entry_at (IsTrueEntry items shift p plan.lead) es n all))

heard_true : (by : Bool) (items : List MadeItem) (p : PacketJournal) (lead : ℕ) (a : Accepted) → IsHeardAccepted by items p lead a → IsTrueAccepted by p a
heard_true by items p lead a t = record { is = record { number = t.is.number; is = t.is.is.is }; instant = t.instant }

pub accepted_true : (items : List MadeItem) (shift : ℤ) (p : PacketJournal) (plan : SchedulePlan) (es : List Entry) (n : ℕ) → (IsAudioKind p.times.kind → IsFollowed shift p.times plan) → All (IsTrueEntry items shift p plan.lead) es
    → All (IsTrueAccepted plan.clock p) (accepted clock_spot plan es n)
accepted_true items shift p plan es n is all =
    All-weaker (IsHeardAccepted plan.clock items p plan.lead) (IsTrueAccepted plan.clock p) (heard_true plan.clock items p plan.lead) (accepted clock_spot plan es n) (accepted_heard items shift p plan es n is all)

-- ---- the order

all_behind : (P : Accepted → Type 0) (ys : List Accepted) (a : Accepted) → All P ys → P a → All P (put_behind ys a)
all_behind P [] a all h = All-cons P a [] h all
all_behind P (b ∷ bs) a all h = elim (int_lt a.instant b.instant) as (λ v. All P (cond v (a ∷ b ∷ bs) (b ∷ put_behind bs a))) [
  | true ↦ All-cons P a (b ∷ bs) h all
  | false ↦ All-cons P b (put_behind bs a) (All-head P b bs all) (all_behind P bs a (All-tail P b bs all) h)
]

all_sorted : (P : Accepted → Type 0) (xs ys : List Accepted) → All P xs → All P ys → All P (fold put_behind ys xs)
all_sorted P [] ys all rest = rest
all_sorted P (x ∷ xs) ys all rest = all_sorted P xs (put_behind ys x) (All-tail P x xs all) (all_behind P ys x rest (All-head P x xs all))

by_instant_true : (P : Accepted → Type 0) (xs : List Accepted) → All P xs → All P (by_instant xs)
unfolding by_instant
by_instant_true P xs all = all_sorted P xs [] all (All-nil P)

pub batches_are : (gs : List Given) → presented_of (map given_shown gs) ≡ map (λ (a : Accepted). a.batch) (presented gs)
batches_are [] = refl
batches_are (Presents a ∷ gs) = ap (λ (l : List Presented). a.batch ∷ l) (batches_are gs)
batches_are (Flags place item reason ∷ gs) = batches_are gs

-- each batch that a listener presents is the packet that its item was made of, and the batches are ordered by their
-- first instants
given_heard : (shift : ℤ) (p : PacketJournal) (plan : ListenPlan) (records : List Record) → HearsTalker shift p plan records
    → All (IsHeardAccepted (by_clock plan) (items_in plan records) p plan.lead) (presented (given clock_spot (schedule_plan plan) (entries_in plan records)))
given_heard shift p plan records h =
    let items = items_in plan records in
    let es = entries_in plan records in
    subst (λ (l : List Accepted). All (IsHeardAccepted (by_clock plan) items p plan.lead) l) (sym (accepted-presented clock_spot (schedule_plan plan) es))
    (by_instant_true (IsHeardAccepted (by_clock plan) items p plan.lead) (accepted clock_spot (schedule_plan plan) es (length es))
    (accepted_heard items shift p (schedule_plan plan) es (length es) (followed shift p plan records h) (entries_true shift p plan records h)))

pub given_true : (shift : ℤ) (p : PacketJournal) (plan : ListenPlan) (records : List Record) → HearsTalker shift p plan records
    → All (IsTrueAccepted (by_clock plan) p) (presented (given clock_spot (schedule_plan plan) (entries_in plan records)))
given_true shift p plan records h =
    All-weaker (IsHeardAccepted (by_clock plan) (items_in plan records) p plan.lead) (IsTrueAccepted (by_clock plan) p) (heard_true (by_clock plan) (items_in plan records) p plan.lead) _ (given_heard shift p plan records h)

pub presented_heard : (shift : ℤ) (p : PacketJournal) (plan : ListenPlan) (records : List Record) → HearsTalker shift p plan records
    → All (IsHeardFrom (by_clock plan) (items_in plan records) p plan.lead) (presented_of (shown_of plan records))
presented_heard shift p plan records h =
    let items = items_in plan records in
    let gs = given clock_spot (schedule_plan plan) (entries_in plan records) in
    subst (λ (l : List Presented). All (IsHeardFrom (by_clock plan) items p plan.lead) l) (sym (batches_are gs))
    (All-map (IsHeardFrom (by_clock plan) items p plan.lead) (λ (a : Accepted). a.batch) (presented gs)
    (All-weaker (IsHeardAccepted (by_clock plan) items p plan.lead) (λ (a : Accepted). IsHeardFrom (by_clock plan) items p plan.lead a.batch) (λ a t. t.is) (presented gs) (given_heard shift p plan records h)))

pub presented_true : (shift : ℤ) (p : PacketJournal) (plan : ListenPlan) (records : List Record) → HearsTalker shift p plan records
    → All (IsOfJournal (by_clock plan) p) (presented_of (shown_of plan records))
presented_true shift p plan records h =
    let gs = given clock_spot (schedule_plan plan) (entries_in plan records) in
    subst (λ (l : List Presented). All (IsOfJournal (by_clock plan) p) l) (sym (batches_are gs))
    (All-map (IsOfJournal (by_clock plan) p) (λ (a : Accepted). a.batch) (presented gs)
    (All-weaker (IsTrueAccepted (by_clock plan) p) (λ (a : Accepted). IsOfJournal (by_clock plan) p a.batch) (λ a t. t.is) (presented gs) (given_true shift p plan records h)))
