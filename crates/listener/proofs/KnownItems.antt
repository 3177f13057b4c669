-- If an item's timestamp or clock reference is in the packets that came, the listener finds it.
use Rattle.std.proofs.Common.{◌≡◌, ◌≢◌, inl, inr, ℕ, zero, suc, ◌+◌, ◌%◌, ◌^◌, ◌<◌, Bool, true, false, ℤ, pos, List, [], ◌∷◌, All, Option, Some, None, is_some, refl, sym, ap, ◌∙◌, subst}
use Rattle.std.specs.Prelude.{if◌then◌else◌, map, slice_get, take, IfSome, option_map, option_and_then}
use Rattle.std.specs.List.{cons_option, filter_map}
use Rattle.std.specs.Option.{option_or}
use Rattle.std.proofs.lemmas.List.Elements.{All-head, All-tail, All-take}
use Rattle.time_unfold.specs.declared.head_rule.Distance.{Distance}
use Rattle.time_unfold.specs.declared.head_rule.Head.{Head}
use Rattle.time_unfold.specs.declared.stamp.Stamp.{Stamp}
use Rattle.time_unfold.specs.Heads.{stamped_block}
use Rattle.time_unfold.specs.Stamps.{found}
use Rattle.time_unfold.specs.Time.{unfolded}
use Rattle.clock_track.specs.declared.clock_row.ClockRow.{ClockRow}
use Rattle.clock_track.specs.Rows.{clock_spot}
use Rattle.pcap_frames.specs.Capture.{Record}
use Rattle.stream_journal.specs.Conforming.{IsAudio}
use Rattle.stream_journal.specs.Delivered.{Copy, IsAudioKind, IsDelivered}
use Rattle.stream_journal.specs.Heads.{IsTrue, stamp_at, wanted}
use Rattle.stream_journal.specs.Journal.{Journal, Kind, DenseAaf, SparseAaf, Am824, H264, Part, head_of, rule_of}
use Rattle.stream_journal.specs.Known.{IsCounted, IsCoveredBy, IsTimed, stamps_in}
use Rattle.stream_journal.proofs.FoundHeads.{found_so}
use Rattle.stream_journal.proofs.TrueTime.{true_time}
use Rattle.sample_schedule.specs.declared.entry.Entry.{Entry}
use Rattle.sample_schedule.specs.declared.entry.Entry.TheVariants.{Item as OfItem}
use Rattle.sample_schedule.specs.declared.item.Item.TheVariants.{Packet as OfPacket}
use Rattle.sample_schedule.specs.declared.plan.SchedulePlan.{SchedulePlan}
use Rattle.sample_schedule.specs.Heads as heads
use Rattle.sample_schedule.specs.Schedule.{prefix_of}
use Rattle.sample_schedule.specs.Verdicts.{moved, nominal_spot, row_of}
use Rattle.packet_journal.specs.Deliveries.{Delivery}
use Rattle.packet_journal.specs.Delivered.{AreFrom, IsCopyOf, Origin, OfClock, OfStream, stream_numbers}
use Rattle.packet_journal.specs.Packets.{IsConforming, PacketJournal, carried}
use Rattle.listener.specs.declared.plan.ListenPlan.{ListenPlan}
use Rattle.listener.specs.Heard.{deliveries_of, entries_in, items_in, schedule_plan}
use Rattle.listener.specs.Items.{MadeItem, entry_of, items_of, made_entry, made_of_one}
use Rattle.listener.specs.Known.{IsKnownCopy, IsKnownItem, IsKnownUnit, clock_numbers}
use Rattle.listener.specs.Laws.{HearsTalker}
use Rattle.listener.specs.state.Known.{is_known}
use Rattle.listener.proofs.ItemKinds.{at_place}
use Rattle.listener.proofs.KnownRows.{AreRows, covered_line}
use Rattle.listener.proofs.Made.{items_other}
use Rattle.listener.proofs.TrueHeard.{IsTrueHead, head_true, same_distance, usable}
use Rattle.listener.proofs.TrueItems.{Shows, all_shown, clock_entry, copied_row, copy_entry, sent}
use Rattle.listener.proofs.TrueList.{IsTrueEntry, audio, entries_true, followed, others, prefix_true}

-- ---- the stamps of the packets that came

stamp_by : (j : Journal) (lead n arrival : ℕ) (r : Option ℕ) → IsDelivered j lead (record { number = n; arrival = arrival }) → j.stamp n ≡ r
    → option_map (λ timestamp. record { seq = n % 256; mr = j.mr n; block = stamped_block (rule_of j.kind n); rate = j.rate; instant = unfolded timestamp (pos arrival) }) (option_map (λ (instant : ℕ). instant % 2 ^ 32) r)
    ≡ option_map (stamp_at j n) r
stamp_by j lead n arrival None came e = refl
stamp_by j lead n arrival (Some instant) came e = rw (true_time j lead (record { number = n; arrival = arrival }) instant came e) refl

stamp_is : (j : Journal) (lead n frame arrival : ℕ) (bytes : List ℕ) → IsAudio j → IsDelivered j lead (record { number = n; arrival = arrival }) → heads.stamp_of_packet (sent j n frame arrival bytes) ≡ option_map (stamp_at j n) (j.stamp n)
stamp_is j lead n frame arrival bytes is came = rw (usable j n frame arrival bytes is came.known) (stamp_by j lead n arrival (j.stamp n) came refl)

more_stamps : (e : Entry) (es : List Entry) (o : Option Stamp) (rest : List Stamp) → heads.stamp_of e ≡ o → filter_map heads.stamp_of es ≡ rest → filter_map heads.stamp_of (e ∷ es) ≡ cons_option o rest
more_stamps e es o rest f g = rw (f, g) refl

stamps_are : (shift : ℤ) (p : PacketJournal) (lead : ℕ) (os : List Origin) (ds : List Delivery) → IsConforming shift p → IsAudioKind p.times.kind → AreFrom p lead os ds → All Shows ds → heads.stamps_of (map entry_of ds) ≡ stamps_in p.times (stream_numbers os)
stamps_are shift p lead [] [] is heard from shows = refl
stamps_are shift p lead [] (d ∷ ds) is heard from shows = absurd from
stamps_are shift p lead (o ∷ os) [] is heard from shows = absurd from
stamps_are shift p lead (OfStream n ∷ os) (d ∷ ds) is heard from shows =
    let here = copy_entry shift p lead n d is heard from.0 (All-head Shows d ds shows) in
    let stamp : heads.stamp_of (entry_of d) ≡ option_map (stamp_at p.times n) (p.times.stamp n) =
    ap heads.stamp_of here ∙ stamp_is p.times lead n d.frame from.0.arrival (carried (p.packet n)) (audio p heard is.times) from.0.delivered in
    more_stamps (entry_of d) (map entry_of ds) (option_map (stamp_at p.times n) (p.times.stamp n)) (stamps_in p.times (stream_numbers os)) stamp (stamps_are shift p lead os ds is heard from.1 (All-tail Shows d ds shows))
stamps_are shift p lead (OfClock m ∷ os) (d ∷ ds) is heard from shows =
    let none : heads.stamp_of (entry_of d) ≡ None = ap heads.stamp_of (clock_entry shift p m d is from.0 (All-head Shows d ds shows)) in
    more_stamps (entry_of d) (map entry_of ds) None (stamps_in p.times (stream_numbers os)) none (stamps_are shift p lead os ds is heard from.1 (All-tail Shows d ds shows))

-- ---- the rows of the clock's packets that came

more_rows : (e : Entry) (es : List Entry) (o : Option ClockRow) → row_of e ≡ o → filter_map row_of (e ∷ es) ≡ cons_option o (filter_map row_of es)
more_rows e es o f = rw f refl

rows_are : (shift : ℤ) (p : PacketJournal) (lead : ℕ) (os : List Origin) (ds : List Delivery) → IsConforming shift p → IsAudioKind p.times.kind → AreFrom p lead os ds → All Shows ds → AreRows p.times.clock shift (clock_numbers os) (filter_map row_of (map entry_of ds))
rows_are shift p lead [] [] is heard from shows = tt
rows_are shift p lead [] (d ∷ ds) is heard from shows = absurd from
rows_are shift p lead (o ∷ os) [] is heard from shows = absurd from
rows_are shift p lead (OfStream n ∷ os) (d ∷ ds) is heard from shows =
    let none : row_of (entry_of d) ≡ None = ap row_of (copy_entry shift p lead n d is heard from.0 (All-head Shows d ds shows)) in
    subst (λ (l : List ClockRow). AreRows p.times.clock shift (clock_numbers os) l) (sym (more_rows (entry_of d) (map entry_of ds) None none)) (rows_are shift p lead os ds is heard from.1 (All-tail Shows d ds shows))
rows_are shift p lead (OfClock m ∷ os) (d ∷ ds) is heard from shows =
    let c = copied_row shift p m d is from.0 in
    subst (λ (l : List ClockRow). AreRows p.times.clock shift (m ∷ clock_numbers os) l) (sym (more_rows (entry_of d) (map entry_of ds) _ (ap row_of (clock_entry shift p m d is from.0 (All-head Shows d ds shows)))))
    (record { usable = c.usable; is = c.is }, rows_are shift p lead os ds is heard from.1 (All-tail Shows d ds shows))

-- ---- the first deliveries of a capture

taken_from : (p : PacketJournal) (lead k : ℕ) (os : List Origin) (ds : List Delivery) → AreFrom p lead os ds → AreFrom p lead (take k os) (take k ds)
taken_from p lead zero os ds from = tt
taken_from p lead (suc k) [] [] from = tt
taken_from p lead (suc k) [] (d ∷ ds) from = absurd from
taken_from p lead (suc k) (o ∷ os) [] from = absurd from
taken_from p lead (suc k) (o ∷ os) (d ∷ ds) from = (from.0, taken_from p lead k os ds from.1)

take_entries : (k : ℕ) (ds : List Delivery) → take k (map made_entry (map made_of_one ds)) ≡ map entry_of (take k ds)
take_entries zero ds = refl
take_entries (suc k) [] = refl
take_entries (suc k) (d ∷ ds) = ap (λ (l : List Entry). entry_of d ∷ l) (take_entries k ds)

-- The item at index `place` is made of one delivery.
record IsOne (ds : List Delivery) (place : ℕ) (made : MadeItem) : Type 0 where
  delivery : Delivery
  there : slice_get ds place ≡ Some delivery
  same : made_of_one delivery ≡ made

one_at : (ds : List Delivery) (place : ℕ) (made : MadeItem) → slice_get (map made_of_one ds) place ≡ Some made → IsOne ds place made
one_at [] place made e = absurd cc
one_at (d ∷ ds) zero made e = let same : made_of_one d ≡ made = cc in record { delivery = d; there = refl; same = same }
one_at (d ∷ ds) (suc place) made e = let rest = one_at ds place made e in record { delivery = rest.delivery; there = rest.there; same = rest.same }

-- ---- the head

own_head : (j : Journal) (plan : SchedulePlan) (prefix : List Entry) (n frame arrival : ℕ) (bytes : List ℕ) (r : Option ℕ) → IsAudio j → n < j.packets → j.stamp n ≡ r → is_some r ≡ true → is_some (heads.head_of plan prefix (sent j n frame arrival bytes)) ≡ true
own_head j plan prefix n frame arrival bytes None is known e some = absurd cc
own_head j plan prefix n frame arrival bytes (Some instant) is known e some = rw (usable j n frame arrival bytes is known, e) refl

found_head : (o : Option Stamp) (stamp : Stamp) (far : Distance) → o ≡ Some stamp → is_some {T = Head} (option_map (λ (stamp : Stamp). record { instant = stamp.instant; first = pos far.samples }) o) ≡ true
found_head o stamp far e = rw e refl

or_some : (a b : Option Head) → is_some b ≡ true → is_some (option_or a b) ≡ true
or_some None b e = e
or_some (Some h) b e = refl

back_head : (j : Journal) (plan : SchedulePlan) (n frame arrival : ℕ) (bytes : List ℕ) (prefix : List Entry) (came : List ℕ) → IsAudio j → IsDelivered j plan.lead (record { number = n; arrival = arrival }) → All (IsTrue j) (heads.stamps_of prefix)
    → heads.stamps_of prefix ≡ stamps_in j came → IsCounted j plan.lead (plan.look + 16) (record { number = n; arrival = arrival }) came → is_some (heads.head_back plan prefix (sent j n frame arrival bytes)) ≡ true
back_head j plan n frame arrival bytes prefix came is delivered all stamps k =
    let c : Copy = record { number = n; arrival = arrival } in
    let here = found_so j is plan.lead (plan.look + 16) c k.far (stamps_in j came) k.stamp (record { came = delivered; none = k.none; back = k.back }) (subst (λ (l : List Stamp). All (IsTrue j) l) stamps all) k.expected k.at_hand in
    let there : found (plan.look + 16) (wanted j plan.lead c k.far) (heads.stamps_of prefix) ≡ Some k.stamp = rw stamps here in
    rw (same_distance (rule_of j.kind n) n j.count, k.back) (found_head _ k.stamp k.far there)

head_known : (j : Journal) (plan : SchedulePlan) (n frame arrival : ℕ) (bytes : List ℕ) (prefix : List Entry) (came : List ℕ) → IsAudio j → IsDelivered j plan.lead (record { number = n; arrival = arrival }) → All (IsTrue j) (heads.stamps_of prefix)
    → heads.stamps_of prefix ≡ stamps_in j came → IsTimed j plan.lead (plan.look + 16) (record { number = n; arrival = arrival }) came → is_some (heads.head_of plan prefix (sent j n frame arrival bytes)) ≡ true
head_known j plan n frame arrival bytes prefix came is delivered all stamps (inl own) = own_head j plan prefix n frame arrival bytes (j.stamp n) is delivered.known refl own
head_known j plan n frame arrival bytes prefix came is delivered all stamps (inr k) =
    or_some (heads.own_head (sent j n frame arrival bytes)) (heads.head_back plan prefix (sent j n frame arrival bytes)) (back_head j plan n frame arrival bytes prefix came is delivered all stamps k)

-- ---- the spot

mapped : {A B : Type 0} (f : A → B) (o : Option A) → o ≢ None → is_some (option_map f o) ≡ true
mapped f None some = absurd (some refl)
mapped f (Some x) some = refl

spot_by : (j : Journal) (rate : ℕ) (n : ℕ) (by : Bool) (rows : List ClockRow) (shift : ℤ) (o : Option Head) → is_some o ≡ true → IfSome o (IsTrueHead j n) → (by ≡ true → (h : Head) → head_of j n ≡ Some h → clock_spot rows shift h.instant rate ≢ None)
    → is_some (option_and_then (λ (head : Head). if by then option_map (moved head.first) (clock_spot rows shift head.instant rate) else Some (nominal_spot rate head)) o) ≡ true
spot_by j rate n by rows shift None some is found = absurd cc
spot_by j rate n true rows shift (Some h) some is found = mapped (moved h.first) (clock_spot rows shift h.instant rate) (found refl h is)
spot_by j rate n false rows shift (Some h) some is found = refl

-- ---- the item

copy_known : (shift : ℤ) (p : PacketJournal) (plan : ListenPlan) (records : List Record) (place n : ℕ) (made : MadeItem) → HearsTalker shift p plan records → IsAudioKind p.times.kind → slice_get (items_in plan records) place ≡ Some made
    → (copy : IsCopyOf p plan.lead n made.last) → IsKnownCopy p plan records place (record { number = n; arrival = copy.arrival }) → is_known (schedule_plan plan) (prefix_of (schedule_plan plan) (entries_in plan records) place) made.entry ≡ true
copy_known shift p plan records place n made h heard there copy k =
    let sp = schedule_plan plan in
    let ds = deliveries_of plan records in
    let es = entries_in plan records in
    let all = others shift p plan records h heard in
    let is = followed shift p plan records h heard in
    let items : items_of ds ≡ map made_of_one ds = items_other ds all in
    let one = one_at ds place made (subst (λ (l : List MadeItem). slice_get l place ≡ Some made) items there) in
    let d = one.delivery in
    let shows_all = all_shown plan.stream plan.clock records in
    let last : d ≡ made.last = ap (λ (m : MadeItem). m.last) one.same in
    let shows : Shows made.last = subst Shows last (at_place Shows ds place d shows_all one.there) in
    let packet = sent p.times n made.last.frame copy.arrival (carried (p.packet n)) in
    let entry : made.entry ≡ OfItem (OfPacket packet) = sym (ap (λ (m : MadeItem). m.entry) one.same) ∙ (ap entry_of last ∙ copy_entry shift p plan.lead n made.last h.conforming heard copy shows) in
    let size : ℕ = place + plan.look + 1 in
    let prefix = prefix_of sp es place in
    let prefix_is : prefix ≡ map entry_of (take size ds) = ap (λ (l : List MadeItem). take size (map made_entry l)) items ∙ take_entries size ds in
    let from = taken_from p plan.lead size k.origins ds k.from in
    let came_shows = All-take Shows size ds shows_all in
    let came = take size k.origins in
    let stamps : heads.stamps_of prefix ≡ stamps_in p.times (stream_numbers came) = ap heads.stamps_of prefix_is ∙ stamps_are shift p plan.lead came (take size ds) h.conforming heard from came_shows in
    let rows : AreRows p.times.clock shift (clock_numbers came) (filter_map row_of prefix) =
    subst (λ (l : List Entry). AreRows p.times.clock shift (clock_numbers came) (filter_map row_of l)) (sym prefix_is) (rows_are shift p plan.lead came (take size ds) h.conforming heard from came_shows) in
    let true_ones = prefix_true (items_in plan records) shift p plan.lead prefix (λ audio. is.audio) (All-take (IsTrueEntry (items_in plan records) shift p plan.lead) size es (entries_true shift p plan records h)) in
    let head = head_known p.times sp n made.last.frame copy.arrival (carried (p.packet n)) prefix (stream_numbers came) is.audio copy.delivered true_ones.stamps stamps k.is.timed in
    let true_head = head_true p.times sp n made.last.frame copy.arrival (carried (p.packet n)) prefix is.audio copy.delivered true_ones.stamps in
    let line : is_some plan.clock ≡ true → (x : Head) → head_of p.times n ≡ Some x → clock_spot (filter_map row_of prefix) plan.shift x.instant p.times.rate ≢ None =
    λ on x e. line_of (filter_map row_of prefix) (clock_numbers came) (is.shifted on) rows x (k.is.covered on x e) in
    subst (λ (e : Entry). is_known sp prefix e ≡ true) (sym entry) (spot_by p.times p.times.rate n (is_some plan.clock) (filter_map row_of prefix) plan.shift (heads.head_of sp prefix packet) head true_head line)
  where
    line_of : (rows : List ClockRow) (ms : List ℕ) → plan.shift ≡ shift → AreRows p.times.clock shift ms rows → (x : Head) → IsCoveredBy p.times.clock plan.shift p.times.rate ms x.instant → clock_spot rows plan.shift x.instant p.times.rate ≢ None
    line_of rows ms same are x by = covered_line p.times.clock plan.shift p.times.rate ms rows x.instant h.conforming.times.clock (subst (λ (s : ℤ). AreRows p.times.clock s ms rows) (sym same) are) by

unit_known : (plan : SchedulePlan) (prefix : List Entry) (made : MadeItem) → IsKnownUnit made → is_known plan prefix made.entry ≡ true
unit_known plan prefix made u = rw u.is refl

known_by : (kind : Kind) (shift : ℤ) (p : PacketJournal) (plan : ListenPlan) (records : List Record) (place n : ℕ) (made : MadeItem) → p.times.kind ≡ kind → HearsTalker shift p plan records → slice_get (items_in plan records) place ≡ Some made
    → (copy : IsCopyOf p plan.lead n made.last) → IsKnownItem kind p plan records place (record { number = n; arrival = copy.arrival }) made → is_known (schedule_plan plan) (prefix_of (schedule_plan plan) (entries_in plan records) place) made.entry ≡ true
known_by DenseAaf shift p plan records place n made e h there copy k = copy_known shift p plan records place n made h (rw e tt) there copy k
known_by SparseAaf shift p plan records place n made e h there copy k = copy_known shift p plan records place n made h (rw e tt) there copy k
known_by (Am824 interval dbc) shift p plan records place n made e h there copy k = copy_known shift p plan records place n made h (rw e tt) there copy k
known_by (H264 part) shift p plan records place n made e h there copy k = unit_known (schedule_plan plan) (prefix_of (schedule_plan plan) (entries_in plan records) place) made k

pub item_known : (shift : ℤ) (p : PacketJournal) (plan : ListenPlan) (records : List Record) (place n : ℕ) (made : MadeItem) → HearsTalker shift p plan records → slice_get (items_in plan records) place ≡ Some made
    → (copy : IsCopyOf p plan.lead n made.last) → IsKnownItem p.times.kind p plan records place (record { number = n; arrival = copy.arrival }) made → is_known (schedule_plan plan) (prefix_of (schedule_plan plan) (entries_in plan records) place) made.entry ≡ true
item_known shift p plan records place n made h there copy k = known_by p.times.kind shift p plan records place n made refl h there copy k

-- ---- without a clock, the samples of a stamped packet can be timed

pub audio_item : (kind : Kind) (p : PacketJournal) (plan : ListenPlan) (records : List Record) (place : ℕ) (c : Copy) (made : MadeItem) → IsAudioKind kind → IsKnownCopy p plan records place c → IsKnownItem kind p plan records place c made
audio_item DenseAaf p plan records place c made heard k = k
audio_item SparseAaf p plan records place c made heard k = k
audio_item (Am824 interval dbc) p plan records place c made heard k = k
audio_item (H264 part) p plan records place c made heard k = absurd heard

pub unit_item_known : (kind : Kind) (part : ℕ → Part) (p : PacketJournal) (plan : ListenPlan) (records : List Record) (place : ℕ) (c : Copy) (made : MadeItem) → kind ≡ H264 part → IsKnownUnit made → IsKnownItem kind p plan records place c made
unit_item_known kind part p plan records place c made e u = rw e u

pub origins_of : (shift : ℤ) (p : PacketJournal) (plan : ListenPlan) (records : List Record) → (h : HearsTalker shift p plan records) → AreFrom p plan.lead h.delivered.origins (deliveries_of plan records)
origins_of shift p plan records h = let copies = h.delivered.copies in rw h.stream copies
