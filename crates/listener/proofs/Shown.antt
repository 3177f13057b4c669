-- Each packet of the stream is shown once, as its verdict says.
use Rattle.std.proofs.Common.{◌≡◌, ℕ, zero, suc, ◌+◌, ◌<◌, ◌≤◌, Bool, true, false, cond, List, [], ◌∷◌, All, Option, Some, None, refl, sym, ap, ◌∙◌, subst, inl, inr, arith, eq-eqb}
use Rattle.std.specs.Prelude.{◌==◌, ◌-◌, ⊤, if◌then◌else◌, count_by, filter, length, map, slice_get, slice_index_or, Contains, Result, Ok, Err, IfOk}
use Rattle.std.specs.List.{enumerate_from}
use Rattle.std.proofs.lemmas.Bool.{cases_lt}
use Rattle.std.proofs.lemmas.Bool.{eqb-true}
use Rattle.std.proofs.lemmas.List.Elements.{All-append, All-cons, All-contains_itself, All-nil}
use Rattle.std.proofs.lemmas.Option.{slice_get-get_or, slice_get_within}
use Rattle.avtp_base.proofs.RowLemmas.{unequal}
use Rattle.avtp_base.specs.declared.refusal.Refusal.{Refusal}
use Rattle.aaf_format.specs.Aaf.{aaf_of, aaf_refusal, aaf_subtype}
use Rattle.crf_format.specs.Crf.{crf_subtype}
use Rattle.iec61883_format.specs.Iec.{iec_of, iec_refusal}
use Rattle.clock_track.specs.Rows.{clock_spot}
use Rattle.pcap_frames.specs.Capture.{Record}
use Rattle.sample_schedule.specs.declared.accepted.Accepted.{Accepted}
use Rattle.sample_schedule.specs.declared.entry.Entry.{Entry}
use Rattle.sample_schedule.specs.declared.entry.Entry.TheVariants.{Item as OfItem, Clock as OfClock}
use Rattle.sample_schedule.specs.declared.item.Item.{Item}
use Rattle.sample_schedule.specs.declared.item.Item.TheVariants.{Packet as OfPacket, Unit as OfUnit, Bad as OfBad}
use Rattle.sample_schedule.specs.declared.plan.SchedulePlan.{SchedulePlan}
use Rattle.sample_schedule.specs.declared.shown.Reason.{Reason}
use Rattle.sample_schedule.specs.declared.shown.Shown.{Shown}
use Rattle.sample_schedule.specs.Laws.{given_by, place_of, presented, verdict_in}
use Rattle.sample_schedule.specs.Schedule.{Given, Presents, Flags, frame_of as item_frame, given, seq_of as item_seq, shown_of as given_shown}
use Rattle.sample_schedule.specs.Verdicts.{Clock, timed, verdict}
use Rattle.sample_schedule.proofs.Judged.{In, IsJudged, all-judged, as-judged, judged-frame}
use Rattle.packet_journal.specs.Deliveries.{Delivery, delivery, is_delivered}
use Rattle.listener.specs.declared.plan.ListenPlan.{ListenPlan}
use Rattle.listener.specs.Heard.{deliveries_of, entries_in, items_in, schedule_plan, shown_of}
use Rattle.listener.specs.Items.{MadeItem, aaf_item, events_to, flagged, made_entry, unit_by, blocks_of, clock_row, entries, entry_of, iec_item, item_of, items_of, refused_or, samples_of, sources}
use Rattle.listener.specs.Laws.{IsInOneItem, IsShownItem, frame_of, shown_by, shown_of_frame, verdict_of}
use Rattle.cvf_format.specs.WholeOrBroken.{last_stretch}
use Rattle.listener.proofs.ItemKinds.{at_place}
use Rattle.listener.proofs.Made.{OfEach, all_made, count-cons, find_one, items_all, last_all, last_counts, same_place, tally}

-- ---- each record gives at most one delivery

abbrev kept : ℕ → Option ℕ → List (ℕ × Record) → List (ℕ × Record)
kept stream clock xs = filter (λ numbered. is_delivered stream clock numbered.1.bytes) xs

abbrev made : List (ℕ × Record) → List Delivery
made xs = map (λ numbered. delivery numbered.0 numbered.1) xs

abbrev counted : ℕ → Option ℕ → ℕ → List Record → List Delivery
counted stream clock n records = made (kept stream clock (enumerate_from n records))

AtLeast : ℕ → List Delivery → Type 0
AtLeast n ds = (i : ℕ) (d : Delivery) → slice_get ds i ≡ Some d → n ≤ d.frame

least_here : (n : ℕ) (r : Record) (rest : List (ℕ × Record)) (b : Bool) → AtLeast (n + 1) (made rest) → AtLeast n (made (if b then (n, r) ∷ rest else rest))
unfolding AtLeast
least_here n r rest true above zero d e = let same : delivery n r ≡ d = cc in subst (λ (x : Delivery). n ≤ x.frame) same (omega arith)
least_here n r rest true above (suc i) d e = let h = above i d e in omega arith
least_here n r rest false above i d e = let h = above i d e in omega arith

least : (stream : ℕ) (clock : Option ℕ) (n : ℕ) (records : List Record) → AtLeast n (counted stream clock n records)
unfolding AtLeast
least stream clock n [] i d e = absurd cc
least stream clock n (r ∷ records) i d e = least_here n r (kept stream clock (enumerate_from (n + 1) records)) (is_delivered stream clock r.bytes) (least stream clock (n + 1) records) i d e

unfoldable pub Rising : List Delivery → Type 0
Rising ds = (i k : ℕ) (d e : Delivery) → slice_get ds i ≡ Some d → slice_get ds k ≡ Some e → i < k → d.frame < e.frame

one : (x y : Delivery) → Some x ≡ Some y → x ≡ y
one x y e = cc

rising_here : (n : ℕ) (r : Record) (rest : List (ℕ × Record)) (b : Bool) → AtLeast (n + 1) (made rest) → Rising (made rest) → Rising (made (if b then (n, r) ∷ rest else rest))
unfolding AtLeast Rising
rising_here n r rest true above others i zero d e f g before = absurd (omega arith)
rising_here n r rest true above others zero (suc k) d e f g before =
    let first : n ≡ d.frame = ap (λ (x : Delivery). x.frame) (one (delivery n r) d f) in let h = above k e g in omega arith
rising_here n r rest true above others (suc i) (suc k) d e f g before = others i k d e f g (omega arith)
rising_here n r rest false above others i k d e f g before = others i k d e f g before

rising : (stream : ℕ) (clock : Option ℕ) (n : ℕ) (records : List Record) → Rising (counted stream clock n records)
unfolding Rising
rising stream clock n [] i k d e f g before = absurd cc
rising stream clock n (r ∷ records) i k d e f g before =
    rising_here n r (kept stream clock (enumerate_from (n + 1) records)) (is_delivered stream clock r.bytes) (least stream clock (n + 1) records) (rising stream clock (n + 1) records) i k d e f g before

pub deliveries_rise : (plan : ListenPlan) (records : List Record) → Rising (deliveries_of plan records)
deliveries_rise plan records = rising plan.stream plan.clock 1 records

Distinct : List Delivery → Type 0
Distinct ds = (i k : ℕ) (d e : Delivery) → slice_get ds i ≡ Some d → slice_get ds k ≡ Some e → d.frame ≡ e.frame → i ≡ k

distinct : (ds : List Delivery) → Rising ds → Distinct ds
unfolding Distinct Rising
distinct ds rises i k d e f g same = elim (cases_lt i k) [
  | inl before ↦ let h = rises i k d e f g before in absurd (omega arith)
  | inr past ↦ elim (cases_lt k i) [
    | inl before ↦ let h = rises k i e d g f before in absurd (omega arith)
    | inr within ↦ omega arith
  ]
]

-- ---- the item of a delivery

-- The item has the frame number and the sequence number of the delivery.
record IsItemOf (d : Delivery) (item : Item) : Type 0 where
  frame : item_frame item ≡ d.frame
  seq : item_seq item ≡ d.seq

refused_is : (d : Delivery) (o : Option Refusal) (item : Item) → IsItemOf d item → IsItemOf d (refused_or d o item)
refused_is d None item is = is
refused_is d (Some refusal) item is = record { frame = refl; seq = refl }

kind_is : (b : Bool) (d : Delivery) → IsItemOf d (if b then aaf_item d else iec_item d)
kind_is true d = refused_is d (aaf_refusal d.packet) (samples_of d (aaf_of d.packet)) (record { frame = refl; seq = refl })
kind_is false d = refused_is d (iec_refusal d.packet) (blocks_of d (iec_of d.packet)) (record { frame = refl; seq = refl })

item_is : (d : Delivery) → IsItemOf d (item_of d)
item_is d = kind_is (d.subtype == aaf_subtype) d

shown_so : (place : ℕ) (d : Delivery) (item : Item) (r : Result Accepted Reason) → IsItemOf d item → given_shown (given_by place item r) ≡ shown_by d r
shown_so place d item (Ok a) is = refl
shown_so place d item (Err reason) is = rw (is.frame, is.seq) refl

pub item_by : (d : Delivery) (item : Item) → entry_of d ≡ OfItem item → item_of d ≡ item
item_by d item e = by (d.subtype == crf_subtype) e
  where
    by : (b : Bool) → (if b then OfClock d.arrival (clock_row d) else OfItem (item_of d)) ≡ OfItem item → item_of d ≡ item
    by true f = absurd cc
    by false f = cc

-- ---- items and their entries

-- If an entry is an item, the item has the frame number and the sequence number of the entry's last delivery.
record IsOwn (m : MadeItem) : Type 0 where
  of_last : (item : Item) → m.entry ≡ OfItem item → IsItemOf m.last item

same_item : (a b : Item) → OfItem a ≡ OfItem b → a ≡ b
same_item a b e = cc

own_is : (m : MadeItem) (a : Item) → m.entry ≡ OfItem a → IsItemOf m.last a → IsOwn m
own_is m a e is = record { of_last = λ item f. subst (IsItemOf m.last) (same_item a item (sym e ∙ f)) is }

owns : OfEach (λ d. ⊤) IsOwn
owns = record {
  one = λ d here. record { of_last = λ item e. subst (IsItemOf d) (item_by d item e) (item_is d) };
  flag = λ why d here streamed. own_is (flagged why d) _ refl (record { frame = refl; seq = refl });
  unit = λ before d all here streamed. own_is (unit_by before d) _ refl (record { frame = refl; seq = refl });
}

all_there : (ds : List Delivery) → All (λ (d : Delivery). ⊤) ds
all_there [] = All-nil (λ (d : Delivery). ⊤)
all_there (d ∷ ds) = All-cons (λ (d : Delivery). ⊤) d ds tt (all_there ds)

all_own : (ds : List Delivery) → All IsOwn (items_of ds)
all_own ds = items_all (λ d. ⊤) IsOwn ds owns (all_there ds)

-- The entry at index `n` is this item.
record IsMade (ms : List MadeItem) (n : ℕ) (item : Item) : Type 0 where
  made : MadeItem
  there : slice_get ms n ≡ Some made
  same : made.entry ≡ OfItem item

an_entry : (x y : Entry) → Some x ≡ Some y → x ≡ y
an_entry x y e = cc

made_of : (ms : List MadeItem) (n : ℕ) (item : Item) → slice_get (map made_entry ms) n ≡ Some (OfItem item) → IsMade ms n item
made_of [] n item e = absurd cc
made_of (m ∷ ms) zero item e = record { made = m; there = refl; same = an_entry m.entry (OfItem item) e }
made_of (m ∷ ms) (suc n) item e = let rest = made_of ms n item e in record { made = rest.made; there = rest.there; same = rest.same }

pub entry_at : (ms : List MadeItem) (n : ℕ) (m : MadeItem) → slice_get ms n ≡ Some m → slice_get (map made_entry ms) n ≡ Some m.entry
entry_at [] n m e = absurd cc
entry_at (x ∷ ms) zero m e = let same : x ≡ m = cc in ap (λ (y : MadeItem). Some y.entry) same
entry_at (x ∷ ms) (suc n) m e = entry_at ms n m e

-- ---- each frame is in one item

abbrev pub of_frame : ℕ → Delivery → Bool
of_frame frame d = d.frame == frame

none_of_frame : (n : ℕ) (ds : List Delivery) → ((k : ℕ) (x : Delivery) → slice_get ds k ≡ Some x → ¬ (x.frame ≡ n)) → count_by (of_frame n) ds ≡ 0
none_of_frame n [] other = refl
none_of_frame n (d ∷ ds) other =
    let here : count_by (of_frame n) (d ∷ []) ≡ 0 = rw (unequal d.frame n (other 0 d refl)) refl in
    omega (arith, count-cons (of_frame n) d ds, here, none_of_frame n ds (λ k x e. other (suc k) x e))

one_frame : (n : ℕ) (ds : List Delivery) → Rising ds → count_by (of_frame n) ds ≤ 1
unfolding Rising
one_frame n [] rises = omega arith
one_frame n (d ∷ ds) rises = by (d.frame == n) refl (one_frame n ds (λ i k x y e f lt. rises (suc i) (suc k) x y e f (omega arith)))
  where
    by : (b : Bool) → (d.frame == n) ≡ b → count_by (of_frame n) ds ≤ 1 → count_by (of_frame n) (d ∷ ds) ≤ 1
    by true e rest =
        let same = eqb-true d.frame n e in
        let here : count_by (of_frame n) (d ∷ []) ≡ 1 = rw e refl in
        let none = none_of_frame n ds (λ k x f g. let above = rises 0 (suc k) d x refl f (omega arith) in omega arith) in
        omega (arith, count-cons (of_frame n) d ds, here, none)
    by false e rest =
        let here : count_by (of_frame n) (d ∷ []) ≡ 0 = rw e refl in
        omega (arith, count-cons (of_frame n) d ds, here, rest)

some_at : (p : Delivery → Bool) (xs : List Delivery) (k : ℕ) (x : Delivery) → slice_get xs k ≡ Some x → p x ≡ true → 1 ≤ count_by p xs
some_at p [] k x e is = absurd cc
some_at p (y ∷ xs) zero x e is = let same : y ≡ x = cc in let here : count_by p (y ∷ []) ≡ 1 = rw (same, is) refl in omega (arith, count-cons p y xs, here)
some_at p (y ∷ xs) (suc k) x e is = omega (arith, count-cons p y xs, some_at p xs k x e is)

contained_at : (xs : List Delivery) (d : Delivery) → (c : Contains xs d) → slice_get xs c.0 ≡ Some d
contained_at xs d (k, within, there) = slice_get-get_or xs k d within ∙ ap Some there

-- A delivery that is in the list and passes the test.
record IsFound (p : Delivery → Bool) (xs : List Delivery) : Type 0 where
  place : ℕ
  found : Delivery
  there : slice_get xs place ≡ Some found
  passes : p found ≡ true

find : (p : Delivery → Bool) (xs : List Delivery) → 1 ≤ count_by p xs → IsFound p xs
find p [] some = absurd (omega arith)
find p (x ∷ xs) some = by (p x) refl (find p xs)
  where
    by : (b : Bool) → p x ≡ b → (1 ≤ count_by p xs → IsFound p xs) → IsFound p (x ∷ xs)
    by true e later = record { place = 0; found = x; there = refl; passes = e }
    by false e later =
        let here : count_by p (x ∷ []) ≡ 0 = rw e refl in
        let rest = later (omega (arith, count-cons p x xs, here, some)) in
        record { place = suc rest.place; found = rest.found; there = rest.there; passes = rest.passes }

contains_at : (xs : List Delivery) (k : ℕ) (d : Delivery) → slice_get xs k ≡ Some d → Contains xs d
contains_at xs k d e =
    let within = slice_get_within xs k d e in
    (k, within, one (slice_index_or xs k d) d (sym (slice_get-get_or xs k d within) ∙ e))

abbrev AreIn : List Delivery → MadeItem → Type 0
AreIn ds m = All (Contains ds) (sources m)

all_in : (ds : List Delivery) → All (AreIn ds) (items_of ds)
all_in ds = items_all (Contains ds) (AreIn ds) ds each (All-contains_itself ds)
  where
    each : OfEach (Contains ds) (AreIn ds)
    each = record {
      one = λ d here. All-cons (Contains ds) d [] here (All-nil (Contains ds));
      flag = λ why d here streamed. All-cons (Contains ds) d [] here (All-nil (Contains ds));
      unit = λ before d all here streamed.
          All-append (Contains ds) (unit_by before d).earlier (d ∷ []) (last_all (Contains ds) (length (last_stretch (events_to before d)) - 1) before all) (All-cons (Contains ds) d [] here (All-nil (Contains ds)));
    }

frames_few : (n : ℕ) (ds : List Delivery) → Rising ds → tally (of_frame n) (items_of ds) ≤ 1
frames_few n ds rises = omega (arith, all_made (of_frame n) ds, one_frame n ds rises)

itself : (n : ℕ) → (n == n) ≡ true
itself n = eq-eqb n n refl

same_item_at : (ds : List Delivery) (i k : ℕ) (m n : MadeItem) → Rising ds → slice_get (items_of ds) i ≡ Some m → slice_get (items_of ds) k ≡ Some n → m.last.frame ≡ n.last.frame → i ≡ k
same_item_at ds i k m n rises e f same =
    same_place (of_frame n.last.frame) (items_of ds) i k m n (frames_few n.last.frame ds rises) e f
    (last_counts (of_frame n.last.frame) m (eq-eqb m.last.frame n.last.frame same)) (last_counts (of_frame n.last.frame) n (itself n.last.frame))

in_one_item : (ds : List Delivery) (place : ℕ) (d : Delivery) → Rising ds → slice_get ds place ≡ Some d → IsInOneItem (items_of ds) d
unfolding Distinct
in_one_item ds place d rises at =
    let p = of_frame d.frame in
    let items = items_of ds in
    let found = find_one p items (omega (arith, all_made p ds, some_at p ds place d at (itself d.frame))) in
    let source = find p (sources found.item) found.some in
    let listed = at_place (Contains ds) (sources found.item) source.place source.found (at_place (AreIn ds) items found.place found.item (all_in ds) found.there) source.there in
    let here : slice_get ds listed.0 ≡ Some source.found = contained_at ds source.found listed in
    let spot = distinct ds rises listed.0 place source.found d here at (eqb-true source.found.frame d.frame source.passes) in
    let same : source.found ≡ d = one source.found d (sym here ∙ (ap (slice_get ds) spot ∙ at)) in
    record {
      place = found.place;
      item = found.item;
      there = found.there;
      in_it = subst (Contains (sources found.item)) same (contains_at (sources found.item) source.place source.found source.there);
      only = λ k other there in_it.
          same_place p items k found.place other found.item (frames_few d.frame ds rises) there found.there
          (some_at p (sources other) in_it.0 d (contained_at (sources other) d in_it) (itself d.frame)) found.some;
    }

pub each_in_one_item : (plan : ListenPlan) (records : List Record) → All (IsInOneItem (items_in plan records)) (deliveries_of plan records)
each_in_one_item plan records k d within =
    let ds = deliveries_of plan records in
    in_one_item ds k (slice_index_or ds k d) (deliveries_rise plan records) (slice_get-get_or ds k d within)

-- ---- what is shown of a frame is what is shown of the frame's item

given_frame : (place : ℕ) (item : Item) (r : Result Accepted Reason) → IfOk r (λ a. a.batch.frame ≡ item_frame item) → frame_of (given_shown (given_by place item r)) ≡ item_frame item
given_frame place item (Ok a) so = so
given_frame place item (Err reason) so = refl

same_tests : (a b c d : ℕ) → (a ≡ b → c ≡ d) → (c ≡ d → a ≡ b) → (a == b) ≡ (c == d)
same_tests a b c d to from = elim (cases_lt a b) [
  | inl h ↦ apart (λ e. omega arith)
  | inr h ↦ elim (cases_lt b a) [
    | inl g ↦ apart (λ e. omega arith)
    | inr g ↦ let e : a ≡ b = omega arith in rw (eq-eqb a b e, eq-eqb c d (to e)) refl
  ]
]
  where
    apart : ¬ (a ≡ b) → (a == b) ≡ (c == d)
    apart other = rw (unequal a b other, unequal c d (λ e. other (from e))) refl

abbrev pub is_presentable : Entry → Bool
is_presentable (OfItem (OfPacket packet)) = true
is_presentable (OfItem (OfUnit whole)) = true
is_presentable (OfItem (OfBad bad)) = false
is_presentable (OfClock arrival row) = false

abbrev pub IsPresents : Given → Type 0
IsPresents (Presents a) = ⊤
IsPresents (Flags place item reason) = ⊥

not_bad : (clock : Clock) (plan : SchedulePlan) (es : List Entry) (place : ℕ) (item : Item) → IsPresents (given_by place item (verdict_in clock plan es place item)) → is_presentable (OfItem item) ≡ true
unfolding timed verdict
not_bad clock plan es place (OfPacket packet) is = refl
not_bad clock plan es place (OfUnit whole) is = refl
not_bad clock plan es place (OfBad bad) is = absurd is

shown_as : (plan : ListenPlan) (records : List Record) (g : Given) → IsJudged clock_spot (schedule_plan plan) (entries_in plan records) g → IsShownItem plan records (given_shown g)
shown_as plan records g j =
    let ms = items_in plan records in
    let m = made_of ms (place_of g) j.item j.there in
    let own = (at_place IsOwn ms (place_of g) m.made (all_own (deliveries_of plan records)) m.there).of_last j.item m.same in
    record {
      place = place_of g;
      made = m.made;
      item = j.item;
      there = m.there;
      is = m.same;
      same = sym (ap given_shown j.same) ∙ shown_so (place_of g) m.made.last j.item (verdict_of plan records (place_of g) j.item) own;
    }

shown_by_each : (P : Shown → Type 0) (gs : List Given) → ((g : Given) → In gs g → P (given_shown g)) → All P (map given_shown gs)
unfolding In
shown_by_each P [] each = All-nil P
shown_by_each P (g ∷ gs) each = All-cons P (given_shown g) (map given_shown gs) (each g (inl refl)) (shown_by_each P gs (λ h here. each h (inr here)))

pub no_other_shown : (plan : ListenPlan) (records : List Record) → All (IsShownItem plan records) (shown_of plan records)
no_other_shown plan records =
    shown_by_each (IsShownItem plan records) (given clock_spot (schedule_plan plan) (entries_in plan records))
    (λ g here. shown_as plan records g (all-judged clock_spot (schedule_plan plan) (entries_in plan records) g here))

-- The shown item belongs to an entry at some index, and has that entry's frame number.
pub record IsPlaced (ms : List MadeItem) (g : Given) : Type 0 where
  pub made : MadeItem
  pub there : slice_get ms (place_of g) ≡ Some made
  pub frame : frame_of (given_shown g) ≡ made.last.frame
  pub presentable : IsPresents g → is_presentable made.entry ≡ true

placed : (clock : Clock) (plan : SchedulePlan) (ms : List MadeItem) (g : Given) → All IsOwn ms → IsJudged clock plan (map made_entry ms) g → IsPlaced ms g
placed clock plan ms g own j =
    let m = made_of ms (place_of g) j.item j.there in
    let is = (at_place IsOwn ms (place_of g) m.made own m.there).of_last j.item m.same in
    record {
      made = m.made;
      there = m.there;
      frame = ap (λ (h : Given). frame_of (given_shown h)) (sym j.same)
          ∙ (given_frame (place_of g) j.item (verdict_in clock plan (map made_entry ms) (place_of g) j.item) (judged-frame clock plan (map made_entry ms) (place_of g) j.item)
          ∙ is.frame);
      presentable = λ presents. rw m.same (not_bad clock plan (map made_entry ms) (place_of g) j.item (subst IsPresents (sym j.same) presents));
    }

placed_by : (ms : List MadeItem) (gs : List Given) → ((g : Given) → In gs g → IsPlaced ms g) → All (λ (a : Accepted). IsPlaced ms (Presents a)) (presented gs)
unfolding In
placed_by ms [] each = All-nil (λ (a : Accepted). IsPlaced ms (Presents a))
placed_by ms (Presents a ∷ gs) each = All-cons (λ (a : Accepted). IsPlaced ms (Presents a)) a (presented gs) (each (Presents a) (inl refl)) (placed_by ms gs (λ g h. each g (inr h)))
placed_by ms (Flags place item reason ∷ gs) each = placed_by ms gs (λ g h. each g (inr h))

pub all_placed : (clock : Clock) (plan : SchedulePlan) (ds : List Delivery) → All (λ (a : Accepted). IsPlaced (items_of ds) (Presents a)) (presented (given clock plan (entries ds)))
all_placed clock plan ds = placed_by (items_of ds) (given clock plan (entries ds)) (λ g h. placed clock plan (items_of ds) g (all_own ds) (all-judged clock plan (entries ds) g h))

one_test : (clock : Clock) (plan : SchedulePlan) (ds : List Delivery) (place : ℕ) (m : MadeItem) (g : Given) → Rising ds → slice_get (items_of ds) place ≡ Some m → IsJudged clock plan (entries ds) g
    → (frame_of (given_shown g) == m.last.frame) ≡ (place_of g == place)
one_test clock plan ds place m g rises at j =
    let n = placed clock plan (items_of ds) g (all_own ds) j in
    same_tests (frame_of (given_shown g)) m.last.frame (place_of g) place
    (λ e. same_item_at ds (place_of g) place n.made m rises n.there at (sym n.frame ∙ e))
    (λ e. n.frame ∙ ap (λ (x : MadeItem). x.last.frame) (one_made n.made m (sym n.there ∙ (ap (slice_get (items_of ds)) e ∙ at))))
  where
    one_made : (x y : MadeItem) → Some x ≡ Some y → x ≡ y
    one_made x y e = cc

filter_map_is : (frame : ℕ) (gs : List Given) → shown_of_frame frame (map given_shown gs) ≡ map given_shown (filter (λ g. frame_of (given_shown g) == frame) gs)
filter_map_is frame [] = refl
filter_map_is frame (g ∷ gs) = elim (frame_of (given_shown g) == frame) as (λ b. cond b (given_shown g ∷ shown_of_frame frame (map given_shown gs)) (shown_of_frame frame (map given_shown gs)) ≡ map given_shown (cond b (g ∷ filter (λ g. frame_of (given_shown g) == frame) gs) (filter (λ g. frame_of (given_shown g) == frame) gs))) [
  | true ↦ ap (λ (l : List Shown). given_shown g ∷ l) (filter_map_is frame gs)
  | false ↦ filter_map_is frame gs
]

same_filter : (p q : Given → Bool) (gs : List Given) → ((g : Given) → In gs g → p g ≡ q g) → filter p gs ≡ filter q gs
unfolding In
same_filter p q [] same = refl
same_filter p q (g ∷ gs) same = rw (same g (inl refl), same_filter p q gs (λ h at. same h (inr at))) refl

-- ---- the items of a capture

pub item_shown : (plan : ListenPlan) (records : List Record) (place : ℕ) (made : MadeItem) (item : Item) → slice_get (items_in plan records) place ≡ Some made → made.entry ≡ OfItem item
    → shown_of_frame made.last.frame (shown_of plan records) ≡ shown_by made.last (verdict_of plan records place item) ∷ []
item_shown plan records place made item at is =
    let ds = deliveries_of plan records in
    let sp = schedule_plan plan in
    let gs = given clock_spot sp (entries ds) in
    let own = (at_place IsOwn (items_of ds) place made (all_own ds) at).of_last item is in
    let there = entry_at (items_of ds) place made at ∙ ap Some is in
    filter_map_is made.last.frame gs
    ∙ (ap (map given_shown) (same_filter (λ g. frame_of (given_shown g) == made.last.frame) (λ g. place_of g == place) gs (λ g here. one_test clock_spot sp ds place made g (deliveries_rise plan records) at (all-judged clock_spot sp (entries ds) g here)))
    ∙ (ap (map given_shown) (as-judged clock_spot sp (entries ds) place item there)
    ∙ ap (λ (s : Shown). s ∷ []) (shown_so place made.last item (verdict_of plan records place item) own)))
