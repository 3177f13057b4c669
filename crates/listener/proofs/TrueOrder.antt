-- First instants never decrease, and batches with equal first instants are in the order of the items.
use Rattle.std.proofs.Common.{◌≡◌, inl, inr, ℕ, zero, suc, ◌≤◌, Bool, true, false, ℤ, ◌<ℤ◌, List, [], ◌∷◌, ◌++◌, All, length, refl, sym, ◌∙◌, subst, arith, append_assoc}
use Rattle.std.specs.Prelude.{◌<◌, ◌==◌, ⊤, if◌then◌else◌, Option, Some, None, AllPairs, map, slice_get}
use Rattle.std.specs.List.{AllByRecursion}
use Rattle.std.proofs.lemmas.Int.{ints}
use Rattle.std.proofs.lemmas.List.Elements.{All-cons, All-head, All-nil, All-tail}
use Rattle.std.proofs.lemmas.List.Kept.{AllPairs-cons}
use Rattle.clock_track.specs.Rows.{clock_spot}
use Rattle.pcap_frames.specs.Capture.{Record}
use Rattle.sample_schedule.specs.declared.accepted.Accepted.{Accepted}
use Rattle.sample_schedule.specs.Batches.{Presented}
use Rattle.sample_schedule.specs.Laws.{IsBefore, Pairwise, presented}
use Rattle.sample_schedule.specs.Schedule.{Presents, given}
use Rattle.sample_schedule.specs.Verdicts.{first_instant}
use Rattle.sample_schedule.proofs.LawLemmas.{presented-ordered}
use Rattle.packet_journal.specs.Deliveries.{Delivery}
use Rattle.packet_journal.specs.Packets.{PacketJournal}
use Rattle.listener.specs.declared.plan.ListenPlan.{ListenPlan}
use Rattle.listener.specs.Heard.{deliveries_of, schedule_plan, shown_of}
use Rattle.crf_format.specs.Crf.{crf_subtype}
use Rattle.cvf_format.specs.Cvf.{cvf_subtype}
use Rattle.cvf_format.specs.declared.piece.Piece.{Piece}
use Rattle.cvf_format.specs.declared.piece.Piece.TheVariants.{Whole, Held, Lost}
use Rattle.cvf_format.specs.WholeOrBroken.{given_up, piece, reason}
use Rattle.sample_schedule.specs.declared.shown.Reason.{Reason}
use Rattle.sample_schedule.specs.declared.shown.Reason.TheVariants.{Broken as BrokenUnit}
use Rattle.listener.specs.Items.{MadeItem, entries, events_to, flagged, given_after, given_by, given_up_by, items_of, left_at_end, lost_for, made_of_one, own_by, piece_by, unit_by, video_by}
use Rattle.listener.specs.Units.{flaw_of, in_stream, last_ones, waiting}
use Rattle.listener.specs.Laws.{HearsTalker, ComesBefore, presented_of}
use Rattle.listener.proofs.Shown.{IsPlaced, Rising, all_placed, deliveries_rise, is_presentable}
use Rattle.listener.proofs.TrueList.{batches_are, given_true}

-- The accepted batch's instant is the batch's first instant, and the batch is made of the item at index `a.place`.
record IsPut (ms : List MadeItem) (a : Accepted) : Type 0 where
  instant : a.instant ≡ first_instant a.batch
  placed : IsPlaced ms (Presents a)

-- the items that can be presented have increasing frame numbers
unfoldable RisingItems : List MadeItem → Type 0
RisingItems ms = (i k : ℕ) (m n : MadeItem) → slice_get ms i ≡ Some m → slice_get ms k ≡ Some n → is_presentable m.entry ≡ true → is_presentable n.entry ≡ true → i < k → m.last.frame < n.last.frame

-- ---- the items are in the order of their last deliveries

-- the deliveries have increasing frame numbers, all of them at least `low`
Climbs : ℕ → List Delivery → Type 0
Climbs low [] = ⊤
Climbs low (d ∷ ds) = (low ≤ d.frame) × Climbs (suc d.frame) ds

climbs : (low : ℕ) (ds : List Delivery) → Rising ds → ((k : ℕ) (x : Delivery) → slice_get ds k ≡ Some x → low ≤ x.frame) → Climbs low ds
unfolding Climbs Rising
climbs low [] rises above = tt
climbs low (d ∷ ds) rises above = (above 0 d refl, climbs (suc d.frame) ds (λ i k x y e f lt. rises (suc i) (suc k) x y e f (omega arith)) (λ k x e. rises 0 (suc k) d x refl e (omega arith)))

abbrev next_low : Bool → ℕ → ℕ → ℕ
next_low presentable low frame = if presentable then suc frame else low

-- the items that can be presented have increasing frame numbers, all of them at least `low`
Ascends : ℕ → List MadeItem → Type 0
Ascends low [] = ⊤
Ascends low (m ∷ ms) = (is_presentable m.entry ≡ true → low ≤ m.last.frame) × Ascends (next_low (is_presentable m.entry) low m.last.frame) ms

lower : (low high : ℕ) (ms : List MadeItem) → low ≤ high → Ascends high ms → Ascends low ms
unfolding Ascends
lower low high [] under all = tt
lower low high (m ∷ ms) under all = ((λ e. let h = all.0 e in omega arith), by (is_presentable m.entry) (lower low high ms under) all.1)
  where
    by : (b : Bool) → (Ascends high ms → Ascends low ms) → Ascends (next_low b high m.last.frame) ms → Ascends (next_low b low m.last.frame) ms
    by true more rest = rest
    by false more rest = more rest

one_ascends : (low : ℕ) (m : MadeItem) (ms : List MadeItem) → low ≤ m.last.frame → Ascends (suc m.last.frame) ms → Ascends low (m ∷ ms)
unfolding Ascends
one_ascends low m ms above rest = ((λ e. above), by (is_presentable m.entry))
  where
    by : (b : Bool) → Ascends (next_low b low m.last.frame) ms
    by true = rest
    by false = lower low (suc m.last.frame) ms (omega (arith, above)) rest

flags_ascend : (low : ℕ) (why : Reason) (ds : List Delivery) (ms : List MadeItem) → Ascends low ms → Ascends low (map (flagged why) ds ++ ms)
unfolding Ascends
flags_ascend low why [] ms all = all
flags_ascend low why (d ∷ ds) ms all = ((λ e. absurd cc), flags_ascend low why ds ms all)

own_ascends : (low : ℕ) (before : List Delivery) (d : Delivery) (ms : List MadeItem) → low ≤ d.frame → Ascends (suc d.frame) ms → Ascends low (own_by before d ++ ms)
own_ascends low before d ms above rest = own (d.subtype == cvf_subtype)
  where
    by_piece : (pk : Piece) → Ascends low (piece_by before d pk ++ ms)
    by_piece Whole = one_ascends low (unit_by before d) ms above rest
    by_piece Held = lower low (suc d.frame) ms (omega (arith, above)) rest
    by_piece (Lost why) = one_ascends low (flagged (lost_for why) d) ms above rest

    by_flaw : (o : Option Reason) → Ascends low (video_by before d o ++ ms)
    by_flaw None = by_piece (piece (events_to before d))
    by_flaw (Some reason) = one_ascends low (flagged reason d) ms above rest

    own : (b : Bool) → Ascends low ((if b then video_by before d (flaw_of d) else made_of_one d ∷ []) ++ ms)
    own true = by_flaw (flaw_of d)
    own false = one_ascends low (made_of_one d) ms above rest

given_ascends : (low : ℕ) (before : List Delivery) (d : Delivery) (ms : List MadeItem) → low ≤ d.frame → Ascends (suc d.frame) ms → Ascends low (given_by before d ++ ms)
given_ascends low before d ms above rest = by (d.subtype == crf_subtype)
  where
    by : (b : Bool) → Ascends low ((if b then made_of_one d ∷ [] else given_up_by before d ++ own_by before d) ++ ms)
    by true = one_ascends low (made_of_one d) ms above rest
    by false =
        subst (λ (l : List MadeItem). Ascends low l) (sym (append_assoc (given_up_by before d) (own_by before d) ms))
        (flags_ascend low (lost_for (reason (events_to before d))) (last_ones (length (given_up (events_to before d))) (in_stream before)) (own_by before d ++ ms) (own_ascends low before d ms above rest))

after_ascends : (low : ℕ) (before ds : List Delivery) (ms : List MadeItem) → Climbs low ds → ((n : ℕ) → Ascends n ms) → Ascends low (given_after before ds ++ ms)
unfolding Climbs
after_ascends low before [] ms climb all = all low
after_ascends low before (d ∷ ds) ms climb all =
    subst (λ (l : List MadeItem). Ascends low l) (sym (append_assoc (given_by before d) (given_after (before ++ d ∷ []) ds) ms))
    (given_ascends low before d (given_after (before ++ d ∷ []) ds ++ ms) climb.0 (after_ascends (suc d.frame) (before ++ d ∷ []) ds ms climb.1 all))

none_ascend : (low : ℕ) (why : Reason) (ds : List Delivery) → Ascends low (map (flagged why) ds)
unfolding Ascends
none_ascend low why [] = tt
none_ascend low why (d ∷ ds) = ((λ e. absurd cc), none_ascend low why ds)

above_at : (low : ℕ) (ms : List MadeItem) (k : ℕ) (n : MadeItem) → Ascends low ms → slice_get ms k ≡ Some n → is_presentable n.entry ≡ true → low ≤ n.last.frame
unfolding Ascends
above_at low [] k n all e is = absurd cc
above_at low (m ∷ ms) zero n all e is = let same : m ≡ n = cc in subst (λ (x : MadeItem). is_presentable x.entry ≡ true → low ≤ x.last.frame) same all.0 is
above_at low (m ∷ ms) (suc k) n all e is = by (is_presentable m.entry) refl (above_at (next_low (is_presentable m.entry) low m.last.frame) ms k n all.1 e is)
  where
    by : (b : Bool) → is_presentable m.entry ≡ b → next_low b low m.last.frame ≤ n.last.frame → low ≤ n.last.frame
    by true f more = let here = all.0 f in omega arith
    by false f more = more

ascending_rise : (low : ℕ) (ms : List MadeItem) → Ascends low ms → RisingItems ms
unfolding Ascends RisingItems
ascending_rise low [] all i k m n e f first second lt = absurd cc
ascending_rise low (x ∷ ms) all i zero m n e f first second lt = absurd (omega arith)
ascending_rise low (x ∷ ms) all zero (suc k) m n e f first second lt =
    let same : x ≡ m = cc in
    let is : is_presentable x.entry ≡ true = subst (λ (y : MadeItem). is_presentable y.entry ≡ true) (sym same) first in
    let above = above_at (next_low true low x.last.frame) ms k n (subst (λ (b : Bool). Ascends (next_low b low x.last.frame) ms) is all.1) f second in
    subst (λ (y : MadeItem). y.last.frame < n.last.frame) same (omega (arith, above))
ascending_rise low (x ∷ ms) all (suc i) (suc k) m n e f first second lt = ascending_rise (next_low (is_presentable x.entry) low x.last.frame) ms all.1 i k m n e f first second (omega arith)

items_rise : (ds : List Delivery) → Rising ds → RisingItems (items_of ds)
items_rise ds rises =
    ascending_rise 0 (items_of ds) (after_ascends 0 [] ds (left_at_end ds) (climbs 0 ds rises (λ k x e. omega arith)) (λ n. none_ascend n BrokenUnit (waiting ds)))

-- ---- what is presented

earlier : (x y a b : ℤ) → x ≡ a → y ≡ b → x <ℤ y → a <ℤ b
earlier x y a b e f h = omega (arith, ints)

stands : (ms : List MadeItem) (a b : Accepted) → RisingItems ms → IsPut ms a → IsPut ms b → IsBefore a b → ComesBefore a.batch b.batch
unfolding RisingItems
stands ms a b rises s t (inl h) = inl (earlier a.instant b.instant (first_instant a.batch) (first_instant b.batch) s.instant t.instant h)
stands ms a b rises s t (inr h) =
    let before = rises a.place b.place s.placed.made t.placed.made s.placed.there t.placed.there (s.placed.presentable tt) (t.placed.presentable tt) h.1 in
    inr (sym s.instant ∙ (h.0 ∙ t.instant), rw (s.placed.frame, t.placed.frame) before)

stands_all : (ms : List MadeItem) (a : Accepted) (rest : List Accepted) → RisingItems ms → IsPut ms a → All (IsPut ms) rest → AllByRecursion (IsBefore a) rest → All (ComesBefore a.batch) (map (λ (b : Accepted). b.batch) rest)
stands_all ms a [] rises s all order = All-nil (ComesBefore a.batch)
stands_all ms a (b ∷ rest) rises s all order =
    All-cons (ComesBefore a.batch) b.batch (map (λ (b : Accepted). b.batch) rest) (stands ms a b rises s (All-head (IsPut ms) b rest all) order.0)
    (stands_all ms a rest rises s (All-tail (IsPut ms) b rest all) order.1)

in_order : (ms : List MadeItem) (xs : List Accepted) → RisingItems ms → All (IsPut ms) xs → Pairwise IsBefore xs → AllPairs ComesBefore (map (λ (a : Accepted). a.batch) xs)
in_order ms [] rises all order = λ i j d lt within. absurd (omega arith)
in_order ms (a ∷ rest) rises all order =
    AllPairs-cons ComesBefore a.batch (map (λ (b : Accepted). b.batch) rest)
    (stands_all ms a rest rises (All-head (IsPut ms) a rest all) (All-tail (IsPut ms) a rest all) order.0)
    (in_order ms rest rises (All-tail (IsPut ms) a rest all) order.1)

pub never_falls : (shift : ℤ) (p : PacketJournal) (plan : ListenPlan) (records : List Record) → HearsTalker shift p plan records → AllPairs ComesBefore (presented_of (shown_of plan records))
never_falls shift p plan records h =
    let ds = deliveries_of plan records in
    let gs = given clock_spot (schedule_plan plan) (entries ds) in
    let all_true = given_true shift p plan records h in
    let places = all_placed clock_spot (schedule_plan plan) ds in
    subst (λ (l : List Presented). AllPairs ComesBefore l) (sym (batches_are gs))
    (in_order (items_of ds) (presented gs) (items_rise ds (deliveries_rise plan records)) (λ k a within. record { instant = (all_true k a within).instant; placed = places k a within }) (presented-ordered clock_spot (schedule_plan plan) (entries ds)))
