-- The due items of the first records of a capture keep the promises of the headline law, whatever records follow.
use Rattle.std.proofs.Common.{◌≡◌, ℕ, zero, suc, ◌+◌, ◌<◌, Bool, true, false, ℤ, List, [], ◌∷◌, ◌++◌, All, length, map, take, Some, Result, refl, sym, ap, ◌∙◌, subst, arith, append_assoc, length-append}
use Rattle.std.specs.Prelude.{AllPairs, Any, cond, slice_get, ◌==◌}
use Rattle.std.specs.List.{slice_index_or}
use mathlib.Core.List.{IsPrefix}
use Rattle.clock_track.specs.Rows.{clock_spot}
use Rattle.pcap_frames.specs.Capture.{Record}
use Rattle.packet_journal.specs.Packets.{PacketJournal}
use Rattle.sample_schedule.specs.Batches.{Presented}
use Rattle.sample_schedule.specs.declared.accepted.Accepted.{Accepted}
use Rattle.sample_schedule.specs.declared.entry.Entry.{Entry}
use Rattle.sample_schedule.specs.declared.entry.Entry.TheVariants.{Item as OfItem}
use Rattle.sample_schedule.specs.declared.item.Item.{Item}
use Rattle.sample_schedule.specs.declared.plan.SchedulePlan.{SchedulePlan}
use Rattle.sample_schedule.specs.declared.shown.Reason.{Reason}
use Rattle.sample_schedule.specs.declared.shown.Reason.TheVariants.{Repeat}
use Rattle.sample_schedule.specs.Laws.{verdict_in}
use Rattle.sample_schedule.specs.Schedule.{accepted}
use Rattle.sample_schedule.specs.Verdicts.{Clock}
use Rattle.sample_schedule.proofs.Growing.{accepted-stays, take-first}
use Rattle.sample_schedule.specs.declared.shown.Shown.{Shown}
use Rattle.sample_schedule.specs.declared.shown.Shown.TheVariants.{Present, Flag}
use Rattle.listener.specs.declared.plan.ListenPlan.{ListenPlan}
use Rattle.listener.specs.Heard.{deliveries_of, due_of, entries_in, entries_so_far_in, items_in, schedule_plan, shown_of}
use Rattle.listener.specs.Items.{MadeItem, given_after, items_so_far, left_at_end, made_entry}
use Rattle.listener.specs.Laws.{AreOther, ComesBefore, HearsTalker, IsFurther, IsHeardFrom, IsPresentedOf, IsWelcome, by_clock, presented_of, shown_by, shown_of_frame, verdict_of}
use Rattle.listener.proofs.Due.{deliveries_more, due_first, due_stays, entries_at_end, entries_more}
use Rattle.listener.proofs.ItemKinds.{all_before}
use Rattle.listener.proofs.Made.{so_far_more}
use Rattle.listener.proofs.Shown.{item_shown}
use Rattle.listener.proofs.TrueHeadline.{headline}
use Rattle.listener.proofs.TrueTimely.{further_judged, welcome_judged}
use Rattle.listener_laws.specs.Fronts.{IsSettled, IsTrueFront}

presented_more : (xs ys : List Shown) → presented_of (xs ++ ys) ≡ presented_of xs ++ presented_of ys
presented_more [] ys = refl
presented_more (Present batch ∷ xs) ys = ap (λ (l : List Presented). batch ∷ l) (presented_more xs ys)
presented_more (Flag frame seq reason ∷ xs) ys = presented_more xs ys

presented_front : (xs ys : List Shown) → IsPrefix xs ys → IsPrefix (presented_of xs) (presented_of ys)
presented_front xs ys (rest, e) = (presented_of rest, sym (presented_more xs rest) ∙ ap presented_of e)

front_all : (P : Presented → Type 0) (xs ys : List Presented) → IsPrefix xs ys → All P ys → All P xs
front_all P xs ys (rest, e) all = all_before P xs rest (subst (λ (l : List Presented). All P l) (sym e) all)

same_front : (xs rest : List Presented) (i : ℕ) (d : Presented) → i < length xs → slice_index_or (xs ++ rest) i d ≡ slice_index_or xs i d
same_front [] rest i d lt = absurd (omega arith)
same_front (x ∷ xs) rest zero d lt = refl
same_front (x ∷ xs) rest (suc i) d lt = same_front xs rest i d (omega arith)

pairs_before : (R : Presented → Presented → Type 0) (xs rest : List Presented) → AllPairs R (xs ++ rest) → AllPairs R xs
pairs_before R xs rest all i j d lt within =
    let first = same_front xs rest i d (omega arith) in
    let second = same_front xs rest j d within in
    let here = all i j d lt (omega (arith, length-append xs rest, within)) in
    subst (λ (b : Presented). R (slice_index_or xs i d) b) second (subst (λ (a : Presented). R a (slice_index_or (xs ++ rest) j d)) first here)

front_pairs : (R : Presented → Presented → Type 0) (xs ys : List Presented) → IsPrefix xs ys → AllPairs R ys → AllPairs R xs
front_pairs R xs ys (rest, e) all = pairs_before R xs rest (subst (λ (l : List Presented). AllPairs R l) (sym e) all)

pub longer_front : (xs ys zs : List Shown) → IsPrefix xs ys → IsPrefix ys zs → IsPrefix xs zs
longer_front xs ys zs (a, e) (b, f) = (a ++ b, sym (append_assoc xs a b) ∙ (ap (λ (l : List Shown). l ++ b) e ∙ f))

-- ---- the items that are judged as soon as the first records are read

get_front : {X : Type 0} (n : ℕ) (xs ys zs : List X) → n < length xs → slice_get (xs ++ ys) n ≡ slice_get (xs ++ zs) n
get_front {X} n [] ys zs lt = absurd (omega arith)
get_front {X} zero (x ∷ xs) ys zs lt = refl
get_front {X} (suc n) (x ∷ xs) ys zs lt = get_front n xs ys zs (omega arith)

as_many : (ms : List MadeItem) → length (map made_entry ms) ≡ length ms
as_many [] = refl
as_many (m ∷ ms) = ap suc (as_many ms)

item_stays : (plan : ListenPlan) (records others : List Record) (place : ℕ) → IsSettled plan records place → slice_get (items_in plan (records ++ others)) place ≡ slice_get (items_in plan records) place
item_stays plan records others place settled =
    let ds = deliveries_of plan records in
    let more = deliveries_more plan records others in
    let first : items_so_far (deliveries_of plan (records ++ others)) ≡ items_so_far ds ++ given_after ds more.0 = ap items_so_far more.1 ∙ so_far_more ds more.0 in
    ap (λ (l : List MadeItem). slice_get (l ++ left_at_end (deliveries_of plan (records ++ others))) place) first
    ∙ (ap (λ (l : List MadeItem). slice_get l place) (append_assoc (items_so_far ds) (given_after ds more.0) (left_at_end (deliveries_of plan (records ++ others))))
    ∙ get_front place (items_so_far ds) (given_after ds more.0 ++ left_at_end (deliveries_of plan (records ++ others))) (left_at_end ds) (omega (arith, settled)))

verdict_stays : (clock : Clock) (plan : SchedulePlan) (es more : List Entry) (i : ℕ) (item : Item) → i + plan.look < length es → verdict_in clock plan (es ++ more) i item ≡ verdict_in clock plan es i item
verdict_stays clock plan es more i item lt =
    let before : accepted clock plan (es ++ more) i ≡ accepted clock plan es i = accepted-stays clock plan es more i (omega arith) in
    let now : take (suc i) (es ++ more) ≡ take (suc i) es = take-first (suc i) es more (omega arith) in
    let known : take (i + plan.look + 1) (es ++ more) ≡ take (i + plan.look + 1) es = take-first (i + plan.look + 1) es more (omega arith) in
    rw (before, now, known) refl

judged_as_before : (plan : ListenPlan) (records others : List Record) (place : ℕ) (item : Item) → IsSettled plan records place → verdict_of plan (records ++ others) place item ≡ verdict_of plan records place item
judged_as_before plan records others place item settled =
    let sp = schedule_plan plan in
    let es = entries_so_far_in plan records in
    let more = entries_more plan records others in
    let left = map made_entry (left_at_end (deliveries_of plan (records ++ others))) in
    let last = map made_entry (left_at_end (deliveries_of plan records)) in
    let many = as_many (items_so_far (deliveries_of plan records)) in
    let within : place + plan.look < length es = omega (arith, settled, many) in
    let all : entries_in plan (records ++ others) ≡ es ++ (more.0 ++ left) =
    entries_at_end plan (records ++ others) ∙ (ap (λ (l : List Entry). l ++ left) more.1 ∙ append_assoc es more.0 left) in
    ap (λ (l : List Entry). verdict_in clock_spot sp l place item) all
    ∙ (verdict_stays clock_spot sp es (more.0 ++ left) place item within
    ∙ (sym (verdict_stays clock_spot sp es last place item within)
    ∙ ap (λ (l : List Entry). verdict_in clock_spot sp l place item) (sym (entries_at_end plan records))))

front_shown : (plan : ListenPlan) (records others : List Record) (place : ℕ) (made : MadeItem) (item : Item) → IsSettled plan records place → slice_get (items_in plan records) place ≡ Some made → made.entry ≡ OfItem item
    → shown_of_frame made.last.frame (shown_of plan (records ++ others)) ≡ shown_by made.last (verdict_of plan records place item) ∷ []
front_shown plan records others place made item settled at is =
    item_shown plan (records ++ others) place made item (item_stays plan records others place settled ∙ at) is
    ∙ ap (λ (r : Result Accepted Reason). shown_by made.last r ∷ []) (judged_as_before plan records others place item settled)

-- ---- each item that must be presented is presented

any_later : (P : Presented → Type 0) (x : Presented) (xs : List Presented) → Any P xs → Any P (x ∷ xs)
any_later P x xs (k, a, within, there, holds) = (suc k, a, let lt = within in omega arith, there, holds)

-- if one batch and nothing else is shown for a frame, this batch is among the presented batches
found_in : (P : Presented → Type 0) (frame : ℕ) (list : List Shown) (batch : Presented) → shown_of_frame frame list ≡ Present batch ∷ [] → P batch → Any P (presented_of list)
found_in P frame [] batch e holds = absurd cc
found_in P frame (Present b ∷ rest) batch e holds = by (b.frame == frame) e (λ f. found_in P frame rest batch f holds)
  where
    by : (d : Bool) → cond d (Present b ∷ shown_of_frame frame rest) (shown_of_frame frame rest) ≡ Present batch ∷ [] → (shown_of_frame frame rest ≡ Present batch ∷ [] → Any P (presented_of rest)) → Any P (b ∷ presented_of rest)
    by true f later = let same : b ≡ batch = cc in (0, b, omega arith, refl, subst P (sym same) holds)
    by false f later = any_later P b (presented_of rest) (later f)
found_in P frame (Flag other seq reason ∷ rest) batch e holds = by (other == frame) e (λ f. found_in P frame rest batch f holds)
  where
    by : (d : Bool) → cond d (Flag other seq reason ∷ shown_of_frame frame rest) (shown_of_frame frame rest) ≡ Present batch ∷ [] → (shown_of_frame frame rest ≡ Present batch ∷ [] → Any P (presented_of rest)) → Any P (presented_of rest)
    by true f later = absurd cc
    by false f later = later f

front_known : (shift : ℤ) (p : PacketJournal) (plan : ListenPlan) (records others : List Record) (place n : ℕ) (made : MadeItem) → HearsTalker shift p plan records → IsSettled plan records place → IsWelcome p plan records place n made
    → Any (IsPresentedOf (by_clock plan) p n made) (presented_of (shown_of plan (records ++ others)))
front_known shift p plan records others place n made h settled w =
    let judged = welcome_judged shift p plan records place n made h w in
    let shown = front_shown plan records others place made judged.item settled w.timely.there judged.entry in
    let here : shown_of_frame made.last.frame (shown_of plan (records ++ others)) ≡ Present judged.batch ∷ [] =
    shown ∙ ap (λ (r : Result Accepted Reason). shown_by made.last r ∷ []) judged.verdict_is_ok in
    found_in (IsPresentedOf (by_clock plan) p n made) made.last.frame (shown_of plan (records ++ others)) judged.batch here (record { frame = judged.is.frame_is; is = judged.is.is })

front_repeats : (shift : ℤ) (p : PacketJournal) (plan : ListenPlan) (records others : List Record) (place n : ℕ) (made : MadeItem) → HearsTalker shift p plan records → IsSettled plan records place → IsFurther p plan records place n made
    → shown_of_frame made.last.frame (shown_of plan (records ++ others)) ≡ Flag made.last.frame made.last.seq Repeat ∷ []
front_repeats shift p plan records others place n made h settled w =
    let judged = further_judged shift p plan records place n made h w in
    front_shown plan records others place made judged.item settled w.timely.there judged.entry
    ∙ ap (λ (r : Result Accepted Reason). shown_by made.last r ∷ []) judged.repeat

pub true_front : (shift : ℤ) (p : PacketJournal) (plan : ListenPlan) (records others : List Record) → HearsTalker shift p plan records → IsTrueFront p plan records others
true_front shift p plan records others h =
    let kept = headline shift p plan records h in
    let due = due_of plan records in
    let front = presented_front due (shown_of plan records) (due_first plan records) in
    record {
      begins = longer_front due (due_of plan (records ++ others)) (shown_of plan (records ++ others)) (due_stays plan records others) (due_first plan (records ++ others));
      genuine = front_all (IsHeardFrom (by_clock plan) (items_in plan records) p plan.lead) (presented_of due) (presented_of (shown_of plan records)) front kept.genuine;
      once = front_pairs (AreOther (by_clock plan) p) (presented_of due) (presented_of (shown_of plan records)) front kept.once;
      in_order = front_pairs ComesBefore (presented_of due) (presented_of (shown_of plan records)) front kept.in_order;
      known = λ place n made. front_known shift p plan records others place n made h;
      repeats = λ place n made. front_repeats shift p plan records others place n made h;
      each_shown = front_shown plan records others;
    }
