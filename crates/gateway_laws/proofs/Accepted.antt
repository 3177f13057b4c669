-- If P holds for the batch of each item that is timed and not late, P holds for each batch that a listener presents.
use Rattle.std.proofs.Common.{◌≡◌, ℕ, zero, suc, Bool, true, false, ℤ, ◌≤ℤ◌, List, [], ◌∷◌, ◌++◌, length, map, Option, Some, None, Result, Ok, Err, refl, sym, subst, arith}
use Rattle.std.specs.Prelude.{fold, int_lt, option_and_then, slice_get}
use Rattle.std.specs.List.{AllByRecursion}
use Rattle.std.proofs.lemmas.Int.{ints}
use Rattle.clock_track.specs.Rows.{clock_spot}
use Rattle.pcap_frames.specs.Capture.{Record}
use Rattle.sample_schedule.specs.declared.accepted.Accepted.{Accepted}
use Rattle.sample_schedule.specs.declared.entry.Entry.{Entry}
use Rattle.sample_schedule.specs.declared.entry.Entry.TheVariants.{Item as OfItem, Clock as OfClock}
use Rattle.sample_schedule.specs.declared.item.Item.{Item}
use Rattle.sample_schedule.specs.declared.plan.SchedulePlan.{SchedulePlan}
use Rattle.sample_schedule.specs.declared.shown.Reason.{Reason}
use Rattle.sample_schedule.specs.declared.shown.Shown.{Shown}
use Rattle.sample_schedule.specs.declared.shown.Shown.TheVariants.{Present, Flag}
use Rattle.sample_schedule.specs.Batches.{Presented}
use Rattle.sample_schedule.specs.Laws.{presented}
use Rattle.sample_schedule.specs.Order.{by_instant, put_behind}
use Rattle.sample_schedule.specs.Schedule.{accepted, accepted_by, given, judged, now_at, prefix_of, verdict_at}
use Rattle.sample_schedule.specs.Verdicts.{decided, first_instant, timed, verdict}
use Rattle.sample_schedule.proofs.LawLemmas.{accepted-presented, all-after}
use Rattle.sample_schedule.proofs.OrderLemmas.{all-put_behind}
use Rattle.listener.specs.declared.plan.ListenPlan.{ListenPlan}
use Rattle.listener.specs.Heard.{due_of, entries_in, schedule_plan, shown_of}
use Rattle.listener.specs.Laws.{presented_of}
use Rattle.listener.proofs.Due.{due_first}
use Rattle.listener.proofs.TrueList.{batches_are}

-- If item i is timed as `batch` and is not late, P holds for `batch`.
abbrev pub HoldsOfItems : SchedulePlan → List Entry → (Presented → Type 0) → Type 0
HoldsOfItems plan es P = (i : ℕ) (item : Item) (batch : Presented) → slice_get es i ≡ Some (OfItem item) → timed clock_spot plan (prefix_of plan es i) item ≡ Ok batch → now_at es i ≤ℤ first_instant batch → P batch

not_late : (x y : ℤ) → int_lt x y ≡ false → y ≤ℤ x
not_late x y e = grind (arith, ints)

decided_all : (P : Presented → Type 0) (now : ℤ) (n : ℕ) (batch : Presented) (late copy full : Bool) → int_lt (first_instant batch) now ≡ late → (now ≤ℤ first_instant batch → P batch)
    → AllByRecursion (λ (a : Accepted). P a.batch) (accepted_by (Some (decided late copy full n batch)))
decided_all P now n batch true copy full e holds = tt
decided_all P now n batch false true full e holds = tt
decided_all P now n batch false false true e holds = tt
decided_all P now n batch false false false e holds = (holds (not_late (first_instant batch) now e), tt)

verdict_all : (P : Presented → Type 0) (plan : SchedulePlan) (now : ℤ) (earlier : List Accepted) (n : ℕ) (r : Result Presented Reason) → ((batch : Presented) → r ≡ Ok batch → now ≤ℤ first_instant batch → P batch)
    → AllByRecursion (λ (a : Accepted). P a.batch) (accepted_by (Some (verdict plan now earlier n r)))
unfolding verdict
verdict_all P plan now earlier n (Err reason) holds = tt
verdict_all P plan now earlier n (Ok batch) holds = decided_all P now n batch (int_lt (first_instant batch) now) _ _ refl (holds batch refl)

judged_all : (P : Presented → Type 0) (plan : SchedulePlan) (es : List Entry) (n : ℕ) (earlier : List Accepted) (o : Option Entry) → slice_get es n ≡ o → HoldsOfItems plan es P
    → AllByRecursion (λ (a : Accepted). P a.batch) (accepted_by (option_and_then (judged clock_spot plan es n earlier) o))
judged_all P plan es n earlier None there holds = tt
judged_all P plan es n earlier (Some (OfClock arrival row)) there holds = tt
judged_all P plan es n earlier (Some (OfItem item)) there holds =
    verdict_all P plan (now_at es n) earlier n (timed clock_spot plan (prefix_of plan es n) item) (λ batch e early. holds n item batch there e early)

accepted_all : (P : Presented → Type 0) (plan : SchedulePlan) (es : List Entry) (n : ℕ) → HoldsOfItems plan es P → AllByRecursion (λ (a : Accepted). P a.batch) (accepted clock_spot plan es n)
unfolding accepted verdict_at
accepted_all P plan es zero holds = tt
accepted_all P plan es (suc n) holds =
    all-after (λ (a : Accepted). P a.batch) (accepted clock_spot plan es n) _ (accepted_all P plan es n holds) (judged_all P plan es n (accepted clock_spot plan es n) (slice_get es n) refl holds)

sorted_all : (P : Accepted → Type 0) (xs ys : List Accepted) → AllByRecursion P xs → AllByRecursion P ys → AllByRecursion P (fold put_behind ys xs)
sorted_all P [] ys all rest = rest
sorted_all P (x ∷ xs) ys all rest = sorted_all P xs (put_behind ys x) all.1 (all-put_behind P ys x rest all.0)

by_instant_all : (P : Accepted → Type 0) (xs : List Accepted) → AllByRecursion P xs → AllByRecursion P (by_instant xs)
unfolding by_instant
by_instant_all P xs all = sorted_all P xs [] all tt

batches_all : (P : Presented → Type 0) (xs : List Accepted) → AllByRecursion (λ (a : Accepted). P a.batch) xs → AllByRecursion P (map (λ (a : Accepted). a.batch) xs)
batches_all P [] all = tt
batches_all P (x ∷ xs) all = (all.0, batches_all P xs all.1)

pub presented_all : (P : Presented → Type 0) (plan : ListenPlan) (records : List Record) → HoldsOfItems (schedule_plan plan) (entries_in plan records) P → AllByRecursion P (presented_of (shown_of plan records))
presented_all P plan records holds =
    let es = entries_in plan records in
    let list = given clock_spot (schedule_plan plan) es in
    let all = by_instant_all (λ (a : Accepted). P a.batch) (accepted clock_spot (schedule_plan plan) es (length es)) (accepted_all P (schedule_plan plan) es (length es) holds) in
    let all : AllByRecursion (λ (a : Accepted). P a.batch) (presented list) = subst (AllByRecursion (λ (a : Accepted). P a.batch)) (sym (accepted-presented clock_spot (schedule_plan plan) es)) all in
    subst (AllByRecursion P) (sym (batches_are list)) (batches_all P (presented list) all)

-- ---- what is due

front_all : (P : Presented → Type 0) (xs ys : List Shown) → AllByRecursion P (presented_of (xs ++ ys)) → AllByRecursion P (presented_of xs)
front_all P [] ys all = tt
front_all P (Present batch ∷ xs) ys all = (all.0, front_all P xs ys all.1)
front_all P (Flag frame seq reason ∷ xs) ys all = front_all P xs ys all

-- if P holds for all batches that are presented, P holds for all batches that are due
pub due_all : (P : Presented → Type 0) (plan : ListenPlan) (records : List Record) → AllByRecursion P (presented_of (shown_of plan records)) → AllByRecursion P (presented_of (due_of plan records))
due_all P plan records all =
    let first = due_first plan records in
    front_all P (due_of plan records) first.0 (subst (λ (l : List Shown). AllByRecursion P (presented_of l)) (sym first.1) all)
