-- A listener shows at most as many items as it was given records. The batches that a listener presents are in order.
use Rattle.std.proofs.Common.{◌≡◌, ℕ, zero, suc, ◌^◌, ◌≤◌, Bool, true, false, inl, inr, ℤ, ◌≤ℤ◌, ◌<ℤ◌, List, [], ◌∷◌, length, map, fold, Some, None, Result, Ok, Err, refl, sym, ap, ◌∙◌, subst, arith}
use Rattle.std.specs.Prelude.{IfOk, if◌then◌else◌, int_lt, slice_get, option_and_then}
use Rattle.std.specs.List.{AllByRecursion, list_any}
use Rattle.std.proofs.lemmas.Int.{ints}
use Rattle.clock_track.specs.Rows.{clock_spot}
use Rattle.pcap_frames.specs.Capture.{Record}
use Rattle.sample_schedule.specs.declared.accepted.Accepted.{Accepted}
use Rattle.sample_schedule.specs.declared.entry.Entry.{Entry}
use Rattle.sample_schedule.specs.declared.entry.Entry.TheVariants.{Item as OfItem, Clock as OfClock}
use Rattle.sample_schedule.specs.declared.plan.SchedulePlan.{SchedulePlan}
use Rattle.sample_schedule.specs.declared.shown.Reason.{Reason}
use Rattle.sample_schedule.specs.Batches.{Presented}
use Rattle.sample_schedule.specs.Laws.{IsBefore, Pairwise, presented}
use Rattle.sample_schedule.specs.Order.{by_instant, put_behind, standing}
use Rattle.sample_schedule.specs.Schedule.{accepted, accepted_by, given, judged, now_at, prefix_of, verdict_at}
use Rattle.sample_schedule.specs.Verdicts.{Clock, decided, first_instant, is_copy, is_full, timed, verdict}
use Rattle.sample_schedule.proofs.LawLemmas.{accepted-presented, presented-ordered}
use Rattle.sample_schedule.proofs.OrderLemmas.{all-put_behind}
use Rattle.listener.specs.declared.plan.ListenPlan.{ListenPlan}
use Rattle.listener.specs.Heard.{due_of, entries_in, schedule_plan, shown_of}
use Rattle.listener.specs.Laws.{presented_of}
use Rattle.listener.specs.Listening.{ListenState, StandsFor as IsGiven, is_closed, out}
use Rattle.listener.proofs.Due.{due_first}
use Rattle.listener.proofs.Few.{few}
use Rattle.listener.proofs.TrueList.{batches_are}
use Rattle.listener_pair.specs.Merged.{IsInOrder}
use Rattle.listener_pair.proofs.Sorting.{all-join}
use Rattle.capture_pair.specs.state.Sides.{IsHeard}
use Rattle.capture_pair.proofs.Handing.{presented-append}
use Rattle.capture_pair.proofs.Joined.{order-front}

-- ---- what holds for all accepted items

pub accepted-all : (P : Accepted → Type 0) (r : Result Accepted Reason) → IfOk r P → AllByRecursion P (accepted_by (Some r))
accepted-all P (Ok a) h = (h, tt)
accepted-all P (Err reason) h = tt

fold-all : (P : Accepted → Type 0) (xs ys : List Accepted) → AllByRecursion P xs → AllByRecursion P ys → AllByRecursion P (fold put_behind ys xs)
fold-all P [] ys p q = q
fold-all P (x ∷ xs) ys p q = fold-all P xs (put_behind ys x) p.1 (all-put_behind P ys x q p.0)

pub sorted-all : (P : Accepted → Type 0) (xs : List Accepted) → AllByRecursion P xs → AllByRecursion P (by_instant xs)
unfolding by_instant
sorted-all P xs p = fold-all P xs [] p tt

-- ---- the instant of an accepted item is the first instant of its batch

abbrev pub Timely : Accepted → Type 0
Timely a = a.instant ≡ first_instant a.batch

decided-timely : (late repeat full : Bool) (place : ℕ) (batch : Presented) → IfOk (decided late repeat full place batch) Timely
decided-timely true repeat full place batch = tt
decided-timely false true full place batch = tt
decided-timely false false true place batch = tt
decided-timely false false false place batch = refl

verdict-timely : (plan : SchedulePlan) (now : ℤ) (earlier : List Accepted) (place : ℕ) (r : Result Presented Reason) → IfOk (verdict plan now earlier place r) Timely
unfolding verdict
verdict-timely plan now earlier place (Err reason) = tt
verdict-timely plan now earlier place (Ok batch) =
    decided-timely (int_lt (first_instant batch) now) (list_any (is_copy (first_instant batch) batch.seq) earlier) (is_full plan (standing now earlier) (length batch.bytes)) place batch

abbrev pub AllTimely : List Accepted → Type 0
AllTimely xs = AllByRecursion Timely xs

verdict-at-timely : (clock : Clock) (plan : SchedulePlan) (entries : List Entry) (n : ℕ) (earlier : List Accepted) → AllTimely (accepted_by (verdict_at clock plan entries n earlier))
unfolding verdict_at
verdict-at-timely clock plan entries n earlier =
    elim (slice_get entries n) as (λ e. AllTimely (accepted_by (option_and_then (judged clock plan entries n earlier) e))) [
      | None ↦ tt
      | Some e ↦ of e
    ]
  where
    of : (e : Entry) → AllTimely (accepted_by (judged clock plan entries n earlier e))
    of (OfItem item) =
        let r = timed clock plan (prefix_of plan entries n) item in
        accepted-all Timely (verdict plan (now_at entries n) earlier n r) (verdict-timely plan (now_at entries n) earlier n r)
    of (OfClock arrival row) = tt

accepted-timely : (clock : Clock) (plan : SchedulePlan) (entries : List Entry) (n : ℕ) → AllTimely (accepted clock plan entries n)
unfolding accepted
accepted-timely clock plan entries zero = tt
accepted-timely clock plan entries (suc n) =
    all-join Timely (accepted clock plan entries n) (accepted_by (verdict_at clock plan entries n (accepted clock plan entries n))) (accepted-timely clock plan entries n) (verdict-at-timely clock plan entries n (accepted clock plan entries n))

pub presented-timely : (clock : Clock) (plan : SchedulePlan) (entries : List Entry) → AllTimely (presented (given clock plan entries))
presented-timely clock plan entries =
    subst AllTimely (sym (accepted-presented clock plan entries)) (sorted-all Timely (accepted clock plan entries (length entries)) (accepted-timely clock plan entries (length entries)))

-- ---- if item `a` is before item `b`, the batch of `a` does not begin after the batch of `b`

before-le : (a b : Accepted) → Timely a → Timely b → IsBefore a b → first_instant a.batch ≤ℤ first_instant b.batch
before-le a b ta tb (inl h) = le (first_instant a.batch) (first_instant b.batch) (subst (λ (x : ℤ). x <ℤ first_instant b.batch) ta (subst (λ (x : ℤ). a.instant <ℤ x) tb h))
  where
    le : (x y : ℤ) → x <ℤ y → x ≤ℤ y
    le x y h = omega (arith, ints)
before-le a b ta tb (inr h) = le (first_instant a.batch) (first_instant b.batch) (sym ta ∙ h.0 ∙ tb)
  where
    le : (x y : ℤ) → x ≡ y → x ≤ℤ y
    le x y h = omega (arith, ints)

all-after : (a : Accepted) (rest : List Accepted) → Timely a → AllTimely rest → AllByRecursion (IsBefore a) rest → AllByRecursion (λ y. first_instant a.batch ≤ℤ first_instant y) (map (λ (b : Accepted). b.batch) rest)
all-after a [] ta tr h = tt
all-after a (b ∷ rest) ta tr h = (before-le a b ta tr.0 h.0, all-after a rest ta tr.1 h.1)

batches-in-order : (xs : List Accepted) → AllTimely xs → Pairwise IsBefore xs → IsInOrder (map (λ (a : Accepted). a.batch) xs)
batches-in-order [] t h = tt
batches-in-order (a ∷ rest) t h = (all-after a rest t.0 t.1 h.0, batches-in-order rest t.1 h.1)

-- ---- what a listener shows

pub shown-in-order : (plan : ListenPlan) (records : List Record) → IsInOrder (presented_of (shown_of plan records))
shown-in-order plan records =
    let gs = given clock_spot (schedule_plan plan) (entries_in plan records) in
    subst IsInOrder (sym (batches_are gs))
    (batches-in-order (presented gs) (presented-timely clock_spot (schedule_plan plan) (entries_in plan records)) (presented-ordered clock_spot (schedule_plan plan) (entries_in plan records)))

pub due-in-order : (plan : ListenPlan) (records : List Record) → IsInOrder (presented_of (due_of plan records))
due-in-order plan records =
    let first = due_first plan records in
    order-front (presented_of (due_of plan records)) (presented_of first.0) (subst IsInOrder (ap presented_of (sym first.1) ∙ presented-append (due_of plan records) first.0) (shown-in-order plan records))

pub out-in-order : (b : Bool) (plan : ListenPlan) (records : List Record) → IsInOrder (presented_of (if b then shown_of plan records else due_of plan records))
out-in-order true plan records = shown-in-order plan records
out-in-order false plan records = due-in-order plan records

pub heard : (records : List Record) (n : ℕ) (l : ListenState) → IsGiven records n l → l.counts.frames ≤ 2 ^ 61 → IsHeard (out l records)
heard records n l s le =
    let frames : l.counts.frames ≡ length records = ap (λ c. c.frames) s.counts in
    let most = few (is_closed l) clock_spot (schedule_plan l.plan) l.plan records in
    record { few = omega arith; order = out-in-order (is_closed l) l.plan records }

-- if a listener is given at most 2^61 records, it shows at most 2^61 items and presents its batches in order
pub heard-of : (records : List Record) (l : ListenState) → length records ≤ 2 ^ 61 → IsHeard (out l records)
heard-of records l le = let most = few (is_closed l) clock_spot (schedule_plan l.plan) l.plan records in record { few = omega arith; order = out-in-order (is_closed l) l.plan records }
