-- The due items of a capture's records stay due if more records follow. If no record follows, these items are shown
-- first.
use Rattle.std.proofs.Common.{◌≡◌, ℕ, Bool, ◌+◌, ◌-◌, List, [], ◌∷◌, ◌++◌, map, filter, refl, sym, ap, subst, ◌∙◌, append_assoc, arith}
use Rattle.std.specs.List.{enumerate_from}
use mathlib.Core.List.{IsPrefix}
use Rattle.std.proofs.lemmas.List.{map-append}
use Rattle.std.proofs.lemmas.List.Elements.{filter-append}
use Rattle.clock_track.specs.Rows.{clock_spot}
use Rattle.pcap_frames.specs.Capture.{Record}
use Rattle.sample_schedule.specs.declared.entry.Entry.{Entry}
use Rattle.sample_schedule.specs.declared.plan.SchedulePlan.{SchedulePlan}
use Rattle.sample_schedule.specs.declared.shown.Shown.{Shown}
use Rattle.sample_schedule.specs.Schedule.{due, shown, steps}
use Rattle.sample_schedule.proofs.Growing.{due-first, due-grows}
use Rattle.packet_journal.specs.Deliveries.{Delivery, delivery, is_delivered}
use Rattle.listener.specs.declared.plan.ListenPlan.{ListenPlan}
use Rattle.listener.specs.Heard.{deliveries_of, due_of, entries_in, entries_so_far_in, schedule_plan, shown_of}
use Rattle.listener.specs.Items.{entries_so_far, given_after, items_so_far, left_at_end, made_entry}
use Rattle.listener.proofs.Made.{so_far_more}

numbered_more : {X : Type 0} (n : ℕ) (xs ys : List X) → (rest : List (ℕ × X)) × (enumerate_from n (xs ++ ys) ≡ enumerate_from n xs ++ rest)
numbered_more {X} n [] ys = (enumerate_from n ys, refl)
numbered_more {X} n (x ∷ xs) ys = let more = numbered_more (n + 1) xs ys in (more.0, ap {B = List (ℕ × X)} (λ t. (n, x) ∷ t) more.1)

pub deliveries_more : (plan : ListenPlan) (records others : List Record) → (rest : List Delivery) × (deliveries_of plan (records ++ others) ≡ deliveries_of plan records ++ rest)
deliveries_more plan records others =
    let more = numbered_more 1 records others in
    let test : ℕ × Record → Bool = λ (x : ℕ × Record). is_delivered plan.stream plan.clock x.1.bytes in
    let make : ℕ × Record → Delivery = λ (x : ℕ × Record). delivery x.0 x.1 in (
      map make (filter test more.0),
      ap (λ (l : List (ℕ × Record)). map make (filter test l)) more.1
          ∙ ap (map make) (filter-append test (enumerate_from 1 records) more.0)
          ∙ map-append make (filter test (enumerate_from 1 records)) (filter test more.0),
    )

pub entries_more : (plan : ListenPlan) (records others : List Record) → (rest : List Entry) × (entries_so_far_in plan (records ++ others) ≡ entries_so_far_in plan records ++ rest)
entries_more plan records others =
    let more = deliveries_more plan records others in
    let ds = deliveries_of plan records in (
      map made_entry (given_after ds more.0),
      ap entries_so_far more.1
          ∙ ap (map made_entry) (so_far_more ds more.0)
          ∙ map-append made_entry (items_so_far ds) (given_after ds more.0),
    )

pub due_stays : (plan : ListenPlan) (records others : List Record) → IsPrefix (due_of plan records) (due_of plan (records ++ others))
due_stays plan records others =
    let more = entries_more plan records others in
    subst (λ (es : List Entry). IsPrefix (due_of plan records) (due clock_spot (schedule_plan plan) es)) (sym more.1) (due-grows clock_spot (schedule_plan plan) (entries_so_far_in plan records) more.0)

pub first_of_more : (plan : SchedulePlan) (es more : List Entry) → IsPrefix (due clock_spot plan es) (shown clock_spot plan (es ++ more))
first_of_more plan es more =
    let a = due-grows clock_spot plan es more in
    let b = due-first clock_spot plan (es ++ more) in
    (a.0 ++ b.0, sym (append_assoc (due clock_spot plan es) a.0 b.0) ∙ (ap (λ (l : List Shown). l ++ b.0) a.1 ∙ b.1))

-- The entries of all records are the entries so far, followed by the entries of the fragments that are given up only at
-- the end.
pub entries_at_end : (plan : ListenPlan) (records : List Record) → entries_in plan records ≡ entries_so_far_in plan records ++ map made_entry (left_at_end (deliveries_of plan records))
entries_at_end plan records = map-append made_entry (items_so_far (deliveries_of plan records)) (left_at_end (deliveries_of plan records))

pub due_first : (plan : ListenPlan) (records : List Record) → IsPrefix (due_of plan records) (shown_of plan records)
due_first plan records =
    subst (λ (es : List Entry). IsPrefix (due_of plan records) (shown clock_spot (schedule_plan plan) es)) (sym (entries_at_end plan records))
    (first_of_more (schedule_plan plan) (entries_so_far_in plan records) (map made_entry (left_at_end (deliveries_of plan records))))

pub due_none : (plan : ListenPlan) → due_of plan [] ≡ []
unfolding steps
due_none plan = rw (none_settled plan.look) refl
  where
    none_settled : (look : ℕ) → 0 - look ≡ 0
    none_settled look = omega arith
