-- A listener shows at most one item for each record.
use Rattle.std.proofs.Common.{ℕ, zero, suc, ◌≤◌, Bool, List, length, Option, Some, None, ap, ◌∙◌, arith, length-append}
use Rattle.std.specs.Prelude.{if◌then◌else◌, true, false, count_by, filter, slice_get}
use Rattle.std.specs.List.{enumerate_from}
use Rattle.std.proofs.lemmas.List.{length-map}
use Rattle.std.proofs.lemmas.List.FromFn.{length-enumerate_from}
use Rattle.std.proofs.lemmas.List.Sums.{count_by-le-length, length-filter}
use Rattle.std.proofs.lemmas.Option.{slice_get_past}
use Rattle.pcap_frames.specs.Capture.{Record}
use Rattle.sample_schedule.specs.declared.entry.Entry.{Entry}
use Rattle.sample_schedule.specs.declared.entry.Entry.TheVariants.{Item as OfItem, Clock as OfClock}
use Rattle.sample_schedule.specs.declared.plan.SchedulePlan.{SchedulePlan}
use Rattle.sample_schedule.specs.Laws.{times_due}
use Rattle.sample_schedule.specs.Schedule.{Given, due, given, shown, shown_of}
use Rattle.sample_schedule.specs.Verdicts.{Clock}
use Rattle.sample_schedule.proofs.Growing.{due-first}
use Rattle.sample_schedule.proofs.LawLemmas.{each-once}
use Rattle.packet_journal.specs.Deliveries.{deliveries, delivery, is_delivered}
use Rattle.listener.specs.declared.plan.ListenPlan.{ListenPlan}
use Rattle.listener.specs.Heard.{deliveries_of, entries_in, entries_so_far_in}
use Rattle.listener.specs.Items.{items_of, items_so_far, made_entry}
use Rattle.listener.proofs.Made.{items_few, so_far_few}
use Rattle.listener.proofs.Places.{at, below, below-next, none-below, all-below}

most-below : (n : ℕ) (gs : List Given) → ((i : ℕ) → count_by (at i) gs ≤ 1) → count_by (below n) gs ≤ n
most-below zero gs each = omega (arith, none-below gs)
most-below (suc n) gs each = omega (arith, below-next n gs, most-below n gs each, each n)

once-at-most : (o : Option Entry) → times_due o ≤ 1
once-at-most None = omega arith
once-at-most (Some (OfItem item)) = omega arith
once-at-most (Some (OfClock arrival row)) = omega arith

shown-few : (clock : Clock) (plan : SchedulePlan) (es : List Entry) → length (shown clock plan es) ≤ length es
shown-few clock plan es =
    let gs = given clock plan es in
    let most = most-below (length es) gs (λ i. omega (arith, each-once clock plan es i, once-at-most (slice_get es i))) in
    let all = all-below (length es) gs (λ i past. each-once clock plan es i ∙ ap times_due (slice_get_past es i past)) in
    omega (arith, most, all, length-map gs shown_of)

due-few : (clock : Clock) (plan : SchedulePlan) (es : List Entry) → length (due clock plan es) ≤ length es
due-few clock plan es =
    let first = due-first clock plan es in
    omega (arith, ap length first.1, length-append (due clock plan es) first.0, shown-few clock plan es)

out-few : (b : Bool) (clock : Clock) (plan : SchedulePlan) (es so_far : List Entry) → length so_far ≤ length es → length (if b then shown clock plan es else due clock plan so_far) ≤ length es
out-few true clock plan es so_far le = shown-few clock plan es
out-few false clock plan es so_far le = omega (arith, due-few clock plan so_far, le)

pub deliveries-few : (stream : ℕ) (clock : Option ℕ) (records : List Record) → length (deliveries stream clock records) ≤ length records
deliveries-few stream clock records =
    let test = λ (p : ℕ × Record). is_delivered stream clock p.1.bytes in
    let all = enumerate_from 1 records in
    omega (arith, length-map (filter test all) (λ (p : ℕ × Record). delivery p.0 p.1), length-filter test all, count_by-le-length test all, length-enumerate_from 1 records)

pub entries-few : (plan : ListenPlan) (records : List Record) → length (entries_in plan records) ≤ length records
entries-few plan records =
    let ds = deliveries_of plan records in
    omega (arith, length-map (items_of ds) made_entry, items_few ds, deliveries-few plan.stream plan.clock records)

pub so-far-few : (plan : ListenPlan) (records : List Record) → length (entries_so_far_in plan records) ≤ length (entries_in plan records)
so-far-few plan records =
    let ds = deliveries_of plan records in
    omega (arith, length-map (items_of ds) made_entry, length-map (items_so_far ds) made_entry, so_far_few ds)

pub few : (b : Bool) (clock : Clock) (schedule : SchedulePlan) (plan : ListenPlan) (records : List Record)
    → length (if b then shown clock schedule (entries_in plan records) else due clock schedule (entries_so_far_in plan records)) ≤ length records
few b clock schedule plan records = omega (arith, out-few b clock schedule (entries_in plan records) (entries_so_far_in plan records) (so-far-few plan records), entries-few plan records)
