-- When the first entry of a capture is judged, and how much room the buffer has for the entry.
use Rattle.std.proofs.Common.{◌≡◌, ℕ, ◌+◌, ◌≤◌, Bool, true, false, ℤ, pos, ◌≤ℤ◌, List, [], ◌∷◌, Option, Some, None, refl, ap, arith}
use Rattle.std.specs.Prelude.{◌==◌, nat_le, nat_lt, if◌then◌else◌, slice_get}
use Rattle.std.specs.Int.{int_max}
use Rattle.std.proofs.lemmas.Bool.Decides.{nat_tests}
use Rattle.std.proofs.lemmas.Int.{ints}
use Rattle.sample_schedule.specs.declared.entry.Entry.{Entry}
use Rattle.sample_schedule.specs.declared.entry.Entry.TheVariants.{Item as OfItem, Clock as OfClock}
use Rattle.sample_schedule.specs.declared.item.Item.{Item}
use Rattle.sample_schedule.specs.declared.plan.SchedulePlan.{SchedulePlan}
use Rattle.sample_schedule.specs.Order.{standing}
use Rattle.sample_schedule.specs.Schedule.{accepted, arrival_of, item_arrival, latest, now_at}
use Rattle.sample_schedule.specs.Verdicts.{Clock, is_full}
use Rattle.packet_journal.specs.Deliveries.{Delivery}
use Rattle.avtp_base.specs.declared.refusal.Refusal.{Refusal}
use Rattle.aaf_format.specs.Aaf.{aaf_of, aaf_refusal, aaf_subtype}
use Rattle.crf_format.specs.Crf.{crf_subtype}
use Rattle.iec61883_format.specs.Iec.{iec_of, iec_refusal}
use Rattle.listener.specs.Items.{aaf_item, blocks_of, clock_row, entry_of, iec_item, item_of, refused_or, samples_of}

pub first_time : (es : List Entry) (e : Entry) → slice_get es 0 ≡ Some e → now_at es 0 ≡ int_max (pos 0) (arrival_of e)
unfolding latest
first_time [] e at = absurd cc
first_time (x ∷ es) e at = let same : x ≡ e = cc in ap (λ (y : Entry). int_max (pos 0) (arrival_of y)) same

pub nothing : (clock : Clock) (plan : SchedulePlan) (es : List Entry) → accepted clock plan es 0 ≡ []
unfolding accepted
nothing clock plan es = refl

pub has_room : (plan : SchedulePlan) (now : ℤ) (size : ℕ) → 1 ≤ plan.buffer → size ≤ plan.room → is_full plan (standing now []) size ≡ false
has_room plan now size some fits = by (nat_le plan.buffer 0) (nat_lt plan.room (0 + size)) (grind (arith, nat_tests)) (grind (arith, nat_tests))
  where
    by : (a b : Bool) → a ≡ false → b ≡ false → (if a then true else b) ≡ false
    by a b e f = rw (e, f) refl

refused_arrival : (d : Delivery) (o : Option Refusal) (item : Item) → item_arrival item ≡ d.arrival → item_arrival (refused_or d o item) ≡ d.arrival
refused_arrival d None item e = e
refused_arrival d (Some refusal) item e = refl

kind_arrival : (b : Bool) (d : Delivery) → item_arrival (if b then aaf_item d else iec_item d) ≡ d.arrival
kind_arrival true d = refused_arrival d (aaf_refusal d.packet) (samples_of d (aaf_of d.packet)) refl
kind_arrival false d = refused_arrival d (iec_refusal d.packet) (blocks_of d (iec_of d.packet)) refl

entry_arrival : (b : Bool) (d : Delivery) → arrival_of (if b then OfClock d.arrival (clock_row d) else OfItem (item_of d)) ≡ d.arrival
entry_arrival true d = refl
entry_arrival false d = kind_arrival (d.subtype == aaf_subtype) d

pub arrives : (d : Delivery) → arrival_of (entry_of d) ≡ d.arrival
arrives d = entry_arrival (d.subtype == crf_subtype) d

pub both_early : (x y : ℤ) (due : ℕ) → x ≤ℤ pos due → y ≤ℤ pos due → int_max x y ≤ℤ pos due
both_early x y due e f = grind (arith, ints)
