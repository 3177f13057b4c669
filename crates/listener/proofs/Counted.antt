-- Each packet of the stream is shown once, and packets of the clock are never shown. Hence the counts add up.
use Rattle.std.proofs.Common.{◌≡◌, ℕ, zero, suc, ◌+◌, ◌-◌, ◌≤◌, Bool, true, false, List, [], ◌∷◌, All, length, Option, Some, None, refl, sym, ap, ◌∙◌, arith, take_all, inl, inr}
use Rattle.std.specs.Prelude.{⊤, ◌==◌, ◌||◌, if◌then◌else◌, count_by, slice_get, take, map, filter}
use Rattle.std.specs.List.{enumerate_from, list_any}
use Rattle.std.proofs.lemmas.Bool.{cases_lt, and_parts}
use Rattle.std.proofs.lemmas.List.{length-map}
use Rattle.std.proofs.lemmas.List.Elements.{All-cons, All-head, All-nil, All-tail}
use Rattle.std.proofs.lemmas.List.Sums.{sum_by-cons}
use Rattle.avtp_base.proofs.RowLemmas.{unequal}
use Rattle.avtp_header.specs.Header.{peeked_of}
use Rattle.avtp_header.specs.Numbers.{crf_subtype}
use Rattle.clock_track.specs.Rows.{clock_spot}
use Rattle.pcap_frames.specs.Capture.{Record}
use Rattle.sample_schedule.specs.declared.entry.Entry.{Entry}
use Rattle.sample_schedule.specs.declared.entry.Entry.TheVariants.{Item as OfItem, Clock as OfClock}
use Rattle.sample_schedule.specs.declared.plan.SchedulePlan.{SchedulePlan}
use Rattle.sample_schedule.specs.Laws.{times_due}
use Rattle.sample_schedule.specs.Schedule.{Given, given, shown, shown_of}
use Rattle.sample_schedule.specs.Verdicts.{Clock}
use Rattle.sample_schedule.proofs.LawLemmas.{each-once}
use Rattle.packet_journal.specs.Deliveries.{Delivery, belongs, belongs_to_clock, clock_kinds, delivery, is_avtp, is_delivered, packet_in, stream_kinds}
use Rattle.listener.specs.declared.plan.ListenPlan.{ListenPlan}
use Rattle.listener.specs.Heard.{counts_of, deliveries_of, entries_in, is_flag, is_present, items_in, schedule_plan, shown_of as shown_list}
use Rattle.cvf_format.specs.WholeOrBroken.{last_stretch}
use Rattle.listener.specs.Items.{MadeItem, events_to, items_of, made_entry, made_of_one, sources, unit_by}
use Rattle.listener.specs.Laws.{fragments_in}
use Rattle.listener.proofs.Made.{IsStreamed, OfEach, all_made, count-append, is_streamed, items_all, last_streamed, tally, tally-cons}
use Rattle.listener.proofs.Places.{counted, at, below, count-next, below-next, none-below, all-below, presented-or-flagged}

abbrev is_item : Entry → Bool
is_item (OfItem item) = true
is_item (OfClock arrival row) = false

due-one : (e : Entry) → times_due (Some e) ≡ counted (is_item e)
due-one (OfItem item) = refl
due-one (OfClock arrival row) = refl

items-next : (es : List Entry) (n : ℕ) → count_by is_item (take (suc n) es) ≡ count_by is_item (take n es) + times_due (slice_get es n)
items-next [] zero = refl
items-next [] (suc n) = refl
items-next (e ∷ es) zero = omega (arith, count-next is_item e [], due-one e)
items-next (e ∷ es) (suc n) = omega (arith, count-next is_item e (take (suc n) es), count-next is_item e (take n es), items-next es n)

each-below : (n : ℕ) (es : List Entry) (gs : List Given) → ((i : ℕ) → count_by (at i) gs ≡ times_due (slice_get es i)) → count_by (below n) gs ≡ count_by is_item (take n es)
each-below zero es gs each = none-below gs
each-below (suc n) es gs each = omega (arith, below-next n gs, each-below n es gs each, each n, items-next es n)

due-past : (es : List Entry) (i : ℕ) → length es ≤ i → times_due (slice_get es i) ≡ 0
due-past [] i past = refl
due-past (e ∷ es) zero past = absurd (omega arith)
due-past (e ∷ es) (suc i) past = due-past es i (omega arith)

shown-once : (clock : Clock) (plan : SchedulePlan) (es : List Entry) → length (given clock plan es) ≡ count_by is_item es
shown-once clock plan es =
    let gs = given clock plan es in
    sym (all-below (length es) gs (λ i past. each-once clock plan es i ∙ due-past es i past))
    ∙ (each-below (length es) es gs (each-once clock plan es) ∙ ap (count_by is_item) (take_all (length es) es (omega arith)))

added : (clock : Clock) (plan : SchedulePlan) (es : List Entry) → count_by is_present (shown clock plan es) + count_by is_flag (shown clock plan es) ≡ count_by is_item es
added clock plan es =
    presented-or-flagged (shown clock plan es)
    ∙ (length-map (given clock plan es) shown_of ∙ shown-once clock plan es)

-- ---- the items are the packets of the stream

abbrev made : List (ℕ × Record) → List Delivery
made xs = map (λ numbered. delivery numbered.0 numbered.1) xs

abbrev kept : ℕ → Option ℕ → List (ℕ × Record) → List (ℕ × Record)
kept stream clock xs = filter (λ numbered. is_delivered stream clock numbered.1.bytes) xs

abbrev subtype_in : Record → ℕ
subtype_in r = (peeked_of (packet_in r.bytes)).subtype

of_kind : (kinds : List ℕ) (id : ℕ) (r : Record) → belongs kinds id r.bytes ≡ true → list_any (λ kind. subtype_in r == kind) kinds ≡ true
of_kind kinds id r e =
    let wanted = and_parts (is_avtp r.bytes) _ e in
    let id_is = and_parts _ _ wanted.1 in
    (and_parts _ _ id_is.0).0

not_crf : (subtype : ℕ) → list_any (λ kind. subtype == kind) stream_kinds ≡ true → (subtype == crf_subtype) ≡ false
not_crf subtype e = elim (cases_lt subtype 4) [
  | inl within ↦ unequal subtype 4 (λ same. omega arith)
  | inr past ↦ absurd (let none : list_any (λ kind. subtype == kind) stream_kinds ≡ false = rw (unequal subtype 0 (λ same. omega arith), unequal subtype 2 (λ same. omega arith), unequal subtype 3 (λ same. omega arith)) refl in cc)
]

is_crf : (subtype : ℕ) → list_any (λ kind. subtype == kind) clock_kinds ≡ true → (subtype == crf_subtype) ≡ true
is_crf subtype e = by (subtype == crf_subtype) refl e
  where
    by : (b : Bool) → (subtype == crf_subtype) ≡ b → (b || false) ≡ true → b ≡ true
    by true f g = refl
    by false f g = absurd cc

stream_item : (r : Record) (i : ℕ) → (subtype_in r == crf_subtype) ≡ false → is_streamed (delivery i r) ≡ true
stream_item r i e = rw e refl

clock_item : (r : Record) (i : ℕ) → (subtype_in r == crf_subtype) ≡ true → is_streamed (delivery i r) ≡ false
clock_item r i e = rw e refl

clock_kind : (clock : Option ℕ) (r : Record) → belongs_to_clock clock r.bytes ≡ true → (subtype_in r == crf_subtype) ≡ true
clock_kind None r e = absurd cc
clock_kind (Some id) r e = is_crf (subtype_in r) (of_kind clock_kinds id r e)

one_counted : (stream : ℕ) (clock : Option ℕ) (i : ℕ) (r : Record) (rest : List (ℕ × Record)) (a b : Bool) → belongs stream_kinds stream r.bytes ≡ a → belongs_to_clock clock r.bytes ≡ b
    → count_by is_streamed (made (if a || b then (i, r) ∷ rest else rest)) ≡ counted a + count_by is_streamed (made rest)
one_counted stream clock i r rest true b e f =
    let item = stream_item r i (not_crf (subtype_in r) (of_kind stream_kinds stream r e)) in
    count-next is_streamed (delivery i r) (made rest) ∙ ap (λ (x : Bool). counted x + count_by is_streamed (made rest)) item
one_counted stream clock i r rest false true e f =
    let none = clock_item r i (clock_kind clock r f) in
    count-next is_streamed (delivery i r) (made rest) ∙ (ap (λ (x : Bool). counted x + count_by is_streamed (made rest)) none ∙ omega arith)
one_counted stream clock i r rest false false e f = omega arith

one_long : (i : ℕ) (r : Record) (rest : List (ℕ × Record)) (a : Bool) → length (made (if a || false then (i, r) ∷ rest else rest)) ≡ counted a + length (made rest)
one_long i r rest true = omega arith
one_long i r rest false = omega arith

streamed-counted : (stream : ℕ) (clock : Option ℕ) (i : ℕ) (records : List Record) → count_by is_streamed (made (kept stream clock (enumerate_from i records))) ≡ length (made (kept stream None (enumerate_from i records)))
streamed-counted stream clock i [] = refl
streamed-counted stream clock i (r ∷ records) =
    one_counted stream clock i r (kept stream clock (enumerate_from (i + 1) records)) (belongs stream_kinds stream r.bytes) (belongs_to_clock clock r.bytes) refl refl
    ∙ (ap (λ (n : ℕ). counted (belongs stream_kinds stream r.bytes) + n) (streamed-counted stream clock (i + 1) records)
    ∙ sym (one_long i r (kept stream None (enumerate_from (i + 1) records)) (belongs stream_kinds stream r.bytes)))

-- ---- each delivery of the stream is an item, or a fragment that is not the last of its unit

record IsWeighed (m : MadeItem) : Type 0 where
  weight : count_by is_streamed (sources m) ≡ counted (is_item m.entry) + length m.earlier

count-streamed : (ds : List Delivery) → All IsStreamed ds → count_by is_streamed ds ≡ length ds
count-streamed [] all = refl
count-streamed (d ∷ ds) all = omega (arith, count-next is_streamed d ds, ap counted (All-head IsStreamed d ds all), count-streamed ds (All-tail IsStreamed d ds all))

one_weighed : (d : Delivery) → IsWeighed (made_of_one d)
one_weighed d = by (d.subtype == crf_subtype) refl
  where
    by : (b : Bool) → (d.subtype == crf_subtype) ≡ b → IsWeighed (made_of_one d)
    by true e = record { weight = rw e refl }
    by false e = record { weight = rw e refl }

weighed : OfEach (λ d. ⊤) IsWeighed
weighed = record {
  one = λ d here. one_weighed d;
  flag = λ why d here streamed. record { weight = rw streamed refl };
  unit = λ before d all here streamed.
      let earlier = (unit_by before d).earlier in
      let last : count_by is_streamed (d ∷ []) ≡ 1 = rw streamed refl in
      record { weight = omega (arith, count-append is_streamed earlier (d ∷ []), last, count-streamed earlier (last_streamed (length (last_stretch (events_to before d)) - 1) before)) };
}

weights : (ms : List MadeItem) → All IsWeighed ms → tally is_streamed ms ≡ count_by is_item (map made_entry ms) + fragments_in ms
weights [] all = refl
weights (m ∷ ms) all =
    omega (
      arith,
      tally-cons is_streamed m ms,
      count-next is_item m.entry (map made_entry ms),
      sum_by-cons (λ (n : MadeItem). length n.earlier) m ms,
      (All-head IsWeighed m ms all).weight,
      weights ms (All-tail IsWeighed m ms all),
    )

all_there : (ds : List Delivery) → All (λ (d : Delivery). ⊤) ds
all_there [] = All-nil (λ (d : Delivery). ⊤)
all_there (d ∷ ds) = All-cons (λ (d : Delivery). ⊤) d ds tt (all_there ds)

pub counts-add-up : (plan : ListenPlan) (records : List Record)
    → (counts_of plan records (shown_list plan records)).presented + (counts_of plan records (shown_list plan records)).flagged + fragments_in (items_in plan records) ≡ (counts_of plan records (shown_list plan records)).packets
counts-add-up plan records =
    let ds = deliveries_of plan records in
    let each = weights (items_of ds) (items_all (λ d. ⊤) IsWeighed ds weighed (all_there ds)) in
    omega (arith, added clock_spot (schedule_plan plan) (entries_in plan records), each, all_made is_streamed ds, streamed-counted plan.stream plan.clock 1 records)
