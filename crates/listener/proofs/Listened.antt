-- A listener after one more record, after one more item that it shows, and after the end.
use Rattle.std.proofs.Common.{◌≡◌, ℕ, ◌+◌, ◌-◌, ◌<◌, ◌≤◌, zero, suc, Bool, true, false, List, [], ◌∷◌, ◌++◌, length, map, take, Option, Some, None, refl, sym, ap, ◌∙◌, subst, arith, length-append, append-nil, if◌then◌else◌, cond, option_to_list}
use Rattle.std.specs.Prelude.{count_by, slice_get, ◌==◌, not}
use Rattle.std.proofs.lemmas.List.{length-map, map-append, take-append-le}
use Rattle.std.proofs.lemmas.List.Sums.{sum_by-append, sum_by-cons}
use Rattle.std.proofs.lemmas.Option.{slice_get_within}
use mathlib.Core.List.{IsPrefix}
use Rattle.clock_track.specs.Rows.{clock_spot}
use Rattle.avtp_header.specs.Header.{peeked_of}
use Rattle.avtp_header.specs.Numbers.{crf_subtype}
use Rattle.pcap_frames.specs.Capture.{Record}
use Rattle.sample_schedule.specs.declared.entry.Entry.{Entry}
use Rattle.sample_schedule.specs.declared.plan.SchedulePlan.{SchedulePlan}
use Rattle.sample_schedule.specs.declared.shown.Shown.{Shown}
use Rattle.sample_schedule.specs.declared.shown.Shown.TheVariants.{Present, Flag}
use Rattle.sample_schedule.specs.declared.item.Item.{Item}
use Rattle.schedule_judge.specs.Judge.{JudgeState, StandsFor as JudgeStandsFor, taken}
use Rattle.schedule_judge.proofs.JudgeLemmas.{all-taken, nothing-due}
use Rattle.packet_journal.specs.Deliveries.{Delivery, deliveries, delivery, is_delivered, packet_in}
use Rattle.listener.specs.declared.heard.Counts.{Counts}
use Rattle.listener.specs.declared.plan.ListenPlan.{ListenPlan}
use Rattle.listener.specs.Heard.{counts_of, deliveries_of, entries_in, entries_so_far_in, is_flag, is_present, schedule_plan, shown_of, due_of}
use Rattle.listener.specs.Gathering.{Gathered, HasUnits, item_entry, left}
use Rattle.listener.specs.Items.{entries_so_far, given_by, items_so_far, left_at_end, made_entry}
use Rattle.listener.specs.Listening.{Judges, ListenState, StandsFor, entries_by, is_closed, out}
use Rattle.listener.specs.state.Listening.{Rests, shown_by, with_record, with_shown}
use Rattle.listener.proofs.Due.{due_first, entries_at_end, due_stays}
use Rattle.listener.proofs.Few.{deliveries-few, entries-few, few, so-far-few}
use Rattle.listener.proofs.Judging.{none_in}
use Rattle.listener.proofs.Further.{more_by, none_more, of_none, of_stream, one_more}
use Rattle.listener.proofs.Made.{so_far_next}
use Rattle.listener.proofs.Places.{presented-or-flagged}

-- ---- lists

pub take_first : (n : ℕ) (xs ys : List Shown) → IsPrefix xs ys → n ≤ length xs → take n ys ≡ take n xs
take_first n xs ys first within = ap (take n) (sym first.1) ∙ take-append-le n xs first.0 within

pub first_long : (xs ys : List Shown) → IsPrefix xs ys → length xs ≤ length ys
first_long xs ys first = omega (arith, ap length first.1, length-append xs first.0)

take_suc : (xs : List Shown) (i : ℕ) (x : Shown) → slice_get xs i ≡ Some x → take (suc i) xs ≡ take i xs ++ x ∷ []
take_suc [] i x e = absurd cc
take_suc (y ∷ xs) zero x e = let same : y ≡ x = cc in rw same refl
take_suc (y ∷ xs) (suc i) x e = ap (λ l. y ∷ l) (take_suc xs i x e)

pub take_next : (xs : List Shown) (i : ℕ) (x : Shown) → slice_get xs i ≡ Some x → take (i + 1) xs ≡ take i xs ++ x ∷ []
take_next xs i x e = let one : i + 1 ≡ suc i = omega arith in rw one (take_suc xs i x e)

count_one : (p : Shown → Bool) (x : Shown) → count_by p (x ∷ []) ≡ cond (p x) 1 0
count_one p x = let more = sum_by-cons (λ (y : Shown). cond (p y) 1 0) x [] in omega (arith, more)

pub count_next : (p : Shown → Bool) (xs : List Shown) (x : Shown) → count_by p (xs ++ x ∷ []) ≡ count_by p xs + cond (p x) 1 0
count_next p xs x = sum_by-append (λ (y : Shown). cond (p y) 1 0) xs (x ∷ []) ∙ ap (λ n. count_by p xs + n) (count_one p x)

-- ---- counts

abbrev counts_with : ℕ → ℕ → ℕ → ℕ → Counts
counts_with frames packets presented flagged = record { frames = frames; packets = packets; presented = presented; flagged = flagged }

pub counted_on : (plan : ListenPlan) (records : List Record) (r : Record) (list : List Shown) (b : Bool) → is_delivered plan.stream None r.bytes ≡ b
    → with_record (counts_of plan records list) b ≡ counts_of plan (records ++ r ∷ []) list
counted_on plan records r list b is =
    let frames : length records + 1 ≡ length (records ++ r ∷ []) = sym (length-append records (r ∷ [])) in
    let packets = sym (more_by b plan.stream None records r is) in
    ap (λ (n : ℕ). counts_with n (length (deliveries plan.stream None records) + cond b 1 0) (count_by is_present list) (count_by is_flag list)) frames
    ∙ ap (λ (n : ℕ). counts_with (length (records ++ r ∷ [])) n (count_by is_present list) (count_by is_flag list)) packets

pub counted_shown : (plan : ListenPlan) (records : List Record) (list : List Shown) (x : Shown) → with_shown (counts_of plan records list) x ≡ counts_of plan records (list ++ x ∷ [])
counted_shown plan records list x =
    let presented = count_next is_present list x in
    let flagged = count_next is_flag list x in
    by x ∙ ap (λ (n : ℕ). counts_with (length records) (length (deliveries plan.stream None records)) n (count_by is_flag list + cond (is_flag x) 1 0)) (sym presented)
    ∙ ap (λ (n : ℕ). counts_with (length records) (length (deliveries plan.stream None records)) (count_by is_present (list ++ x ∷ [])) n) (sym flagged)
  where
    none : (n : ℕ) → n ≡ n + 0
    none n = omega arith

    by : (x : Shown) → with_shown (counts_of plan records list) x ≡ counts_with (length records) (length (deliveries plan.stream None records)) (count_by is_present list + cond (is_present x) 1 0) (count_by is_flag list + cond (is_flag x) 1 0)
    by (Present batch) = ap (λ (n : ℕ). counts_with (length records) (length (deliveries plan.stream None records)) (count_by is_present list + 1) n) (none (count_by is_flag list))
    by (Flag frame seq reason) = ap (λ (n : ℕ). counts_with (length records) (length (deliveries plan.stream None records)) n (count_by is_flag list + 1)) (none (count_by is_present list))

-- ---- what is shown

pub out_open : (l : ListenState) (records : List Record) → is_closed l ≡ false → out l records ≡ due_of l.plan records
out_open l records e = rw e refl

pub out_ended : (l : ListenState) (records : List Record) → is_closed l ≡ true → out l records ≡ shown_of l.plan records
out_ended l records e = rw e refl

pub out_same : (old new : ListenState) (records : List Record) → new.plan ≡ old.plan → is_closed new ≡ is_closed old → out new records ≡ out old records
out_same old new records plan closed =
    ap (λ (p : ListenPlan). if is_closed new then shown_of p records else due_of p records) plan
    ∙ ap (λ (b : Bool). if b then shown_of old.plan records else due_of old.plan records) closed

pub out_further : (old new : ListenState) (records more : List Record) → is_closed old ≡ false → is_closed new ≡ false → new.plan ≡ old.plan → IsPrefix (out old records) (out new (records ++ more))
out_further old new records more opened still plan =
    let all = records ++ more in
    let after : out new all ≡ due_of old.plan all = out_open new all still ∙ ap (λ (p : ListenPlan). due_of p all) plan in
    subst (λ (l : List Shown). IsPrefix l (out new all)) (sym (out_open old records opened)) (subst (IsPrefix (due_of old.plan records)) (sym after) (due_stays old.plan records more))

pub out_at_end : (old new : ListenState) (records : List Record) → is_closed old ≡ false → is_closed new ≡ true → new.plan ≡ old.plan → IsPrefix (out old records) (out new records)
out_at_end old new records opened closed plan =
    let after : out new records ≡ shown_of old.plan records = out_ended new records closed ∙ ap (λ (p : ListenPlan). shown_of p records) plan in
    subst (λ (l : List Shown). IsPrefix l (out new records)) (sym (out_open old records opened)) (subst (IsPrefix (due_of old.plan records)) (sym after) (due_first old.plan records))

pub out_judged : (l : ListenState) (records : List Record) → l.judge.plan ≡ schedule_plan l.plan → shown_by (is_closed l) l.judge.plan (entries_by (is_closed l) l.plan records) ≡ out l records
out_judged l records plan = ap (λ (p : SchedulePlan). shown_by (is_closed l) p (entries_by (is_closed l) l.plan records)) plan ∙ by (is_closed l)
  where
    by : (b : Bool) → shown_by b (schedule_plan l.plan) (entries_by b l.plan records) ≡ (if b then shown_of l.plan records else due_of l.plan records)
    by true = refl
    by false = refl

entries_open : (l : ListenState) (records : List Record) → is_closed l ≡ false → entries_by (is_closed l) l.plan records ≡ entries_so_far_in l.plan records
entries_open l records e = rw e refl

entries_ended : (l : ListenState) (records : List Record) → is_closed l ≡ true → entries_by (is_closed l) l.plan records ≡ entries_in l.plan records
entries_ended l records e = rw e refl

entries_same : (old new : ListenState) (records : List Record) → new.plan ≡ old.plan → is_closed new ≡ is_closed old → entries_by (is_closed new) new.plan records ≡ entries_by (is_closed old) old.plan records
entries_same old new records plan closed =
    ap (λ (p : ListenPlan). entries_by (is_closed new) p records) plan ∙ ap (λ (b : Bool). entries_by b old.plan records) closed

judges_as : (es fs : List Entry) (given : ℕ) (judge : JudgeState) (units : Gathered) → es ≡ fs → Judges es given judge units → Judges fs given judge units
judges_as es fs given judge units same j = subst (λ (l : List Entry). Judges l given judge units) same j

never : {X : Type 0} (b : Bool) → b ≡ true → b ≡ false → X
never {X} true e f = absurd cc
never {X} false e f = absurd cc

-- ---- one more record

-- the listener's state after one more record, whose entries are `more`
further : (records : List Record) (r : Record) (given : ℕ) (old new : ListenState) (more : List Entry) (b : Bool) → StandsFor records given old
    → new.plan ≡ old.plan → is_closed old ≡ false → is_closed new ≡ false → new.judge.plan ≡ old.judge.plan → new.judge.closed ≡ false
    → HasUnits (deliveries_of old.plan (records ++ r ∷ [])) new.units
    → entries_so_far_in old.plan (records ++ r ∷ []) ≡ entries_so_far_in old.plan records ++ more → Judges (entries_so_far_in old.plan records ++ more) given new.judge new.units
    → is_delivered old.plan.stream None r.bytes ≡ b → new.counts ≡ with_record old.counts b
    → StandsFor (records ++ r ∷ []) given new
further records r given old new more b st plan opened still schedule lasting units es judges is counts =
    let all = records ++ r ∷ [] in
    let first = out_further old new records (r ∷ []) opened still plan in
    let same = take_first given (out old records) (out new all) first st.within in
    record {
      plan = schedule ∙ (st.plan ∙ ap schedule_plan (sym plan));
      units = λ still_open. subst (λ (p : ListenPlan). HasUnits (deliveries_of p all) new.units) (sym plan) units;
      judges = judges_as _ _ given new.judge new.units (sym (entries_open new all still ∙ (ap (λ (p : ListenPlan). entries_so_far_in p all) plan ∙ es))) judges;
      ends = λ closed. never new.judge.closed closed lasting;
      within = omega (arith, st.within, first_long (out old records) (out new all) first);
      counts = counts ∙ (ap (λ (c : Counts). with_record c b) st.counts
          ∙ (counted_on old.plan records r (take given (out old records)) b is
          ∙ (ap (λ (p : ListenPlan). counts_of p all (take given (out old records))) (sym plan)
          ∙ ap (counts_of new.plan all) (sym same))));
    }

pub judge_open : (records : List Record) (given : ℕ) (l : ListenState) → StandsFor records given l → is_closed l ≡ false → l.judge.closed ≡ false
judge_open records given l st opened = by l.judge.closed refl
  where
    by : (b : Bool) → l.judge.closed ≡ b → b ≡ false
    by true e = never (is_closed l) (st.ends e).0 opened
    by false e = refl

pub judges_open : (records : List Record) (given : ℕ) (l : ListenState) → StandsFor records given l → is_closed l ≡ false → Judges (entries_so_far_in l.plan records) given l.judge l.units
judges_open records given l st opened = judges_as _ _ given l.judge l.units (entries_open l records opened) st.judges

-- the listener's state after a record that belongs neither to the stream nor to its clock
pub stands_without : (records : List Record) (r : Record) (given : ℕ) (old new : ListenState) → StandsFor records given old
    → is_closed old ≡ false → is_delivered old.plan.stream old.plan.clock r.bytes ≡ false
    → new.plan ≡ old.plan → is_closed new ≡ false → new.judge ≡ old.judge → new.units ≡ old.units → new.counts ≡ with_record old.counts false
    → StandsFor (records ++ r ∷ []) given new
stands_without records r given old new st opened out_of_it plan still judge units counts =
    let none = none_more old.plan.stream old.plan.clock records r out_of_it in
    let es : entries_so_far_in old.plan records ≡ entries_so_far_in old.plan records ++ [] = sym (append-nil (entries_so_far_in old.plan records)) in
    let judges = judges_as _ _ given old.judge old.units (entries_open old records opened ∙ es) st.judges in
    further records r given old new [] false st plan opened still (ap (λ (j : JudgeState). j.plan) judge)
    (ap (λ (j : JudgeState). j.closed) judge ∙ judge_open records given old st opened)
    (subst (λ (ds : List Delivery). HasUnits ds new.units) (sym none) (subst (λ (u : Gathered). HasUnits (deliveries_of old.plan records) u) (sym units) (st.units opened)))
    (ap entries_so_far none ∙ es)
    (subst (λ (j : JudgeState). Judges (entries_so_far_in old.plan records ++ []) given j new.units) (sym judge) (subst (λ (u : Gathered). Judges (entries_so_far_in old.plan records ++ []) given old.judge u) (sym units) judges))
    (of_none old.plan.stream old.plan.clock r.bytes out_of_it) counts

-- the listener's state after a record that belongs to the stream or to its clock
pub stands_with : (records : List Record) (r : Record) (given : ℕ) (old new : ListenState) → StandsFor records given old
    → is_closed old ≡ false → is_delivered old.plan.stream old.plan.clock r.bytes ≡ true
    → new.plan ≡ old.plan → is_closed new ≡ false → new.judge.plan ≡ old.judge.plan → new.judge.closed ≡ false
    → HasUnits (deliveries_of old.plan records ++ delivery (old.counts.frames + 1) r ∷ []) new.units
    → Judges (entries_so_far_in old.plan records ++ map made_entry (given_by (deliveries_of old.plan records) (delivery (old.counts.frames + 1) r))) given new.judge new.units
    → new.counts ≡ with_record old.counts (not ((peeked_of (packet_in r.bytes)).subtype == crf_subtype))
    → StandsFor (records ++ r ∷ []) given new
stands_with records r given old new st opened in_it plan still schedule lasting units judges counts =
    let ds = deliveries_of old.plan records in
    let number : old.counts.frames + 1 ≡ 1 + length records = let frames = ap (λ (c : Counts). c.frames) st.counts in omega (arith, frames) in
    let d = delivery (1 + length records) r in
    let one = one_more old.plan.stream old.plan.clock records r in_it in
    further records r given old new (map made_entry (given_by ds d)) _ st plan opened still schedule lasting
    (subst (λ (l : List Delivery). HasUnits l new.units) (sym one) (subst (λ (n : ℕ). HasUnits (ds ++ delivery n r ∷ []) new.units) number units))
    (ap entries_so_far one ∙ (ap (map made_entry) (so_far_next ds d) ∙ map-append made_entry (items_so_far ds) (given_by ds d)))
    (subst (λ (n : ℕ). Judges (entries_so_far_in old.plan records ++ map made_entry (given_by ds (delivery n r))) given new.judge new.units) number judges)
    (of_stream old.plan.stream old.plan.clock r.bytes in_it) counts

-- ---- an item is shown

-- The two states differ only in that `new` has returned one more item.
pub record Goes (old new : ListenState) : Type 0 where
  pub plan : new.plan ≡ old.plan
  pub closed : is_closed new ≡ is_closed old
  pub schedule : new.judge.plan ≡ old.judge.plan
  pub units : (ds : List Delivery) → HasUnits ds old.units → HasUnits ds new.units
  pub ends : new.judge.closed ≡ true → (is_closed old ≡ true) × (left new.units ≡ [])

stands_shown : (records : List Record) (given : ℕ) (old new : ListenState) (x : Shown) → StandsFor records given old → Some x ≡ slice_get (out old records) given
    → Goes old new → Judges (entries_by (is_closed old) old.plan records) (given + 1) new.judge new.units
    → new.counts ≡ with_shown old.counts x → StandsFor records (given + 1) new
stands_shown records given old new x st is goes judges counts =
    let same = out_same old new records goes.plan goes.closed in
    let within = slice_get_within (out old records) given x (sym is) in
    record {
      plan = goes.schedule ∙ (st.plan ∙ ap schedule_plan (sym goes.plan));
      units = λ still_open. subst (λ (p : ListenPlan). HasUnits (deliveries_of p records) new.units) (sym goes.plan) (goes.units (deliveries_of old.plan records) (st.units (sym goes.closed ∙ still_open)));
      judges = judges_as _ _ (given + 1) new.judge new.units (sym (entries_same old new records goes.plan goes.closed)) judges;
      ends = λ closed. (goes.closed ∙ (goes.ends closed).0, (goes.ends closed).1);
      within = omega (arith, within, ap length same);
      counts = counts ∙ (ap (λ (c : Counts). with_shown c x) st.counts
          ∙ (counted_shown old.plan records (take given (out old records)) x
          ∙ (ap (counts_of old.plan records) (sym (take_next (out old records) given x (sym is)))
          ∙ (ap (λ (l : List Shown). counts_of old.plan records (take (given + 1) l)) (sym same)
          ∙ ap (λ (p : ListenPlan). counts_of p records (take (given + 1) (out new records))) (sym goes.plan)))));
    }

pub stands_next : (records : List Record) (given : ℕ) (old new : ListenState) (next : Option Shown) (x : Shown) → next ≡ Some x → StandsFor records given old → next ≡ slice_get (out old records) given
    → Goes old new → Judges (entries_by (is_closed old) old.plan records) (given + length (option_to_list next)) new.judge new.units
    → new.counts ≡ with_shown old.counts x → StandsFor records (given + length (option_to_list next)) new
stands_next records given old new None x same st is goes judges counts = absurd cc
stands_next records given old new (Some y) x same st is goes judges counts =
    let e : y ≡ x = cc in stands_shown records given old new y st is goes judges (counts ∙ ap (with_shown old.counts) (sym e))

-- ---- the end

-- the state of the judge after the end, when the entries of the last fragments are queued
ended_judges : (plan : ListenPlan) (records : List Record) (given : ℕ) (judge : JudgeState) (old new : Gathered) → left old ≡ [] → map item_entry (left new) ≡ map made_entry (left_at_end (deliveries_of plan records))
    → Judges (entries_so_far_in plan records) given judge old → Judges (entries_in plan records) given judge new
ended_judges plan records given judge old new none more j = record {
  judged = j.judged;
  stands = j.stands;
  all =
      let same : j.judged ≡ entries_so_far_in plan records = sym (append-nil j.judged) ∙ (ap (λ (l : List Item). j.judged ++ map item_entry l) (sym none) ∙ j.all) in
      ap (λ (l : List Entry). j.judged ++ l) more ∙ (ap (λ (l : List Entry). l ++ map made_entry (left_at_end (deliveries_of plan records))) same ∙ sym (entries_at_end plan records));
}

pub stands_closed : (records : List Record) (given : ℕ) (old new : ListenState) → StandsFor records given old
    → is_closed old ≡ false → is_closed new ≡ true → new.plan ≡ old.plan → new.judge ≡ old.judge → left old.units ≡ []
    → ((ds : List Delivery) → HasUnits ds old.units → map item_entry (left new.units) ≡ map made_entry (left_at_end ds))
    → new.counts ≡ old.counts → StandsFor records given new
stands_closed records given old new st opened closed plan judge none gives counts =
    let first = out_at_end old new records opened closed plan in
    let same = take_first given (out old records) (out new records) first st.within in
    let judges = judges_as _ _ given old.judge old.units (entries_open old records opened) st.judges in
    let ended = ended_judges old.plan records given old.judge old.units new.units none (gives (deliveries_of old.plan records) (st.units opened)) judges in
    let es : entries_by (is_closed new) new.plan records ≡ entries_in old.plan records = entries_ended new records closed ∙ ap (λ (p : ListenPlan). entries_in p records) plan in
    record {
      plan = ap (λ (j : JudgeState). j.plan) judge ∙ (st.plan ∙ ap schedule_plan (sym plan));
      units = λ still_open. never (is_closed new) closed still_open;
      judges = judges_as _ _ given new.judge new.units (sym es) (subst (λ (j : JudgeState). Judges (entries_in old.plan records) given j new.units) (sym judge) ended);
      ends = λ over. never old.judge.closed (sym (ap (λ (j : JudgeState). j.closed) judge) ∙ over) (judge_open records given old st opened);
      within = omega (arith, st.within, first_long (out old records) (out new records) first);
      counts = counts ∙ (st.counts
          ∙ (ap (λ (p : ListenPlan). counts_of p records (take given (out old records))) (sym plan)
          ∙ ap (counts_of new.plan records) (sym same)));
    }

-- ---- numbers

entries_few : (b : Bool) (plan : ListenPlan) (records : List Record) → length (entries_by b plan records) ≤ length records
entries_few true plan records = entries-few plan records
entries_few false plan records = omega (arith, so-far-few plan records, entries-few plan records)

-- each entry that was judged or is queued has a record of its own
pub taken_few : (records : List Record) (given : ℕ) (l : ListenState) → StandsFor records given l → taken l.judge + length (left l.units) ≤ l.counts.frames
taken_few records given l st =
    let j = st.judges in
    omega (
      arith,
      all-taken clock_spot j.judged given l.judge j.stands,
      length-append j.judged (map item_entry (left l.units)),
      length-map (left l.units) item_entry,
      ap length j.all,
      entries_few (is_closed l) l.plan records,
      ap (λ (c : Counts). c.frames) st.counts,
    )

pub packets_few : (records : List Record) (given : ℕ) (l : ListenState) → StandsFor records given l → l.counts.packets ≤ l.counts.frames
packets_few records given l st =
    omega (arith, ap (λ (c : Counts). c.packets) st.counts, ap (λ (c : Counts). c.frames) st.counts, deliveries-few l.plan.stream None records)

pub shown_few : (records : List Record) (given : ℕ) (l : ListenState) (x : Shown) → StandsFor records given l → Some x ≡ slice_get (out l records) given → l.counts.presented + l.counts.flagged < l.counts.frames
shown_few records given l x st is =
    let within = slice_get_within (out l records) given x (sym is) in
    let long : length (take given (out l records)) ≡ given = rules_long given (out l records) st.within in
    omega (
      arith,
      within,
      long,
      presented-or-flagged (take given (out l records)),
      ap (λ (c : Counts). c.presented) st.counts,
      ap (λ (c : Counts). c.flagged) st.counts,
      ap (λ (c : Counts). c.frames) st.counts,
      few (is_closed l) clock_spot (schedule_plan l.plan) l.plan records,
    )
  where
    rules_long : (n : ℕ) (xs : List Shown) → n ≤ length xs → length (take n xs) ≡ n
    rules_long zero xs le = refl
    rules_long (suc n) [] le = absurd (omega arith)
    rules_long (suc n) (x ∷ xs) le = ap suc (rules_long n xs (omega arith))

-- ---- the beginning

pub stands_begun : (plan : ListenPlan) (units : Gathered) (judge : JudgeState) (counts : Counts) → judge.plan ≡ schedule_plan plan → judge.closed ≡ false → JudgeStandsFor clock_spot [] 0 judge → HasUnits [] units → left units ≡ [] → counts ≡ counts_with 0 0 0 0
    → StandsFor [] 0 (record { plan = plan; units = units; judge = judge; ended = false; counts = counts })
stands_begun plan units judge counts schedule lasting stands has none no_counts = record {
  plan = schedule;
  units = λ still_open. has;
  judges = record { judged = []; stands = stands; all = ap (map item_entry) none };
  ends = λ closed. never judge.closed closed lasting;
  within = omega arith;
  counts = no_counts;
}

-- ---- what a listener's judge shows

pub given_out : (records : List Record) (given : ℕ) (l : ListenState) (x : Option Shown) → StandsFor records given l
    → x ≡ slice_get (shown_by (is_closed l) l.judge.plan (entries_by (is_closed l) l.plan records)) given → x ≡ slice_get (out l records) given
given_out records given l x st is = is ∙ ap (λ (o : List Shown). slice_get o given) (out_judged l records st.plan)

pub nothing_out : (records : List Record) (given : ℕ) (l : ListenState) → StandsFor records given l → Rests l → None ≡ slice_get (out l records) given
nothing_out records given l st rests =
    let still = judge_open records given l st rests.opened in
    given_out records given l None st
    (none_in (is_closed l) l.judge l.units _ given st.judges rests.idle.none (λ e. never l.judge.closed e still) (λ e. never (is_closed l) e rests.opened)
    (sym (nothing-due clock_spot st.judges.judged given l.judge st.judges.stands still rests.idle.judge)))

pub still_rests : (old new : ListenState) → is_closed new ≡ is_closed old → new.judge ≡ old.judge → new.units ≡ old.units → Rests old → Rests new
still_rests old new closed judge units rests = record {
  opened = closed ∙ rests.opened;
  idle = record {
    judge = ap (λ (j : JudgeState). j.current) judge ∙ rests.idle.judge;
    none = ap left units ∙ rests.idle.none;
  };
}

pub work_less : (old new : Counts) (x : Shown) → new ≡ with_shown old x → old.presented + old.flagged < old.frames
    → new.frames - (new.presented + new.flagged) + 1 ≤ old.frames - (old.presented + old.flagged)
work_less old new (Present batch) e some = omega (arith, some, ap (λ (c : Counts). c.frames) e, ap (λ (c : Counts). c.presented) e, ap (λ (c : Counts). c.flagged) e)
work_less old new (Flag frame seq reason) e some = omega (arith, some, ap (λ (c : Counts). c.frames) e, ap (λ (c : Counts). c.presented) e, ap (λ (c : Counts). c.flagged) e)

pub shown_frames : (old : Counts) (x : Shown) → (with_shown old x).frames ≡ old.frames
shown_frames old (Present batch) = refl
shown_frames old (Flag frame seq reason) = refl
