-- What a listener's judge shows of the items that are queued.
use Rattle.std.proofs.Common.{◌≡◌, ℕ, zero, suc, ◌+◌, Bool, true, false, List, [], ◌∷◌, ◌++◌, map, Some, None, refl, sym, ap, ◌∙◌, subst, append-nil, append_assoc}
use Rattle.std.specs.Prelude.{◌==◌, if◌then◌else◌, is_some, Option, slice_get}
use mathlib.Core.List.{IsPrefix}
use Rattle.clock_track.specs.Rows.{clock_spot}
use Rattle.sample_schedule.specs.declared.entry.Entry.{Entry}
use Rattle.sample_schedule.specs.declared.entry.Entry.TheVariants.{Item as OfItem, Clock as OfClock}
use Rattle.sample_schedule.specs.declared.item.Item.{Item}
use Rattle.sample_schedule.specs.declared.shown.Shown.{Shown}
use Rattle.schedule_judge.specs.Judge.{JudgeState, StandsFor as JudgeStandsFor, out as judge_out}
use Rattle.sample_schedule.specs.Schedule.{due, shown}
use Rattle.sample_schedule.proofs.Growing.{due-grows}
use Rattle.packet_journal.specs.Deliveries.{Delivery}
use Rattle.listener.specs.Gathering.{Gathered, item_entry, left}
use Rattle.crf_format.specs.Crf.{crf_subtype}
use Rattle.listener.specs.Items.{clock_row, entry_of, given_by, made_entry, made_of_one}
use Rattle.listener.specs.Listening.{Judges}
use Rattle.listener.specs.state.Listening.{shown_by}
use Rattle.listener.proofs.Due.{first_of_more}

get_first : (xs ys : List Shown) (i : ℕ) (x : Shown) → Some x ≡ slice_get xs i → Some x ≡ slice_get (xs ++ ys) i
get_first [] ys i x e = absurd cc
get_first (z ∷ xs) ys zero x e = e
get_first (z ∷ xs) ys (suc i) x e = get_first xs ys i x e

of_prefix : (xs ys : List Shown) (i : ℕ) (x : Shown) → IsPrefix xs ys → Some x ≡ slice_get xs i → Some x ≡ slice_get ys i
of_prefix xs ys i x p e = subst (λ (l : List Shown). Some x ≡ slice_get l i) p.1 (get_first xs p.0 i x e)

all_judged : (entries : List Entry) (given : ℕ) (judge : JudgeState) (units : Gathered) → left units ≡ [] → (j : Judges entries given judge units) → j.judged ≡ entries
all_judged entries given judge units none j = sym (append-nil j.judged) ∙ (ap (λ (l : List Item). j.judged ++ map item_entry l) (sym none) ∙ j.all)

found_in : (ended : Bool) (judge : JudgeState) (units : Gathered) (entries : List Entry) (given : ℕ) (x : Shown) → (j : Judges entries given judge units) → (judge.closed ≡ true → (ended ≡ true) × (left units ≡ []))
    → Some x ≡ slice_get (judge_out clock_spot judge j.judged) given → Some x ≡ slice_get (shown_by ended judge.plan entries) given
found_in ended judge units entries given x j over is = by judge.closed ended refl refl is
  where
    grown : IsPrefix (due clock_spot judge.plan j.judged) (due clock_spot judge.plan entries)
    grown = subst (λ (es : List Entry). IsPrefix (due clock_spot judge.plan j.judged) (due clock_spot judge.plan es)) j.all (due-grows clock_spot judge.plan j.judged (map item_entry (left units)))

    first : IsPrefix (due clock_spot judge.plan j.judged) (shown clock_spot judge.plan entries)
    first = subst (λ (es : List Entry). IsPrefix (due clock_spot judge.plan j.judged) (shown clock_spot judge.plan es)) j.all (first_of_more judge.plan j.judged (map item_entry (left units)))

    by : (c e : Bool) → judge.closed ≡ c → ended ≡ e → Some x ≡ slice_get (if c then shown clock_spot judge.plan j.judged else due clock_spot judge.plan j.judged) given
        → Some x ≡ slice_get (if e then shown clock_spot judge.plan entries else due clock_spot judge.plan entries) given
    by true true f g h = h ∙ ap (λ (es : List Entry). slice_get (shown clock_spot judge.plan es) given) (all_judged entries given judge units (over f).1 j)
    by true false f g h = let both = (over f).0 in absurd cc
    by false true f g h = of_prefix (due clock_spot judge.plan j.judged) (shown clock_spot judge.plan entries) given x first h
    by false false f g h = of_prefix (due clock_spot judge.plan j.judged) (due clock_spot judge.plan entries) given x grown h

pub found_out : (ended : Bool) (judge : JudgeState) (units : Gathered) (entries : List Entry) (given : ℕ) (next : Option Shown) → is_some next ≡ true → (j : Judges entries given judge units) → (judge.closed ≡ true → (ended ≡ true) × (left units ≡ []))
    → next ≡ slice_get (judge_out clock_spot judge j.judged) given → next ≡ slice_get (shown_by ended judge.plan entries) given
found_out ended judge units entries given None some j over is = absurd cc
found_out ended judge units entries given (Some x) some j over is = found_in ended judge units entries given x j over is

pub none_in : (ended : Bool) (judge : JudgeState) (units : Gathered) (entries : List Entry) (given : ℕ) → (j : Judges entries given judge units) → left units ≡ [] → (judge.closed ≡ true → ended ≡ true) → (ended ≡ true → judge.closed ≡ true)
    → None ≡ slice_get (judge_out clock_spot judge j.judged) given → None ≡ slice_get (shown_by ended judge.plan entries) given
none_in ended judge units entries given j none to from is =
    same judge.closed ended to from is ∙ ap (λ (es : List Entry). slice_get (shown_by ended judge.plan es) given) (all_judged entries given judge units none j)
  where
    same : (c e : Bool) → (c ≡ true → e ≡ true) → (e ≡ true → c ≡ true) → None ≡ slice_get (if c then shown clock_spot judge.plan j.judged else due clock_spot judge.plan j.judged) given
        → None ≡ slice_get (if e then shown clock_spot judge.plan j.judged else due clock_spot judge.plan j.judged) given
    same true true f g h = h
    same true false f g h = let both = f refl in absurd cc
    same false true f g h = let both = g refl in absurd cc
    same false false f g h = h

pub judges_on : (entries : List Entry) (given more : ℕ) (old new : JudgeState) (units : Gathered) → ((es : List Entry) (n : ℕ) → JudgeStandsFor clock_spot es n old → JudgeStandsFor clock_spot es (n + more) new) → Judges entries given old units → Judges entries (given + more) new units
judges_on entries given more old new units goes j = record { judged = j.judged; stands = goes j.judged given j.stands; all = j.all }

-- the judge takes the next queued item
pub judges_item : (entries : List Entry) (given : ℕ) (old new : JudgeState) (before after : Gathered) (item : Item) → left before ≡ item ∷ left after
    → ((es : List Entry) (n : ℕ) → JudgeStandsFor clock_spot es n old → JudgeStandsFor clock_spot (es ++ OfItem item ∷ []) n new) → Judges entries given old before → Judges entries given new after
judges_item entries given old new before after item first goes j = record {
  judged = j.judged ++ OfItem item ∷ [];
  stands = goes j.judged given j.stands;
  all = append_assoc j.judged (OfItem item ∷ []) (map item_entry (left after)) ∙ (ap (λ (l : List Item). j.judged ++ map item_entry l) (sym first) ∙ j.all);
}

-- a delivery comes, and all its items are queued
pub judges_given : (entries : List Entry) (given : ℕ) (judge : JudgeState) (old new : Gathered) (more : List Entry) → left old ≡ [] → map item_entry (left new) ≡ more → Judges entries given judge old → Judges (entries ++ more) given judge new
judges_given entries given judge old new more none gives j = record {
  judged = j.judged;
  stands = j.stands;
  all = ap (λ (l : List Entry). j.judged ++ l) gives ∙ ap (λ (l : List Entry). l ++ more) (all_judged entries given judge old none j);
}

-- a delivery comes; the judge takes its first item, and its other items are queued
pub judges_first : (entries : List Entry) (given : ℕ) (old new : JudgeState) (before after : Gathered) (item : Item) (more : List Entry) → left before ≡ [] → item_entry item ∷ map item_entry (left after) ≡ more
    → ((es : List Entry) (n : ℕ) → JudgeStandsFor clock_spot es n old → JudgeStandsFor clock_spot (es ++ OfItem item ∷ []) n new) → Judges entries given old before → Judges (entries ++ more) given new after
judges_first entries given old new before after item more none gives goes j = record {
  judged = j.judged ++ OfItem item ∷ [];
  stands = goes j.judged given j.stands;
  all =
      append_assoc j.judged (OfItem item ∷ []) (map item_entry (left after))
      ∙ (ap (λ (l : List Entry). j.judged ++ l) gives ∙ ap (λ (l : List Entry). l ++ more) (all_judged entries given old before none j));
}

-- the judge takes an entry that was not queued
pub judges_entry : (entries : List Entry) (given : ℕ) (old new : JudgeState) (units : Gathered) (entry : Entry) → left units ≡ []
    → ((es : List Entry) (n : ℕ) → JudgeStandsFor clock_spot es n old → JudgeStandsFor clock_spot (es ++ entry ∷ []) n new) → Judges entries given old units → Judges (entries ++ entry ∷ []) given new units
judges_entry entries given old new units entry none goes j = record {
  judged = j.judged ++ entry ∷ [];
  stands = goes j.judged given j.stands;
  all =
      ap (λ (l : List Item). (j.judged ++ entry ∷ []) ++ map item_entry l) none
      ∙ (append-nil (j.judged ++ entry ∷ []) ∙ ap (λ (l : List Entry). l ++ entry ∷ []) (all_judged entries given old units none j));
}

pub item_open : (closed ended : Bool) (before after : Gathered) (item : Item) → (closed ≡ true → (ended ≡ true) × (left before ≡ [])) → left before ≡ item ∷ left after → closed ≡ false
item_open true ended before after item over first = let none = (over refl).1 in let both = sym first ∙ none in absurd cc
item_open false ended before after item over first = refl

pub clock_given : (ds : List Delivery) (d : Delivery) → d.subtype ≡ crf_subtype → map made_entry (given_by ds d) ≡ OfClock d.arrival (clock_row d) ∷ []
clock_given ds d e =
    let test : (d.subtype == crf_subtype) ≡ true = rw e refl in
    let here : given_by ds d ≡ made_of_one d ∷ [] = rw test refl in
    let entry : entry_of d ≡ OfClock d.arrival (clock_row d) = rw test refl in
    ap (map made_entry) here ∙ ap (λ (x : Entry). x ∷ []) entry
