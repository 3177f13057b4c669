-- The list of all items that a judge has returned.
use Rattle.std.proofs.Common.{◌≡◌, ℕ, zero, suc, ◌+◌, ◌-◌, ◌≤◌, true, false, List, [], ◌∷◌, ◌++◌, length, take, drop, Some, None, refl, sym, ap, ◌∙◌, subst, arith}
use Rattle.std.specs.Prelude.{slice_get}
use Rattle.std.proofs.lemmas.List.{length-append}
use Rattle.std.proofs.lemmas.Option.{slice_get_within}
use mathlib.Core.List.{IsPrefix}
use Rattle.sample_schedule.specs.declared.entry.Entry.{Entry}
use Rattle.sample_schedule.specs.declared.plan.SchedulePlan.{SchedulePlan}
use Rattle.sample_schedule.specs.declared.shown.Shown.{Shown}
use Rattle.schedule_judge.specs.Judge.{JudgeState, Keeps, StandsFor, out, taken}
use Rattle.schedule_judge.specs.state.Judge.{HasGiven}
use Rattle.sample_schedule.specs.Schedule.{due, shown, steps}
use Rattle.sample_schedule.specs.Verdicts.{Clock, IsClockOf}
use Rattle.sample_schedule.proofs.GivenLemmas.{prefix-all, prefix-more}
use Rattle.sample_schedule.proofs.Growing.{due-first, due-grows}
use Rattle.schedule_judge.proofs.JudgeLemmas.{out-ended, out-keeps, out-open}
use Rattle.sample_schedule.proofs.StageLemmas.{take-more, next-entry}

-- ---- what a judge returns is put into a list

pub given-more : (clock : Clock) (entries : List Entry) (list : List Shown) (x : Shown) (old new : JudgeState) → HasGiven clock entries list old → Some x ≡ slice_get (out clock old entries) (length list) → StandsFor clock entries (length list + 1) new → Keeps old new → HasGiven clock entries (list ++ x ∷ []) new
given-more clock entries list x old new h is st keeps =
    let l : length list + 1 ≡ length (list ++ x ∷ []) = sym (length-append list (x ∷ [])) in
    record {
      stands = subst (λ (n : ℕ). StandsFor clock entries n new) l st;
      first = subst (IsPrefix (list ++ x ∷ [])) (sym (out-keeps clock entries old new keeps)) (prefix-more list (out clock old entries) x h.first (sym is));
    }

pub given-all : (clock : Clock) (entries : List Entry) (list : List Shown) (old new : JudgeState) → HasGiven clock entries list old → None ≡ slice_get (out clock old entries) (length list) → Keeps old new → list ≡ out clock new entries
given-all clock entries list old new h is keeps = prefix-all list (out clock old entries) h.first (sym is) ∙ sym (out-keeps clock entries old new keeps)

pub given-on : (clock : Clock) (entries : List Entry) (list : List Shown) (old new : JudgeState) → HasGiven clock entries list old → StandsFor clock entries (length list + 0) new → Keeps old new → HasGiven clock entries list new
given-on clock entries list old new h st keeps =
    let e : length list + 0 ≡ length list = omega arith in
    record {
      stands = subst (λ (n : ℕ). StandsFor clock entries n new) e st;
      first = subst (IsPrefix list) (sym (out-keeps clock entries old new keeps)) h.first;
    }

-- ---- the whole list

-- The state between two entries. `left` holds the entries that the judge has not taken yet. `list` holds all due items
-- of the entries that the judge has taken.
pub record Between (plan : SchedulePlan) (all left : List Entry) (list : List Shown) (judge : JudgeState) : Type 0 where
  pub same : judge.plan ≡ plan
  pub opened : judge.closed ≡ false
  pub within : taken judge ≤ length all
  pub rest : left ≡ drop (taken judge) all
  pub stands : (clock : Clock) → IsClockOf plan clock → StandsFor clock (take (taken judge) all) (length list) judge
  pub shown : (clock : Clock) → IsClockOf plan clock → list ≡ due clock plan (take (taken judge) all)

-- the judge has taken one more entry, but the items that are now due are not yet in the list
pub between-next : (clock : Clock) (plan : SchedulePlan) (all left rest : List Entry) (e : Entry) (list : List Shown) (old new : JudgeState) → IsClockOf plan clock → Between plan all left list old → left ≡ e ∷ rest → new.plan ≡ old.plan → new.closed ≡ false → taken new ≡ taken old + 1
    → ((entries : List Entry) (given : ℕ) → StandsFor clock entries given old → StandsFor clock (entries ++ e ∷ []) given new) → HasGiven clock (take (taken old + 1) all) list new
between-next clock plan all left rest e list old new asks b more same opened counts stands =
    let n = taken old in
    let next = next-entry all n e rest (sym b.rest ∙ more) in
    let one : n + 1 ≡ suc n = omega arith in
    let done : take n all ++ e ∷ [] ≡ take (n + 1) all = sym (ap (λ (k : ℕ). take k all) one ∙ take-more all n e next.0) in
    let grows : IsPrefix list (due clock plan (take (n + 1) all)) = subst (λ (l : List Entry). IsPrefix list (due clock plan l)) done (subst (λ (l : List Shown). IsPrefix l (due clock plan (take n all ++ e ∷ []))) (sym (b.shown clock asks)) (due-grows clock plan (take n all) (e ∷ []))) in
    record {
      stands = subst (λ (l : List Entry). StandsFor clock l (length list) new) done (stands (take n all) (length list) (b.stands clock asks));
      first = subst (IsPrefix list) (sym (out-open clock (take (n + 1) all) new opened ∙ ap (λ (p : SchedulePlan). due clock p (take (n + 1) all)) (same ∙ b.same))) grows;
    }

pub left-less : (plan : SchedulePlan) (all left rest : List Entry) (e : Entry) (list : List Shown) (old : JudgeState) → Between plan all left list old → left ≡ e ∷ rest → (taken old + 1 ≤ length all) × (rest ≡ drop (taken old + 1) all)
left-less plan all left rest e list old b more =
    let next = next-entry all (taken old) e rest (sym b.rest ∙ more) in
    let within = slice_get_within all (taken old) e next.0 in
    (omega arith, next.1)

none-left : (n : ℕ) (all : List Entry) → n ≤ length all → [] ≡ drop n all → take n all ≡ all
none-left zero [] le e = refl
none-left zero (x ∷ xs) le e = absurd cc
none-left (suc n) [] le e = refl
none-left (suc n) (x ∷ xs) le e = ap (λ (l : List Entry). x ∷ l) (none-left n xs (omega arith) e)

pub ends : (clock : Clock) (plan : SchedulePlan) (all left : List Entry) (list : List Shown) (old new : JudgeState) → IsClockOf plan clock → Between plan all left list old → left ≡ [] → new.plan ≡ old.plan → new.closed ≡ true
    → ((entries : List Entry) (given : ℕ) → StandsFor clock entries given old → StandsFor clock entries given new) → HasGiven clock all list new
ends clock plan all left list old new asks b none same ended stands =
    let whole : take (taken old) all ≡ all = none-left (taken old) all b.within (sym none ∙ b.rest) in
    record {
      stands = subst (λ (l : List Entry). StandsFor clock l (length list) new) whole (stands (take (taken old) all) (length list) (b.stands clock asks));
      first = subst (IsPrefix list) (sym (out-ended clock all new ended ∙ ap (λ (p : SchedulePlan). shown clock p all) (same ∙ b.same)))
          (subst (λ (l : List Shown). IsPrefix l (shown clock plan all)) (sym (b.shown clock asks ∙ ap (due clock plan) whole)) (due-first clock plan all));
    }

pub shown-whole : (clock : Clock) (plan : SchedulePlan) (all : List Entry) (list : List Shown) (ended new : JudgeState) → list ≡ out clock new all → ended.plan ≡ plan → ended.closed ≡ true → Keeps ended new → list ≡ shown clock plan all
shown-whole clock plan all list ended new is same closed keeps = is ∙ out-keeps clock all ended new keeps ∙ out-ended clock all ended closed ∙ ap (λ (p : SchedulePlan). shown clock p all) same

due-none : (clock : Clock) (plan : SchedulePlan) → due clock plan [] ≡ []
unfolding steps
due-none clock plan = let e : 0 - plan.look ≡ 0 = omega arith in rw e refl

pub between-first : (plan : SchedulePlan) (all left : List Entry) (list : List Shown) (judge : JudgeState) → judge.plan ≡ plan → judge.closed ≡ false → taken judge ≡ 0 → left ≡ all → list ≡ [] → ((clock : Clock) → IsClockOf plan clock → StandsFor clock [] 0 judge) → Between plan all left list judge
between-first plan all left list judge same opened none is empty stands =
    let nothing : take (taken judge) all ≡ [] = ap (λ (n : ℕ). take n all) none in
    let zero' : 0 ≡ length list = ap (λ (l : List Shown). length l) (sym empty) in
    record {
      same = same;
      opened = opened;
      within = omega arith;
      rest = is ∙ ap (λ (n : ℕ). drop n all) (sym none);
      stands = λ clock asks. subst (λ (l : List Entry). StandsFor clock l (length list) judge) (sym nothing) (subst (λ (n : ℕ). StandsFor clock [] n judge) zero' (stands clock asks));
      shown = λ clock asks. empty ∙ sym (due-none clock plan) ∙ ap (due clock plan) (sym nothing);
    }

-- the judge has taken one more entry, and the items that are now due are in the list
pub between-more : (plan : SchedulePlan) (all left rest : List Entry) (e : Entry) (list more : List Shown) (old mid new : JudgeState) → Between plan all left list old → left ≡ e ∷ rest → mid.plan ≡ old.plan → mid.closed ≡ false → taken mid ≡ taken old + 1
    → ((clock : Clock) (entries : List Entry) (given : ℕ) → StandsFor clock entries given old → StandsFor clock (entries ++ e ∷ []) given mid)
    → ((clock : Clock) (entries : List Entry) → HasGiven clock entries list mid → HasGiven clock entries more new) → ((clock : Clock) (entries : List Entry) → HasGiven clock entries list mid → more ≡ out clock new entries) → Keeps mid new
    → Between plan all rest more new
between-more plan all left rest e list more old mid new b is same opened counts stands gives all-given keeps =
    let n : taken new ≡ taken old + 1 = keeps.taken ∙ counts in
    let less = left-less plan all left rest e list old b is in
    let within = less.0 in
    let plan' : new.plan ≡ plan = keeps.plan ∙ same ∙ b.same in
    let opened' : new.closed ≡ false = keeps.closed ∙ opened in
    let next = λ (clock : Clock) (asks : IsClockOf plan clock). between-next clock plan all left rest e list old mid asks b is same opened counts (stands clock) in
    record {
      same = plan';
      opened = opened';
      within = omega arith;
      rest = less.1 ∙ ap (λ (k : ℕ). drop k all) (sym n);
      stands = λ clock asks. subst (λ (k : ℕ). StandsFor clock (take k all) (length more) new) (sym n) (gives clock (take (taken old + 1) all) (next clock asks)).stands;
      shown = λ clock asks. all-given clock (take (taken old + 1) all) (next clock asks) ∙ out-open clock (take (taken old + 1) all) new opened' ∙ ap (λ (p : SchedulePlan). due clock p (take (taken old + 1) all)) plan' ∙ ap (λ (k : ℕ). due clock plan (take k all)) (sym n);
    }
