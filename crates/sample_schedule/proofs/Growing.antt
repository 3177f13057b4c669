-- The due items of the first entries of a list are still due when the list continues.
use Rattle.std.proofs.Common.{◌≡◌, ℕ, zero, suc, ◌+◌, ◌-◌, ◌<◌, ◌≤◌, List, [], ◌∷◌, ◌++◌, length, take, map, Option, Some, None, refl, sym, ap, ◌∙◌, append_assoc, arith}
use Rattle.std.specs.Prelude.{slice_get, option_and_then}
use Rattle.std.proofs.lemmas.List.{append-nil, length-append, take-append-le}
use mathlib.Core.List.{IsPrefix}
use Rattle.sample_schedule.specs.declared.accepted.Accepted.{Accepted}
use Rattle.sample_schedule.specs.declared.entry.Entry.{Entry}
use Rattle.sample_schedule.specs.declared.entry.Entry.TheVariants.{Item as OfItem, Clock as OfClock}
use Rattle.sample_schedule.specs.declared.plan.SchedulePlan.{SchedulePlan}
use Rattle.sample_schedule.specs.Schedule.{Given, accepted, due, given, judged, rest_of, settled, shown, shown_of, step, steps, verdict_at}
use Rattle.sample_schedule.specs.Verdicts.{Clock}
use Rattle.sample_schedule.proofs.StageLemmas.{map-after}

-- ---- lists

pub take-first : (n : ℕ) (xs ys : List Entry) → n ≤ length xs → take n (xs ++ ys) ≡ take n xs
take-first = take-append-le

pub get-first : (n : ℕ) (xs ys : List Entry) → n < length xs → slice_get (xs ++ ys) n ≡ slice_get xs n
get-first n [] ys lt = absurd (omega arith)
get-first zero (x ∷ xs) ys lt = refl
get-first (suc n) (x ∷ xs) ys lt = get-first n xs ys (omega arith)

-- ---- the verdicts on the first entries are unchanged

judged-stays : (clock : Clock) (plan : SchedulePlan) (es more : List Entry) (i : ℕ) (earlier : List Accepted) (e : Entry) → i < settled plan es → judged clock plan (es ++ more) i earlier e ≡ judged clock plan es i earlier e
judged-stays clock plan es more i earlier (OfItem item) lt =
    let now : take (suc i) (es ++ more) ≡ take (suc i) es = take-first (suc i) es more (omega arith) in
    let known : take (i + plan.look + 1) (es ++ more) ≡ take (i + plan.look + 1) es = take-first (i + plan.look + 1) es more (omega arith) in
    rw (now, known) refl
judged-stays clock plan es more i earlier (OfClock arrival row) lt = refl

verdict-stays : (clock : Clock) (plan : SchedulePlan) (es more : List Entry) (i : ℕ) (earlier : List Accepted) → i < settled plan es → verdict_at clock plan (es ++ more) i earlier ≡ verdict_at clock plan es i earlier
unfolding verdict_at
verdict-stays clock plan es more i earlier lt =
    let at : slice_get (es ++ more) i ≡ slice_get es i = get-first i es more (omega arith) in
    ap (option_and_then (judged clock plan (es ++ more) i earlier)) at ∙ same (slice_get es i)
  where
    same : (o : Option Entry) → option_and_then (judged clock plan (es ++ more) i earlier) o ≡ option_and_then (judged clock plan es i earlier) o
    same None = refl
    same (Some e) = judged-stays clock plan es more i earlier e lt

pub accepted-stays : (clock : Clock) (plan : SchedulePlan) (es more : List Entry) (n : ℕ) → n ≤ settled plan es → accepted clock plan (es ++ more) n ≡ accepted clock plan es n
unfolding accepted
accepted-stays clock plan es more zero le = refl
accepted-stays clock plan es more (suc n) le =
    let before : accepted clock plan (es ++ more) n ≡ accepted clock plan es n = accepted-stays clock plan es more n (omega arith) in
    let same : verdict_at clock plan (es ++ more) n (accepted clock plan es n) ≡ verdict_at clock plan es n (accepted clock plan es n) = verdict-stays clock plan es more n (accepted clock plan es n) (omega arith) in
    rw (before, same) refl

step-stays : (clock : Clock) (plan : SchedulePlan) (es more : List Entry) (n : ℕ) → n < settled plan es → step clock plan (es ++ more) n ≡ step clock plan es n
unfolding step
step-stays clock plan es more n lt =
    let before : accepted clock plan (es ++ more) n ≡ accepted clock plan es n = accepted-stays clock plan es more n (omega arith) in
    let same : verdict_at clock plan (es ++ more) n (accepted clock plan es n) ≡ verdict_at clock plan es n (accepted clock plan es n) = verdict-stays clock plan es more n (accepted clock plan es n) lt in
    let from : take n (es ++ more) ≡ take n es = take-first n es more (omega arith) in
    let to : take (suc n) (es ++ more) ≡ take (suc n) es = take-first (suc n) es more (omega arith) in
    let at : slice_get (es ++ more) n ≡ slice_get es n = get-first n es more (omega arith) in
    rw (before, same, from, to, at) refl

pub steps-stay : (clock : Clock) (plan : SchedulePlan) (es more : List Entry) (n : ℕ) → n ≤ settled plan es → steps clock plan (es ++ more) n ≡ steps clock plan es n
unfolding steps
steps-stay clock plan es more zero le = refl
steps-stay clock plan es more (suc n) le =
    let before : steps clock plan (es ++ more) n ≡ steps clock plan es n = steps-stay clock plan es more n (omega arith) in
    let last : step clock plan (es ++ more) n ≡ step clock plan es n = step-stays clock plan es more n (omega arith) in
    rw (before, last) refl

-- ---- the steps of the first `n` entries are the beginning of the steps of the first `n` + `k` entries

steps-first : (clock : Clock) (plan : SchedulePlan) (es : List Entry) (n k : ℕ) → IsPrefix (steps clock plan es n) (steps clock plan es (n + k))
unfolding steps
steps-first clock plan es n zero = let e : n + 0 ≡ n = omega arith in rw e ([], append-nil (steps clock plan es n))
steps-first clock plan es n (suc k) =
    let e : n + suc k ≡ suc (n + k) = omega arith in
    let before = steps-first clock plan es n k in
    rw e (before.0 ++ step clock plan es (n + k), sym (append_assoc (steps clock plan es n) before.0 (step clock plan es (n + k))) ∙ ap (λ (l : List Given). l ++ step clock plan es (n + k)) before.1)

pub steps-upto : (clock : Clock) (plan : SchedulePlan) (es : List Entry) (n m : ℕ) → n ≤ m → IsPrefix (steps clock plan es n) (steps clock plan es m)
steps-upto clock plan es n m le = let e : n + (m - n) ≡ m = omega arith in rw e at (steps-first clock plan es n (m - n))

shown-prefix : (xs ys : List Given) → IsPrefix xs ys → IsPrefix (map shown_of xs) (map shown_of ys)
shown-prefix xs ys p = (map shown_of p.0, sym (map-after shown_of xs p.0) ∙ ap (map shown_of) p.1)

pub due-grows : (clock : Clock) (plan : SchedulePlan) (es more : List Entry) → IsPrefix (due clock plan es) (due clock plan (es ++ more))
due-grows clock plan es more =
    let n = settled plan es in
    let further = length-append es more in
    let more_steps = steps-upto clock plan (es ++ more) n (settled plan (es ++ more)) (omega arith) in
    let first = steps-stay clock plan es more n (omega arith) in
    shown-prefix (steps clock plan es n) (steps clock plan (es ++ more) (settled plan (es ++ more))) (rw first at more_steps)

pub due-first : (clock : Clock) (plan : SchedulePlan) (es : List Entry) → IsPrefix (due clock plan es) (shown clock plan es)
unfolding given
due-first clock plan es =
    let n = settled plan es in
    let all = steps-upto clock plan es n (length es) (omega arith) in
    shown-prefix (steps clock plan es n) (given clock plan es) (all.0 ++ rest_of clock plan es, sym (append_assoc (steps clock plan es n) all.0 (rest_of clock plan es)) ∙ ap (λ (l : List Given). l ++ rest_of clock plan es) all.1)
