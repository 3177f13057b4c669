-- What changes when one more entry is judged.
use Rattle.std.proofs.Common.{◌≡◌, ℕ, zero, suc, ◌+◌, ℤ, pos, ◌≤ℤ◌, List, [], ◌∷◌, ◌++◌, take, drop, map, Some, refl, sym, ap, ◌∙◌, arith}
use Rattle.std.specs.Prelude.{slice_get}
use Rattle.std.specs.Int.{int_max}
use Rattle.std.proofs.lemmas.Int.{ints, by_lt_z}
use Rattle.std.proofs.lemmas.List.{map-append}
use Rattle.std.proofs.lemmas.List.Sums.{fold-append}
use Rattle.sample_schedule.specs.declared.accepted.Accepted.{Accepted}
use Rattle.sample_schedule.specs.declared.entry.Entry.{Entry}
use Rattle.sample_schedule.specs.declared.plan.SchedulePlan.{SchedulePlan}
use Rattle.sample_schedule.specs.declared.shown.Shown.{Shown}
use Rattle.sample_schedule.specs.Order.{between, by_instant}
use Rattle.sample_schedule.specs.Schedule.{Presents, accepted, accepted_by, arrival_of, flag_by, judged, latest, now_at, present, shown_of, step, verdict_at}
use Rattle.sample_schedule.specs.Verdicts.{Clock}
use Rattle.sample_schedule.proofs.OrderLemmas.{lt_true, lt_false}

-- ---- lists

pub take-more : (xs : List Entry) (i : ℕ) (x : Entry) → slice_get xs i ≡ Some x → take (suc i) xs ≡ take i xs ++ x ∷ []
take-more [] i x e = absurd cc
take-more (y ∷ xs) zero x e = let f : y ≡ x = cc in rw f refl
take-more (y ∷ xs) (suc i) x e = ap (λ (l : List Entry). y ∷ l) (take-more xs i x e)

pub map-after : {A B : Type 0} (f : A → B) (xs ys : List A) → map f (xs ++ ys) ≡ map f xs ++ map f ys
map-after = map-append

pub shown-presents : (xs : List Accepted) → map shown_of (map Presents xs) ≡ map present xs
shown-presents [] = refl
shown-presents (x ∷ xs) = ap (λ (l : List Shown). present x ∷ l) (shown-presents xs)

-- ---- the greatest arrival

pub latest-more : (xs : List Entry) (x : Entry) → latest (xs ++ x ∷ []) ≡ int_max (latest xs) (arrival_of x)
unfolding latest
latest-more xs x = rw (map-after arrival_of xs (x ∷ [])) (fold-append int_max (pos 0) (map arrival_of xs) (arrival_of x ∷ []))

pub now-next : (entries : List Entry) (n : ℕ) (e : Entry) → slice_get entries n ≡ Some e → now_at entries n ≡ int_max (latest (take n entries)) (arrival_of e)
now-next entries n e at = ap latest (take-more entries n e at) ∙ latest-more (take n entries) e

pub max_above : (x y : ℤ) → x ≤ℤ int_max x y
max_above x y = by_lt_z y x (λ h. rw (lt_true y x h) (omega (arith, ints))) (λ h. rw (lt_false y x h) h)

-- ---- one step

pub verdict-at : (clock : Clock) (plan : SchedulePlan) (entries : List Entry) (n : ℕ) (earlier : List Accepted) (e : Entry) → slice_get entries n ≡ Some e → verdict_at clock plan entries n earlier ≡ judged clock plan entries n earlier e
unfolding verdict_at
verdict-at clock plan entries n earlier e at = rw at refl

pub accepted-next : (clock : Clock) (plan : SchedulePlan) (entries : List Entry) (n : ℕ) (e : Entry) → slice_get entries n ≡ Some e → accepted clock plan entries (suc n) ≡ accepted clock plan entries n ++ accepted_by (judged clock plan entries n (accepted clock plan entries n) e)
unfolding accepted
accepted-next clock plan entries n e at = rw (verdict-at clock plan entries n (accepted clock plan entries n) e at) refl

pub step-is : (clock : Clock) (plan : SchedulePlan) (entries : List Entry) (n : ℕ) (e : Entry) → slice_get entries n ≡ Some e
    → step clock plan entries n ≡ map Presents (by_instant (between (latest (take n entries)) (now_at entries n) (accepted clock plan entries n))) ++ flag_by n (Some e) (judged clock plan entries n (accepted clock plan entries n) e)
unfolding step
step-is clock plan entries n e at = rw (verdict-at clock plan entries n (accepted clock plan entries n) e at, at) refl

pub next-entry : (xs : List Entry) (n : ℕ) (x : Entry) (rest : List Entry) → drop n xs ≡ x ∷ rest → (slice_get xs n ≡ Some x) × (rest ≡ drop (n + 1) xs)
next-entry [] zero x rest e = absurd cc
next-entry [] (suc n) x rest e = absurd cc
next-entry (y ∷ xs) zero x rest e = (cc, cc)
next-entry (y ∷ xs) (suc n) x rest e =
    let more : suc n + 1 ≡ suc (n + 1) = omega arith in
    let next = next-entry xs n x rest e in
    (next.0, next.1 ∙ ap (λ (k : ℕ). drop k (y ∷ xs)) (sym more))
