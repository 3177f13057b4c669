-- What holds for every schedule.
use Rattle.std.proofs.Common.{◌≡◌, ℕ, zero, suc, ◌+◌, ◌<◌, ◌≤◌, Bool, true, false, cond, leb, ltb, ℤ, ◌≤ℤ◌, ◌<ℤ◌, List, [], ◌∷◌, ◌++◌, length, take, map, fold, Option, Some, None, Result, Ok, Err, refl, sym, ap, ◌∙◌, subst, append_assoc, append-nil, inl, inr, ⊎_elim, eq-eqb, arith}
use Rattle.std.specs.Prelude.{◌==◌, if◌then◌else◌, int_lt, int_le, nat_lt, slice_get, option_and_then}
use Rattle.std.specs.List.{list_any, AllByRecursion, sum_by}
use Rattle.std.proofs.lemmas.Int.{ints, by_lt_z}
use Rattle.avtp_base.proofs.RowLemmas.{unequal}
use Rattle.std.proofs.lemmas.Bool.{cases_lt, le-ltb, lt-ltb, or_parts}
use Rattle.std.proofs.lemmas.List.{length-append}
use Rattle.std.proofs.lemmas.List.Sums.{fold-append, sum_by-append, sum_by-cons}
use Rattle.std.proofs.lemmas.List.Elements.{filter-append}
use Rattle.std.proofs.lemmas.Option.{slice_get_past}
use Rattle.std.proofs.Math.Seq.{take-length}
use Rattle.sample_schedule.specs.declared.accepted.Accepted.{Accepted}
use Rattle.sample_schedule.specs.declared.entry.Entry.{Entry}
use Rattle.sample_schedule.specs.declared.entry.Entry.TheVariants.{Item as OfItem, Clock as OfClock}
use Rattle.sample_schedule.specs.declared.item.Item.{Item}
use Rattle.sample_schedule.specs.declared.plan.SchedulePlan.{SchedulePlan}
use Rattle.sample_schedule.specs.declared.shown.Reason.{Reason}
use Rattle.sample_schedule.specs.Batches.{Presented}
use Rattle.sample_schedule.specs.Laws.{IsBefore, IsBounded, IsNoCopy, Pairwise, place_of, presented, times_due, times_shown, waiting_at}
use Rattle.sample_schedule.specs.Order.{between, by_instant, due_of, left_of, put_behind, standing}
use Rattle.sample_schedule.specs.Schedule.{Given, Presents, Flags, accepted, accepted_by, arrival_of, flag_by, given, judged, latest, now_at, step, steps, verdict_at}
use Rattle.sample_schedule.specs.Verdicts.{Clock, decided, first_instant, is_copy, is_full, total_bytes, verdict}
use Rattle.sample_schedule.proofs.OrderLemmas.{all-put_behind, all-weaker, lt_true, lt_false, le_true, any-by_instant, due-waiting, sum-by_instant, bytes-by_instant, length-by_instant, left-waiting, standing-standing, sum-put_behind, waiting-more}
use Rattle.sample_schedule.proofs.StageLemmas.{max_above, now-next}

-- ---- what holds for an accepted item

pub record AcceptedSo (plan : SchedulePlan) (now : ℤ) (earlier : List Accepted) (n : ℕ) (a : Accepted) : Type 0 where
  pub place : a.place ≡ n
  stands : now ≤ℤ a.instant
  fresh : list_any (is_copy a.instant a.batch.seq) earlier ≡ false
  room : is_full plan (standing now earlier) (length a.batch.bytes) ≡ false

abbrev pub OkSo : SchedulePlan → ℤ → List Accepted → ℕ → Result Accepted Reason → Type 0
OkSo plan now earlier place (Ok a) = AcceptedSo plan now earlier place a
OkSo plan now earlier place (Err reason) = Unit {0}

pub verdict-so : (plan : SchedulePlan) (now : ℤ) (earlier : List Accepted) (place : ℕ) (r : Result Presented Reason) → OkSo plan now earlier place (verdict plan now earlier place r)
unfolding verdict
verdict-so plan now earlier place (Err reason) = tt
verdict-so plan now earlier place (Ok batch) = by_lt_z (first_instant batch) now
    (λ h. rw (lt_true (first_instant batch) now h) tt)
    (λ h. rw (lt_false (first_instant batch) now h) (cases (list_any (is_copy (first_instant batch) batch.seq) earlier) (is_full plan (standing now earlier) (length batch.bytes)) refl refl h))
  where
    cases : (copy full : Bool) → list_any (is_copy (first_instant batch) batch.seq) earlier ≡ copy → is_full plan (standing now earlier) (length batch.bytes) ≡ full → now ≤ℤ first_instant batch → OkSo plan now earlier place (decided false copy full place batch)
    cases true full e f h = tt
    cases false true e f h = tt
    cases false false e f h = record { place = refl; stands = h; fresh = e; room = f }

-- if `P` holds for every result that a verdict can have, `P` holds for the verdict on entry `n`
by-verdict : (clock : Clock) (plan : SchedulePlan) (entries : List Entry) (n : ℕ) (earlier : List Accepted) (P : Option (Result Accepted Reason) → Type 0)
    → P None → ((reason : Reason) → P (Some (Err reason))) → ((a : Accepted) → AcceptedSo plan (now_at entries n) earlier n a → P (Some (Ok a))) → P (verdict_at clock plan entries n earlier)
unfolding verdict_at
by-verdict clock plan entries n earlier P none flagged taken =
    elim (slice_get entries n) as (λ e. P (option_and_then (judged clock plan entries n earlier) e)) [
      | None ↦ none
      | Some e ↦ of e
    ]
  where
    result : (r : Result Accepted Reason) → OkSo plan (now_at entries n) earlier n r → P (Some r)
    result (Ok a) so = taken a so
    result (Err reason) so = flagged reason

    of : (e : Entry) → P (judged clock plan entries n earlier e)
    of (OfItem item) = result (verdict plan (now_at entries n) earlier n _) (verdict-so plan (now_at entries n) earlier n _)
    of (OfClock arrival row) = none

-- ---- time does not go back

take_past : (xs : List Entry) (n : ℕ) → slice_get xs n ≡ None → take (suc n) xs ≡ take n xs
take_past [] zero e = refl
take_past [] (suc n) e = refl
take_past (y ∷ xs) zero e = absurd cc
take_past (y ∷ xs) (suc n) e = ap (λ (l : List Entry). y ∷ l) (take_past xs n e)

pub now-grows : (entries : List Entry) (n : ℕ) → latest (take n entries) ≤ℤ now_at entries n
now-grows entries n = elim (slice_get entries n) as (λ e. slice_get entries n ≡ e → latest (take n entries) ≤ℤ now_at entries n) [
  | None ↦ λ e. rw (take_past entries n e) (omega (arith, ints))
  | Some x ↦ λ e. rw (now-next entries n x e) (max_above (latest (take n entries)) (arrival_of x))
] refl

-- ---- the waiting batches are bounded

bytes-more : (n : ℕ) (xs : List Accepted) → fold (λ t (a : Accepted). t + length a.batch.bytes) n xs ≡ n + total_bytes xs
bytes-more n [] = omega arith
bytes-more n (x ∷ xs) =
    let e = bytes-more (n + length x.batch.bytes) xs in
    let f = bytes-more (0 + length x.batch.bytes) xs in
    omega arith

pub bytes-put_behind : (xs : List Accepted) (a : Accepted) → total_bytes (put_behind xs a) ≡ total_bytes xs + length a.batch.bytes
bytes-put_behind xs a = let e = sum-put_behind (λ (b : Accepted). length b.batch.bytes) 0 xs a in let f = bytes-more (0 + length a.batch.bytes) xs in omega arith

fewer : (now : ℤ) (xs : List Accepted) → length (standing now xs) ≤ length xs
fewer now [] = omega arith
fewer now (x ∷ xs) = elim (int_le now x.instant) as (λ v. length (cond v (x ∷ standing now xs) (standing now xs)) ≤ suc (length xs)) [
  | true ↦ let h = fewer now xs in omega arith
  | false ↦ let h = fewer now xs in omega arith
]

lighter : (now : ℤ) (xs : List Accepted) → total_bytes (standing now xs) ≤ total_bytes xs
lighter now [] = omega arith
lighter now (x ∷ xs) = elim (int_le now x.instant) as (λ v. total_bytes (cond v (x ∷ standing now xs) (standing now xs)) ≤ total_bytes (x ∷ xs)) [
  | true ↦ let h = lighter now xs in let e = bytes-more (0 + length x.batch.bytes) (standing now xs) in let f = bytes-more (0 + length x.batch.bytes) xs in omega arith
  | false ↦ let h = lighter now xs in let f = bytes-more (0 + length x.batch.bytes) xs in omega arith
]

not_full : (buffer held room total : ℕ) → cond (leb buffer held) true (ltb room total) ≡ false → (held < buffer) × (total ≤ room)
not_full buffer held room total e = grind arith

pub bounded-step : (plan : SchedulePlan) (now : ℤ) (earlier : List Accepted) (place : ℕ) (a : Accepted) → AcceptedSo plan now earlier place a → IsBounded plan (standing now (earlier ++ a ∷ []))
bounded-step plan now earlier place a so =
    let fits = not_full plan.buffer (length (standing now earlier)) plan.room (total_bytes (standing now earlier) + length a.batch.bytes) so.room in
    let e : standing now (earlier ++ a ∷ []) ≡ standing now earlier ++ a ∷ [] = rw (filter-append (λ (b : Accepted). int_le now b.instant) earlier (a ∷ []), le_true now a.instant so.stands) refl in
    let l = length-append (standing now earlier) (a ∷ []) in
    let s : total_bytes (standing now earlier ++ a ∷ []) ≡ total_bytes (standing now earlier) + length a.batch.bytes =
    sum_by-append (λ (b : Accepted). length b.batch.bytes) (standing now earlier) (a ∷ []) ∙ ap (λ (k : ℕ). total_bytes (standing now earlier) + k) (omega arith) in
    rw e (record { batches = omega arith; bytes = omega arith })

shrunk : (plan : SchedulePlan) (from to : ℤ) (xs : List Accepted) → from ≤ℤ to → IsBounded plan (standing from xs) → IsBounded plan (standing to xs)
shrunk plan from to xs le b =
    let e = standing-standing from to xs le in
    let l = fewer to (standing from xs) in
    let w = lighter to (standing from xs) in
    rw (← e) (record { batches = let h = b.batches in omega arith; bytes = let h = b.bytes in omega arith })

bounded-next : (clock : Clock) (plan : SchedulePlan) (entries : List Entry) (i : ℕ) → IsBounded plan (standing (now_at entries i) (accepted clock plan entries i)) → IsBounded plan (waiting_at clock plan entries i)
unfolding accepted
bounded-next clock plan entries i b =
    let acc = accepted clock plan entries i in
    let now = now_at entries i in
    let same : IsBounded plan (standing now (acc ++ [])) = rw append-nil b in
    by-verdict clock plan entries i acc (λ v. IsBounded plan (standing now (acc ++ accepted_by v))) same (λ reason. same) (λ a so. bounded-step plan now acc i a so)

bounded-first : (clock : Clock) (plan : SchedulePlan) (entries : List Entry) → IsBounded plan (standing (now_at entries zero) (accepted clock plan entries zero))
unfolding accepted
bounded-first clock plan entries = record { batches = omega arith; bytes = omega arith }

pub bounded : (clock : Clock) (plan : SchedulePlan) (entries : List Entry) (i : ℕ) → IsBounded plan (waiting_at clock plan entries i)
bounded clock plan entries zero = bounded-next clock plan entries zero (bounded-first clock plan entries)
bounded clock plan entries (suc j) = bounded-next clock plan entries (suc j) (shrunk plan (now_at entries j) (now_at entries (suc j)) (accepted clock plan entries (suc j)) (now-grows entries (suc j)) (bounded clock plan entries j))

-- ---- the accepted items are presented

presented-after : (xs ys : List Given) → presented (xs ++ ys) ≡ presented xs ++ presented ys
presented-after [] ys = refl
presented-after (Presents a ∷ xs) ys = ap (λ (l : List Accepted). a ∷ l) (presented-after xs ys)
presented-after (Flags place item reason ∷ xs) ys = presented-after xs ys

presented-presents : (xs : List Accepted) → presented (map Presents xs) ≡ xs
presented-presents [] = refl
presented-presents (x ∷ xs) = ap (λ (l : List Accepted). x ∷ l) (presented-presents xs)

presented-flag : (i : ℕ) (e : Option Entry) (v : Option (Result Accepted Reason)) → presented (flag_by i e v) ≡ []
presented-flag i None v = refl
presented-flag i (Some (OfClock arrival row)) v = refl
presented-flag i (Some (OfItem item)) None = refl
presented-flag i (Some (OfItem item)) (Some (Ok a)) = refl
presented-flag i (Some (OfItem item)) (Some (Err reason)) = refl

due-left : (t : ℤ) (ys : List Accepted) → due_of t ys ++ left_of t ys ≡ ys
due-left t [] = refl
due-left t (y ∷ ys) = elim (int_lt y.instant t) as (λ v. cond v (y ∷ due_of t ys) [] ++ cond v (left_of t ys) (y ∷ ys) ≡ y ∷ ys) [
  | true ↦ ap (λ (l : List Accepted). y ∷ l) (due-left t ys)
  | false ↦ refl
]

due-passed : (t : ℤ) (ys : List Accepted) → AllByRecursion (λ a. a.instant <ℤ t) (due_of t ys)
due-passed t [] = tt
due-passed t (y ∷ ys) = by_lt_z y.instant t
    (λ h. rw (lt_true y.instant t h) (h, due-passed t ys))
    (λ h. rw (lt_false y.instant t h) tt)

pub all-after : (P : Accepted → Type 0) (xs ys : List Accepted) → AllByRecursion P xs → AllByRecursion P ys → AllByRecursion P (xs ++ ys)
all-after P [] ys p q = q
all-after P (x ∷ xs) ys p q = (p.0, all-after P xs ys p.1 q)

behind-all : (ps ws : List Accepted) (a : Accepted) → AllByRecursion (λ p. p.instant ≤ℤ a.instant) ps → put_behind (ps ++ ws) a ≡ ps ++ put_behind ws a
behind-all [] ws a h = refl
behind-all (p ∷ ps) ws a h = rw (lt_false a.instant p.instant h.0) (ap (λ (l : List Accepted). p ∷ l) (behind-all ps ws a h.1))

by-more : (xs : List Accepted) (a : Accepted) → by_instant (xs ++ a ∷ []) ≡ put_behind (by_instant xs) a
unfolding by_instant
by-more xs a = fold-append put_behind [] xs (a ∷ [])

record Told (clock : Clock) (plan : SchedulePlan) (entries : List Entry) (n : ℕ) : Type 0 where
  early : AllByRecursion (λ a. a.instant <ℤ latest (take n entries)) (presented (steps clock plan entries n))
  whole : presented (steps clock plan entries n) ++ by_instant (standing (latest (take n entries)) (accepted clock plan entries n)) ≡ by_instant (accepted clock plan entries n)

presented-step : (clock : Clock) (plan : SchedulePlan) (entries : List Entry) (n : ℕ) → presented (steps clock plan entries (suc n)) ≡ presented (steps clock plan entries n) ++ by_instant (between (latest (take n entries)) (now_at entries n) (accepted clock plan entries n))
unfolding steps step
presented-step clock plan entries n =
    let B = by_instant (between (latest (take n entries)) (now_at entries n) (accepted clock plan entries n)) in
    let F = flag_by n (slice_get entries n) (verdict_at clock plan entries n (accepted clock plan entries n)) in
    presented-after (steps clock plan entries n) (map Presents B ++ F)
    ∙ ap (λ (l : List Accepted). presented (steps clock plan entries n) ++ l) (presented-after (map Presents B) F ∙ ap (λ (l : List Accepted). presented (map Presents B) ++ l) (presented-flag n (slice_get entries n) (verdict_at clock plan entries n (accepted clock plan entries n))) ∙ append-nil (presented (map Presents B)) ∙ presented-presents B)

told-first : (clock : Clock) (plan : SchedulePlan) (entries : List Entry) → Told clock plan entries zero
unfolding accepted steps by_instant
told-first clock plan entries = record { early = tt; whole = refl }

told : (clock : Clock) (plan : SchedulePlan) (entries : List Entry) (n : ℕ) → Told clock plan entries n
unfolding accepted
told clock plan entries zero = told-first clock plan entries
told clock plan entries (suc n) =
    let ih = told clock plan entries n in
    let t = latest (take n entries) in
    let now = now_at entries n in
    let acc = accepted clock plan entries n in
    let P = presented (steps clock plan entries n) in
    let B = by_instant (between t now acc) in
    let W = by_instant (standing now acc) in
    let grows = now-grows entries n in
    let is_B : due_of now (by_instant (standing t acc)) ≡ B = due-waiting t now acc in
    let is_W : left_of now (by_instant (standing t acc)) ≡ W = left-waiting t now acc grows in
    let split : by_instant (standing t acc) ≡ B ++ W = sym (due-left now (by_instant (standing t acc))) ∙ ap (λ (l : List Accepted). l ++ left_of now (by_instant (standing t acc))) is_B ∙ ap (λ (l : List Accepted). B ++ l) is_W in
    let before : (P ++ B) ++ W ≡ by_instant acc = append_assoc P B W ∙ ap (λ (l : List Accepted). P ++ l) (sym split) ∙ ih.whole in
    let early_B : AllByRecursion (λ a. a.instant <ℤ now) B = subst (λ (l : List Accepted). AllByRecursion (λ a. a.instant <ℤ now) l) is_B (due-passed now (by_instant (standing t acc))) in
    let early_P : AllByRecursion (λ a. a.instant <ℤ now) P = all-weaker (λ a. a.instant <ℤ t) (λ a. a.instant <ℤ now) (λ a h. omega (arith, ints)) P ih.early in
    let early : AllByRecursion (λ a. a.instant <ℤ now) (P ++ B) = all-after (λ a. a.instant <ℤ now) P B early_P early_B in
    let same : (P ++ B) ++ by_instant (standing now (acc ++ [])) ≡ by_instant (acc ++ []) = rw append-nil before in
    let more : (a : Accepted) → AcceptedSo plan now acc n a → (P ++ B) ++ by_instant (standing now (acc ++ a ∷ [])) ≡ by_instant (acc ++ a ∷ []) =
    λ a so. rw (waiting-more now acc a (le_true now a.instant so.stands), by-more acc a, ← before) (sym (behind-all (P ++ B) W a (all-weaker (λ p. p.instant <ℤ now) (λ p. p.instant ≤ℤ a.instant) (λ p h. let s = so.stands in omega (arith, ints)) (P ++ B) early))) in
    let whole : (P ++ B) ++ by_instant (standing now (acc ++ accepted_by (verdict_at clock plan entries n acc))) ≡ by_instant (acc ++ accepted_by (verdict_at clock plan entries n acc)) =
    by-verdict clock plan entries n acc (λ v. (P ++ B) ++ by_instant (standing now (acc ++ accepted_by v)) ≡ by_instant (acc ++ accepted_by v)) same (λ reason. same) more in
    record {
      early = rw (presented-step clock plan entries n) early;
      whole = rw (presented-step clock plan entries n) whole;
    }

-- the batches that were presented so far, followed by the waiting batches, are all accepted items in the order of their
-- instants
pub presented-waiting : (clock : Clock) (plan : SchedulePlan) (entries : List Entry) (n : ℕ) → presented (steps clock plan entries n) ++ by_instant (standing (latest (take n entries)) (accepted clock plan entries n)) ≡ by_instant (accepted clock plan entries n)
presented-waiting clock plan entries n = (told clock plan entries n).whole

bounded-waiting-first : (clock : Clock) (plan : SchedulePlan) (entries : List Entry) → IsBounded plan (by_instant (standing (latest (take zero entries)) (accepted clock plan entries zero)))
unfolding accepted by_instant
bounded-waiting-first clock plan entries = record { batches = omega arith; bytes = omega arith }

pub bounded-waiting : (clock : Clock) (plan : SchedulePlan) (entries : List Entry) (n : ℕ) → IsBounded plan (by_instant (standing (latest (take n entries)) (accepted clock plan entries n)))
bounded-waiting clock plan entries zero = bounded-waiting-first clock plan entries
bounded-waiting clock plan entries (suc i) =
    let waits = waiting_at clock plan entries i in
    let b = bounded clock plan entries i in
    let batches = b.batches in
    let bytes = b.bytes in
    let l = length-by_instant waits in
    let w = bytes-by_instant waits in
    record { batches = omega arith; bytes = omega arith }

pub accepted-presented : (clock : Clock) (plan : SchedulePlan) (entries : List Entry) → presented (given clock plan entries) ≡ by_instant (accepted clock plan entries (length entries))
unfolding given
accepted-presented clock plan entries =
    let n = length entries in
    let W = by_instant (standing (latest entries) (accepted clock plan entries n)) in
    let all : take n entries ≡ entries = take-length entries in
    let t = told clock plan entries n in
    presented-after (steps clock plan entries n) (map Presents W)
    ∙ ap (λ (l : List Accepted). presented (steps clock plan entries n) ++ l) (presented-presents W)
    ∙ ap (λ (l : List Entry). presented (steps clock plan entries n) ++ by_instant (standing (latest l) (accepted clock plan entries n))) (sym all)
    ∙ t.whole

-- ---- the order in which items are presented

record Ordered (clock : Clock) (plan : SchedulePlan) (entries : List Entry) (n : ℕ) (ys : List Accepted) : Type 0 where
  places : AllByRecursion (λ a. a.place < n) ys
  sorted : Pairwise IsBefore ys

before-through : (a b : Accepted) (ys : List Accepted) → a.instant <ℤ b.instant → AllByRecursion (IsBefore b) ys → AllByRecursion (IsBefore a) ys
before-through a b [] h p = tt
before-through a b (y ∷ ys) h p = (⊎_elim (λ (g : b.instant <ℤ y.instant). inl (omega (arith, ints))) (λ (g : (b.instant ≡ y.instant) × (b.place < y.place)). let e = g.0 in inl (omega (arith, ints))) p.0, before-through a b ys h p.1)

sorted-put_behind : (ys : List Accepted) (a : Accepted) → Pairwise IsBefore ys → AllByRecursion (λ y. y.place < a.place) ys → Pairwise IsBefore (put_behind ys a)
sorted-put_behind [] a s p = (tt, tt)
sorted-put_behind (b ∷ bs) a s p = by_lt_z a.instant b.instant
    (λ h. rw (lt_true a.instant b.instant h) ((inl h, before-through a b bs h s.0), s))
    (λ h. rw (lt_false a.instant b.instant h) (
      all-put_behind (IsBefore b) bs a s.0 (by_lt_z b.instant a.instant (λ g. inl g) (λ g. inr (omega (arith, ints), p.0))),
      sorted-put_behind bs a s.1 p.1,
    ))

ordered-first : (clock : Clock) (plan : SchedulePlan) (entries : List Entry) → Ordered clock plan entries zero (by_instant (accepted clock plan entries zero))
unfolding accepted by_instant
ordered-first clock plan entries = record { places = tt; sorted = tt }

ordered-next : (clock : Clock) (plan : SchedulePlan) (entries : List Entry) (n : ℕ) → Ordered clock plan entries n (by_instant (accepted clock plan entries n)) → Ordered clock plan entries (suc n) (by_instant (accepted clock plan entries (suc n)))
unfolding accepted
ordered-next clock plan entries n o =
    let acc = accepted clock plan entries n in
    let later : AllByRecursion (λ a. a.place < suc n) (by_instant acc) = all-weaker (λ a. a.place < n) (λ a. a.place < suc n) (λ a h. omega arith) (by_instant acc) o.places in
    let same : Ordered clock plan entries (suc n) (by_instant (acc ++ [])) = rw append-nil (record { places = later; sorted = o.sorted }) in
    by-verdict clock plan entries n acc (λ v. Ordered clock plan entries (suc n) (by_instant (acc ++ accepted_by v))) same (λ reason. same)
    (λ a so. rw (by-more acc a) (record {
      places = all-put_behind (λ b. b.place < suc n) (by_instant acc) a later (let e = so.place in omega arith);
      sorted = sorted-put_behind (by_instant acc) a o.sorted (all-weaker (λ b. b.place < n) (λ b. b.place < a.place) (λ b h. let e = so.place in omega arith) (by_instant acc) o.places);
    }))

ordered : (clock : Clock) (plan : SchedulePlan) (entries : List Entry) (n : ℕ) → Ordered clock plan entries n (by_instant (accepted clock plan entries n))
ordered clock plan entries zero = ordered-first clock plan entries
ordered clock plan entries (suc n) = ordered-next clock plan entries n (ordered clock plan entries n)

-- ---- no copy is presented

not_copy : (a : Accepted) (y : Accepted) → is_copy a.instant a.batch.seq y ≡ false → IsNoCopy y a
not_copy a y other e f = let t : is_copy a.instant a.batch.seq y ≡ true = rw (e, f, le_true a.instant a.instant (omega (arith, ints))) (eq-eqb a.batch.seq a.batch.seq refl) in cc

no_copies : (a : Accepted) (ys : List Accepted) → list_any (is_copy a.instant a.batch.seq) ys ≡ false → AllByRecursion (λ y. IsNoCopy y a) ys
no_copies a [] other = tt
no_copies a (y ∷ ys) other = let s = or_parts (is_copy a.instant a.batch.seq y) (list_any (is_copy a.instant a.batch.seq) ys) other in (not_copy a y s.0, no_copies a ys s.1)

turned : (a : Accepted) (ys : List Accepted) → AllByRecursion (λ y. IsNoCopy y a) ys → AllByRecursion (IsNoCopy a) ys
turned a ys p = all-weaker (λ y. IsNoCopy y a) (IsNoCopy a) (λ y h e f. h (sym e) (sym f)) ys p

distinct-put_behind : (ys : List Accepted) (a : Accepted) → Pairwise IsNoCopy ys → AllByRecursion (λ y. IsNoCopy y a) ys → Pairwise IsNoCopy (put_behind ys a)
distinct-put_behind [] a s p = (tt, tt)
distinct-put_behind (b ∷ bs) a s p = elim (int_lt a.instant b.instant) as (λ v. Pairwise IsNoCopy (cond v (a ∷ b ∷ bs) (b ∷ put_behind bs a))) [
  | true ↦ (turned a (b ∷ bs) p, s)
  | false ↦ (all-put_behind (IsNoCopy b) bs a s.0 p.0, distinct-put_behind bs a s.1 p.1)
]

distinct-next : (clock : Clock) (plan : SchedulePlan) (entries : List Entry) (n : ℕ) → Pairwise IsNoCopy (by_instant (accepted clock plan entries n)) → Pairwise IsNoCopy (by_instant (accepted clock plan entries (suc n)))
unfolding accepted
distinct-next clock plan entries n d =
    let acc = accepted clock plan entries n in
    let same : Pairwise IsNoCopy (by_instant (acc ++ [])) = rw append-nil d in
    by-verdict clock plan entries n acc (λ v. Pairwise IsNoCopy (by_instant (acc ++ accepted_by v))) same (λ reason. same)
    (λ a so. rw (by-more acc a) (distinct-put_behind (by_instant acc) a d (no_copies a (by_instant acc) (any-by_instant (is_copy a.instant a.batch.seq) acc ∙ so.fresh))))

distinct-first : (clock : Clock) (plan : SchedulePlan) (entries : List Entry) → Pairwise IsNoCopy (by_instant (accepted clock plan entries zero))
unfolding accepted by_instant
distinct-first clock plan entries = tt

distinct : (clock : Clock) (plan : SchedulePlan) (entries : List Entry) (n : ℕ) → Pairwise IsNoCopy (by_instant (accepted clock plan entries n))
distinct clock plan entries zero = distinct-first clock plan entries
distinct clock plan entries (suc n) = distinct-next clock plan entries n (distinct clock plan entries n)

pub presented-distinct : (clock : Clock) (plan : SchedulePlan) (entries : List Entry) → Pairwise IsNoCopy (presented (given clock plan entries))
presented-distinct clock plan entries = rw (accepted-presented clock plan entries) (distinct clock plan entries (length entries))

pub presented-ordered : (clock : Clock) (plan : SchedulePlan) (entries : List Entry) → Pairwise IsBefore (presented (given clock plan entries))
presented-ordered clock plan entries = rw (accepted-presented clock plan entries) (ordered clock plan entries (length entries)).sorted

-- ---- each item is shown once

-- 1 if the two numbers are equal, otherwise 0
abbrev hit : ℕ → ℕ → ℕ
hit m i = if m == i then 1 else 0

accepted_at : ℕ → List Accepted → ℕ
accepted_at i xs = sum_by (λ a. hit a.place i) xs

flags_at : ℕ → List Given → ℕ
flags_at i [] = 0
flags_at i (Presents a ∷ rest) = flags_at i rest
flags_at i (Flags place item reason ∷ rest) = hit place i + flags_at i rest

abbrev given_at : ℕ → List Given → ℕ
given_at i gs = sum_by (λ g. hit (place_of g) i) gs

given-split : (i : ℕ) (gs : List Given) → given_at i gs ≡ accepted_at i (presented gs) + flags_at i gs
unfolding accepted_at flags_at
given-split i [] = refl
given-split i (Presents a ∷ gs) =
    let h = given-split i gs in
    let e = sum_by-cons (λ (g : Given). hit (place_of g) i) (Presents a) gs in
    let f = sum_by-cons (λ (b : Accepted). hit b.place i) a (presented gs) in
    omega arith
given-split i (Flags place item reason ∷ gs) =
    let h = given-split i gs in
    let e = sum_by-cons (λ (g : Given). hit (place_of g) i) (Flags place item reason) gs in
    omega arith

flags-after : (i : ℕ) (xs ys : List Given) → flags_at i (xs ++ ys) ≡ flags_at i xs + flags_at i ys
unfolding flags_at
flags-after i [] ys = omega arith
flags-after i (Presents a ∷ xs) ys = flags-after i xs ys
flags-after i (Flags place item reason ∷ xs) ys = let h = flags-after i xs ys in omega arith

flags-presents : (i : ℕ) (xs : List Accepted) → flags_at i (map Presents xs) ≡ 0
unfolding flags_at
flags-presents i [] = refl
flags-presents i (x ∷ xs) = flags-presents i xs

flags-step : (clock : Clock) (plan : SchedulePlan) (entries : List Entry) (n i : ℕ) → flags_at i (steps clock plan entries (suc n)) ≡ flags_at i (steps clock plan entries n) + flags_at i (flag_by n (slice_get entries n) (verdict_at clock plan entries n (accepted clock plan entries n)))
unfolding steps step
flags-step clock plan entries n i =
    let B = by_instant (between (latest (take n entries)) (now_at entries n) (accepted clock plan entries n)) in
    let F = flag_by n (slice_get entries n) (verdict_at clock plan entries n (accepted clock plan entries n)) in
    let e = flags-after i (steps clock plan entries n) (map Presents B ++ F) in
    let f = flags-after i (map Presents B) F in
    let g = flags-presents i B in
    omega arith

accepted-after : (i : ℕ) (xs ys : List Accepted) → accepted_at i (xs ++ ys) ≡ accepted_at i xs + accepted_at i ys
unfolding accepted_at
accepted-after i xs ys = sum_by-append (λ (a : Accepted). hit a.place i) xs ys

one-verdict : (plan : SchedulePlan) (now : ℤ) (earlier : List Accepted) (n i : ℕ) (item : Item) (r : Result Accepted Reason) → OkSo plan now earlier n r → accepted_at i (accepted_by (Some r)) + flags_at i (flag_by n (Some (OfItem item)) (Some r)) ≡ hit n i
unfolding accepted_at flags_at
one-verdict plan now earlier n i item (Ok a) so = rw (so.place) (omega arith)
one-verdict plan now earlier n i item (Err reason) so = omega arith

due_here : ℕ → ℕ → Option Entry → ℕ
due_here n i e = if n == i then times_due e else 0

nothing : (i : ℕ) → accepted_at i [] + flags_at i [] ≡ 0
unfolding accepted_at flags_at
nothing i = refl

one-step : (clock : Clock) (plan : SchedulePlan) (entries : List Entry) (n i : ℕ) (earlier : List Accepted) → accepted_at i (accepted_by (verdict_at clock plan entries n earlier)) + flags_at i (flag_by n (slice_get entries n) (verdict_at clock plan entries n earlier)) ≡ due_here n i (slice_get entries n)
unfolding verdict_at due_here
one-step clock plan entries n i earlier =
    elim (slice_get entries n) as (λ e. accepted_at i (accepted_by (option_and_then (judged clock plan entries n earlier) e)) + flags_at i (flag_by n e (option_and_then (judged clock plan entries n earlier) e)) ≡ (if n == i then times_due e else 0)) [
      | None ↦ none (n == i)
      | Some e ↦ of e
    ]
  where
    none : (b : Bool) → accepted_at i [] + flags_at i [] ≡ (if b then 0 else 0)
    none true = nothing i
    none false = nothing i

    of : (e : Entry) → accepted_at i (accepted_by (judged clock plan entries n earlier e)) + flags_at i (flag_by n (Some e) (judged clock plan entries n earlier e)) ≡ (if n == i then times_due (Some e) else 0)
    of (OfItem item) = one-verdict plan (now_at entries n) earlier n i item _ (verdict-so plan (now_at entries n) earlier n _)
    of (OfClock arrival row) = none (n == i)

due_before : List Entry → ℕ → ℕ → ℕ
due_before entries n i = if nat_lt i n then times_due (slice_get entries i) else 0

due-next : (entries : List Entry) (n i : ℕ) → due_before entries (suc n) i ≡ due_before entries n i + due_here n i (slice_get entries n)
unfolding due_before due_here
due-next entries n i = ⊎_elim
    (λ (h : i < n). rw (lt-ltb i n h, lt-ltb i (suc n) (omega arith), unequal n i (λ e. omega arith)) (omega arith))
    (λ (h : n ≤ i). ⊎_elim
    (λ (g : n < i). rw (le-ltb i n h, le-ltb i (suc n) (omega arith), unequal n i (λ e. omega arith)) refl)
    (λ (g : i ≤ n). let e : n ≡ i = omega arith in rw (e, le-ltb i i (omega arith), lt-ltb i (suc i) (omega arith), eq-eqb i i refl) (omega arith))
    (cases_lt n i))
    (cases_lt i n)

once-first : (clock : Clock) (plan : SchedulePlan) (entries : List Entry) (i : ℕ) → accepted_at i (accepted clock plan entries zero) + flags_at i (steps clock plan entries zero) ≡ due_before entries zero i
unfolding accepted steps due_before accepted_at flags_at
once-first clock plan entries i = rw (le-ltb i 0 (omega arith)) refl

accepted-step : (clock : Clock) (plan : SchedulePlan) (entries : List Entry) (n i : ℕ) → accepted_at i (accepted clock plan entries (suc n)) ≡ accepted_at i (accepted clock plan entries n) + accepted_at i (accepted_by (verdict_at clock plan entries n (accepted clock plan entries n)))
unfolding accepted
accepted-step clock plan entries n i = accepted-after i (accepted clock plan entries n) (accepted_by (verdict_at clock plan entries n (accepted clock plan entries n)))

once-before : (clock : Clock) (plan : SchedulePlan) (entries : List Entry) (n i : ℕ) → accepted_at i (accepted clock plan entries n) + flags_at i (steps clock plan entries n) ≡ due_before entries n i
once-before clock plan entries zero i = once-first clock plan entries i
once-before clock plan entries (suc n) i =
    let ih = once-before clock plan entries n i in
    let acc = accepted clock plan entries n in
    let a : accepted_at i (accepted clock plan entries (suc n)) ≡ accepted_at i acc + accepted_at i (accepted_by (verdict_at clock plan entries n acc)) = accepted-step clock plan entries n i in
    let f = flags-step clock plan entries n i in
    let o = one-step clock plan entries n i acc in
    let d = due-next entries n i in
    omega arith

pub each-once : (clock : Clock) (plan : SchedulePlan) (entries : List Entry) (i : ℕ) → times_shown clock plan entries i ≡ times_due (slice_get entries i)
unfolding given accepted_at due_before
each-once clock plan entries i =
    let n = length entries in
    let acc = accepted clock plan entries n in
    let W = by_instant (standing (latest entries) acc) in
    let whole = given-split i (given clock plan entries) in
    let told' : accepted_at i (presented (given clock plan entries)) ≡ accepted_at i acc = ap (accepted_at i) (accepted-presented clock plan entries) ∙ sum-by_instant (λ (a : Accepted). hit a.place i) acc in
    let flags : flags_at i (given clock plan entries) ≡ flags_at i (steps clock plan entries n) = flags-after i (steps clock plan entries n) (map Presents W) ∙ ap (λ (k : ℕ). flags_at i (steps clock plan entries n) + k) (flags-presents i W) ∙ (omega arith) in
    let once = once-before clock plan entries n i in
    let all : due_before entries n i ≡ times_due (slice_get entries i) = ⊎_elim
    (λ (h : i < n). rw (lt-ltb i n h) refl)
    (λ (h : n ≤ i). rw (le-ltb i n h, slice_get_past entries i h) refl)
    (cases_lt i n) in
    let sum : times_shown clock plan entries i ≡ accepted_at i acc + flags_at i (steps clock plan entries n) = whole ∙ ap (λ (k : ℕ). k + flags_at i (given clock plan entries)) told' ∙ ap (λ (k : ℕ). accepted_at i acc + k) flags in
    sum ∙ once ∙ all
