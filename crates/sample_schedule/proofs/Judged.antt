-- Each item is shown as its verdict says.
use Rattle.std.proofs.Common.{◌≡◌, ◌⊎◌, inl, inr, ℕ, zero, suc, ◌+◌, ◌-◌, ◌<◌, ◌≤◌, Bool, true, false, cond, List, [], ◌∷◌, ◌++◌, length, take, ℤ, Option, Some, None, Result, Ok, Err, refl, sym, ap, ◌∙◌, subst, eq-eqb, arith}
use Rattle.std.specs.Prelude.{◌==◌, if◌then◌else◌, int_lt, filter, fold, map, option_map, slice_get, IfOk}
use Rattle.std.proofs.lemmas.List.Sums.{length-filter}
use Rattle.std.proofs.lemmas.Option.{slice_get_within}
use Rattle.sample_schedule.specs.declared.accepted.Accepted.{Accepted}
use Rattle.sample_schedule.specs.declared.entry.Entry.{Entry}
use Rattle.sample_schedule.specs.declared.entry.Entry.TheVariants.{Item as OfItem, Clock as OfClock}
use Rattle.sample_schedule.specs.declared.item.Item.{Item}
use Rattle.sample_schedule.specs.declared.item.Item.TheVariants.{Packet as OfPacket, Unit as OfUnit, Bad as OfBad}
use Rattle.sample_schedule.specs.declared.item.Packet.{Packet}
use Rattle.sample_schedule.specs.declared.plan.SchedulePlan.{SchedulePlan}
use Rattle.sample_schedule.specs.declared.shown.Reason.{Reason}
use Rattle.sample_schedule.specs.declared.shown.Reason.TheVariants.{Uncertain, Empty, NoRate, NoClock}
use Rattle.sample_schedule.specs.Batches.{Presented}
use Rattle.sample_schedule.specs.Heads.{head_of}
use Rattle.time_unfold.specs.declared.head_rule.Head.{Head}
use Rattle.sample_schedule.specs.Laws.{given_by, place_of, presented, shown_at, times_due, verdict_in}
use Rattle.sample_schedule.specs.Order.{between, by_instant, put_behind}
use Rattle.sample_schedule.specs.Schedule.{Given, Presents, Flags, accepted, accepted_by, frame_of, given, latest, now_at, prefix_of, rest_of, step, steps, verdict_at}
use Rattle.clock_track.specs.PairLines.{Spot}
use Rattle.sample_schedule.specs.Verdicts.{Clock, counted_from, decided, ok_or_reason, samples_at, spot_of, timed, verdict}
use Rattle.sample_schedule.proofs.LawLemmas.{OkSo, accepted-presented, each-once, verdict-so}
use Rattle.sample_schedule.proofs.StageLemmas.{verdict-at}

-- ---- elements of lists

unfoldable pub In : {X : Type 0} → List X → X → Type 0
In {X} [] x = ⊥
In {X} (y ∷ ys) x = (y ≡ x) ⊎ In ys x

in_left : {X : Type 0} (xs ys : List X) (x : X) → In xs x → In (xs ++ ys) x
unfolding In
in_left {X} [] ys x h = absurd h
in_left {X} (y ∷ xs) ys x (inl e) = inl e
in_left {X} (y ∷ xs) ys x (inr h) = inr (in_left xs ys x h)

in_right : {X : Type 0} (xs ys : List X) (x : X) → In ys x → In (xs ++ ys) x
unfolding In
in_right {X} [] ys x h = h
in_right {X} (y ∷ xs) ys x h = inr (in_right xs ys x h)

in_one : {X : Type 0} (x : X) → In (x ∷ []) x
unfolding In
in_one {X} x = inl refl

pub only_one : {X : Type 0} (x y : X) → In (x ∷ []) y → x ≡ y
unfolding In
only_one {X} x y (inl e) = e
only_one {X} x y (inr h) = absurd h

in_filter : {X : Type 0} (p : X → Bool) (xs : List X) (x : X) → In xs x → p x ≡ true → In (filter p xs) x
unfolding In
in_filter {X} p [] x h e = absurd h
in_filter {X} p (y ∷ xs) x (inl same) e = let passes : p y ≡ true = subst (λ z. p z ≡ true) (sym same) e in rw passes (inl same)
in_filter {X} p (y ∷ xs) x (inr h) e = elim (p y) as (λ b. In (cond b (y ∷ filter p xs) (filter p xs)) x) [
  | true ↦ inr (in_filter p xs x h e)
  | false ↦ in_filter p xs x h e
]

alone : {X : Type 0} (xs : List X) (x : X) → length xs ≡ 1 → In xs x → xs ≡ x ∷ []
unfolding In
alone {X} [] x e h = absurd h
alone {X} (y ∷ []) x e (inl same) = ap (λ z. z ∷ []) same
alone {X} (y ∷ []) x e (inr h) = absurd h
alone {X} (y ∷ z ∷ xs) x e h = absurd (omega arith)

some_in : {X : Type 0} (xs : List X) (x : X) → In xs x → 1 ≤ length xs
unfolding In
some_in {X} [] x h = absurd h
some_in {X} (y ∷ xs) x h = omega arith

in_behind : (ys : List Accepted) (a x : Accepted) → (a ≡ x) ⊎ In ys x → In (put_behind ys a) x
unfolding In
in_behind [] a x (inl e) = inl e
in_behind [] a x (inr h) = absurd h
in_behind (b ∷ bs) a x h = elim (int_lt a.instant b.instant) as (λ v. In (cond v (a ∷ b ∷ bs) (b ∷ put_behind bs a)) x) [
  | true ↦ h
  | false ↦ elim h [
    | inl e ↦ inr (in_behind bs a x (inl e))
    | inr (inl e) ↦ inl e
    | inr (inr g) ↦ inr (in_behind bs a x (inr g))
  ]
]

in_sorted : (xs ys : List Accepted) (x : Accepted) → In ys x ⊎ In xs x → In (fold put_behind ys xs) x
unfolding In
in_sorted [] ys x (inl h) = h
in_sorted [] ys x (inr h) = absurd h
in_sorted (y ∷ xs) ys x (inl h) = in_sorted xs (put_behind ys y) x (inl (in_behind ys y x (inr h)))
in_sorted (y ∷ xs) ys x (inr (inl e)) = in_sorted xs (put_behind ys y) x (inl (in_behind ys y x (inl e)))
in_sorted (y ∷ xs) ys x (inr (inr h)) = in_sorted xs (put_behind ys y) x (inr h)

in_order : (xs : List Accepted) (x : Accepted) → In xs x → In (by_instant xs) x
unfolding by_instant
in_order xs x h = in_sorted xs [] x (inr h)

-- ---- accepted items are presented

accepted_stays : (clock : Clock) (plan : SchedulePlan) (es : List Entry) (n k : ℕ) (a : Accepted) → In (accepted clock plan es n) a → In (accepted clock plan es (n + k)) a
unfolding accepted
accepted_stays clock plan es n zero a h = let e : n + 0 ≡ n = omega arith in rw e h
accepted_stays clock plan es n (suc k) a h =
    let e : n + suc k ≡ suc (n + k) = omega arith in
    rw e (in_left (accepted clock plan es (n + k)) (accepted_by (verdict_at clock plan es (n + k) (accepted clock plan es (n + k)))) a (accepted_stays clock plan es n k a h))

becomes_accepted : (clock : Clock) (plan : SchedulePlan) (es : List Entry) (n : ℕ) (a : Accepted) → verdict_at clock plan es n (accepted clock plan es n) ≡ Some (Ok a) → In (accepted clock plan es (suc n)) a
unfolding accepted
becomes_accepted clock plan es n a e = rw e (in_right (accepted clock plan es n) (a ∷ []) a (in_one a))

accepted_presented : (clock : Clock) (plan : SchedulePlan) (es : List Entry) (n : ℕ) (a : Accepted) → n < length es → verdict_at clock plan es n (accepted clock plan es n) ≡ Some (Ok a) → In (presented (given clock plan es)) a
accepted_presented clock plan es n a within e =
    let last : suc n + (length es - suc n) ≡ length es = omega arith in
    let all : In (accepted clock plan es (length es)) a = subst (λ (m : ℕ). In (accepted clock plan es m) a) last (accepted_stays clock plan es (suc n) (length es - suc n) a (becomes_accepted clock plan es n a e)) in
    subst (λ (l : List Accepted). In l a) (sym (accepted-presented clock plan es)) (in_order (accepted clock plan es (length es)) a all)

presented_in : (gs : List Given) (a : Accepted) → In (presented gs) a → In gs (Presents a)
unfolding In
presented_in [] a h = absurd h
presented_in (Presents b ∷ gs) a (inl e) = inl (ap Presents e)
presented_in (Presents b ∷ gs) a (inr h) = inr (presented_in gs a h)
presented_in (Flags place item reason ∷ gs) a h = inr (presented_in gs a h)

-- ---- other items are flagged

flag_stays : (clock : Clock) (plan : SchedulePlan) (es : List Entry) (n k : ℕ) (g : Given) → In (steps clock plan es n) g → In (steps clock plan es (n + k)) g
unfolding steps
flag_stays clock plan es n zero g h = let e : n + 0 ≡ n = omega arith in rw e h
flag_stays clock plan es n (suc k) g h =
    let e : n + suc k ≡ suc (n + k) = omega arith in
    rw e (in_left (steps clock plan es (n + k)) (step clock plan es (n + k)) g (flag_stays clock plan es n k g h))

becomes_flagged : (clock : Clock) (plan : SchedulePlan) (es : List Entry) (n : ℕ) (item : Item) (reason : Reason) → slice_get es n ≡ Some (OfItem item) → verdict_at clock plan es n (accepted clock plan es n) ≡ Some (Err reason)
    → In (steps clock plan es (suc n)) (Flags n item reason)
unfolding steps step
becomes_flagged clock plan es n item reason at e =
    in_right (steps clock plan es n) (step clock plan es n) (Flags n item reason)
    (in_right (map Presents (by_instant (between (latest (take n es)) (now_at es n) (accepted clock plan es n)))) _ (Flags n item reason)
    (rw (at, e) (in_one (Flags n item reason))))

flag_in : (clock : Clock) (plan : SchedulePlan) (es : List Entry) (n : ℕ) (item : Item) (reason : Reason) → slice_get es n ≡ Some (OfItem item) → verdict_at clock plan es n (accepted clock plan es n) ≡ Some (Err reason)
    → In (given clock plan es) (Flags n item reason)
unfolding given
flag_in clock plan es n item reason at e =
    let within = slice_get_within es n (OfItem item) at in
    let last : suc n + (length es - suc n) ≡ length es = omega arith in
    in_left (steps clock plan es (length es)) (rest_of clock plan es) (Flags n item reason)
    (subst (λ (m : ℕ). In (steps clock plan es m) (Flags n item reason)) last
    (flag_stays clock plan es (suc n) (length es - suc n) (Flags n item reason) (becomes_flagged clock plan es n item reason at e)))

-- ---- each item is shown once, as its verdict says

pub ok-presented : (clock : Clock) (plan : SchedulePlan) (es : List Entry) (i : ℕ) (item : Item) (a : Accepted) → slice_get es i ≡ Some (OfItem item) → verdict_in clock plan es i item ≡ Ok a → In (presented (given clock plan es)) a
ok-presented clock plan es i item a at is =
    accepted_presented clock plan es i a (slice_get_within es i (OfItem item) at) (verdict-at clock plan es i (accepted clock plan es i) (OfItem item) at ∙ ap Some is)

given_in : (clock : Clock) (plan : SchedulePlan) (es : List Entry) (i : ℕ) (item : Item) (r : Result Accepted Reason) → slice_get es i ≡ Some (OfItem item) → verdict_in clock plan es i item ≡ r → In (given clock plan es) (given_by i item r)
given_in clock plan es i item (Ok a) at is = presented_in (given clock plan es) a (ok-presented clock plan es i item a at is)
given_in clock plan es i item (Err reason) at is =
    flag_in clock plan es i item reason at (verdict-at clock plan es i (accepted clock plan es i) (OfItem item) at ∙ ap Some is)

given_place : (plan : SchedulePlan) (now : ℤ) (earlier : List Accepted) (i : ℕ) (item : Item) (r : Result Accepted Reason) → OkSo plan now earlier i r → place_of (given_by i item r) ≡ i
given_place plan now earlier i item (Ok a) so = so.place
given_place plan now earlier i item (Err reason) so = refl

pub as-judged : (clock : Clock) (plan : SchedulePlan) (es : List Entry) (i : ℕ) (item : Item) → slice_get es i ≡ Some (OfItem item) → shown_at i (given clock plan es) ≡ given_by i item (verdict_in clock plan es i item) ∷ []
as-judged clock plan es i item at =
    let gs = given clock plan es in
    let g = given_by i item (verdict_in clock plan es i item) in
    let here = given_place plan (now_at es i) (accepted clock plan es i) i item (verdict_in clock plan es i item) (verdict-so plan (now_at es i) (accepted clock plan es i) i _) in
    alone (shown_at i gs) g (length-filter (λ h. place_of h == i) gs ∙ (each-once clock plan es i ∙ ap times_due at))
    (in_filter (λ h. place_of h == i) gs g (given_in clock plan es i item _ at refl) (eq-eqb (place_of g) i here))

-- The shown item is an item of the list, and is shown as its verdict says.
pub record IsJudged (clock : Clock) (plan : SchedulePlan) (es : List Entry) (g : Given) : Type 0 where
  pub item : Item
  pub there : slice_get es (place_of g) ≡ Some (OfItem item)
  pub same : given_by (place_of g) item (verdict_in clock plan es (place_of g) item) ≡ g

pub all-judged : (clock : Clock) (plan : SchedulePlan) (es : List Entry) (g : Given) → In (given clock plan es) g → IsJudged clock plan es g
all-judged clock plan es g h = of (slice_get es (place_of g)) refl
  where
    gs : List Given
    gs = given clock plan es

    here : In (shown_at (place_of g) gs) g
    here = in_filter (λ h. place_of h == place_of g) gs g h (eq-eqb (place_of g) (place_of g) refl)

    due : 1 ≤ times_due (slice_get es (place_of g))
    due = let some = some_in (shown_at (place_of g) gs) g here in let count = length-filter (λ h. place_of h == place_of g) gs in let once = each-once clock plan es (place_of g) in omega arith

    of : (e : Option Entry) → slice_get es (place_of g) ≡ e → IsJudged clock plan es g
    of None at = absurd (let some = rw at at due in omega arith)
    of (Some (OfClock arrival row)) at = absurd (let some = rw at at due in omega arith)
    of (Some (OfItem item)) at = record {
      item = item;
      there = at;
      same = only_one _ g (subst (λ (l : List Given). In l g) (as-judged clock plan es (place_of g) item at) here);
    }

-- ---- a batch that is presented has the frame number of its item

not_refused : (P : Presented → Type 0) (a b c : Bool) (r : Result Presented Reason) → IfOk r P → IfOk (if a then Err Uncertain else if b then Err Empty else if c then Err NoRate else r) P
not_refused P true b c r h = tt
not_refused P false true c r h = tt
not_refused P false false true r h = tt
not_refused P false false false r h = h

spot_frame : (p : Packet) (o : Option Spot) → IfOk (ok_or_reason NoClock (option_map (samples_at p) o)) (λ batch. batch.frame ≡ p.frame)
spot_frame p None = tt
spot_frame p (Some spot) = refl

counted_frame : (clock : Clock) (plan : SchedulePlan) (prefix : List Entry) (p : Packet) (o : Option Head) → IfOk (counted_from clock plan prefix p o) (λ batch. batch.frame ≡ p.frame)
counted_frame clock plan prefix p None = tt
counted_frame clock plan prefix p (Some head) = spot_frame p (spot_of clock plan prefix p.rate head)

timed_frame : (clock : Clock) (plan : SchedulePlan) (prefix : List Entry) (item : Item) → IfOk (timed clock plan prefix item) (λ batch. batch.frame ≡ frame_of item)
unfolding timed
timed_frame clock plan prefix (OfPacket p) = not_refused (λ batch. batch.frame ≡ p.frame) p.tu (p.count == 0) (p.rate == 0) _ (counted_frame clock plan prefix p (head_of plan prefix p))
timed_frame clock plan prefix (OfUnit u) = refl
timed_frame clock plan prefix (OfBad b) = tt

decided_batch : (P : Presented → Type 0) (late copy full : Bool) (place : ℕ) (batch : Presented) → P batch → IfOk (decided late copy full place batch) (λ a. P a.batch)
decided_batch P true copy full place batch h = tt
decided_batch P false true full place batch h = tt
decided_batch P false false true place batch h = tt
decided_batch P false false false place batch h = h

verdict_batch : (P : Presented → Type 0) (plan : SchedulePlan) (now : ℤ) (earlier : List Accepted) (place : ℕ) (r : Result Presented Reason) → IfOk r P → IfOk (verdict plan now earlier place r) (λ a. P a.batch)
unfolding verdict
verdict_batch P plan now earlier place (Err reason) h = tt
verdict_batch P plan now earlier place (Ok batch) h = decided_batch P _ _ _ place batch h

pub judged-frame : (clock : Clock) (plan : SchedulePlan) (es : List Entry) (i : ℕ) (item : Item) → IfOk (verdict_in clock plan es i item) (λ a. a.batch.frame ≡ frame_of item)
judged-frame clock plan es i item = verdict_batch (λ batch. batch.frame ≡ frame_of item) plan (now_at es i) (accepted clock plan es i) i _ (timed_frame clock plan (prefix_of plan es i) item)
