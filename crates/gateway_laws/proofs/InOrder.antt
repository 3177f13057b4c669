-- If items arrive in the order of their instants, the items are presented in that order.
use Rattle.std.proofs.Common.{◌≡◌, ℕ, zero, suc, ◌+◌, ◌<◌, ◌≤◌, Bool, true, false, ℤ, ◌<ℤ◌, List, [], ◌∷◌, ◌++◌, length, map, take, Option, Some, None, inl, inr, refl, sym, ap, subst, ◌∙◌, arith}
use Rattle.std.specs.Prelude.{◌==◌, if◌then◌else◌, fold, int_le, int_lt, slice_get, Ok, Err}
use Rattle.std.specs.List.{AllByRecursion, list_any}
use Rattle.std.proofs.lemmas.Int.{ints}
use Rattle.std.proofs.lemmas.List.{take_all}
use Rattle.sample_schedule.specs.declared.accepted.Accepted.{Accepted}
use Rattle.sample_schedule.specs.declared.entry.Entry.{Entry}
use Rattle.sample_schedule.specs.declared.entry.Entry.TheVariants.{Item as OfItem}
use Rattle.sample_schedule.specs.declared.plan.SchedulePlan.{SchedulePlan}
use Rattle.sample_schedule.specs.declared.shown.Reason.TheVariants.{Full}
use Rattle.sample_schedule.specs.Batches.{Presented}
use Rattle.sample_schedule.specs.Laws.{given_by, place_of, presented, shown_at, verdict_in}
use Rattle.sample_schedule.specs.Order.{by_instant, put_behind, standing}
use Rattle.sample_schedule.specs.Schedule.{Given, accepted, given, now_at, prefix_of, shown, shown_of}
use Rattle.sample_schedule.specs.Verdicts.{Clock, first_instant, is_copy, is_full, timed, verdict}
use Rattle.sample_schedule.proofs.Judged.{In, IsJudged, all-judged, as-judged}
use Rattle.sample_schedule.proofs.LawLemmas.{accepted-presented}
use Rattle.sample_schedule.proofs.StageLemmas.{accepted-next}
use Rattle.gateway_laws.specs.InOrder.{AreInOrder, IsNotFull, IsTimedAt}

-- these batches as accepted items; the first batch is entry n
abbrev pub placed : ℕ → List Presented → List Accepted
placed n [] = []
placed n (b ∷ bs) = record { place = n; instant = first_instant b; batch = b } ∷ placed (suc n) bs

batches_of : (n : ℕ) (bs : List Presented) → map (λ (a : Accepted). a.batch) (placed n bs) ≡ bs
batches_of n [] = refl
batches_of n (b ∷ bs) = ap (λ (l : List Presented). b ∷ l) (batches_of (suc n) bs)

placed_more : (n : ℕ) (bs : List Presented) (b : Presented) → placed n (bs ++ b ∷ []) ≡ placed n bs ++ record { place = n + length bs; instant = first_instant b; batch = b } ∷ []
placed_more n [] b = (let same : n + 0 ≡ n = omega arith in rw same refl)
placed_more n (x ∷ bs) b =
    let rest = placed_more (suc n) bs b in
    let same : suc n + length bs ≡ n + suc (length bs) = omega arith in
    rw (rest, same) refl

front : (bs : List Presented) (i : ℕ) (b : Presented) → slice_get bs i ≡ Some b → take (suc i) bs ≡ take i bs ++ b ∷ []
front [] i b e = absurd cc
front (x ∷ bs) zero b e = (let same : x ≡ b = cc in rw same refl)
front (x ∷ bs) (suc i) b e = ap (λ (l : List Presented). x ∷ l) (front bs i b e)

front_length : (bs : List Presented) (i : ℕ) (b : Presented) → slice_get bs i ≡ Some b → length (take i bs) ≡ i
front_length [] i b e = absurd cc
front_length (x ∷ bs) zero b e = refl
front_length (x ∷ bs) (suc i) b e = ap suc (front_length bs i b e)

-- ---- all instants are before a given one

abbrev AreBefore : ℤ → List Presented → Type 0
AreBefore instant bs = AllByRecursion (λ b. first_instant b <ℤ instant) bs

fronts : (instant : ℤ) (bs : List Presented) (i : ℕ) → ((k : ℕ) (a : Presented) → k < i → slice_get bs k ≡ Some a → first_instant a <ℤ instant) → AreBefore instant (take i bs)
fronts instant [] zero h = tt
fronts instant [] (suc i) h = tt
fronts instant (x ∷ bs) zero h = tt
fronts instant (x ∷ bs) (suc i) h = (h 0 x (omega arith) refl, fronts instant bs i (λ k a below at. h (suc k) a (omega (arith, below)) at))

no_copy : (instant : ℤ) (seq n : ℕ) (bs : List Presented) → AreBefore instant bs → list_any (is_copy instant seq) (placed n bs) ≡ false
no_copy instant seq n [] h = refl
no_copy instant seq n (b ∷ bs) h =
    let before = h.0 in
    let test : int_le instant (first_instant b) ≡ false = grind (arith, ints) in
    let other : is_copy instant seq (record { place = n; instant = first_instant b; batch = b }) ≡ false = by (int_le (first_instant b) instant) (int_le instant (first_instant b)) (b.seq == seq) test in
    rw other (no_copy instant seq (suc n) bs h.1)
  where
    by : (x y z : Bool) → y ≡ false → (if (if x then y else false) then z else false) ≡ false
    by true y z e = rw e refl
    by false y z e = refl

-- ---- by instant

put_last : (n : ℕ) (bs : List Presented) (a : Accepted) → AreBefore a.instant bs → put_behind (placed n bs) a ≡ placed n bs ++ a ∷ []
put_last n [] a h = refl
put_last n (b ∷ bs) a h =
    let before = h.0 in
    let test : int_lt a.instant (first_instant b) ≡ false = grind (arith, ints) in
    rw test (ap (λ (l : List Accepted). record { place = n; instant = first_instant b; batch = b } ∷ l) (put_last (suc n) bs a h.1))

fold_more : (a : Accepted) (xs acc : List Accepted) → fold put_behind acc (xs ++ a ∷ []) ≡ put_behind (fold put_behind acc xs) a
fold_more a [] acc = refl
fold_more a (x ∷ xs) acc = fold_more a xs (put_behind acc x)

by_instant_more : (xs : List Accepted) (a : Accepted) → by_instant (xs ++ a ∷ []) ≡ put_behind (by_instant xs) a
unfolding by_instant
by_instant_more xs a = fold_more a xs []

none_by_instant : by_instant [] ≡ []
unfolding by_instant
none_by_instant = refl

-- ---- verdicts

none_accepted : (clock : Clock) (plan : SchedulePlan) (entries : List Entry) → accepted clock plan entries 0 ≡ []
unfolding accepted
none_accepted clock plan entries = refl

decide : (plan : SchedulePlan) (now : ℤ) (earlier : List Accepted) (i : ℕ) (b : Presented) → int_lt (first_instant b) now ≡ false → list_any (is_copy (first_instant b) b.seq) earlier ≡ false
    → verdict plan now earlier i (Ok b) ≡ (if is_full plan (standing now earlier) (length b.bytes) then Err Full else Ok (record { place = i; instant = first_instant b; batch = b }))
unfolding verdict
decide plan now earlier i b late copy = rw (late, copy) refl

flagged_by : (i : ℕ) (gs : List Given) (h g : Given) (b : Bool) → (if b then h ∷ shown_at i gs else shown_at i gs) ≡ g ∷ [] → IsNotFull (shown_of h) → (shown_at i gs ≡ g ∷ [] → IsNotFull (shown_of g)) → IsNotFull (shown_of g)
flagged_by i gs h g true is here others = (let same : h ≡ g = cc in subst (λ (k : Given). IsNotFull (shown_of k)) same here)
flagged_by i gs h g false is here others = others is

flagged_in : (i : ℕ) (gs : List Given) (g : Given) → shown_at i gs ≡ g ∷ [] → AllByRecursion (λ h. IsNotFull (shown_of h)) gs → IsNotFull (shown_of g)
flagged_in i [] g e all = absurd cc
flagged_in i (h ∷ gs) g e all = flagged_by i gs h g (place_of h == i) e all.0 (λ is. flagged_in i gs g is all.1)

mapped : (gs : List Given) → AllByRecursion IsNotFull (map shown_of gs) → AllByRecursion (λ h. IsNotFull (shown_of h)) gs
mapped [] all = tt
mapped (g ∷ gs) all = (all.0, mapped gs all.1)

-- if a timed item is not a copy, it is accepted if and only if there is room
judged : (clock : Clock) (plan : SchedulePlan) (entries : List Entry) (i : ℕ) (b : Presented) (earlier : List Accepted) → (is : IsTimedAt clock plan entries i b) → accepted clock plan entries i ≡ earlier → list_any (is_copy (first_instant b) b.seq) earlier ≡ false
    → verdict_in clock plan entries i is.item ≡ (if is_full plan (standing (now_at entries i) earlier) (length b.bytes) then Err Full else Ok (record { place = i; instant = first_instant b; batch = b }))
judged clock plan entries i b earlier is same copy =
    let early = is.early in
    let late : int_lt (first_instant b) (now_at entries i) ≡ false = grind (arith, ints) in
    let decides = ap (λ (r : _). verdict plan (now_at entries i) earlier i r) is.batch_is ∙ decide plan (now_at entries i) earlier i b late copy in
    subst (λ (l : List Accepted). verdict plan (now_at entries i) l i (timed clock plan (prefix_of plan entries i) is.item) ≡ (if is_full plan (standing (now_at entries i) earlier) (length b.bytes) then Err Full else Ok (record { place = i; instant = first_instant b; batch = b }))) (sym same) decides

-- if no item is flagged because of a full buffer, there is room
has_room : (clock : Clock) (plan : SchedulePlan) (entries : List Entry) (i : ℕ) (b : Presented) (earlier : List Accepted) → IsTimedAt clock plan entries i b → AllByRecursion IsNotFull (shown clock plan entries) → accepted clock plan entries i ≡ earlier
    → list_any (is_copy (first_instant b) b.seq) earlier ≡ false → is_full plan (standing (now_at entries i) earlier) (length b.bytes) ≡ false
has_room clock plan entries i b earlier is room same copy =
    let shows = as-judged clock plan entries i is.item is.there ∙ ap (λ (r : _). given_by i is.item r ∷ []) (judged clock plan entries i b earlier is same copy) in
    by (is_full plan (standing (now_at entries i) earlier) (length b.bytes)) refl (flagged_in i (given clock plan entries) _ shows (mapped (given clock plan entries) room))
  where
    by : (full : Bool) → is_full plan (standing (now_at entries i) earlier) (length b.bytes) ≡ full → IsNotFull (shown_of (given_by i is.item (if full then Err Full else Ok (record { place = i; instant = first_instant b; batch = b })))) → is_full plan (standing (now_at entries i) earlier) (length b.bytes) ≡ false
    by true e not_full = absurd (not_full refl)
    by false e not_full = e

-- ---- all items

within : (xs : List Presented) (k : ℕ) → k < length xs → slice_get xs k ≡ None → ⊥
within [] k below e = absurd (omega arith)
within (x ∷ xs) zero below e = absurd cc
within (x ∷ xs) (suc k) below e = within xs k (omega (arith, below)) e

-- Each entry is an item that can be presented. The first instants of the items rise. For each item, there is room after
-- the earlier items are accepted.
pub record AreFree (clock : Clock) (plan : SchedulePlan) (entries : List Entry) (batches : List Presented) : Type 0 where
  pub all : length batches ≡ length entries
  pub timed_at : (i : ℕ) (batch : Presented) → slice_get batches i ≡ Some batch → IsTimedAt clock plan entries i batch
  pub rise : (i j : ℕ) (a b : Presented) → i < j → slice_get batches i ≡ Some a → slice_get batches j ≡ Some b → first_instant a <ℤ first_instant b
  pub room : (i : ℕ) (b : Presented) → slice_get batches i ≡ Some b → accepted clock plan entries i ≡ placed 0 (take i batches) → list_any (is_copy (first_instant b) b.seq) (placed 0 (take i batches)) ≡ false
      → is_full plan (standing (now_at entries i) (placed 0 (take i batches))) (length b.bytes) ≡ false

-- The first n items are accepted, and are in order.
record AreTaken (clock : Clock) (plan : SchedulePlan) (entries : List Entry) (batches : List Presented) (n : ℕ) : Type 0 where
  accepted_is : accepted clock plan entries n ≡ placed 0 (take n batches)
  sorted_is : by_instant (placed 0 (take n batches)) ≡ placed 0 (take n batches)

accept : (clock : Clock) (plan : SchedulePlan) (entries : List Entry) (batches : List Presented) (n : ℕ) (b : Presented) → slice_get batches n ≡ Some b → (is : AreFree clock plan entries batches) → accepted clock plan entries n ≡ placed 0 (take n batches) → (t : IsTimedAt clock plan entries n b)
    → verdict_in clock plan entries n t.item ≡ Ok (record { place = n; instant = first_instant b; batch = b })
accept clock plan entries batches n b e is before t =
    let earlier = fronts (first_instant b) batches n (λ k a below at. is.rise k n a b below at e) in
    let copy = no_copy (first_instant b) b.seq 0 (take n batches) earlier in
    judged clock plan entries n b (placed 0 (take n batches)) t before copy ∙ rw (is.room n b e before copy) refl

one_more : (clock : Clock) (plan : SchedulePlan) (entries : List Entry) (batches : List Presented) (n : ℕ) (o : Option Presented) → slice_get batches n ≡ o → n < length batches → AreFree clock plan entries batches → AreTaken clock plan entries batches n
    → AreTaken clock plan entries batches (suc n)
one_more clock plan entries batches n None e h is before = absurd (within batches n h e)
one_more clock plan entries batches n (Some b) e h is before =
    let fronted = front batches n b e in
    let long = front_length batches n b e in
    let earlier = fronts (first_instant b) batches n (λ k a below at. is.rise k n a b below at e) in
    let a : Accepted = record { place = n; instant = first_instant b; batch = b } in
    let more = placed_more 0 (take n batches) b in
    let place : 0 + length (take n batches) ≡ n = omega (arith, long) in
    let more = rw place at more in
    let all : placed 0 (take (suc n) batches) ≡ placed 0 (take n batches) ++ a ∷ [] = ap (placed 0) fronted ∙ more in
    let t = is.timed_at n b e in
    let ok = accept clock plan entries batches n b e is before.accepted_is t in
    let step : accepted clock plan entries (suc n) ≡ accepted clock plan entries n ++ a ∷ [] = accepted-next clock plan entries n (OfItem t.item) t.there ∙ rw ok refl in
    let step = rw (before.accepted_is) at step in
    record {
      accepted_is = step ∙ sym all;
      sorted_is = ap by_instant all ∙ (by_instant_more (placed 0 (take n batches)) a ∙ (ap (λ (l : List Accepted). put_behind l a) before.sorted_is ∙ (put_last 0 (take n batches) a earlier ∙ sym all)));
    }

all_accepted : (clock : Clock) (plan : SchedulePlan) (entries : List Entry) (batches : List Presented) (n : ℕ) → AreFree clock plan entries batches → n ≤ length batches → AreTaken clock plan entries batches n
all_accepted clock plan entries batches zero is h = record { accepted_is = none_accepted clock plan entries; sorted_is = none_by_instant }
all_accepted clock plan entries batches (suc n) is h = one_more clock plan entries batches n (slice_get batches n) refl (omega (arith, h)) is (all_accepted clock plan entries batches n is (omega (arith, h)))

pub all_presented : (clock : Clock) (plan : SchedulePlan) (entries : List Entry) (batches : List Presented) → AreInOrder clock plan entries batches → map (λ (a : Accepted). a.batch) (presented (given clock plan entries)) ≡ batches
all_presented clock plan entries batches is =
    let free : AreFree clock plan entries batches = record {
      all = is.all;
      timed_at = is.timed_at;
      rise = is.rise;
      room = λ i b at same copy. has_room clock plan entries i b (placed 0 (take i batches)) (is.timed_at i b at) is.room same copy;
    } in
    let all = all_accepted clock plan entries batches (length batches) free (omega arith) in
    let whole = take_all (length batches) batches (omega arith) in
    let accepted_is = rw (whole, is.all) at all.accepted_is in
    let sorted_is = rw whole at all.sorted_is in
    ap (λ (l : List Accepted). map (λ (a : Accepted). a.batch) l) (accepted-presented clock plan entries ∙ (ap by_instant accepted_is ∙ sorted_is)) ∙ batches_of 0 batches

-- ---- no item is flagged

place_there : (batches : List Presented) (entries : List Entry) (i : ℕ) (e : Entry) → length batches ≡ length entries → slice_get entries i ≡ Some e → (b : Presented) × (slice_get batches i ≡ Some b)
place_there [] [] i e long there = absurd cc
place_there [] (x ∷ entries) i e long there = absurd (omega (arith, long))
place_there (b ∷ batches) [] i e long there = absurd cc
place_there (b ∷ batches) (x ∷ entries) zero e long there = (b, refl)
place_there (b ∷ batches) (x ∷ entries) (suc i) e long there = place_there batches entries i e (omega (arith, long)) there

place_within : (batches : List Presented) (i : ℕ) (b : Presented) → slice_get batches i ≡ Some b → i < length batches
place_within [] i b e = absurd cc
place_within (x ∷ batches) zero b e = omega arith
place_within (x ∷ batches) (suc i) b e = let rest = place_within batches i b e in omega (arith, rest)

one_shown : (clock : Clock) (plan : SchedulePlan) (entries : List Entry) (batches : List Presented) (g : Given) → AreFree clock plan entries batches → IsJudged clock plan entries g → IsNotFull (shown_of g)
one_shown clock plan entries batches g is j =
    let found = place_there batches entries (place_of g) (OfItem j.item) is.all j.there in
    let t = is.timed_at (place_of g) found.0 found.1 in
    let within = place_within batches (place_of g) found.0 found.1 in
    let before = all_accepted clock plan entries batches (place_of g) is (omega (arith, within)) in
    let ok = accept clock plan entries batches (place_of g) found.0 found.1 is before.accepted_is t in
    let equal : Some (OfItem t.item) ≡ Some (OfItem j.item) = sym t.there ∙ j.there in
    let item : t.item ≡ j.item = cc in
    let ok = rw item at ok in
    subst (λ (k : Given). IsNotFull (shown_of k)) (sym (ap (given_by (place_of g) j.item) ok) ∙ j.same) tt

all_shown : (gs : List Given) → ((g : Given) → In gs g → IsNotFull (shown_of g)) → AllByRecursion IsNotFull (map shown_of gs)
unfolding In
all_shown [] each = tt
all_shown (g ∷ gs) each = (each g (inl refl), all_shown gs (λ k later. each k (inr later)))

pub none_full : (clock : Clock) (plan : SchedulePlan) (entries : List Entry) (batches : List Presented) → AreFree clock plan entries batches → AllByRecursion IsNotFull (shown clock plan entries)
none_full clock plan entries batches is = all_shown (given clock plan entries) (λ g h. one_shown clock plan entries batches g is (all-judged clock plan entries g h))
