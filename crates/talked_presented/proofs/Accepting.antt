-- A schedule that accepts each of its items, in the order of their instants.
use Rattle.std.proofs.Common.{◌≡◌, ℕ, zero, suc, ◌+◌, ◌<◌, ◌≤◌, ◌≤ℤ◌, List, [], ◌∷◌, ◌++◌, length, map, take, Some, Ok, refl, sym, ap, ◌∙◌, subst, append-nil, length-append, arith}
use Rattle.std.specs.Prelude.{⊤, slice_get}
use Rattle.std.specs.List.{AllByRecursion}
use Rattle.std.proofs.lemmas.List.Sums.{fold-append}
use Rattle.sample_schedule.specs.declared.accepted.Accepted.{Accepted}
use Rattle.sample_schedule.specs.declared.entry.Entry.{Entry}
use Rattle.sample_schedule.specs.declared.entry.Entry.TheVariants.{Item as OfItem}
use Rattle.sample_schedule.specs.declared.item.Item.{Item}
use Rattle.sample_schedule.specs.declared.plan.SchedulePlan.{SchedulePlan}
use Rattle.sample_schedule.specs.Laws.{presented, verdict_in}
use Rattle.sample_schedule.specs.Order.{between, by_instant, put_behind, standing}
use Rattle.sample_schedule.specs.Schedule.{Given, Presents, accepted, given, latest, now_at, present, shown, shown_of, step, steps}
use Rattle.sample_schedule.specs.Verdicts.{Clock}
use Rattle.sample_schedule.proofs.LawLemmas.{accepted-presented}
use Rattle.sample_schedule.proofs.OrderLemmas.{lt_false}
use Rattle.sample_schedule.proofs.StageLemmas.{accepted-next, map-after, shown-presents, step-is}

-- `P` holds for each accepted item and its number, counted from `k`
abbrev pub AreOf : (ℕ → Accepted → Type 0) → ℕ → List Accepted → Type 0
AreOf P k [] = ⊤
AreOf P k (a ∷ rest) = P k a × AreOf P (k + 1) rest

one_more : (P : ℕ → Accepted → Type 0) (k n : ℕ) (xs : List Accepted) (a : Accepted) → k + length xs ≡ n → AreOf P k xs → P n a → AreOf P k (xs ++ a ∷ [])
one_more P k n [] a e are is = let same : n ≡ k = omega arith in (subst (λ (m : ℕ). P m a) same is, tt)
one_more P k n (x ∷ xs) a e are is = (are.0, one_more P (k + 1) n xs a (omega arith) are.1 is)

-- ---- one item after another

-- Entry n is an item that is accepted, and `P` holds for n and the accepted item.
pub record IsAcceptedAt (clock : Clock) (plan : SchedulePlan) (es : List Entry) (P : ℕ → Accepted → Type 0) (n : ℕ) : Type 0 where
  pub item : Item
  pub there : slice_get es n ≡ Some (OfItem item)
  pub a : Accepted
  pub ok : verdict_in clock plan es n item ≡ Ok a
  pub is : P n a

-- Each item is accepted if all earlier items were. The instants of accepted items never decrease.
pub record AcceptsEach (clock : Clock) (plan : SchedulePlan) (es : List Entry) (P : ℕ → Accepted → Type 0) : Type 0 where
  pub next : (n : ℕ) → n < length es → length (accepted clock plan es n) ≡ n → AreOf P 0 (accepted clock plan es n) → IsAcceptedAt clock plan es P n
  pub rise : (k n : ℕ) (a b : Accepted) → k < n → P k a → P n b → a.instant ≤ℤ b.instant

-- ---- in the order of their instants

put_last : (xs : List Accepted) (a : Accepted) → AllByRecursion (λ b. b.instant ≤ℤ a.instant) xs → put_behind xs a ≡ xs ++ a ∷ []
put_last [] a all = refl
put_last (x ∷ xs) a all = rw (lt_false a.instant x.instant all.0) (ap (λ (l : List Accepted). x ∷ l) (put_last xs a all.1))

by_instant_more : (xs : List Accepted) (a : Accepted) → by_instant (xs ++ a ∷ []) ≡ put_behind (by_instant xs) a
unfolding by_instant
by_instant_more xs a = fold-append put_behind [] xs (a ∷ [])

no_later : (P : ℕ → Accepted → Type 0) → ((k n : ℕ) (a b : Accepted) → k < n → P k a → P n b → a.instant ≤ℤ b.instant) → (k n : ℕ) (xs : List Accepted) (a : Accepted) → k + length xs ≡ n → AreOf P k xs → P n a
    → AllByRecursion (λ b. b.instant ≤ℤ a.instant) xs
no_later P rise k n [] a e are is = tt
no_later P rise k n (x ∷ xs) a e are is = (rise k n x a (omega arith) are.0 is, no_later P rise (k + 1) n xs a (omega arith) are.1 is)

-- ---- the first n items

-- The first n items are accepted, in order, and none is flagged.
pub record AreAccepted (clock : Clock) (plan : SchedulePlan) (es : List Entry) (P : ℕ → Accepted → Type 0) (n : ℕ) : Type 0 where
  pub long : length (accepted clock plan es n) ≡ n
  pub are : AreOf P 0 (accepted clock plan es n)
  pub sorted : by_instant (accepted clock plan es n) ≡ accepted clock plan es n
  pub batches : List Accepted
  pub presents : steps clock plan es n ≡ map Presents batches

accept_none : (clock : Clock) (plan : SchedulePlan) (es : List Entry) (P : ℕ → Accepted → Type 0) → AreAccepted clock plan es P zero
unfolding accepted by_instant steps
accept_none clock plan es P = record { long = refl; are = tt; sorted = refl; batches = []; presents = refl }

accepted_more : (clock : Clock) (plan : SchedulePlan) (es : List Entry) (n : ℕ) (item : Item) (a : Accepted) → slice_get es n ≡ Some (OfItem item) → verdict_in clock plan es n item ≡ Ok a → accepted clock plan es (suc n) ≡ accepted clock plan es n ++ a ∷ []
accepted_more clock plan es n item a there ok = accepted-next clock plan es n (OfItem item) there ∙ rw ok refl

step_more : (clock : Clock) (plan : SchedulePlan) (es : List Entry) (n : ℕ) (item : Item) (a : Accepted) → slice_get es n ≡ Some (OfItem item) → verdict_in clock plan es n item ≡ Ok a
    → step clock plan es n ≡ map Presents (by_instant (between (latest (take n es)) (now_at es n) (accepted clock plan es n)))
step_more clock plan es n item a there ok = step-is clock plan es n (OfItem item) there ∙ rw ok (append-nil _)

steps_more : (clock : Clock) (plan : SchedulePlan) (es : List Entry) (n : ℕ) → steps clock plan es (suc n) ≡ steps clock plan es n ++ step clock plan es n
unfolding steps
steps_more clock plan es n = refl

accept_one : (clock : Clock) (plan : SchedulePlan) (es : List Entry) (P : ℕ → Accepted → Type 0) (n : ℕ) → AcceptsEach clock plan es P → AreAccepted clock plan es P n → IsAcceptedAt clock plan es P n → AreAccepted clock plan es P (suc n)
accept_one clock plan es P n h before now =
    let xs = accepted clock plan es n in
    let more : accepted clock plan es (suc n) ≡ xs ++ now.a ∷ [] = accepted_more clock plan es n now.item now.a now.there now.ok in
    let Q : List Accepted → Type 0 = λ (l : List Accepted). AreOf P 0 l in
    let long = before.long in
    let sum : 0 + length xs ≡ n = omega arith in
    let shows : List Accepted = by_instant (between (latest (take n es)) (now_at es n) xs) in
    let longer : length (xs ++ now.a ∷ []) ≡ suc n = omega (arith, length-append xs (now.a ∷ []), before.long) in
    record {
      long = ap length more ∙ longer;
      are = subst Q (sym more) (one_more P 0 n xs now.a sum before.are now.is);
      sorted = ap by_instant more ∙ (by_instant_more xs now.a ∙ (ap (λ (l : List Accepted). put_behind l now.a) before.sorted ∙ (put_last xs now.a (no_later P h.rise 0 n xs now.a sum before.are now.is) ∙ sym more)));
      batches = before.batches ++ shows;
      presents = steps_more clock plan es n
          ∙ (ap (λ (l : List Given). l ++ step clock plan es n) before.presents
          ∙ (ap (λ (l : List Given). map Presents before.batches ++ l) (step_more clock plan es n now.item now.a now.there now.ok)
          ∙ sym (map-after Presents before.batches shows)));
    }

pub all_accepted : (clock : Clock) (plan : SchedulePlan) (es : List Entry) (P : ℕ → Accepted → Type 0) (n : ℕ) → AcceptsEach clock plan es P → n ≤ length es → AreAccepted clock plan es P n
all_accepted clock plan es P zero h le = accept_none clock plan es P
all_accepted clock plan es P (suc n) h le =
    let before = all_accepted clock plan es P n h (omega arith) in
    accept_one clock plan es P n h before (h.next n (omega arith) before.long before.are)

-- ---- what is shown

presented_again : (xs : List Accepted) → presented (map Presents xs) ≡ xs
presented_again [] = refl
presented_again (x ∷ xs) = ap (λ (l : List Accepted). x ∷ l) (presented_again xs)

given_is : (clock : Clock) (plan : SchedulePlan) (es : List Entry) → given clock plan es ≡ steps clock plan es (length es) ++ map Presents (by_instant (standing (latest es) (accepted clock plan es (length es))))
unfolding given
given_is clock plan es = refl

all_present : (gs : List Given) (xs ys : List Accepted) → gs ≡ map Presents xs → presented gs ≡ ys → map shown_of gs ≡ map present ys
all_present gs xs ys e f =
    let same : xs ≡ ys = sym (presented_again xs) ∙ (ap presented (sym e) ∙ f) in
    ap (map shown_of) e ∙ (shown-presents xs ∙ ap (map present) same)

-- exactly the accepted items are shown, in their order, and nothing is flagged
pub shown_all : (clock : Clock) (plan : SchedulePlan) (es : List Entry) (P : ℕ → Accepted → Type 0) → AreAccepted clock plan es P (length es) → shown clock plan es ≡ map present (accepted clock plan es (length es))
shown_all clock plan es P all =
    let n = length es in
    let rest : List Accepted = by_instant (standing (latest es) (accepted clock plan es n)) in
    let gs = given clock plan es in
    let are : gs ≡ map Presents (all.batches ++ rest) =
    given_is clock plan es ∙ (ap (λ (l : List Given). l ++ map Presents rest) all.presents ∙ sym (map-after Presents all.batches rest)) in
    all_present gs (all.batches ++ rest) (accepted clock plan es n) are (accepted-presented clock plan es ∙ all.sorted)
