-- The code's `step` works through the next batch of the merged list.
use Rattle.std.proofs.Common.{◌≡◌, ℕ, ◌+◌, List, Option, Some, None, length, refl, sym, ap, ◌∙◌, subst}
use Rattle.std.specs.Prelude.{slice_get, IfSome, IsSome}
use Rattle.std.specs.Option.{option_to_list}
use Rattle.sample_schedule.specs.Batches.{Presented}
use Rattle.listener_pair.specs.declared.difference.Difference.{Difference}
use Rattle.listener_pair.specs.declared.difference.PairCounts.{PairCounts}
use Rattle.listener_pair.specs.declared.difference.Which.{Which}
use Rattle.listener_pair.specs.declared.difference.Which.TheVariants.{A, B}
use Rattle.listener_pair.specs.declared.placed.Entered.{Entered}
use Rattle.listener_pair.specs.declared.placed.Placed.{Placed}
use Rattle.listener_pair.specs.Merged.{known, merged}
use Rattle.listener_pair.specs.Pairs.{Paired}
use Rattle.listener_pair.specs.Differences.{differences}
use Rattle.listener_pair.specs.Matching.{MatchingState, StandsFor, known_of}
use Rattle.listener_pair.specs.state.Window.{Tells, Enters, EntersSide, Steps, counted, difference_by_pair, made_on, next_of, next_side, placed, risen, without_next}
use Rattle.listener_pair.proofs.Standing.{next-there, steps}

abbrev pub left : MatchingState → ℕ → PairCounts → MatchingState
left m place counts = record m { place = place; counts = counts }

place-same : (s : Which) (m : MatchingState) → (without_next s m).place ≡ m.place
place-same A m = refl
place-same B m = refl

counts-same : (s : Which) (m : MatchingState) → (without_next s m).counts ≡ m.counts
counts-same A m = refl
counts-same B m = refl

enters-on : (s : Which) (x : Placed) (n k : ℕ) (old new : MatchingState) (counts : PairCounts) (pair : Option Paired) → n ≡ k → EntersSide s x k old new pair → EntersSide s x n old (left new n counts) pair
enters-on A x n k old new counts pair e h = subst (λ m. Enters x m old.waiting_a old.waiting_b new.waiting_a new.waiting_b pair) (sym e) h
enters-on B x n k old new counts pair e h = subst (λ m. Enters x m old.waiting_b old.waiting_a new.waiting_b new.waiting_a pair) (sym e) h

pub stepped : (s : Which) (b : Presented) (old new : MatchingState) (place : ℕ) (counts : PairCounts) (pair : Option Paired) → new ≡ record (without_next s old) { waiting_a = new.waiting_a; waiting_b = new.waiting_b }
    → EntersSide s (placed old.place s b) (risen old.place) old new pair → place ≡ risen new.place → counts ≡ counted s pair new.counts → Steps s b old (left new place counts) pair
stepped s b old new place counts pair same enters is_place is_counts =
    let place_is : place ≡ risen old.place = is_place ∙ ap risen (ap (λ (m : MatchingState). m.place) same ∙ place-same s old) in
    record {
      same = ap (λ (m : MatchingState). left m place counts) same;
      place = place_is;
      enters = enters-on s (placed old.place s b) place (risen old.place) old new counts pair place_is enters;
      counts = is_counts ∙ ap (counted s pair) (ap (λ (m : MatchingState). m.counts) same ∙ counts-same s old);
    }

-- The next batch of side `s` was processed. `entered` states the difference of the pair that this batch made, if any.
pub record Came (s : Which) (old new : MatchingState) (entered : Entered) : Type 0 where
  pub batch : Presented
  pub next : next_of s old ≡ Some batch
  pub pair : Option Paired
  pub steps : Steps s batch old new pair
  pub tells : entered.difference ≡ difference_by_pair pair

some-of : (o : Option Presented) → (o ≡ None → ⊥) → (b : Presented) × (o ≡ Some b)
some-of None h = absurd (h refl)
some-of (Some b) h = (b, refl)

pub next-known : (s : Which) (m : MatchingState) → next_side m ≡ Some s → IsSome (next_of s m)
next-known s m e = let h = some-of (next_of s m) (next-there m s e) in subst (λ (o : Option Presented). IsSome o) (sym h.1) refl

pub comes : (s : Which) (old new : MatchingState) (entered : Entered) (place : ℕ) (counts : PairCounts) → next_side old ≡ Some s → new ≡ record (without_next s old) { waiting_a = new.waiting_a; waiting_b = new.waiting_b }
    → IfSome (next_of s old) (λ batch. EntersSide s (placed old.place s batch) (risen old.place) old new (made_on s (placed old.place s batch) old)) → IfSome (next_of s old) (λ batch. Tells (made_on s (placed old.place s batch) old) entered)
    → place ≡ risen new.place → ((pair : Option Paired) → Tells pair entered → counts ≡ counted s pair new.counts) → Came s old (left new place counts) entered
comes s old new entered place counts side same enters tells is_place is_counts =
    let h = some-of (next_of s old) (next-there old s side) in
    let pair = made_on s (placed old.place s h.0) old in
    let told : Tells pair entered = subst (λ (o : Option Presented). IfSome o (λ batch. Tells (made_on s (placed old.place s batch) old) entered)) h.1 tells in
    let on : EntersSide s (placed old.place s h.0) (risen old.place) old new pair =
    subst (λ (o : Option Presented). IfSome o (λ batch. EntersSide s (placed old.place s batch) (risen old.place) old new (made_on s (placed old.place s batch) old))) h.1 enters in
    record { batch = h.0; next = h.1; pair = pair; steps = stepped s h.0 old new place counts pair same on is_place (is_counts pair told); tells = told.difference }

pub step-stands : (s : Which) (b : Presented) (old new : MatchingState) (pair : Option Paired) (d : Option Difference) → next_side old ≡ Some s → next_of s old ≡ Some b → Steps s b old new pair → d ≡ difference_by_pair pair
    → (xs ys : List Presented) (given : ℕ) → StandsFor xs ys given old → StandsFor xs ys (given + length (option_to_list d)) new
step-stands s b old new pair d side is t e xs ys given h =
    subst (λ (o : Option Difference). StandsFor xs ys (given + length (option_to_list o)) new) (sym e) (steps xs ys given s old new b pair h side is t).stands

ended-same : (s : Which) (m : MatchingState) → ((without_next s m).ended_a ≡ m.ended_a) × ((without_next s m).ended_b ≡ m.ended_b)
ended-same A m = (refl, refl)
ended-same B m = (refl, refl)

known-same : (s : Which) (b : Presented) (old new : MatchingState) (pair : Option Paired) (xs ys : List Presented) → Steps s b old new pair → known_of new xs ys ≡ known_of old xs ys
known-same s b old new pair xs ys t =
    ap (λ e. known e new.ended_b (merged xs ys)) (ap (λ (m : MatchingState). m.ended_a) t.same ∙ (ended-same s old).0)
    ∙ ap (λ e. known old.ended_a e (merged xs ys)) (ap (λ (m : MatchingState). m.ended_b) t.same ∙ (ended-same s old).1)

first-of : (d : Option Difference) (s : Which) (b : Presented) (old new : MatchingState) (pair : Option Paired) → next_side old ≡ Some s → next_of s old ≡ Some b → Steps s b old new pair → difference_by_pair pair ≡ d
    → IfSome d (λ x. (xs ys : List Presented) (given : ℕ) → StandsFor xs ys given old → slice_get (differences (known_of old xs ys)) given ≡ Some x)
first-of None s b old new pair side is t e = tt
first-of (Some x) s b old new pair side is t e = λ xs ys given h.
    ap (λ l. slice_get (differences l) given) (sym (known-same s b old new pair xs ys t))
    ∙ subst (λ (o : Option Difference). IfSome o (λ y. slice_get (differences (known_of new xs ys)) given ≡ Some y)) e (steps xs ys given s old new b pair h side is t).first

pub step-first : (s : Which) (b : Presented) (old new : MatchingState) (pair : Option Paired) (d : Option Difference) → next_side old ≡ Some s → next_of s old ≡ Some b → Steps s b old new pair → d ≡ difference_by_pair pair
    → IfSome d (λ x. (xs ys : List Presented) (given : ℕ) → StandsFor xs ys given old → slice_get (differences (known_of old xs ys)) given ≡ Some x)
step-first s b old new pair d side is t e = first-of d s b old new pair side is t (sym e)
