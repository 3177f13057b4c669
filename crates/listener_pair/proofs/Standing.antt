-- The state of a matching follows from what it was given.
use Rattle.std.proofs.Common.{◌≡◌, ℕ, suc, ◌+◌, ◌^◌, ◌<◌, Bool, true, false, cond, inl, inr, List, [], ◌∷◌, ◌++◌, length, Option, Some, None, refl, sym, ap, ◌∙◌, subst, arith, append-nil, append_assoc, length-append}
use Rattle.std.specs.Prelude.{is_some, option_map, slice_get, IfSome}
use Rattle.std.specs.List.{find}
use Rattle.std.specs.Option.{option_to_list}
use Rattle.std.proofs.lemmas.Option.{slice_get_past}
use Rattle.sample_schedule.specs.Batches.{Presented}
use Rattle.listener_pair.specs.declared.difference.Difference.{Difference}
use Rattle.listener_pair.specs.declared.difference.PairCounts.{PairCounts}
use Rattle.listener_pair.specs.declared.difference.Which.{Which}
use Rattle.listener_pair.specs.declared.difference.Which.TheVariants.{A, B}
use Rattle.listener_pair.specs.declared.placed.Placed.{Placed}
use Rattle.listener_pair.specs.Merged.{IsInOrder, Sided, known, merged}
use Rattle.listener_pair.specs.Pairs.{Paired, at_place, pairs_from, partner_of, unpaired, unpaired_from, unpaired_with, without_first}
use Rattle.listener_pair.specs.Differences.{counts_of, differences}
use Rattle.listener_pair.specs.Matching.{IsIdle, IsSorted, MatchingState, StandsFor, batches_of, ended_by, given_to, known_of, lacks, nexts, of_side, wanted, window}
use Rattle.listener_pair.specs.state.Window.{Enters, Steps, counted, difference_by_pair, first_side, kept, next_of, next_side, paired_with, risen, takes, without_passed}
use Rattle.listener_pair.proofs.Counting.{ascending-unpaired, counted-next, differences-front, differences-next, unpaired-next}
use Rattle.listener_pair.proofs.Known.{batches-next-a, batches-next-b, idle-at, known-done, nexts-a, nexts-b}
use Rattle.listener_pair.proofs.Sorting.{batches-append, merged-is, sorted-with-a, sorted-with-b}
use Rattle.listener_pair.proofs.Windows.{other_side, others-next, own-next, partner-waits, room-next}

-- ---- sides

pub lacks-open : (e : Bool) (n : Option Presented) → lacks e n ≡ true → e ≡ false
lacks-open true n h = absurd (cc)
lacks-open false n h = refl

pub lacks-none : (e : Bool) (n : Option Presented) → lacks e n ≡ true → n ≡ None
lacks-none true n h = absurd (cc)
lacks-none false None h = refl
lacks-none false (Some b) h = absurd (cc)

pub lacks-some : {P : Type 0} (e : Bool) (b : Presented) → lacks e (Some b) ≡ true → P
lacks-some true b h = absurd (cc)
lacks-some false b h = absurd (cc)

wants-a-at : (u v : Bool) → cond u (Some A) (cond v (Some B) None) ≡ Some A → u ≡ true
wants-a-at true v h = refl
wants-a-at false true h = absurd (cc)
wants-a-at false false h = absurd (cc)

wants-b-at : (u v : Bool) → cond u (Some A) (cond v (Some B) None) ≡ Some B → v ≡ true
wants-b-at true v h = absurd (cc)
wants-b-at false true h = refl
wants-b-at false false h = absurd (cc)

pub wants-a : (m : MatchingState) → wanted m ≡ Some A → lacks m.ended_a m.next_a ≡ true
wants-a m h = wants-a-at (lacks m.ended_a m.next_a) (lacks m.ended_b m.next_b) h

pub wants-b : (m : MatchingState) → wanted m ≡ Some B → lacks m.ended_b m.next_b ≡ true
wants-b m h = wants-b-at (lacks m.ended_a m.next_a) (lacks m.ended_b m.next_b) h

-- ---- a new matching

pub nothing-done : counts_of [] ≡ record { matched = 0; only_a = 0; only_b = 0; differ = 0 }
unfolding pairs_from unpaired_from
nothing-done = refl

pub begun : (wa wb : List Placed) (counts : PairCounts) → wa ≡ [] → wb ≡ [] → counts ≡ record { matched = 0; only_a = 0; only_b = 0; differ = 0 }
    → StandsFor [] [] 0 (record { next_a = None; next_b = None; ended_a = false; ended_b = false; place = 0; waiting_a = wa; waiting_b = wb; counts = counts })
unfolding pairs_from unpaired_from
begun wa wb counts a b c = record {
  few = omega arith;
  done = [];
  a = refl;
  b = refl;
  sorted = tt;
  last_a = λ h. inl refl;
  last_b = λ h. inl refl;
  none = λ h i. refl;
  place = refl;
  waiting_a = a;
  waiting_b = b;
  shown = refl;
  counts = c ∙ sym nothing-done;
}

-- ---- one more batch of a side

pub given-a : (xs ys : List Presented) (given : ℕ) (m : MatchingState) (b : Presented) → StandsFor xs ys given m → wanted m ≡ Some A → IsInOrder (xs ++ b ∷ []) → length xs + length ys + 1 < 2 ^ 63 → StandsFor (xs ++ b ∷ []) ys given (given_to A b m)
given-a xs ys given m b s wants order few =
    let lack = wants-a m wants in
    let none = lacks-none m.ended_a m.next_a lack in
    let all : batches_of A s.done ≡ xs = sym (append-nil (batches_of A s.done)) ∙ ap (λ (o : Option Presented). batches_of A s.done ++ option_to_list o) (sym none) ∙ s.a in
    record {
      few = let long = length-append xs (b ∷ []) in omega arith;
      done = s.done;
      a = ap (λ (l : List Presented). l ++ b ∷ []) all;
      b = s.b;
      sorted = sorted-with-a s.done b m.next_b (subst (λ (o : Option Presented). IsSorted (s.done ++ nexts o m.next_b)) none s.sorted) (s.last_a lack) (subst (λ (l : List Presented). IsInOrder (l ++ b ∷ [])) (sym all) order);
      last_a = λ h. lacks-some m.ended_a b h;
      last_b = s.last_b;
      none = λ h. lacks-some m.ended_a b h;
      place = s.place;
      waiting_a = s.waiting_a;
      waiting_b = s.waiting_b;
      shown = s.shown;
      counts = s.counts;
    }

pub given-b : (xs ys : List Presented) (given : ℕ) (m : MatchingState) (b : Presented) → StandsFor xs ys given m → wanted m ≡ Some B → IsInOrder (ys ++ b ∷ []) → length xs + length ys + 1 < 2 ^ 63 → StandsFor xs (ys ++ b ∷ []) given (given_to B b m)
given-b xs ys given m b s wants order few =
    let lack = wants-b m wants in
    let none = lacks-none m.ended_b m.next_b lack in
    let all : batches_of B s.done ≡ ys = sym (append-nil (batches_of B s.done)) ∙ ap (λ (o : Option Presented). batches_of B s.done ++ option_to_list o) (sym none) ∙ s.b in
    record {
      few = let long = length-append ys (b ∷ []) in omega arith;
      done = s.done;
      a = s.a;
      b = ap (λ (l : List Presented). l ++ b ∷ []) all;
      sorted = sorted-with-b s.done b m.next_a (subst (λ (o : Option Presented). IsSorted (s.done ++ nexts m.next_a o)) none s.sorted) (s.last_b lack) (subst (λ (l : List Presented). IsInOrder (l ++ b ∷ [])) (sym all) order);
      last_a = s.last_a;
      last_b = λ h. lacks-some m.ended_b b h;
      none = λ h i. lacks-some m.ended_b b i;
      place = s.place;
      waiting_a = s.waiting_a;
      waiting_b = s.waiting_b;
      shown = s.shown;
      counts = s.counts;
    }

pub ended-a : (xs ys : List Presented) (given : ℕ) (m : MatchingState) → StandsFor xs ys given m → StandsFor xs ys given (ended_by A m)
ended-a xs ys given m s = record {
  few = s.few;
  done = s.done;
  a = s.a;
  b = s.b;
  sorted = s.sorted;
  last_a = λ h. absurd (cc);
  last_b = s.last_b;
  none = λ h. absurd (cc);
  place = s.place;
  waiting_a = s.waiting_a;
  waiting_b = s.waiting_b;
  shown = s.shown;
  counts = s.counts;
}

pub ended-b : (xs ys : List Presented) (given : ℕ) (m : MatchingState) → StandsFor xs ys given m → StandsFor xs ys given (ended_by B m)
ended-b xs ys given m s = record {
  few = s.few;
  done = s.done;
  a = s.a;
  b = s.b;
  sorted = s.sorted;
  last_a = s.last_a;
  last_b = λ h. absurd (cc);
  none = λ h i. absurd (cc);
  place = s.place;
  waiting_a = s.waiting_a;
  waiting_b = s.waiting_b;
  shown = s.shown;
  counts = s.counts;
}

-- ---- the known part

pub known-is : (xs ys : List Presented) (given : ℕ) (m : MatchingState) (s : StandsFor xs ys given m) → known_of m xs ys ≡ s.done ++ known m.ended_a m.ended_b (nexts m.next_a m.next_b)
known-is xs ys given m s =
    let n = nexts m.next_a m.next_b in
    let a : batches_of A (s.done ++ n) ≡ xs = batches-append A s.done n ∙ ap (λ (l : List Presented). batches_of A s.done ++ l) (batches-next-a m.next_a m.next_b) ∙ s.a in
    let b : batches_of B (s.done ++ n) ≡ ys = batches-append B s.done n ∙ ap (λ (l : List Presented). batches_of B s.done ++ l) (batches-next-b m.next_a m.next_b) ∙ s.b in
    let list : merged xs ys ≡ s.done ++ n = ap (λ (l : List Presented). merged l ys) (sym a) ∙ ap (λ (l : List Presented). merged (batches_of A (s.done ++ n)) l) (sym b) ∙ merged-is (s.done ++ n) s.sorted in
    ap (known m.ended_a m.ended_b) list
    ∙ known-done m.ended_a m.ended_b m.next_a m.next_b s.done (lacks m.ended_a m.next_a) (lacks m.ended_b m.next_b) refl refl s.last_a s.last_b s.none

pub idle-known : (xs ys : List Presented) (given : ℕ) (m : MatchingState) (s : StandsFor xs ys given m) → IsIdle m → known_of m xs ys ≡ s.done
idle-known xs ys given m s idle = known-is xs ys given m s ∙ ap (λ (l : List Sided). s.done ++ l) idle ∙ append-nil s.done

-- if the matching is idle, its counts are those of the known part
pub idle-counts : (xs ys : List Presented) (given : ℕ) (m : MatchingState) → StandsFor xs ys given m → IsIdle m → m.counts ≡ counts_of (known_of m xs ys)
idle-counts xs ys given m s idle = s.counts ∙ ap counts_of (sym (idle-known xs ys given m s idle))

-- if the matching is idle, no difference of the known part is left
pub idle-none : (xs ys : List Presented) (given : ℕ) (m : MatchingState) → StandsFor xs ys given m → IsIdle m → slice_get (differences (known_of m xs ys)) given ≡ None
idle-none xs ys given m s idle =
    ap (λ (l : List Sided). slice_get (differences l) given) (idle-known xs ys given m s idle)
    ∙ slice_get_past (differences s.done) given (let e = s.shown in omega arith)

pub no-next : (m : MatchingState) → next_side m ≡ None → IsIdle m
no-next m h = idle-at m.ended_a m.ended_b m.next_a m.next_b h

-- ---- the next batch is worked through

wants-none-at : (u v : Bool) (o : Option Which) (s : Which) → cond (is_some (cond u (Some A) (cond v (Some B) None))) None o ≡ Some s → (u ≡ false) × (v ≡ false) × (o ≡ Some s)
wants-none-at true v o s h = absurd (cc)
wants-none-at false true o s h = absurd (cc)
wants-none-at false false o s h = (refl, refl, h)

wants-none : (m : MatchingState) (s : Which) → next_side m ≡ Some s → (lacks m.ended_a m.next_a ≡ false) × (lacks m.ended_b m.next_b ≡ false) × (first_side m.next_a m.next_b ≡ Some s)
wants-none m s h = wants-none-at (lacks m.ended_a m.next_a) (lacks m.ended_b m.next_b) (first_side m.next_a m.next_b) s h

pub sides-length : (l : List Sided) → length (batches_of A l) + length (batches_of B l) ≡ length l
sides-length [] = refl
sides-length (x ∷ l) = side-at x.side x.batch l (sides-length l)
  where
    side-at : (s : Which) (b : Presented) (l : List Sided) → length (batches_of A l) + length (batches_of B l) ≡ length l → length (batches_of A (of_side s b ∷ l)) + length (batches_of B (of_side s b ∷ l)) ≡ suc (length l)
    side-at A b l e = omega arith
    side-at B b l e = omega arith

few-done : (xs ys : List Presented) (given : ℕ) (m : MatchingState) (s : StandsFor xs ys given m) → length s.done < 2 ^ 63
few-done xs ys given m s =
    let all = sides-length s.done in
    let a = ap length s.a in
    let b = ap length s.b in
    let la = length-append (batches_of A s.done) (option_to_list m.next_a) in
    let lb = length-append (batches_of B s.done) (option_to_list m.next_b) in
    let few = s.few in
    omega arith

-- After x was added, the batches that wait are the unpaired ones among the last 512 batches.
pub record Left (x : Placed) (u own_then other_then : List Placed) (pair : Option Paired) : Type 0 where
  pub made : pair ≡ option_map (paired_with x) (partner_of x u)
  pub owns : own_then ≡ window x.side (suc x.place) (unpaired_with x u)
  pub others : other_then ≡ window (other_side x.side) (suc x.place) (unpaired_with x u)

enters-done : (done : List Sided) (s : Which) (b : Presented) (next : ℕ) (own other own_then other_then : List Placed) (pair : Option Paired) → own ≡ window s (length done) (unpaired done) → other ≡ window (other_side s) (length done) (unpaired done)
    → next ≡ suc (length done) → Enters (at_place (length done) (of_side s b)) next own other own_then other_then pair → Left (at_place (length done) (of_side s b)) (unpaired done) own_then other_then pair
enters-done done s b next own other own_then other_then pair is_own is_other is_next e =
    let x = at_place (length done) (of_side s b) in
    let u = unpaired done in
    let asc = ascending-unpaired done in
    let made : pair ≡ option_map (paired_with x) (partner_of x u) = e.made ∙ ap (λ (l : List Placed). option_map (paired_with x) (find (takes x) l)) is_other ∙ ap (option_map (paired_with x)) (sym (partner-waits x u)) in
    let owned : without_passed next own ≡ without_passed (suc (length done)) (window s (length done) u) = ap (λ n. without_passed n own) is_next ∙ ap (without_passed (suc (length done))) is_own in
    let room : length (without_passed next own) < 512 = subst (λ (l : List Placed). length l < 512) (sym owned) (room-next s (length done) u asc) in
    record {
      made = made;
      owns = e.owns room ∙ ap (λ (l : List Placed). l ++ kept x pair) owned ∙ ap (λ (p : Option Paired). without_passed (suc (length done)) (window s (length done) u) ++ kept x p) made ∙ sym (own-next x u asc);
      others = e.others ∙ ap (λ n. without_passed n (without_first (takes x) other)) is_next ∙ ap (λ (l : List Placed). without_passed (suc (length done)) (without_first (takes x) l)) is_other ∙ sym (others-next x u asc);
    }

risen-place : (n k : ℕ) → n ≡ risen k → k < 2 ^ 63 → n ≡ suc k
risen-place n k e h = omega arith

pub more-done : (done : List Sided) (x : Sided) → length (done ++ x ∷ []) ≡ suc (length done)
more-done done x = length-append done (x ∷ []) ∙ (omega arith)

given-more : (given : ℕ) (done : List Sided) (s : Which) (b : Presented) (pair : Option Paired) → given ≡ length (differences done) → pair ≡ option_map (paired_with (at_place (length done) (of_side s b))) (partner_of (at_place (length done) (of_side s b)) (unpaired done))
    → given + length (option_to_list (difference_by_pair pair)) ≡ length (differences (done ++ of_side s b ∷ []))
given-more given done s b pair e made =
    ap (λ n. n + length (option_to_list (difference_by_pair pair))) e
    ∙ sym (length-append (differences done) (option_to_list (difference_by_pair pair)))
    ∙ ap (λ (p : Option Paired). length (differences done ++ option_to_list (difference_by_pair p))) made
    ∙ ap length (sym (differences-next done (of_side s b)))

counts-more : (done : List Sided) (s : Which) (b : Presented) (pair : Option Paired) (old new : PairCounts) → length done < 2 ^ 63 → old ≡ counts_of done → new ≡ counted s pair old
    → pair ≡ option_map (paired_with (at_place (length done) (of_side s b))) (partner_of (at_place (length done) (of_side s b)) (unpaired done)) → new ≡ counts_of (done ++ of_side s b ∷ [])
counts-more done s b pair old new few is_old is_new made =
    is_new ∙ ap (counted s pair) is_old ∙ ap (λ (p : Option Paired). counted s p (counts_of done)) made ∙ counted-next done s b few

window-more : (done : List Sided) (s r : Which) (b : Presented) (then : List Placed) → then ≡ window r (suc (length done)) (unpaired_with (at_place (length done) (of_side s b)) (unpaired done))
    → then ≡ window r (length (done ++ of_side s b ∷ [])) (unpaired (done ++ of_side s b ∷ []))
window-more done s r b then e =
    e ∙ ap (λ n. window r n (unpaired_with (at_place (length done) (of_side s b)) (unpaired done))) (sym (more-done done (of_side s b)))
    ∙ ap (window r (length (done ++ of_side s b ∷ []))) (sym (unpaired-next done (of_side s b)))

-- The matching has worked through one more batch of the same lists. If the batch made a pair that differs, one more
-- difference was returned.
pub record Advances (xs ys : List Presented) (given : ℕ) (old new : MatchingState) (difference : Option Difference) : Type 0 where
  pub stands : StandsFor xs ys (given + length (option_to_list difference)) new
  pub first : IfSome difference (λ d. slice_get (differences (known_of new xs ys)) given ≡ Some d)

at-end : {T : Type 0} (xs more : List T) (d : T) (n : ℕ) → n ≡ length xs → slice_get ((xs ++ d ∷ []) ++ more) n ≡ Some d
at-end [] more d n e = subst (λ (k : ℕ). slice_get (d ∷ more) k ≡ Some d) (sym e) refl
at-end (x ∷ xs) more d n e = subst (λ (k : ℕ). slice_get (x ∷ ((xs ++ d ∷ []) ++ more)) k ≡ Some d) (sym e) (at-end xs more d (length xs) refl)

shows : (xs ys : List Presented) (given k : ℕ) (new : MatchingState) (old_done : List Sided) (x : Sided) (difference : Option Difference) (s : StandsFor xs ys k new) → s.done ≡ old_done ++ x ∷ [] → given ≡ length (differences old_done)
    → differences (old_done ++ x ∷ []) ≡ differences old_done ++ option_to_list difference → IfSome difference (λ d. slice_get (differences (known_of new xs ys)) given ≡ Some d)
shows xs ys given k new old_done x None s e g ds = tt
shows xs ys given k new old_done x (Some d) s e g ds =
    let rest = known new.ended_a new.ended_b (nexts new.next_a new.next_b) in
    let front = differences-front (old_done ++ x ∷ []) rest in
    ap (λ (l : List Sided). slice_get (differences l) given) (known-is xs ys k new s ∙ ap (λ (l : List Sided). l ++ rest) e)
    ∙ ap (λ (l : List Difference). slice_get l given) (front.1 ∙ ap (λ (l : List Difference). l ++ front.0) ds)
    ∙ at-end (differences old_done) front.0 d given g

side-back : {T : Type 0} (done more : List T) (x : T) → done ++ x ∷ more ≡ (done ++ x ∷ []) ++ more
side-back done more x = sym (append_assoc done (x ∷ []) more)

pub contradicts : {P : Type 0} (u : Bool) → u ≡ false → u ≡ true → P
contradicts u f t = let e = sym f ∙ t in absurd (cc)

pub steps-a : (xs ys : List Presented) (given : ℕ) (old new : MatchingState) (b : Presented) (pair : Option Paired) → StandsFor xs ys given old → next_side old ≡ Some A → next_of A old ≡ Some b → Steps A b old new pair → Advances xs ys given old new (difference_by_pair pair)
steps-a xs ys given old new b pair s side is t =
    let x = of_side A b in
    let w = wants-none old A side in
    let na : new.next_a ≡ None = ap (λ (m : MatchingState). m.next_a) t.same in
    let nb : new.next_b ≡ old.next_b = ap (λ (m : MatchingState). m.next_b) t.same in
    let ea : new.ended_a ≡ old.ended_a = ap (λ (m : MatchingState). m.ended_a) t.same in
    let eb : new.ended_b ≡ old.ended_b = ap (λ (m : MatchingState). m.ended_b) t.same in
    let few = few-done xs ys given old s in
    let next : new.place ≡ suc (length s.done) = risen-place new.place (length s.done) (t.place ∙ ap risen s.place) few in
    let enters = subst (λ (n : ℕ). Enters (at_place n x) new.place old.waiting_a old.waiting_b new.waiting_a new.waiting_b pair) s.place t.enters in
    let left = enters-done s.done A b new.place old.waiting_a old.waiting_b new.waiting_a new.waiting_b pair s.waiting_a s.waiting_b next enters in
    let lb : lacks new.ended_b new.next_b ≡ false = ap (λ e. lacks e new.next_b) eb ∙ ap (λ (o : Option Presented). lacks old.ended_b o) nb ∙ w.1 in
    let stands : StandsFor xs ys (given + length (option_to_list (difference_by_pair pair))) new = record {
      few = s.few;
      done = s.done ++ x ∷ [];
      a = ap (λ (o : Option Presented). batches_of A (s.done ++ x ∷ []) ++ option_to_list o) na ∙ append-nil (batches_of A (s.done ++ x ∷ [])) ∙ batches-append A s.done (x ∷ []) ∙ ap (λ (o : Option Presented). batches_of A s.done ++ option_to_list o) (sym is) ∙ s.a;
      b = ap (λ (o : Option Presented). batches_of B (s.done ++ x ∷ []) ++ option_to_list o) nb ∙ ap (λ (l : List Presented). l ++ option_to_list old.next_b) (batches-append B s.done (x ∷ []) ∙ append-nil (batches_of B s.done)) ∙ s.b;
      sorted = subst IsSorted (ap (λ (l : List Sided). s.done ++ l) (nexts-a old.next_a old.next_b b w.2 is) ∙ side-back s.done (nexts None old.next_b) x
          ∙ ap (λ (o : Option Presented). (s.done ++ x ∷ []) ++ nexts None o) (sym nb) ∙ ap (λ (o : Option Presented). (s.done ++ x ∷ []) ++ nexts o new.next_b) (sym na)) s.sorted;
      last_a = λ h. inr (s.done, b, refl);
      last_b = λ h. contradicts (lacks new.ended_b new.next_b) lb h;
      none = λ h i. contradicts (lacks new.ended_b new.next_b) lb i;
      place = next ∙ sym (more-done s.done x);
      waiting_a = window-more s.done A A b new.waiting_a left.owns;
      waiting_b = window-more s.done A B b new.waiting_b left.others;
      shown = given-more given s.done A b pair s.shown left.made;
      counts = counts-more s.done A b pair old.counts new.counts few s.counts t.counts left.made;
    } in
    record {
      stands = stands;
      first = shows xs ys given (given + length (option_to_list (difference_by_pair pair))) new s.done x (difference_by_pair pair) stands refl s.shown
          (differences-next s.done x ∙ ap (λ (p : Option Paired). differences s.done ++ option_to_list (difference_by_pair p)) (sym left.made));
    }

pub steps-b : (xs ys : List Presented) (given : ℕ) (old new : MatchingState) (b : Presented) (pair : Option Paired) → StandsFor xs ys given old → next_side old ≡ Some B → next_of B old ≡ Some b → Steps B b old new pair → Advances xs ys given old new (difference_by_pair pair)
steps-b xs ys given old new b pair s side is t =
    let x = of_side B b in
    let w = wants-none old B side in
    let na : new.next_a ≡ old.next_a = ap (λ (m : MatchingState). m.next_a) t.same in
    let nb : new.next_b ≡ None = ap (λ (m : MatchingState). m.next_b) t.same in
    let ea : new.ended_a ≡ old.ended_a = ap (λ (m : MatchingState). m.ended_a) t.same in
    let eb : new.ended_b ≡ old.ended_b = ap (λ (m : MatchingState). m.ended_b) t.same in
    let few = few-done xs ys given old s in
    let next : new.place ≡ suc (length s.done) = risen-place new.place (length s.done) (t.place ∙ ap risen s.place) few in
    let enters = subst (λ (n : ℕ). Enters (at_place n x) new.place old.waiting_b old.waiting_a new.waiting_b new.waiting_a pair) s.place t.enters in
    let left = enters-done s.done B b new.place old.waiting_b old.waiting_a new.waiting_b new.waiting_a pair s.waiting_b s.waiting_a next enters in
    let la : lacks new.ended_a new.next_a ≡ false = ap (λ e. lacks e new.next_a) ea ∙ ap (λ (o : Option Presented). lacks old.ended_a o) na ∙ w.0 in
    let stands : StandsFor xs ys (given + length (option_to_list (difference_by_pair pair))) new = record {
      few = s.few;
      done = s.done ++ x ∷ [];
      a = ap (λ (o : Option Presented). batches_of A (s.done ++ x ∷ []) ++ option_to_list o) na ∙ ap (λ (l : List Presented). l ++ option_to_list old.next_a) (batches-append A s.done (x ∷ []) ∙ append-nil (batches_of A s.done)) ∙ s.a;
      b = ap (λ (o : Option Presented). batches_of B (s.done ++ x ∷ []) ++ option_to_list o) nb ∙ append-nil (batches_of B (s.done ++ x ∷ [])) ∙ batches-append B s.done (x ∷ []) ∙ ap (λ (o : Option Presented). batches_of B s.done ++ option_to_list o) (sym is) ∙ s.b;
      sorted = subst IsSorted (ap (λ (l : List Sided). s.done ++ l) (nexts-b old.next_a old.next_b b w.2 is) ∙ side-back s.done (nexts old.next_a None) x
          ∙ ap (λ (o : Option Presented). (s.done ++ x ∷ []) ++ nexts o None) (sym na) ∙ ap (λ (o : Option Presented). (s.done ++ x ∷ []) ++ nexts new.next_a o) (sym nb)) s.sorted;
      last_a = λ h. contradicts (lacks new.ended_a new.next_a) la h;
      last_b = λ h. inr (s.done, b, refl);
      none = λ h i. contradicts (lacks new.ended_a new.next_a) la h;
      place = next ∙ sym (more-done s.done x);
      waiting_a = window-more s.done B A b new.waiting_a left.others;
      waiting_b = window-more s.done B B b new.waiting_b left.owns;
      shown = given-more given s.done B b pair s.shown left.made;
      counts = counts-more s.done B b pair old.counts new.counts few s.counts t.counts left.made;
    } in
    record {
      stands = stands;
      first = shows xs ys given (given + length (option_to_list (difference_by_pair pair))) new s.done x (difference_by_pair pair) stands refl s.shown
          (differences-next s.done x ∙ ap (λ (p : Option Paired). differences s.done ++ option_to_list (difference_by_pair p)) (sym left.made));
    }

pub steps : (xs ys : List Presented) (given : ℕ) (s : Which) (old new : MatchingState) (b : Presented) (pair : Option Paired) → StandsFor xs ys given old → next_side old ≡ Some s → next_of s old ≡ Some b → Steps s b old new pair → Advances xs ys given old new (difference_by_pair pair)
steps xs ys given A old new b pair s side is t = steps-a xs ys given old new b pair s side is t
steps xs ys given B old new b pair s side is t = steps-b xs ys given old new b pair s side is t

-- side `s` has no next batch
abbrev NextAt : Which → Option Presented → Option Presented → Type 0
NextAt A na nb = na ≡ None
NextAt B na nb = nb ≡ None

next-at : (m : MatchingState) (s : Which) → next_of s m ≡ None → NextAt s m.next_a m.next_b
next-at m A e = e
next-at m B e = e

there-at : (na nb : Option Presented) (s : Which) → first_side na nb ≡ Some s → NextAt s na nb → ⊥
there-at None None s e n = cc
there-at (Some a) None A e n = cc
there-at (Some a) None B e n = cc
there-at None (Some b) A e n = cc
there-at None (Some b) B e n = cc
there-at (Some a) (Some b) A e n = cc
there-at (Some a) (Some b) B e n = cc

pub next-there : (m : MatchingState) (s : Which) → next_side m ≡ Some s → next_of s m ≡ None → ⊥
next-there m s side none = there-at m.next_a m.next_b s (wants-none m s side).2 (next-at m s none)
