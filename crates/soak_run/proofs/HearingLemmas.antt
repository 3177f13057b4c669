-- What a hearing has shown, step by step.
use Rattle.std.proofs.Common.{◌≡◌, ℕ, ℤ, zero, suc, ◌+◌, ◌^◌, ◌<◌, ◌≤◌, true, false, List, [], ◌∷◌, ◌++◌, length, map, take, get_or, Some, None, refl, sym, ap, subst, ◌∙◌, arith, take_all, length-take}
use Rattle.std.specs.Prelude.{slice_get}
use Rattle.std.proofs.lemmas.List.{map_more}
use mathlib.Core.List.{IsPrefix}
use Rattle.pcap_frames.specs.Capture.{Record}
use Rattle.sample_schedule.specs.declared.shown.Shown.{Shown}
use Rattle.listener.specs.declared.heard.Counts.{Counts}
use Rattle.listener.specs.Listening.{Keeps, ListenState, StandsFor, is_closed, out}
use Rattle.listener.proofs.Few.{few}
use Rattle.listener.proofs.Listened.{out_same, take_first, take_next, out_further, out_at_end}
use Rattle.talker.specs.Journal.{stream_of}
use Rattle.talker.specs.Talking.{Talking}
use Rattle.soak_run.specs.declared.hearing.Stage.{Stage}
use Rattle.soak_run.specs.declared.hearing.Stage.TheVariants.{Giving, Showing, Ended, NoMemory}
use Rattle.soak_run.specs.Captured.{captured}
use Rattle.soak_run.specs.state.Hearing.{Shows, closed_at, left_of, pull_at, records_of, shown_by, steps_left}
use Rattle.listener.proofs.Places.{presented-or-flagged}

-- ---- how many items were shown

shown_count : (listener : ListenState) (records : List Record) (given : ℕ) → StandsFor records given listener → shown_by listener ≡ given
shown_count listener records given stands =
    let all = out listener records in
    let long : length (take given all) ≡ given = omega (arith, length-take given all, stands.within) in
    rw stands.counts (presented-or-flagged (take given all) ∙ long)

-- the number of items shown is at most the number of records
shown_few : (listener : ListenState) (records : List Record) (given : ℕ) → StandsFor records given listener → given ≤ length records
shown_few listener records given stands =
    let most : length (out listener records) ≤ length records = few (is_closed listener) _ _ listener.plan records in
    omega (arith, stands.within, most)

front_long : {X : Type 0} (f : X → Record) (n : ℕ) (xs : List X) → length (map f (take n xs)) ≤ length xs
front_long f zero xs = omega arith
front_long f (suc n) [] = omega arith
front_long f (suc n) (x ∷ xs) = let le = front_long f n xs in omega arith

front_first : {X : Type 0} (f : X → Record) (n : ℕ) (xs : List X) → length (map f (take n xs)) ≤ n
front_first f zero xs = omega arith
front_first f (suc n) [] = omega arith
front_first f (suc n) (x ∷ xs) = let le = front_first f n xs in omega arith

-- the listener was given the first deliveries of the list; `given` is their number
abbrev pub Heard : Talking → List (ℤ × ℕ) → ℕ → ListenState → Type 0
Heard talker deliveries given listener = StandsFor (records_of talker deliveries given) (shown_by listener) listener

-- A step shows further items; `more` is their number.
module _ {old new : ListenState} {before after : List Record} (more : ℕ) (step : (given : ℕ) → StandsFor before given old → StandsFor after (given + more) new) where
  pub shown_on : StandsFor before (shown_by old) old → shown_by new ≡ shown_by old + more
  shown_on was = shown_count new after (shown_by old + more) (step (shown_by old) was)

  pub stands_on : StandsFor before (shown_by old) old → StandsFor after (shown_by new) new
  stands_on was = subst (λ (n : ℕ). StandsFor after n new) (sym (shown_on was)) (step (shown_by old) was)

  pub left_on : (deliveries : List (ℤ × ℕ)) → length after ≤ length deliveries → StandsFor before (shown_by old) old → left_of deliveries new + more ≤ left_of deliveries old
  left_on deliveries within was = omega (arith, within, shown_on was, shown_few new after (shown_by new) (stands_on was))

pub records_few : (talker : Talking) (deliveries : List (ℤ × ℕ)) (given : ℕ) → length (records_of talker deliveries given) ≤ length deliveries
records_few talker deliveries given = front_long (captured (stream_of talker.plan talker.input)) given deliveries

-- as long as a delivery is left, the listener was given fewer than 2^62 records
pub frames_few : (talker : Talking) (deliveries : List (ℤ × ℕ)) (given : ℕ) (listener : ListenState) → given < length deliveries → length deliveries ≤ 2 ^ 62 → Heard talker deliveries given listener → listener.counts.frames < 2 ^ 62
frames_few talker deliveries given listener more within heard =
    omega (arith, more, within, ap (λ (c : Counts). c.frames) heard.counts, front_first (captured (stream_of talker.plan talker.input)) given deliveries)

-- ---- one item, or none

module _ {old new : ListenState} {records : List Record} {items : List Shown} (keeps : Keeps old new) (was : Shows records old items) where
  pub shows_item : (x : Shown) → ((given : ℕ) → StandsFor records given old → Some x ≡ slice_get (out old records) given) → ((given : ℕ) → StandsFor records given old → StandsFor records (given + 1) new) → Shows records new (items ++ x ∷ [])
  shows_item x at step = record {
    stands = stands_on 1 step was.stands;
    shown =
        ap (λ (l : List Shown). l ++ x ∷ []) was.shown
        ∙ sym (take_next (out old records) (shown_by old) x (sym (at (shown_by old) was.stands)))
        ∙ ap (λ (n : ℕ). take n (out old records)) (sym (shown_on 1 step was.stands))
        ∙ ap (take (shown_by new)) (sym (out_same old new records keeps.plan keeps.closed));
  }

  pub shows_still : ((given : ℕ) → StandsFor records given old → StandsFor records (given + 0) new) → Shows records new items
  shows_still step = record {
    stands = stands_on 0 step was.stands;
    shown =
        let same : shown_by old ≡ shown_by new = omega (arith, shown_on 0 step was.stands) in
        was.shown ∙ ap (λ (n : ℕ). take n (out old records)) same ∙ ap (take (shown_by new)) (sym (out_same old new records keeps.plan keeps.closed));
  }

  all_given : (n : ℕ) (xs : List Shown) → None ≡ slice_get xs n → length xs ≤ n
  all_given n [] e = omega arith
  all_given zero (x ∷ xs) e = absurd cc
  all_given (suc n) (x ∷ xs) e = let le = all_given n xs e in omega arith

  -- if there is no next item, `items` are all items that the listener shows
  pub shows_all : ((given : ℕ) → StandsFor records given old → None ≡ slice_get (out old records) given) → items ≡ out new records
  shows_all at =
      was.shown ∙ take_all (shown_by old) (out old records) (all_given (shown_by old) (out old records) (at (shown_by old) was.stands))
      ∙ sym (out_same old new records keeps.plan keeps.closed)

-- if a listener was given nothing, the listener has shown nothing
pub shown_none : (listener : ListenState) → StandsFor [] 0 listener → Shows [] listener []
shown_none listener none =
    let count = sym (shown_count listener [] 0 none) in
    record { stands = subst (λ (n : ℕ). StandsFor [] n listener) count none; shown = ap (λ (n : ℕ). take n (out listener [])) count }

-- ---- one delivery, or the end

pub same_step : {before after : List Record} {old new : ListenState} → ((given : ℕ) → StandsFor before given old → StandsFor after given new) → (given : ℕ) → StandsFor before given old → StandsFor after (given + 0) new
same_step {after = after} {new = new} step given stands = subst (λ (n : ℕ). StandsFor after n new) (omega arith) (step given stands)

shows_further : {before after : List Record} {old new : ListenState} {items : List Shown} → IsPrefix (out old before) (out new after) → ((given : ℕ) → StandsFor before given old → StandsFor after given new) → Shows before old items → Shows after new items
shows_further {before} {after} {old} {new} first step was =
    let same : shown_by old ≡ shown_by new = omega (arith, shown_on 0 (same_step step) was.stands) in
    record {
      stands = stands_on 0 (same_step step) was.stands;
      shown = was.shown ∙ sym (take_first (shown_by old) (out old before) (out new after) first was.stands.within) ∙ ap (λ (n : ℕ). take n (out new after)) same;
    }

module _ {old new : ListenState} {records : List Record} {items : List Shown} (opened : is_closed old ≡ false) (plan : new.plan ≡ old.plan) where
  pub shows_record : (r : Record) → is_closed new ≡ false → ((given : ℕ) → StandsFor records given old → StandsFor (records ++ r ∷ []) given new) → Shows records old items → Shows (records ++ r ∷ []) new items
  shows_record r still step was = shows_further (out_further old new records (r ∷ []) opened still plan) step was

  pub shows_closed : is_closed new ≡ true → ((given : ℕ) → StandsFor records given old → StandsFor records given new) → Shows records old items → Shows records new items
  shows_closed closed step was = shows_further (out_at_end old new records opened closed plan) step was

records_next : (talker : Talking) (deliveries : List (ℤ × ℕ)) (given : ℕ) (other : ℤ × ℕ) → given < length deliveries
    → records_of talker deliveries (given + 1) ≡ records_of talker deliveries given ++ captured (stream_of talker.plan talker.input) (get_or deliveries given other) ∷ []
records_next talker deliveries given other more = map_more (captured (stream_of talker.plan talker.input)) deliveries given other more

-- The next delivery was given to the listener.
module _ {old new : ListenState} {talker talker' : Talking} (deliveries : List (ℤ × ℕ)) (given : ℕ) (other : ℤ × ℕ) (same : talker' ≡ talker) (more : given < length deliveries)
    (takes : (records : List Record) (shown : ℕ) → StandsFor records shown old → StandsFor (records ++ captured (stream_of talker.plan talker.input) (get_or deliveries given other) ∷ []) shown new) where
  pub step_next : (shown : ℕ) → StandsFor (records_of talker deliveries given) shown old → StandsFor (records_of talker' deliveries (given + 1)) shown new
  step_next shown stands =
      subst (λ (t : Talking). StandsFor (records_of t deliveries (given + 1)) shown new) (sym same)
      (subst (λ (l : List Record). StandsFor l shown new) (sym (records_next talker deliveries given other more)) (takes (records_of talker deliveries given) shown stands))

  pub shows_next : {items : List Shown} → is_closed old ≡ false → is_closed new ≡ false → new.plan ≡ old.plan → Shows (records_of talker deliveries given) old items → Shows (records_of talker' deliveries (given + 1)) new items
  shows_next {items} opened still plan was =
      subst (λ (t : Talking). Shows (records_of t deliveries (given + 1)) new items) (sym same)
      (subst (λ (l : List Record). Shows l new items) (sym (records_next talker deliveries given other more))
      (shows_record opened plan (captured (stream_of talker.plan talker.input) (get_or deliveries given other)) still (takes (records_of talker deliveries given)) was))

-- if no delivery was given, the listener has shown the same items as before
pub shows_same : {old new : ListenState} {talker talker' : Talking} (deliveries : List (ℤ × ℕ)) (given : ℕ) {items : List Shown} → talker' ≡ talker → new ≡ old → Shows (records_of talker deliveries given) old items → Shows (records_of talker' deliveries given) new items
shows_same {old} {new} {talker} {talker'} deliveries given {items} same still was =
    subst (λ (t : Talking). Shows (records_of t deliveries given) new items) (sym same) (subst (λ (l : ListenState). Shows (records_of talker deliveries given) l items) (sym still) was)

-- ---- stages

-- if a hearing has not ended and is not at stage `Showing`, the hearing is at stage `Giving`
pub giving_by : (stage : Stage) → pull_at stage ≡ None → (stage ≡ Showing → ⊥) → stage ≡ Giving
giving_by Giving going other = refl
giving_by Showing going other = absurd (other refl)
giving_by Ended going other = absurd cc
giving_by NoMemory going other = absurd cc

pub going_on : (stage : Stage) → pull_at stage ≡ None → stage ≡ Ended → ⊥
going_on stage going is = let e : pull_at Ended ≡ None = ap pull_at (sym is) ∙ going in cc

pub open_at : (stage : Stage) → stage ≡ Giving → closed_at stage ≡ false
open_at stage giving = ap closed_at giving

pub not_over : (stage : Stage) → stage ≡ Giving → closed_at stage ≡ true → ⊥
not_over stage giving over = let e : false ≡ true = ap closed_at (sym giving) ∙ over in cc

pub not_ended : (stage : Stage) → stage ≡ Giving → stage ≡ Ended → ⊥
not_ended stage giving over = let e : Giving ≡ Ended = sym giving ∙ over in cc

-- if the stage is `Giving` and a delivery was not given yet, the hearing has not ended, and giving the delivery leaves
-- fewer steps
pub steps_on : (stage : Stage) (deliveries : List (ℤ × ℕ)) (given : ℕ) → stage ≡ Giving → given < length deliveries → (pull_at stage ≡ None) × (steps_left stage deliveries (given + 1) < steps_left stage deliveries given)
steps_on Giving deliveries given giving more = (refl, omega (arith, more))
steps_on Showing deliveries given giving more = absurd cc
steps_on Ended deliveries given giving more = absurd cc
steps_on NoMemory deliveries given giving more = absurd cc

pub steps_over : (stage : Stage) (deliveries : List (ℤ × ℕ)) (given : ℕ) → stage ≡ Giving → 0 < steps_left stage deliveries given
steps_over Giving deliveries given giving = omega arith
steps_over Showing deliveries given giving = absurd cc
steps_over Ended deliveries given giving = absurd cc
steps_over NoMemory deliveries given giving = absurd cc

-- ---- results
