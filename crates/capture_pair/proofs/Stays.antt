-- Whatever a pair's sides present later, the differences that the pair has already returned are still the first known
-- differences.
use Rattle.std.proofs.Common.{◌≡◌, ℕ, zero, suc, ◌≤◌, Bool, true, false, List, [], ◌∷◌, ◌++◌, length, take, drop}
use Rattle.std.proofs.Common.{◌||◌, Option, Some, None, refl, sym, ap, ◌∙◌, subst, append_assoc, append-nil, length-append, arith}
use Rattle.std.specs.Prelude.{slice_get}
use Rattle.std.specs.List.{list_any}
use mathlib.Core.List.{IsPrefix}
use Rattle.pcap_frames.specs.Capture.{Record}
use Rattle.std.proofs.Math.Seq.{take-append_seam}
use Rattle.sample_schedule.specs.Batches.{Presented}
use Rattle.sample_schedule.specs.declared.shown.Shown.{Shown}
use Rattle.listener.specs.declared.plan.ListenPlan.{ListenPlan}
use Rattle.listener.specs.Heard.{due_of, shown_of}
use Rattle.listener.specs.Laws.{presented_of}
use Rattle.listener.specs.Listening.{ListenState, is_closed, out}
use Rattle.listener.proofs.Due.{due_first, due_stays}
use Rattle.listener.proofs.Fed.{prefix_twice}
use Rattle.listener.proofs.Listened.{out_ended, out_further, out_open, out_same}
use Rattle.listener_pair.specs.declared.difference.Difference.{Difference}
use Rattle.listener_pair.specs.declared.difference.Which.{Which}
use Rattle.listener_pair.specs.declared.difference.Which.TheVariants.{A, B}
use Rattle.listener_pair.specs.Merged.{IsInOrder, Sided, is_settled, is_side, known, merged}
use Rattle.listener_pair.specs.Differences.{differences}
use Rattle.listener_pair.specs.Matching.{MatchingState, batches_of, wanted}
use Rattle.listener_pair.proofs.Counting.{differences-front}
use Rattle.listener_pair.proofs.PairLaws.{known-all as known-both}
use Rattle.listener_pair.proofs.Standing.{contradicts, lacks-none, lacks-open, wants-a, wants-b}
use Rattle.capture_pair.specs.Pairing.{Continues, EndsAreClosed, HavePlan, Matches, PairState, StandsFor, known_by, presented_by, wanted_by}
use Rattle.capture_pair.proofs.Filling.{none-left}
use Rattle.capture_pair.proofs.Handing.{presented-append, presented-split}
use Rattle.capture_pair.proofs.Heard.{due-in-order, out-in-order, shown-in-order}
use Rattle.capture_pair.proofs.Joined.{GoesOn, given-back, known-all, merges, none-batch, order-back, rest_of, unsettled-a, unsettled-b}

-- ---- what a listener presents after more records

-- The list `ys` begins with `xs`. If the side has ended, `ys` equals `xs`.
pub record Longer (xs ys : List Presented) (ended : Bool) : Type 0 where
  pub more : List Presented
  pub split : ys ≡ xs ++ more
  pub none : ended ≡ true → more ≡ []

longer-same : (xs ys : List Presented) (ended : Bool) → ys ≡ xs → Longer xs ys ended
longer-same xs ys ended e = record { more = []; split = e ∙ sym (append-nil xs); none = λ t. refl }

longer-open : (xs ys : List Shown) (ended : Bool) → ended ≡ false → IsPrefix xs ys → Longer (presented_of xs) (presented_of ys) ended
longer-open xs ys ended opened first = record {
  more = presented_of first.0;
  split = ap presented_of (sym first.1) ∙ presented-append xs first.0;
  none = λ t. contradicts ended opened t;
}

-- the items that are due after `records` are a prefix of the items that are shown of `records ++ more`
due-shown : (plan : ListenPlan) (records more : List Record) → IsPrefix (due_of plan records) (shown_of plan (records ++ more))
due-shown plan records more =
    prefix_twice (due_of plan records) (due_of plan (records ++ more)) (shown_of plan (records ++ more))
    (due_stays plan records more) (due_first plan (records ++ more))

-- What a listener presents of `records` is a prefix of all that is presented of `records ++ more`. If the listener is
-- closed, `more` must be empty.
pub shows-on : (plan : ListenPlan) (records more : List Record) (l : ListenState) → l.plan ≡ plan → (is_closed l ≡ true → more ≡ [])
    → Longer (presented_by l records) (presented_of (shown_of plan (records ++ more))) (is_closed l)
shows-on plan records more l is none = at (is_closed l) refl
  where
    at : (b : Bool) → is_closed l ≡ b → Longer (presented_by l records) (presented_of (shown_of plan (records ++ more))) (is_closed l)
    at true e =
        longer-same (presented_by l records) (presented_of (shown_of plan (records ++ more))) (is_closed l)
        (ap (λ (m : List Record). presented_of (shown_of plan (records ++ m))) (none e)
        ∙ ap (λ (r : List Record). presented_of (shown_of plan r)) (append-nil records)
        ∙ ap (λ (p : ListenPlan). presented_of (shown_of p records)) (sym is) ∙ sym (ap presented_of (out_ended l records e)))
    at false e =
        longer-open (out l records) (shown_of plan (records ++ more)) (is_closed l) e
        (subst (λ (s : List Shown). IsPrefix s (shown_of plan (records ++ more)))
        (ap (λ (p : ListenPlan). due_of p records) (sym is) ∙ sym (out_open l records e)) (due-shown plan records more))

-- If a listener takes further records or is closed, the list that it then presents begins with the list that it
-- presented of `records`.
pub presents-on : (records more : List Record) (old new : ListenState) → new.plan ≡ old.plan → (is_closed old ≡ true → (is_closed new ≡ true) × (more ≡ []))
    → Longer (presented_by old records) (presented_by new (records ++ more)) (is_closed old)
presents-on records more old new plan closed = at (is_closed old) (is_closed new) refl refl
  where
    at : (b c : Bool) → is_closed old ≡ b → is_closed new ≡ c → Longer (presented_by old records) (presented_by new (records ++ more)) (is_closed old)
    at true c e f =
        longer-same (presented_by old records) (presented_by new (records ++ more)) (is_closed old)
        (ap (λ (m : List Record). presented_by new (records ++ m)) (closed e).1 ∙ ap (presented_by new) (append-nil records)
        ∙ ap presented_of (out_same old new records plan ((closed e).0 ∙ sym e)))
    at false false e f = longer-open (out old records) (out new (records ++ more)) (is_closed old) e (out_further old new records more e f plan)
    at false true e f =
        longer-open (out old records) (out new (records ++ more)) (is_closed old) e
        (subst (λ (s : List Shown). IsPrefix (out old records) s)
        (ap (λ (p : ListenPlan). shown_of p (records ++ more)) (sym plan) ∙ sym (out_ended new (records ++ more) f))
        (subst (λ (s : List Shown). IsPrefix s (shown_of old.plan (records ++ more))) (sym (out_open old records e)) (due-shown old.plan records more)))

-- ---- the known part begins with what the matching has done

-- Side A presents `xs`, which begins with the batches of `list`. Side B presents `ys`, which begins with the batches of
-- `other`. If the matching has marked a side as ended, two things hold: that side's listener has ended, and the side
-- presents nothing beyond the batches of its list.
pub record Further (list other : List Shown) (xs ys : List Presented) (ended_a ended_b : Bool) (m : MatchingState) : Type 0 where
  pub more_a : List Presented
  pub more_b : List Presented
  pub split_a : xs ≡ presented_of list ++ more_a
  pub split_b : ys ≡ presented_of other ++ more_b
  pub order_a : IsInOrder xs
  pub order_b : IsInOrder ys
  pub none_a : m.ended_a ≡ true → more_a ≡ []
  pub none_b : m.ended_b ≡ true → more_b ≡ []
  pub over_a : m.ended_a ≡ true → ended_a ≡ true
  pub over_b : m.ended_b ≡ true → ended_b ≡ true

-- the batches in a list after its first n items, followed by the list `more`
abbrev left-of : List Shown → ℕ → List Presented → List Presented
left-of list n more = presented_of (drop n list) ++ more

split-on : (xs more : List Presented) (list : List Shown) (n : ℕ) → xs ≡ presented_of list ++ more → xs ≡ presented_of (take n list) ++ left-of list n more
split-on xs more list n e =
    e ∙ ap (λ (l : List Presented). l ++ more) (sym (presented-split n list)) ∙ append_assoc (presented_of (take n list)) (presented_of (drop n list)) more

both-none : (us vs : List Presented) → us ≡ [] → vs ≡ [] → us ++ vs ≡ []
both-none us vs e f = ap (λ (l : List Presented). l ++ vs) e ∙ f

further-goes : (list other : List Shown) (n k given : ℕ) (xs ys : List Presented) (ended_a ended_b : Bool) (m : MatchingState)
    → Matches list other n k given m → (f : Further list other xs ys ended_a ended_b m)
    → GoesOn (presented_of (take n list)) (presented_of (take k other)) (left-of list n f.more_a) (left-of other k f.more_b) ended_a ended_b m
further-goes list other n k given xs ys ended_a ended_b m h f = record {
  order_a = subst IsInOrder (split-on xs f.more_a list n f.split_a) f.order_a;
  order_b = subst IsInOrder (split-on ys f.more_b other k f.split_b) f.order_b;
  none_a = λ t. both-none (presented_of (drop n list)) f.more_a (none-left n list (h.ended_a t)) (f.none_a t);
  none_b = λ t. both-none (presented_of (drop k other)) f.more_b (none-left k other (h.ended_b t)) (f.none_b t);
  is_over_a = f.over_a;
  is_over_b = f.over_b;
}

-- The known part of all batches is the list `done`, followed by the known part of the merged list of the batches that
-- are not in `done`.
pub further-known : (list other : List Shown) (n k given : ℕ) (xs ys : List Presented) (ended_a ended_b : Bool) (m : MatchingState)
    → (h : Matches list other n k given m) → (f : Further list other xs ys ended_a ended_b m)
    → known ended_a ended_b (merged xs ys)
    ≡ h.matched.done ++ known ended_a ended_b (merged (rest_of m.next_a (left-of list n f.more_a)) (rest_of m.next_b (left-of other k f.more_b)))
further-known list other n k given xs ys ended_a ended_b m h f =
    ap (λ (l : List Presented). known ended_a ended_b (merged l ys)) (split-on xs f.more_a list n f.split_a)
    ∙ ap (λ (l : List Presented). known ended_a ended_b (merged (presented_of (take n list) ++ left-of list n f.more_a) l))
    (split-on ys f.more_b other k f.split_b)
    ∙ known-all (presented_of (take n list)) (presented_of (take k other)) (left-of list n f.more_a) (left-of other k f.more_b) given ended_a ended_b m
    h.matched (further-goes list other n k given xs ys ended_a ended_b m h f)

front-take : (done more : List Sided) (given : ℕ) → given ≡ length (differences done) → take given (differences (done ++ more)) ≡ differences done
front-take done more given e =
    let front = differences-front done more in
    ap (λ (l : List Difference). take given l) front.1 ∙ ap (λ n. take n (differences done ++ front.0)) e ∙ take-append_seam (differences done) front.0

front-within : (done more : List Sided) (given : ℕ) → given ≡ length (differences done) → given ≤ length (differences (done ++ more))
front-within done more given e =
    let front = differences-front done more in
    let all = ap length front.1 in
    let long = length-append (differences done) front.0 in
    omega arith

-- The first known differences are the differences that the matching has returned; `given` is their number.
pub further-take : (list other : List Shown) (n k given : ℕ) (xs ys : List Presented) (ended_a ended_b : Bool) (m : MatchingState)
    → (h : Matches list other n k given m) → Further list other xs ys ended_a ended_b m
    → take given (differences (known ended_a ended_b (merged xs ys))) ≡ differences h.matched.done
further-take list other n k given xs ys ended_a ended_b m h f =
    let rest = known ended_a ended_b (merged (rest_of m.next_a (left-of list n f.more_a)) (rest_of m.next_b (left-of other k f.more_b))) in
    ap (λ (l : List Sided). take given (differences l)) (further-known list other n k given xs ys ended_a ended_b m h f)
    ∙ front-take h.matched.done rest given h.matched.shown

pub further-within : (list other : List Shown) (n k given : ℕ) (xs ys : List Presented) (ended_a ended_b : Bool) (m : MatchingState)
    → Matches list other n k given m → Further list other xs ys ended_a ended_b m → given ≤ length (differences (known ended_a ended_b (merged xs ys)))
further-within list other n k given xs ys ended_a ended_b m h f =
    let rest = known ended_a ended_b (merged (rest_of m.next_a (left-of list n f.more_a)) (rest_of m.next_b (left-of other k f.more_b))) in
    subst (λ (l : List Sided). given ≤ length (differences l)) (sym (further-known list other n k given xs ys ended_a ended_b m h f))
    (front-within h.matched.done rest given h.matched.shown)

-- ---- a pair is given more

presented-in-order : (l : ListenState) (records : List Record) → IsInOrder (presented_by l records)
presented-in-order l records = out-in-order (is_closed l) l.plan records

abbrev further-now : (records others : List Record) (pair : PairState) → EndsAreClosed pair
    → Further (out pair.a records) (out pair.b others) (presented_by pair.a records) (presented_by pair.b others)
    (is_closed pair.a) (is_closed pair.b) pair.matching
further-now records others pair ends = record {
  more_a = [];
  more_b = [];
  split_a = sym (append-nil (presented_by pair.a records));
  split_b = sym (append-nil (presented_by pair.b others));
  order_a = presented-in-order pair.a records;
  order_b = presented-in-order pair.b others;
  none_a = λ t. refl;
  none_b = λ t. refl;
  over_a = ends.a;
  over_b = ends.b;
}

further-then : (records others more more_others : List Record) (old new : PairState) → EndsAreClosed old → Continues more more_others old new
    → Further (out old.a records) (out old.b others) (presented_by new.a (records ++ more)) (presented_by new.b (others ++ more_others))
    (is_closed new.a) (is_closed new.b) old.matching
further-then records others more more_others old new ends c =
    let a = presents-on records more old.a new.a c.plan_a c.closed_a in
    let b = presents-on others more_others old.b new.b c.plan_b c.closed_b in
    record {
      more_a = a.more;
      more_b = b.more;
      split_a = a.split;
      split_b = b.split;
      order_a = presented-in-order new.a (records ++ more);
      order_b = presented-in-order new.b (others ++ more_others);
      none_a = λ t. a.none (ends.a t);
      none_b = λ t. b.none (ends.b t);
      over_a = λ t. (c.closed_a (ends.a t)).0;
      over_b = λ t. (c.closed_b (ends.b t)).0;
    }

-- the number of known differences is at least `given`
pub given-within : (records others : List Record) (given : ℕ) (pair : PairState) → StandsFor records others given pair → EndsAreClosed pair
    → given ≤ length (differences (known_by pair records others))
given-within records others given pair s ends =
    further-within (out pair.a records) (out pair.b others) s.shown_a s.shown_b given (presented_by pair.a records) (presented_by pair.b others)
    (is_closed pair.a) (is_closed pair.b) pair.matching s.matches (further-now records others pair ends)

-- The first known differences stay the same, whatever records the pair takes later; `given` is the number of these
-- differences.
pub given-stays : (records others more more_others : List Record) (given : ℕ) (old new : PairState)
    → StandsFor records others given old → EndsAreClosed old → Continues more more_others old new
    → take given (differences (known_by new (records ++ more) (others ++ more_others))) ≡ take given (differences (known_by old records others))
given-stays records others more more_others given old new s ends c =
    further-take (out old.a records) (out old.b others) s.shown_a s.shown_b given
    (presented_by new.a (records ++ more)) (presented_by new.b (others ++ more_others)) (is_closed new.a) (is_closed new.b) old.matching
    s.matches (further-then records others more more_others old new ends c)
    ∙ sym (further-take (out old.a records) (out old.b others) s.shown_a s.shown_b given (presented_by old.a records) (presented_by old.b others)
    (is_closed old.a) (is_closed old.b) old.matching s.matches (further-now records others old ends))

-- ---- what each call does

pub given-all : (list : List Difference) (given : ℕ) → slice_get list given ≡ None → take given list ≡ list
given-all [] zero e = refl
given-all [] (suc n) e = refl
given-all (x ∷ list) zero e = absurd (cc)
given-all (x ∷ list) (suc n) e = ap (λ (z : List Difference). x ∷ z) (given-all list n e)

-- ---- a capture whose later records cannot be read

-- if a side has not ended and has no batch in `l`, `is_settled` is false for this side and `l`
open-none : (ended : Bool) (l : List Sided) (s : Which) → ended ≡ false → batches_of s l ≡ [] → is_settled ended s l ≡ false
open-none ended l s opened none = ap (λ v. v || list_any (λ (y : Sided). is_side s y.side) l) opened ∙ none-batch s l none

rest-none-a : (ended_a ended_b : Bool) (ra rb : List Presented) → IsInOrder ra → IsInOrder rb → ended_a ≡ false → ra ≡ []
    → known ended_a ended_b (merged ra rb) ≡ []
rest-none-a ended_a ended_b ra rb oa ob opened none =
    unsettled-a ended_a ended_b (merged ra rb) (open-none ended_a (merged ra rb) A opened ((merges ra rb oa ob).a ∙ none))

rest-none-b : (ended_a ended_b : Bool) (ra rb : List Presented) → IsInOrder ra → IsInOrder rb → ended_b ≡ false → rb ≡ []
    → known ended_a ended_b (merged ra rb) ≡ []
rest-none-b ended_a ended_b ra rb oa ob opened none =
    unsettled-b ended_a ended_b (merged ra rb) (open-none ended_b (merged ra rb) B opened ((merges ra rb oa ob).b ∙ none))

order-rest-a : (list other : List Shown) (n k given : ℕ) (xs ys : List Presented) (ended_a ended_b : Bool) (m : MatchingState)
    → (h : Matches list other n k given m) → (f : Further list other xs ys ended_a ended_b m) → IsInOrder (rest_of m.next_a (left-of list n f.more_a))
order-rest-a list other n k given xs ys ended_a ended_b m h f =
    let more = left-of list n f.more_a in
    let g = further-goes list other n k given xs ys ended_a ended_b m h f in
    order-back (batches_of A h.matched.done) (rest_of m.next_a more)
    (subst IsInOrder (given-back (presented_of (take n list)) (batches_of A h.matched.done) more m.next_a h.matched.a) g.order_a)

order-rest-b : (list other : List Shown) (n k given : ℕ) (xs ys : List Presented) (ended_a ended_b : Bool) (m : MatchingState)
    → (h : Matches list other n k given m) → (f : Further list other xs ys ended_a ended_b m) → IsInOrder (rest_of m.next_b (left-of other k f.more_b))
order-rest-b list other n k given xs ys ended_a ended_b m h f =
    let more = left-of other k f.more_b in
    let g = further-goes list other n k given xs ys ended_a ended_b m h f in
    order-back (batches_of B h.matched.done) (rest_of m.next_b more)
    (subst IsInOrder (given-back (presented_of (take k other)) (batches_of B h.matched.done) more m.next_b h.matched.b) g.order_b)

none-rest : (next : Option Presented) (us vs : List Presented) → next ≡ None → us ≡ [] → vs ≡ [] → rest_of next (us ++ vs) ≡ []
none-rest next us vs e f g = ap (λ (o : Option Presented). rest_of o (us ++ vs)) e ∙ both-none us vs f g

-- Let A be wanted, let A's listener be open, and let the matching have the whole list of A. Then the known part is the
-- list `done`, whatever B presents later.
known-done-a : (list other : List Shown) (n k given : ℕ) (xs ys : List Presented) (ended_a ended_b : Bool) (m : MatchingState)
    → (h : Matches list other n k given m) → (f : Further list other xs ys ended_a ended_b m)
    → wanted m ≡ Some A → n ≡ length list → f.more_a ≡ [] → ended_a ≡ false
    → known ended_a ended_b (merged xs ys) ≡ h.matched.done
known-done-a list other n k given xs ys ended_a ended_b m h f w all none opened =
    let ra = rest_of m.next_a (left-of list n f.more_a) in
    let rb = rest_of m.next_b (left-of other k f.more_b) in
    let empty = none-rest m.next_a (presented_of (drop n list)) f.more_a (lacks-none m.ended_a m.next_a (wants-a m w)) (none-left n list all) none in
    further-known list other n k given xs ys ended_a ended_b m h f
    ∙ ap (λ (l : List Sided). h.matched.done ++ l)
    (rest-none-a ended_a ended_b ra rb (order-rest-a list other n k given xs ys ended_a ended_b m h f)
    (order-rest-b list other n k given xs ys ended_a ended_b m h f) opened empty)
    ∙ append-nil h.matched.done

known-done-b : (list other : List Shown) (n k given : ℕ) (xs ys : List Presented) (ended_a ended_b : Bool) (m : MatchingState)
    → (h : Matches list other n k given m) → (f : Further list other xs ys ended_a ended_b m)
    → wanted m ≡ Some B → k ≡ length other → f.more_b ≡ [] → ended_b ≡ false
    → known ended_a ended_b (merged xs ys) ≡ h.matched.done
known-done-b list other n k given xs ys ended_a ended_b m h f w all none opened =
    let ra = rest_of m.next_a (left-of list n f.more_a) in
    let rb = rest_of m.next_b (left-of other k f.more_b) in
    let empty = none-rest m.next_b (presented_of (drop k other)) f.more_b (lacks-none m.ended_b m.next_b (wants-b m w)) (none-left k other all) none in
    further-known list other n k given xs ys ended_a ended_b m h f
    ∙ ap (λ (l : List Sided). h.matched.done ++ l)
    (rest-none-b ended_a ended_b ra rb (order-rest-a list other n k given xs ys ended_a ended_b m h f)
    (order-rest-b list other n k given xs ys ended_a ended_b m h f) opened empty)
    ∙ append-nil h.matched.done

due-is : (plan : ListenPlan) (records : List Record) (l : ListenState) → l.plan ≡ plan → is_closed l ≡ false
    → presented_of (due_of plan records) ≡ presented_by l records
due-is plan records l is opened = ap (λ (p : ListenPlan). presented_of (due_of p records)) (sym is) ∙ sym (ap presented_of (out_open l records opened))

shown-is : (plan : ListenPlan) (records : List Record) (l : ListenState) → l.plan ≡ plan → is_closed l ≡ true
    → presented_by l records ≡ presented_of (shown_of plan records)
shown-is plan records l is closed = ap presented_of (out_ended l records closed) ∙ ap (λ (p : ListenPlan). presented_of (shown_of p records)) is

-- If A is wanted, further records of B add nothing to the known part. The known part is then computed as if only B had
-- ended: from the batches of A that are due, and all batches of B that are shown.
pub fault-a : (plan : ListenPlan) (records others more : List Record) (given : ℕ) (pair : PairState)
    → StandsFor records others given pair → HavePlan plan pair → EndsAreClosed pair → wanted_by pair ≡ Some A
    → is_closed pair.a ≡ false → (is_closed pair.b ≡ true → more ≡ [])
    → known_by pair records others ≡ known false true (merged (presented_of (due_of plan records)) (presented_of (shown_of plan (others ++ more))))
fault-a plan records others more given pair s plans ends w opened none =
    let m = pair.matching in
    let list = out pair.a records in
    let other = out pair.b others in
    let xs = presented_of (due_of plan records) in
    let ys = presented_of (shown_of plan (others ++ more)) in
    let b = shows-on plan others more pair.b plans.b none in
    let f : Further list other xs ys false true m = record {
      more_a = [];
      more_b = b.more;
      split_a = due-is plan records pair.a plans.a opened ∙ sym (append-nil (presented_by pair.a records));
      split_b = b.split;
      order_a = due-in-order plan records;
      order_b = shown-in-order plan (others ++ more);
      none_a = λ t. refl;
      none_b = λ t. b.none (ends.b t);
      over_a = λ t. contradicts m.ended_a (lacks-open m.ended_a m.next_a (wants-a m w)) t;
      over_b = λ t. refl;
    } in
    known-done-a list other s.shown_a s.shown_b given (presented_by pair.a records) (presented_by pair.b others)
    (is_closed pair.a) (is_closed pair.b) m s.matches (further-now records others pair ends) w (s.filled_a w) refl opened
    ∙ sym (known-done-a list other s.shown_a s.shown_b given xs ys false true m s.matches f w (s.filled_a w) refl refl)

-- If B is wanted, further records of A add nothing to the known part. If B is wanted, the known part is computed as if
-- only A had ended: from all batches of A that are shown, and the batches of B that are due.
pub fault-b : (plan : ListenPlan) (records others more : List Record) (given : ℕ) (pair : PairState)
    → StandsFor records others given pair → HavePlan plan pair → EndsAreClosed pair → wanted_by pair ≡ Some B
    → is_closed pair.b ≡ false → (is_closed pair.a ≡ true → more ≡ [])
    → known_by pair records others ≡ known true false (merged (presented_of (shown_of plan (records ++ more))) (presented_of (due_of plan others)))
fault-b plan records others more given pair s plans ends w opened none =
    let m = pair.matching in
    let list = out pair.a records in
    let other = out pair.b others in
    let xs = presented_of (shown_of plan (records ++ more)) in
    let ys = presented_of (due_of plan others) in
    let a = shows-on plan records more pair.a plans.a none in
    let f : Further list other xs ys true false m = record {
      more_a = a.more;
      more_b = [];
      split_a = a.split;
      split_b = due-is plan others pair.b plans.b opened ∙ sym (append-nil (presented_by pair.b others));
      order_a = shown-in-order plan (records ++ more);
      order_b = due-in-order plan others;
      none_a = λ t. a.none (ends.a t);
      none_b = λ t. refl;
      over_a = λ t. refl;
      over_b = λ t. contradicts m.ended_b (lacks-open m.ended_b m.next_b (wants-b m w)) t;
    } in
    known-done-b list other s.shown_a s.shown_b given (presented_by pair.a records) (presented_by pair.b others)
    (is_closed pair.a) (is_closed pair.b) m s.matches (further-now records others pair ends) w (s.filled_b w) refl opened
    ∙ sym (known-done-b list other s.shown_a s.shown_b given xs ys true false m s.matches f w (s.filled_b w) refl refl)

-- if both captures are closed, all batches of both listeners are known
pub all-known : (plan : ListenPlan) (records others : List Record) (pair : PairState) → HavePlan plan pair → is_closed pair.a ≡ true → is_closed pair.b ≡ true
    → known_by pair records others ≡ merged (presented_of (shown_of plan records)) (presented_of (shown_of plan others))
all-known plan records others pair plans a b =
    ap (λ e. known e (is_closed pair.b) (merged (presented_by pair.a records) (presented_by pair.b others))) a
    ∙ ap (λ e. known true e (merged (presented_by pair.a records) (presented_by pair.b others))) b
    ∙ known-both (merged (presented_by pair.a records) (presented_by pair.b others))
    ∙ ap (λ (l : List Presented). merged l (presented_by pair.b others)) (shown-is plan records pair.a plans.a a)
    ∙ ap (merged (presented_of (shown_of plan records))) (shown-is plan others pair.b plans.b b)
