-- Two listeners that have the same plan, and the differences between what they present. Each listener is given the
-- records of one capture.
use Rattle.std.specs.Prelude.{◌≡◌, ℕ, ◌+◌, ◌≤◌, Bool, true, false, List, [], ◌∷◌, ◌++◌, length, slice_get, take, Option, Some, None, Result, IfNone, OnErr, OnOk}
use Rattle.std.specs.Option.{option_to_list}
use Rattle.pcap_frames.specs.Capture.{Record}
use Rattle.sample_schedule.specs.Batches.{Presented}
use Rattle.sample_schedule.specs.declared.shown.Shown.{Shown}
use Rattle.listener.specs.declared.plan.ListenPlan.{ListenPlan}
use Rattle.listener.specs.Laws.{presented_of}
use Rattle.listener.specs.Listening.{ListenState, StandsFor as IsGiven, is_closed, out, work}
use Rattle.listener_pair.specs.declared.difference.Difference.{Difference}
use Rattle.listener_pair.specs.declared.difference.Which.{Which}
use Rattle.listener_pair.specs.declared.difference.Which.TheVariants.{A, B}
use Rattle.listener_pair.specs.Differences.{differences}
use Rattle.listener_pair.specs.Merged.{Sided, known, merged}
use Rattle.listener_pair.specs.Matching.{IsIdle, MatchingState, StandsFor as IsMatched, nexts_left, wanted}

-- Two listeners, and the matching of what they present.
pub record PairState : Type 0 where
  pub a : ListenState
  pub b : ListenState
  pub matching : MatchingState

-- the listener of a side
abbrev pub listener_of : Which → PairState → ListenState
listener_of A pair = pair.a
listener_of B pair = pair.b

-- the side other than this one: B for A, and A for B
abbrev pub other_of : Which → Which
other_of A = B
other_of B = A

-- The side that must be given a record or closed next. A side qualifies if it has not ended and has no next batch. If
-- both sides qualify, the result is A. If no side qualifies, the result is `None`.
abbrev pub wanted_by : PairState → Option Which
wanted_by pair = wanted pair.matching

-- Both listeners have this plan.
pub record HavePlan (plan : ListenPlan) (pair : PairState) : Type 0 where
  pub a : pair.a.plan ≡ plan
  pub b : pair.b.plan ≡ plan

-- The batches that a listener presents of `records`. While the listener is open, the list has the batches that are due:
-- those that are certain to be presented, whatever records follow. After the listener is closed, the list has all
-- batches of `records`.
abbrev pub presented_by : ListenState → List Record → List Presented
presented_by listener records = presented_of (out listener records)

-- The known part of the merged list of both listeners' batches, after A was given `records` and B was given `others`.
-- The known part is a prefix of the merged list that no later records can change.
abbrev pub known_by : PairState → List Record → List Record → List Sided
known_by pair records others = known (is_closed pair.a) (is_closed pair.b) (merged (presented_by pair.a records) (presented_by pair.b others))

-- A matching was given the batches among the first n items of `list` and the first k items of `other`. The matching has
-- returned as many differences as `given` says. If a side has ended, the matching was given all of that side's list.
pub record Matches (list other : List Shown) (n k given : ℕ) (m : MatchingState) : Type 0 where
  pub within_a : n ≤ length list
  pub within_b : k ≤ length other
  pub matched : IsMatched (presented_of (take n list)) (presented_of (take k other)) given m
  pub ended_a : m.ended_a ≡ true → n ≡ length list
  pub ended_b : m.ended_b ≡ true → k ≡ length other

-- Two listeners show these lists. A matching was given the batches among the items that the listeners have shown. The
-- matching has returned as many differences as `given` says. If the matching wants a side, that side's listener has
-- shown all of its list.
pub record Pairs (ShowsA ShowsB : List Shown → ℕ → Type 0) (list other : List Shown) (given : ℕ) (m : MatchingState) : Type 0 where
  pub shown_a : ℕ
  pub shown_b : ℕ
  pub shows_a : ShowsA list shown_a
  pub shows_b : ShowsB other shown_b
  pub matches : Matches list other shown_a shown_b given m
  pub filled_a : wanted m ≡ Some A → shown_a ≡ length list
  pub filled_b : wanted m ≡ Some B → shown_b ≡ length other

-- A was given `records`, and B was given `others`. The pair has returned the first differences of the known part;
-- `given` is the number of these differences.
abbrev pub StandsFor : List Record → List Record → ℕ → PairState → Type 0
StandsFor records others given pair = Pairs (λ list n. IsGiven records n pair.a) (λ list n. IsGiven others n pair.b) (out pair.a records) (out pair.b others) given pair.matching

-- All of the known part was compared. Either the next batch of the merged list depends on what a listener presents
-- later, or both listeners are closed.
abbrev pub IsThrough : PairState → Type 0
IsThrough pair = IsIdle pair.matching

-- If a side has ended in the matching, that side's listener is closed.
pub record EndsAreClosed (pair : PairState) : Type 0 where
  pub a : pair.matching.ended_a ≡ true → is_closed pair.a ≡ true
  pub b : pair.matching.ended_b ≡ true → is_closed pair.b ≡ true

-- `new` is the pair `old` after A took the further records `more` and B took the further records `more_others`. Both
-- plans are unchanged. A side that was closed stays closed, and has no further record.
pub record Continues (more more_others : List Record) (old new : PairState) : Type 0 where
  pub plan_a : new.a.plan ≡ old.a.plan
  pub plan_b : new.b.plan ≡ old.b.plan
  pub closed_a : is_closed old.a ≡ true → (is_closed new.a ≡ true) × (more ≡ [])
  pub closed_b : is_closed old.b ≡ true → (is_closed new.b ≡ true) × (more_others ≡ [])

-- An upper bound on the number of differences that the pair returns before more is given. The bound counts one for each
-- item that a listener can still show, and one for each next batch.
abbrev pub most_left : PairState → ℕ
most_left pair = (work pair.a + work pair.b) + nexts_left pair.matching

-- Each listener has the same plan and the same number of records as before, and is closed if and only if it was closed
-- before.
pub record Keeps (old new : PairState) : Type 0 where
  pub plan_a : new.a.plan ≡ old.a.plan
  pub plan_b : new.b.plan ≡ old.b.plan
  pub frames_a : new.a.counts.frames ≡ old.a.counts.frames
  pub frames_b : new.b.counts.frames ≡ old.b.counts.frames
  pub closed_a : is_closed new.a ≡ is_closed old.a
  pub closed_b : is_closed new.b ≡ is_closed old.b

-- The listener of side `which` was given more records; `more` is the number of these records. The listener is closed if
-- and only if `ended` is true. The listener of the other side is unchanged, except for the items that it has shown.
pub record Changes (which : Which) (more : ℕ) (ended : Bool) (old new : PairState) : Type 0 where
  pub plan_a : new.a.plan ≡ old.a.plan
  pub plan_b : new.b.plan ≡ old.b.plan
  pub frames : (listener_of which new).counts.frames ≡ (listener_of which old).counts.frames + more
  pub closed : is_closed (listener_of which new) ≡ ended
  pub other_frames : (listener_of (other_of which) new).counts.frames ≡ (listener_of (other_of which) old).counts.frames
  pub other_closed : is_closed (listener_of (other_of which) new) ≡ is_closed (listener_of (other_of which) old)

-- ---- calls

-- A new pair of listeners of the plan `settings` was given no record, and side A is wanted.
pub record Begins (settings : ListenPlan) (pair : PairState) : Type 0 where
  pub stands : StandsFor [] [] 0 pair
  pub plan : HavePlan settings pair
  pub «open» : wanted_by pair ≡ Some A
  pub none_a : pair.a.counts.frames ≡ 0
  pub none_b : pair.b.counts.frames ≡ 0
  pub going : (is_closed pair.a ≡ false) × (is_closed pair.b ≡ false)

-- `answer` is the side that is wanted. The listener of a wanted side is open. If no side is wanted, and all of the known
-- part was compared, both listeners are closed.
pub record Wants (pair : PairState) (answer : Option Which) : Type 0 where
  pub wanted : answer ≡ wanted_by pair
  pub «open» : (which : Which) → answer ≡ Some which → is_closed (listener_of which pair) ≡ false
  pub closed : answer ≡ None → IsThrough pair → (is_closed pair.a ≡ true) × (is_closed pair.b ≡ true)
  pub ends : EndsAreClosed pair

-- The listener of side `which` was given the record `r`. If memory ran out, nothing changed.
pub record TakesRecord {X Y : Type 0} (which : Which) (r : Record) (old new : PairState) (result : Result X Y) : Type 0 where
  pub stands_a : which ≡ A
      → OnOk result ((records others : List Record) (given : ℕ) → StandsFor records others given old → StandsFor (records ++ r ∷ []) others given new)
  pub stands_b : which ≡ B
      → OnOk result ((records others : List Record) (given : ℕ) → StandsFor records others given old → StandsFor records (others ++ r ∷ []) given new)
  pub taken : OnOk result (Changes which 1 false old new)
  pub same : OnErr result (new ≡ old)

-- The listener of side `which` was closed.
pub record Closes (which : Which) (old new : PairState) : Type 0 where
  pub stands : (records others : List Record) (given : ℕ) → StandsFor records others given old → StandsFor records others given new
  pub closed : Changes which 0 true old new

-- The next difference in the known part of the merged list is `difference`. If it is `None`, all of that part was
-- compared.
pub record GivesNext (old new : PairState) (difference : Option Difference) : Type 0 where
  pub given : (records others : List Record) (given : ℕ) → StandsFor records others given old
      → difference ≡ slice_get (differences (known_by old records others)) given
  pub stands : (records others : List Record) (given : ℕ) → StandsFor records others given old
      → StandsFor records others (given + length (option_to_list difference)) new
  pub through : IfNone difference (IsThrough new)
  pub keeps : Keeps old new
  pub ends : EndsAreClosed new
  pub less : most_left new + length (option_to_list difference) ≤ most_left old
