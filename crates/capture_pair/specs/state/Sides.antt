-- Only private functions and proofs use these definitions. Two listeners, of records or of bytes, and
-- the matching of what they show.
use Rattle.std.specs.Prelude.{◌≡◌, ◌⊎◌, ℕ, ◌+◌, ◌<◌, ◌≤◌, ◌^◌, Bool, true, false, if◌then◌else◌, List, length, Option, None, Some, IsSome}
use Rattle.sample_schedule.specs.declared.shown.Shown.{Shown}
use Rattle.sample_schedule.specs.declared.shown.Shown.TheVariants.{Present, Flag}
use Rattle.listener.specs.Feeding.{Feeding, StandsFor as IsFed, out as out_fed}
use Rattle.listener.specs.Laws.{presented_of}
use Rattle.listener.specs.Listening.{ListenState, StandsFor as IsGiven, is_closed, out}
use Rattle.listener_pair.specs.declared.difference.Which.{Which}
use Rattle.listener_pair.specs.declared.difference.Which.TheVariants.{A, B}
use Rattle.listener_pair.specs.Merged.{IsInOrder}
use Rattle.listener_pair.specs.Matching.{MatchingState, ended_by, given_to, nexts_left, wanted}
use Rattle.capture_pair.specs.Pairing.{Matches}
pub use Rattle.capture_pair.specs.Sources.{Kept, OfBytes, OfRecords, Taken}

-- ---- a listener

-- a listener of records took these records, shows this list of items from them, and has shown the first n items of the
-- list so far
abbrev pub ShowsRecords : ListenState → Taken → List Shown → ℕ → Type 0
ShowsRecords listener (OfRecords records) list n = IsGiven records n listener × (list ≡ out listener records)
ShowsRecords listener (OfBytes bytes) list n = ⊥

-- a listener of bytes took these bytes, `list` is all that it shows of the bytes, and it has shown the first n items of
-- `list` so far
abbrev pub ShowsBytes : Feeding → Taken → List Shown → ℕ → Type 0
ShowsBytes fed (OfRecords records) list n = ⊥
ShowsBytes fed (OfBytes bytes) list n = IsFed bytes n fed × (list ≡ out_fed fed bytes)

-- what does not change in a listener of records while it is asked for items
abbrev pub kept_of_records : ListenState → Kept
kept_of_records listener = record { plan = listener.plan; frames = listener.counts.frames; ended = is_closed listener; reader = None; out_of_memory = false }

-- what does not change in a listener of bytes while it is asked for items
abbrev pub kept_of_bytes : Feeding → Kept
kept_of_bytes fed = record { plan = fed.listener.plan; frames = 0; ended = is_closed fed.listener; reader = Some fed.reader; out_of_memory = fed.out_of_memory }

-- ---- items are given to the matching

-- The list has at most 2^61 items, and its batches are in order.
pub record IsHeard (list : List Shown) : Type 0 where
  pub few : length list ≤ 2 ^ 61
  pub order : IsInOrder (presented_of list)

-- For a matching that wants a batch of side `which`: the matching after it was given the side's next item. If there is
-- no item and the side's listener has ended, the side ends.
abbrev pub handed : Which → Option Shown → Bool → MatchingState → MatchingState
handed which (Some (Present batch)) ended m = given_to which batch m
handed which (Some (Flag frame seq reason)) ended m = m
handed which None ended m = if ended then ended_by which m else m

-- whether the listener must be asked again: true after a flag, and false otherwise
abbrev pub is_passed : Option Shown → Bool
is_passed (Some (Present batch)) = false
is_passed (Some (Flag frame seq reason)) = true
is_passed None = false

-- A matching was given the batches among the first n items of the list of side `which`, and the batches among the first
-- k items of the other side's list.
abbrev pub MatchesOn : Which → List Shown → List Shown → ℕ → ℕ → ℕ → MatchingState → Type 0
MatchesOn A list other n k given m = Matches list other n k given m
MatchesOn B list other n k given m = Matches other list k n given m

-- The listener of side `which` shows `list`, and the matching was given all items that this listener has shown.
pub record Going (Shows : List Shown → ℕ → Type 0) (which : Which) (list other : List Shown) (k given : ℕ) (m : MatchingState) : Type 0 where
  pub n : ℕ
  pub shows : Shows list n
  pub matches : MatchesOn which list other n k given m

-- The matching was given the items that the listener of side `which` has shown. If this side is still wanted, its
-- listener has shown all of `list`.
pub record Filled (Shows : List Shown → ℕ → Type 0) (which : Which) (list other : List Shown) (k given : ℕ) (m : MatchingState) : Type 0 where
  pub n : ℕ
  pub shows : Shows list n
  pub matches : MatchesOn which list other n k given m
  pub filled : wanted m ≡ Some which → n ≡ length list

-- Two listeners show these lists, and a matching was given the items that they have shown.
pub record Holds (ShowsA ShowsB : List Shown → ℕ → Type 0) (list other : List Shown) (given : ℕ) (m : MatchingState) : Type 0 where
  pub shown_a : ℕ
  pub shown_b : ℕ
  pub shows_a : ShowsA list shown_a
  pub shows_b : ShowsB other shown_b
  pub matches : Matches list other shown_a shown_b given m

-- If a side has ended in the matching, that side's listener has ended. If a side is wanted, that side's listener has
-- not ended, and is quiet: it has shown all items that are known so far.
pub record IsSettled (ended_a ended_b : Bool) (QuietA QuietB : Type 0) (m : MatchingState) : Type 0 where
  pub over_a : m.ended_a ≡ true → ended_a ≡ true
  pub over_b : m.ended_b ≡ true → ended_b ≡ true
  pub open_a : wanted m ≡ Some A → ended_a ≡ false
  pub open_b : wanted m ≡ Some B → ended_b ≡ false
  pub quiet_a : wanted m ≡ Some A → QuietA
  pub quiet_b : wanted m ≡ Some B → QuietB

-- If a side has ended in the matching, that side's listener has ended.
pub record IsBounded (ended_a ended_b : Bool) (m : MatchingState) : Type 0 where
  pub over_a : m.ended_a ≡ true → ended_a ≡ true
  pub over_b : m.ended_b ≡ true → ended_b ≡ true

-- 1 for a side that has not ended, and 0 for a side that has ended
abbrev pub one_if_open : Bool → ℕ
one_if_open true = 0
one_if_open false = 1

-- how many sides have not ended
abbrev pub open_sides : MatchingState → ℕ
open_sides m = one_if_open m.ended_a + one_if_open m.ended_b

-- whether side `which` has ended in the matching
abbrev pub ended_of : Which → MatchingState → Bool
ended_of A m = m.ended_a
ended_of B m = m.ended_b

-- the side other than `which` has the same next batch as before, and has ended if and only if it had ended before
abbrev pub IsOtherSame : Which → MatchingState → MatchingState → Type 0
IsOtherSame A old new = (new.next_b ≡ old.next_b) × (new.ended_b ≡ old.ended_b)
IsOtherSame B old new = (new.next_a ≡ old.next_a) × (new.ended_a ≡ old.ended_a)

-- side `which` is the one that is wanted
abbrev pub wants_side : Which → Option Which → Bool
wants_side A (Some A) = true
wants_side B (Some B) = true
wants_side A (Some B) = false
wants_side B (Some A) = false
wants_side which None = false

-- How a matching changes when side `which` is filled. If the matching does not want this side, nothing changes. If the
-- matching still wants this side afterwards, the matching is unchanged, and the side's listener has not ended and has
-- shown all items that are known so far. The side other than `which` is unchanged. Side `which` ends only if its
-- listener has ended.
pub record Fills (which : Which) (ended : Bool) (Quiet : Type 0) (old new : MatchingState) : Type 0 where
  pub idle : wants_side which (wanted old) ≡ false → new ≡ old
  pub same : wanted new ≡ Some which → new ≡ old
  pub opened : wanted new ≡ Some which → ended ≡ false
  pub quiet : wanted new ≡ Some which → Quiet
  pub other : IsOtherSame which old new
  pub over : (ended_of which old ≡ true → ended ≡ true) → ended_of which new ≡ true → ended ≡ true

-- While two listeners were asked for items, what does not change in a listener stayed as it was, and the matching of
-- what they show is settled.
pub record StaysSettled (was_a now_a was_b now_b : Kept) (QuietA QuietB : Type 0) (m : MatchingState) : Type 0 where
  pub settled : IsSettled now_a.ended now_b.ended QuietA QuietB m
  pub kept_a : now_a ≡ was_a
  pub kept_b : now_b ≡ was_b

-- Both sides were filled. `work` is the number of items that the listeners could still show before, and `work'` the
-- number now. If no side was wanted, nothing changed. If a side was wanted and none is wanted now, less is left to do.
pub record Shrinks (work work' : ℕ) (old new : MatchingState) : Type 0 where
  pub same : wanted old ≡ None → new ≡ old
  pub less : IsSome (wanted old) → wanted new ≡ None → work' + open_sides new < work + open_sides old
  pub nexts : work' + nexts_left new ≤ work + nexts_left old

-- Side `which` was filled. `work` is the number of items that its listener could still show before, and `work'` the
-- number now. If the side was wanted, it still is, or less is left to do.
pub record ShrinksOn (which : Which) (work work' : ℕ) (old new : MatchingState) : Type 0 where
  pub less : work' + open_sides new ≤ work + open_sides old
  pub fewer : wanted old ≡ Some which → (wanted new ≡ Some which) ⊎ (work' + open_sides new < work + open_sides old)
  pub nexts : work' + nexts_left new ≤ work + nexts_left old
