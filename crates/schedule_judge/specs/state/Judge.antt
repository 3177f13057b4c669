-- Only private functions and proofs use these definitions. A judge, which takes a stream of entries
-- one at a time and shows items as soon as they are certain.
use Rattle.std.specs.Prelude.{◌≡◌, ℕ, ◌+◌, ◌^◌, ◌≤◌, Bool, true, false, ℤ, ◌<◌, List, [], ◌∷◌, ◌++◌, All, length, Option, None, Some, IfNone, IfSome, slice_get}
use mathlib.Core.List.{IsPrefix}
use Rattle.std.specs.Int.{int_max}
use Rattle.std.specs.Option.{option_to_list}
use Rattle.time_unfold.specs.Time.{IsArrival}
use Rattle.sample_schedule.specs.declared.entry.Entry.{Entry}
use Rattle.schedule_judge.specs.declared.pending.Pending.{Pending}
use Rattle.schedule_judge.specs.declared.pending.Pending.TheVariants.{Item as PendingItem, Clock as PendingClock}
use Rattle.sample_schedule.specs.declared.shown.Shown.{Shown}
use Rattle.sample_schedule.specs.Limits.{IsItem, IsPlan}
use Rattle.sample_schedule.specs.Schedule.{item_arrival}
use Rattle.sample_schedule.specs.Verdicts.{Clock, total_bytes}
use Rattle.schedule_judge.specs.Waiting.{Held}
use Rattle.schedule_judge.specs.Judge.{IsIdle, JudgeState, Keeps, StandsFor, out, taken, work}

abbrev pub pending_arrival : Pending → ℤ
pending_arrival (PendingItem item) = item_arrival item
pending_arrival (PendingClock arrival) = arrival

abbrev pub IsPending : Pending → Type 0
IsPending (PendingItem item) = IsItem item
IsPending (PendingClock arrival) = IsArrival arrival

-- `list` holds all items of `entries` that the judge has returned so far, in the order in which it returned them.
pub record HasGiven (clock : Clock) (entries : List Entry) (list : List Shown) (judge : JudgeState) : Type 0 where
  pub stands : StandsFor clock entries (length list) judge
  pub first : IsPrefix list (out clock judge entries)

-- the greater of `now` and the arrival of the new current entry; `now` if there is no current entry
abbrev pub now_with : ℤ → Option Pending → ℤ
now_with now None = now
now_with now (Some pending) = int_max now (pending_arrival pending)

-- An entry was put at the end of the delay line. If the delay line is then longer than the look-ahead, its first entry
-- becomes current.
pub record Puts (pending : Pending) (old new : JudgeState) : Type 0 where
  pub same : new ≡ record old { time = now_with old.time new.current; current = new.current; ahead = new.ahead }
  pub line : option_to_list new.current ++ new.ahead ≡ old.ahead ++ pending ∷ []
  pub fits : length old.ahead < old.plan.look → length new.ahead ≡ length old.ahead + 1
  pub full : old.plan.look ≤ length old.ahead → length new.ahead ≡ length old.ahead

-- the judge can take one more entry, and this entry is within the limits of the format
pub record CanTake (next : Pending) (judge : JudgeState) : Type 0 where
  pub idle : IsIdle judge
  pub taken : taken judge < 2 ^ 62
  pub pending : IsPending next

-- The judge has returned `result`: the next item that it shows, or `None`. The judge stands for the same entries as
-- before. If an item was returned, fewer steps are left; if not, there is no current entry. The delay line has not grown.
pub record Works (old : JudgeState) (result : Option Shown) (new : JudgeState) : Type 0 where
  pub next : (clock : Clock) (entries : List Entry) (given : ℕ) → StandsFor clock entries given old → IfSome result (λ shown. slice_get (out clock old entries) given ≡ Some shown)
  pub stands : (clock : Clock) (entries : List Entry) (given : ℕ) → StandsFor clock entries given old → StandsFor clock entries (given + length (option_to_list result)) new
  pub keeps : Keeps old new
  pub less : work new + length (option_to_list result) ≤ work old
  pub ahead : length new.ahead ≤ length old.ahead
  pub idle : IfNone result (IsIdle new)

-- If the list has ended and the delay line has an entry, the line's first entry is now the current one, and `taken` is
-- true. Otherwise nothing is changed.
pub record TakesAhead (old : JudgeState) (taken : Bool) (new : JudgeState) : Type 0 where
  pub stands : (clock : Clock) (entries : List Entry) (given : ℕ) → StandsFor clock entries given old → StandsFor clock entries given new
  pub keeps : Keeps old new
  pub less : work new ≤ work old
  pub none : taken ≡ false → (new ≡ old) × (old.closed ≡ true → old.ahead ≡ [])
  pub shorter : taken ≡ true → length new.ahead < length old.ahead

-- The judge has returned all items that it shows for its entries so far, and these items were put at the end of a list.
pub record GivesAll (before : List Shown) (old : JudgeState) (after : List Shown) (new : JudgeState) : Type 0 where
  pub given : (clock : Clock) (entries : List Entry) → HasGiven clock entries before old → HasGiven clock entries after new
  pub all : (clock : Clock) (entries : List Entry) → HasGiven clock entries before old → after ≡ out clock new entries
  pub idle : IsIdle new
  pub keeps : Keeps old new

-- The invariant of every judge: the judge's parts are within the limits of its plan and of the memory that is reserved.
pub record IsSound (judge : JudgeState) (capacity : ℕ) (held : Held) : Type 0 where
  pub plan : IsPlan judge.plan
  pub current : IfSome judge.current IsPending
  pub ahead : All IsPending judge.ahead
  pub line : capacity ≡ judge.plan.look
  pub behind : length judge.ahead ≤ judge.plan.look
  pub taken : taken judge ≤ 2 ^ 62
  pub room : judge.plan.buffer ≤ held.room
  pub batches : length judge.waiting ≤ judge.plan.buffer
  pub bytes : total_bytes judge.waiting ≤ judge.plan.room
