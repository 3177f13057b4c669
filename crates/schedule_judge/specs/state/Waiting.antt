-- Only private functions and proofs use these definitions. The batches that wait for their instant,
-- and their keys.
use Rattle.std.specs.Prelude.{◌≡◌, ◌≢◌, ◌+◌, ◌<◌, ◌≤◌, ◌≤ℤ◌, ◌<ℤ◌, ⊤, ℕ, ℤ, false, List, [], ◌∷◌, ◌++◌, length, Option, Some, IfNone, IfSome}
use Rattle.std.specs.List.{AllByRecursion, filter_map}
use Rattle.std.specs.Option.{option_to_list}
use Rattle.slab.specs.Slab.{Slab, get, slab_len}
use Rattle.sample_schedule.specs.declared.accepted.Accepted.{Accepted}
use Rattle.sample_schedule.specs.declared.plan.SchedulePlan.{SchedulePlan}
use Rattle.sorted_keys.specs.declared.key.Key.{Key}
use Rattle.sample_schedule.specs.Order.{put_behind}
use Rattle.sample_schedule.specs.Verdicts.{total_bytes}
use Rattle.schedule_judge.specs.state.Order.{starts_due}
use Rattle.schedule_judge.specs.Waiting.{Held}

abbrev pub batch_of : Slab Accepted → Key → Option Accepted
batch_of batches key = get batches key.slot

-- the batches of the keys, in the order of the keys
abbrev pub held : Slab Accepted → List Key → List Accepted
held batches keys = filter_map (batch_of batches) keys

-- the key's slot holds a batch with the key's instant and sequence number
pub record IsKey (batches : Slab Accepted) (key : Key) : Type 0 where
  pub batch : Accepted
  pub there : batch_of batches key ≡ Some batch
  pub instant : batch.instant ≡ key.instant
  pub seq : batch.batch.seq ≡ key.seq

-- no two keys have the same slot
abbrev pub HaveOwnSlots : List Key → Type 0
HaveOwnSlots [] = ⊤
HaveOwnSlots (key ∷ rest) = AllByRecursion (λ other. other.slot ≢ key.slot) rest × HaveOwnSlots rest

-- Each key belongs to one of the batches in the slots, and each of these batches has one key. `bytes` is the number of
-- bytes of these batches.
pub record IsWaiting (keys : List Key) (batches : Slab Accepted) (bytes : ℕ) : Type 0 where
  pub there : AllByRecursion (IsKey batches) keys
  pub own : HaveOwnSlots keys
  pub total : bytes ≡ total_bytes (held batches keys)
  pub count : slab_len batches ≡ length keys

-- the buffer has room for one batch of `size` bytes beside the waiting ones
pub record HasPlace (plan : SchedulePlan) (waiting : List Accepted) (size : ℕ) : Type 0 where
  pub buffer : length waiting < plan.buffer
  pub fits : total_bytes waiting + size ≤ plan.room

-- the buffer has room for the accepted batch beside the waiting ones, and the batch's instant has not passed
pub record CanWait (plan : SchedulePlan) (now : ℤ) (waiting : List Accepted) (accepted : Accepted) : Type 0 where
  pub place : HasPlace plan waiting (length accepted.batch.bytes)
  pub stands : now ≤ℤ accepted.instant

-- `first` was taken from the front of the waiting batches; `None` if no batch was taken
pub record Hands (old : Held) (first : Option Accepted) (new : Held) : Type 0 where
  pub list : old.list ≡ option_to_list first ++ new.list
  pub room : new.room ≡ old.room

-- the first waiting batch was taken; `None` if no batch waits
pub record HandsFirst (old : Held) (first : Option Accepted) (new : Held) : Type 0 where
  pub hands : Hands old first new
  pub none : IfNone first (old.list ≡ [])

-- the first waiting batch was taken if its instant is before `now`
pub record HandsDue (now : ℤ) (old : Held) (first : Option Accepted) (new : Held) : Type 0 where
  pub hands : Hands old first new
  pub due : IfSome first (λ a. a.instant <ℤ now)
  pub none : IfNone first (starts_due now new.list ≡ false)

-- no batch waits, and memory is reserved for at least this many batches
pub record IsEmptyRoom (batches : ℕ) (new : Held) : Type 0 where
  pub none : new.list ≡ []
  pub room : batches ≤ new.room

-- the accepted batch waits, after all batches with earlier or equal first instants
pub record PutsBehind (old : Held) (accepted : Accepted) (new : Held) : Type 0 where
  pub list : new.list ≡ put_behind old.list accepted
  pub room : old.room ≤ new.room
