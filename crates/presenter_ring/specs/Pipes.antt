-- A ring between two threads, the item in `hand` that waits for a slot of the ring, and what a round does.
use Rattle.std.specs.Prelude.{◌≡◌, ℕ, ◌+◌, ◌*◌, ◌<◌, ◌≤◌, ◌++◌, List, [], length, Option, None, IsSome}
use Rattle.rtrb.specs.Ring.{sent, received, known_free, known_items}
use Rattle.sample_schedule.specs.declared.shown.Shown.{Shown}
use Rattle.presenter_ring.specs.declared.pipe.Pipe.{Pipe}
use Rattle.presenter_ring.specs.declared.receiver.Pull.{Pull}
use Rattle.presenter_ring.specs.Fronts.{hand_of, ended_of}

-- the items in the ring
abbrev pub ring_of : Pipe → List Shown
ring_of pipe = known_items pipe.back.consumer

-- the items that are presented next: the items in the ring, and then the item in `hand`
abbrev pub waiting_in : Pipe → List Shown
waiting_in pipe = ring_of pipe ++ hand_of pipe.front

-- if the receiver has ended, the answer that ended it
abbrev pub ended_with : Pipe → Option Pull
ended_with pipe = ended_of pipe.front

-- how many items the receiver gave to the pipe
abbrev pub given_to : Pipe → ℕ
given_to pipe = pipe.front.given

-- the maximum number of items that the ring can hold
abbrev pub capacity_of : Pipe → ℕ
capacity_of pipe = pipe.capacity

-- the number of slots that the ring's producer knows to be free
abbrev pub known_free_of : Pipe → ℕ
known_free_of pipe = known_free pipe.front.producer

-- a ring has room for 1 to 256 items
pub record IsCapacity (capacity : ℕ) : Type 0 where
  pub some : 1 ≤ capacity
  pub most : capacity ≤ 256

-- The pipe is empty and all slots of its ring are free. The receiver has given nothing, and has not ended.
pub record IsEmptyPipe (slots : ℕ) (pipe : Pipe) : Type 0 where
  pub empty : waiting_in pipe ≡ []
  pub live : ended_with pipe ≡ None
  pub given : given_to pipe ≡ 0
  pub capacity : capacity_of pipe ≡ slots
  pub free : known_free_of pipe ≡ slots

-- all items that the ring's producer has pushed
abbrev pub pushed_by : Pipe → List Shown
pushed_by pipe = sent pipe.front.producer

-- all items that the ring's consumer has popped
abbrev pub popped_by : Pipe → List Shown
popped_by pipe = received pipe.back.consumer

-- the receiver has ended, and no item waits
pub record IsDrained (pipe : Pipe) : Type 0 where
  pub ended : IsSome (ended_with pipe)
  pub empty : waiting_in pipe ≡ []

-- The work that is left if the receiver can give `left` more items. An item in the ring counts 1, because it must still
-- be presented. Each other item counts 2, because it must still be pushed and presented. Every round reduces the work,
-- unless the pipe is drained.
abbrev pub work : ℕ → Pipe → ℕ
work left pipe = 2 * (left + length (hand_of pipe.front)) + length (ring_of pipe)

-- What rounds did: which items the receiver gave and which the presenter got. Two lists are equal: the items that were
-- waiting before, followed by the given items; and the presented items, followed by the items that are waiting now.
pub record HasMoved {R P : Type 0} (gave : R → R → List Shown → Type 0) (left : R → ℕ) (handed : P → P → List Shown → Type 0) (receiver receiver' : R) (presenter presenter' : P) (before after : Pipe) : Type 0 where
  pub given : List Shown
  pub presented : List Shown
  pub gives : (begun : R) (items : List Shown) → gave begun receiver items → gave begun receiver' (items ++ given)
  pub hands : (begun : P) (items : List Shown) → handed begun presenter items → handed begun presenter' (items ++ presented)
  pub in_order : waiting_in before ++ given ≡ presented ++ waiting_in after
  pub counted : given_to after ≡ given_to before + length given
  pub leaves : left receiver' + length given ≤ left receiver
  pub works : work (left receiver') after + (length (pushed_by after) + length presented) ≤ work (left receiver) before + length (pushed_by before)

-- What one round did. If the producer knew a free slot when the round began, each presented item went through the ring.
-- If the pipe is not drained after the round, at least one item was pushed or presented.
pub record IsRound {R P : Type 0} (gave : R → R → List Shown → Type 0) (left : R → ℕ) (handed : P → P → List Shown → Type 0) (receiver receiver' : R) (presenter presenter' : P) (before after : Pipe) : Type 0 where
  pub moved : HasMoved gave left handed receiver receiver' presenter presenter' before after
  pub through_ring : 0 < known_free_of before → popped_by after ≡ popped_by before ++ moved.presented
  pub steps : (IsDrained after → ⊥) → length (pushed_by before) < length (pushed_by after) + length moved.presented

-- If the receiver ended in this round, the pipe keeps the receiver's final answer. A receiver that has ended is not
-- called again.
pub record EndsWith {R : Type 0} (ended : R → Option Pull) (receiver receiver' : R) (before after : Pipe) : Type 0 where
  pub ends : ended_with before ≡ None → ended_with after ≡ ended receiver'
  pub stays : IsSome (ended_with before) → (ended_with after ≡ ended_with before) × (receiver' ≡ receiver)
