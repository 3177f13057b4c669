-- Only private functions and proofs use these definitions. What the two sides of a ring did until
-- everything was presented or the presenter failed.
use Rattle.std.specs.Prelude.{ℕ, Result, Ok, Err, ◌≡◌, List, OnOk, ◌++◌}
use mathlib.Core.List.{IsPrefix}
use Rattle.avtp_base.specs.declared.failed.Failed.{Failed}
use Rattle.avtp_text.specs.Listen.{list_lines}
use Rattle.avtp_text.specs.Written.{PrintsPart}
use Rattle.sample_schedule.specs.declared.shown.Shown.{Shown}
use Rattle.avtp_base.specs.States.{SinkState}
use Rattle.presenter_ring.specs.declared.pipe.Pipe.{Pipe}
use Rattle.presenter_ring.specs.Pipes.{waiting_in}

-- the number of a presenter's failures, given its result: at most 1, because the presenter stops at its first failure
abbrev pub failures : Result Unit Failed → ℕ
failures (Ok x) = 0
failures (Err e) = 1

-- The lines of these items were printed, and each item was given to the devices after its lines. If the sink failed at
-- an item, only a part of the lines was printed. The devices got neither the item at which the sink failed nor a later
-- one.
pub record GivesItems (handed : List Shown → Type 0) (out out' : SinkState) (waits waits' : List ℕ) (result : Result Unit Failed) (items : List Shown) : Type 0 where
  pub prints : PrintsPart out out' waits waits' result (list_lines items)
  pub front : List Shown
  pub first : IsPrefix front items
  pub all : OnOk result (front ≡ items)
  pub hands : handed front

-- The receiver gave the items `given`, and the presenter got the items `presented`. The other given items wait in the
-- pipe. `gave` says which items the receiver gave, and `handed` says which items the presenter got.
pub record Passes (gave handed : List Shown → Type 0) (pipe : Pipe) : Type 0 where
  pub given : List Shown
  pub presented : List Shown
  pub gives : gave given
  pub hands : handed presented
  pub in_order : presented ++ waiting_in pipe ≡ given
