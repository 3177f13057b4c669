-- Only private functions and proofs use these definitions. What `listen` makes of an open capture.
use Rattle.std.specs.Prelude.{ℕ, List, Result, IsSome, OnOk}
use Rattle.sample_schedule.specs.declared.shown.Shown.{Shown}
use Rattle.capture_io.specs.Source.{Sourcing}
use Rattle.avtp_base.specs.declared.failed.Failed.{Failed}
use Rattle.avtp_base.specs.States.{ShelfState, SinkState}
use Rattle.listener.specs.Listening.{ListenState}
use Rattle.capture_hearing.specs.declared.hearing.Stage.{Stage}
use Rattle.capture_hearing.specs.Hearing.{Shows, pull_at}
use Rattle.listen_command.specs.state.Presenting.{GivesItems}

-- The items `items` were shown: the lines of each item were printed, and then the item was given to the devices. At the
-- stage `Ended`, `items` are all items that are shown of the capture's records. If the sink failed, only a part of the
-- lines was printed, and the devices got only a prefix of `items`.
pub record HearsItems (handed : List Shown → Type 0) (shelf shelf' : ShelfState)
    (old_source source : Sourcing) (old_listener listener : ListenState) (stage : Stage) (out out' : SinkState) (waits waits' : List ℕ) (result : Result Unit Failed) : Type 0 where
  pub items : List Shown
  pub shows : Shows shelf shelf' old_source source old_listener listener stage items
  pub gives : GivesItems handed out out' waits waits' result items
  pub over : OnOk result (IsSome (pull_at stage))
