-- What holds for all batches that a listener presents.
use Rattle.std.specs.Prelude.{List}
use Rattle.std.specs.List.{AllByRecursion}
use Rattle.pcap_frames.specs.Capture.{Record}
use Rattle.sample_schedule.specs.Batches.{Presented}
use Rattle.listener.specs.declared.plan.ListenPlan.{ListenPlan}
use Rattle.listener.specs.Heard.{due_of, shown_of}
use Rattle.listener.specs.Laws.{presented_of}

-- P holds for each batch that a listener presents from these records. P also holds for each batch that is already
-- certain to be presented, whatever records follow.
pub record HoldsOfBatches (P : Presented → Type 0) (plan : ListenPlan) (records : List Record) : Type 0 where
  pub shown : AllByRecursion P (presented_of (shown_of plan records))
  pub due : AllByRecursion P (presented_of (due_of plan records))
