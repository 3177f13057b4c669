-- A listener as one side of a pair: what it has taken, and what does not change while it is asked for items.
use Rattle.std.specs.Prelude.{ℕ, Bool, List, Option}
use Rattle.pcap_frames.specs.Capture.{Record}
use Rattle.pcap_frames.specs.Reading.{Reading}
use Rattle.listener.specs.declared.plan.ListenPlan.{ListenPlan}

-- what a listener has taken: records, or bytes
pub data Taken : Type 0 where
  OfRecords : List Record → Taken
  OfBytes : List ℕ → Taken

-- What does not change while a listener is asked for items: its plan and whether it has ended. For a listener of
-- records, also the number of records that it took. For a listener of bytes, two more things do not change: the reader,
-- and whether memory ran out.
pub record Kept : Type 0 where
  pub plan : ListenPlan
  pub frames : ℕ
  pub ended : Bool
  pub reader : Option Reading
  pub out_of_memory : Bool
