-- Faults that are tested one after another.
use Rattle.std.specs.Prelude.{Bool, if◌then◌else◌, List, [], ◌∷◌, Option, Some, None}
use Rattle.talk_plan.specs.declared.fault.TalkFault.{TalkFault}

-- a fault, and whether it is present
pub record Row : Type 0 where
  pub fault : TalkFault
  pub holds : Bool

-- the row of a fault, given whether the fault is present
abbrev pub row : TalkFault → Bool → Row
row fault holds = record { fault = fault; holds = holds }

-- the fault of the first row whose fault is present, if there is one
abbrev pub first_of : List Row → Option TalkFault
first_of [] = None
first_of (r ∷ rows) = if r.holds then Some r.fault else first_of rows
