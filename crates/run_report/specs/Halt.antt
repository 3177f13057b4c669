-- The read fault that ends a run. A read fault always ends a run, so a run has at most one.
use Rattle.std.specs.Prelude.{ℕ, zero, suc, ◌-◌, List, [], ◌∷◌, Option, None, Some, ◌≡◌, ◌≤◌, length, take, ⊤}
use Rattle.avtp_base.specs.declared.failed.FaultPlace.{FaultPlace}
use Rattle.avtp_base.specs.declared.failed.FaultPlace.TheVariants as fault_place
use Rattle.avtp_base.specs.Files.{Files}
use Rattle.capture_io.specs.Formats.{certain_in}

-- The read fault that ended a run, if one did. A file is given by its place among the files that the run reads, in
-- order, counted from 0.
pub data Halt : Type 0 where
  no_halt : Halt
  -- The file at this place exists, but was not opened.
  not_opened : (place : ℕ) → Halt
  -- The reading of the file at this place was stopped after its first `after` bytes.
  stopped_after : (place after : ℕ) → Halt

-- The read fault, if places are counted from the second file on. If the fault is in the first file, the result is
-- `no_halt`.
abbrev pub past_first : Halt → Halt
past_first no_halt = no_halt
past_first (not_opened zero) = no_halt
past_first (not_opened (suc place)) = not_opened place
past_first (stopped_after zero after) = no_halt
past_first (stopped_after (suc place) after) = stopped_after place after

-- The reading of a file that exists can be stopped after its first `after` bytes: `fault` holds of a fault at this
-- place, these bytes are within the limit and within the file, and none of their fields is certain to be refused. The
-- option holds the file's bytes.
abbrev pub CanStop : ℕ → Option (List ℕ) → (FaultPlace → Type 0) → ℕ → Type 0
CanStop limit None fault after = ⊥
CanStop limit (Some bytes) fault after =
    fault (fault_place.Reading (length bytes - after)) × (after ≤ limit) × (after ≤ length bytes) × (certain_in (take after bytes) ≡ None)

-- A run that reads the files of these names in order, up to `limit` bytes of each, can end with this read fault. A read
-- fault is possible only if `fault` holds of its place.
abbrev pub CanHalt : ℕ → List (List ℕ) → Files → (FaultPlace → Type 0) → Halt → Type 0
CanHalt limit names files fault no_halt = ⊤
CanHalt limit [] files fault halt = ⊥
CanHalt limit (name ∷ names) files fault (not_opened zero) = fault fault_place.Opening
CanHalt limit (name ∷ names) files fault (not_opened (suc place)) = CanHalt limit names files fault (not_opened place)
CanHalt limit (name ∷ names) files fault (stopped_after zero after) = CanStop limit (files name) fault after
CanHalt limit (name ∷ names) files fault (stopped_after (suc place) after) = CanHalt limit names files fault (stopped_after place after)
