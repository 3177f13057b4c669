-- Counts of faults. Each object outside the program counts its failed calls. A count stops at the largest 64-bit
-- number.
use Rattle.std.specs.Prelude.{◌≡◌, ℕ, ◌+◌, ◌-◌, ◌^◌, ◌≤◌, ◌<◌, min, List, length, Option, Result, OnOk, OnErr, IfSome, IsErrOf}
use Rattle.avtp_base.specs.declared.failed.Failed.{Failed}
use Rattle.avtp_base.specs.declared.failed.FaultPlace.{FaultPlace}
use Rattle.avtp_base.specs.declared.failed.FaultPlace.TheVariants as fault_place
use Rattle.avtp_base.specs.declared.failed.OpenFault.{OpenFault}
use Rattle.avtp_base.specs.declared.failed.OpenFault.TheVariants as open_fault

-- the value at which a count of faults stops: the largest 64-bit number
abbrev pub last_count : ℕ
last_count = 2 ^ 64 - 1

-- the count of faults rose, or has reached its greatest value
abbrev pub Rose : ℕ → ℕ → Type 0
Rose before after = min (before + 1) last_count ≤ after

-- the count of faults did not rise, and has not reached its greatest value
abbrev pub IsQuiet : ℕ → ℕ → Type 0
IsQuiet before after = after < min (before + 1) last_count

-- How a call with this result changes the count of faults. With `Ok` the count is unchanged. With `Err` the count rose,
-- or has reached its greatest value. The count never falls.
pub record IsCounted {T : Type 0} (before after : ℕ) (result : Result T Failed) : Type 0 where
  pub never_falls : before ≤ after
  pub ok : OnOk result (after ≡ before)
  pub failed : OnErr result (Rose before after)

-- How a call changes the count of faults, if the call opens or makes a file and has this result. If the result is `Ok`,
-- the count is unchanged. With `Failed` the count rose, or has reached its greatest value. A missing file and missing
-- memory are not counted. The count never falls.
pub record IsOpenCounted {T : Type 0} (before after : ℕ) (result : Result T OpenFault) : Type 0 where
  pub never_falls : before ≤ after
  pub ok : OnOk result (after ≡ before)
  pub missing : IsErrOf result open_fault.Missing → after ≡ before
  pub memory : IsErrOf result open_fault.Memory → after ≡ before
  pub failed : IsErrOf result open_fault.Failed → Rose before after

-- ---- reading faults, and their places

-- the reading faults of a shelf so far
pub record ReadingFaults : Type 0 where
  -- how many reading faults were counted
  pub count : ℕ
  -- where the last reading fault occurred, if the shelf shows this
  pub last : Option FaultPlace

-- exactly one more reading fault was counted, unless the count has reached its greatest value
abbrev pub HasOneMore : ReadingFaults → ReadingFaults → Type 0
HasOneMore before after = after.count ≡ min (before.count + 1) last_count

-- exactly one more reading fault was counted, and it occurred at this place
pub record FailsAt (before after : ReadingFaults) (place : FaultPlace) : Type 0 where
  pub once : HasOneMore before after
  pub told : IfSome after.last (λ last. last ≡ place)

-- How a read with this result changes the reading faults. `left` is what was still to be read, if it is shown. If the
-- result is `Ok`, the faults are unchanged. If the result is `Err`, one more fault was counted, and it occurred here.
pub record IsReadCounted {T : Type 0} (before after : ReadingFaults) (left : Option (List ℕ)) (result : Result T Failed) : Type 0 where
  pub never_falls : before.count ≤ after.count
  pub ok : OnOk result (after ≡ before)
  pub failed : OnErr result (HasOneMore before after)
  pub place : OnErr result (IfSome left (λ bytes. FailsAt before after (fault_place.Reading (length bytes))))

-- How a call that opens a file, and has this result, changes the reading faults. If the result is `Failed`, one more
-- fault was counted, and it occurred at the opening. With any other result the faults are unchanged.
pub record IsOpeningCounted {T : Type 0} (before after : ReadingFaults) (result : Result T OpenFault) : Type 0 where
  pub never_falls : before.count ≤ after.count
  pub ok : OnOk result (after ≡ before)
  pub missing : IsErrOf result open_fault.Missing → after ≡ before
  pub memory : IsErrOf result open_fault.Memory → after ≡ before
  pub failed : IsErrOf result open_fault.Failed → FailsAt before after fault_place.Opening
