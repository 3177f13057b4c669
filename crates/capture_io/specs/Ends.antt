-- How the reading of a capture ends.
use Rattle.std.specs.Prelude.{◌≡◌, ℕ, ◌≤◌, nat_le, if◌then◌else◌, List, [], ◌++◌, length, take, Option, Some, None}
use Rattle.avtp_base.specs.Faults.{HasOneMore, ReadingFaults}
use Rattle.avtp_base.specs.declared.failed.FaultPlace.{FaultPlace}
use Rattle.avtp_base.specs.declared.failed.FaultPlace.TheVariants as fault_place
use Rattle.avtp_base.specs.declared.refusal.Refusal.{Refusal}
use Rattle.capture_io.specs.Formats.{refusal_in, certain_in}
use Rattle.capture_io.specs.declared.end.End.{End}
use Rattle.capture_io.specs.declared.end.End.TheVariants as end
use Rattle.capture_io.specs.declared.end.Stop.{Stop}
use Rattle.capture_io.specs.declared.end.Stop.TheVariants as stop

-- how a capture ends if its file was read to the end: at the refusal if there is one, otherwise as a whole capture
abbrev pub at_end : Option Refusal → End
at_end None = end.Whole
at_end (Some refusal) = end.Refused refusal

-- how a capture ends if its file exceeds the limit: at the refusal if there is one, otherwise at the limit
abbrev pub at_limit : Option Refusal → End
at_limit None = end.Limit
at_limit (Some refusal) = end.Refused refusal

-- How the reading of a file with these bytes ends, if at most `limit` bytes may be read and no read fails. If the file
-- is longer than `limit`, and no field that is complete before the limit is refused, the reading ends at the limit.
unfoldable pub end_of : ℕ → List ℕ → End
end_of limit bytes =
    if nat_le (length bytes) limit
    then at_end (refusal_in bytes)
    else at_limit (certain_in (take limit bytes))

-- How the reading of a file ends if at most `limit` of its bytes may be read, and which prefix of the file precedes
-- that end. The `Option` is the file's contents. `None` means that no file has the name. A missing file counts as a
-- fault of reading before the first byte. If the reading of an existing file ends at a fault, `fault` holds of the
-- fault's place, which is right after the prefix; the prefix is within the limit, and `certain_in` is `None` for the
-- prefix.
abbrev pub EndsAt : ℕ → Option (List ℕ) → (FaultPlace → Type 0) → End → List ℕ → Type 0
EndsAt limit None fault how prefix = (how ≡ end.ReadFault) × (prefix ≡ [])
EndsAt limit (Some bytes) fault end.ReadFault prefix =
    (rest : List ℕ) × (bytes ≡ prefix ++ rest) × fault (fault_place.Reading (length rest)) × (length prefix ≤ limit) × (certain_in prefix ≡ None)
EndsAt limit (Some bytes) fault how prefix = (how ≡ end_of limit bytes) × (prefix ≡ take limit bytes)

-- How a capture ends if nothing in it was refused and the reading stopped at this `Stop`. If the file ended, `lack` is
-- the first missing field, or `None` if no field is missing.
abbrev pub end_at : Stop → Option Refusal → End
end_at stop.End lack = at_end lack
end_at stop.Fault lack = end.ReadFault
end_at stop.Limit lack = end.Limit

-- ---- the count of reading faults

-- How a call changes the reading faults. The first option is the end that the reading had reached before the call, if
-- any. The second option is the end that the call returns, if any. If a fault of reading ended the reading in this call,
-- one more fault was counted; otherwise the faults are unchanged.
abbrev pub CountsFault : Option End → Option End → ReadingFaults → ReadingFaults → Type 0
CountsFault None (Some end.ReadFault) before after = HasOneMore before after
CountsFault ended result before after = after ≡ before

-- how the reading of a file changes the reading faults: if a fault stopped the reading, one more fault was counted;
-- otherwise the faults are unchanged
abbrev pub CountsStop : Option Stop → ReadingFaults → ReadingFaults → Type 0
CountsStop (Some stop.Fault) before after = HasOneMore before after
CountsStop result before after = after ≡ before
