-- The NAL units of a byte stream, and which of them are of the same access unit (ITU-T H.264, 7.4.1.2). Only the first
-- two bytes of each unit decide where access units begin; this is a choice of this project. A unit is a range of the
-- stream's bytes, as in `nal_units`; units are counted from 0.
use Rattle.std.specs.Prelude.{◌≡◌, ℕ, zero, suc, ◌+◌, ◌≤◌, ◌==◌, Bool, true, false, not, ◌&&◌, ◌||◌, nat_le, nat_lt, List, get_or}
use Rattle.avtp_base.specs.Octets.{bits, flag, is_set}
use Rattle.cvf_format.specs.Cvf.{type_of}

-- the range of unit i
abbrev pub unit_at : List (ℕ × ℕ) → ℕ → ℕ × ℕ
unit_at units i = get_or units i (0, 0)

-- the first byte of a unit
abbrev pub nal_in : List ℕ → ℕ × ℕ → ℕ
nal_in bytes unit = bits unit.0 0 8 bytes

-- the type of a unit (`nal_unit_type`), from its first byte
abbrev pub type_in : List ℕ → ℕ × ℕ → ℕ
type_in bytes unit = type_of (nal_in bytes unit)

-- the unit has a slice of a picture: its type is 1 to 5
unfoldable pub has_slice : List ℕ → ℕ × ℕ → Bool
has_slice bytes unit = nat_le 1 (type_in bytes unit) && nat_le (type_in bytes unit) 5

-- The unit's slice is the first of a picture: `first_mb_in_slice` is 0, so the top bit of the unit's second byte is
-- set. A unit of one byte is never a first slice.
abbrev pub is_first_slice : List ℕ → ℕ × ℕ → Bool
is_first_slice bytes unit = nat_lt (unit.0 + 1) unit.1 && is_set (unit.0 + 1) 0 bytes

-- a type is at least `low` and at most `high`
abbrev pub is_in : ℕ → ℕ → ℕ → Bool
is_in low high type = nat_le low type && nat_le type high

-- The unit can begin an access unit: its type is 6 to 9 or 14 to 18, or its type is 1, 2 or 5 and its slice is the
-- first of a picture. A unit that can begin an access unit does so if and only if an earlier unit of the current access
-- unit has a slice.
unfoldable pub may_begin : List ℕ → ℕ × ℕ → Bool
may_begin bytes unit =
    is_in 6 9 (type_in bytes unit) || is_in 14 18 (type_in bytes unit)
    || ((is_in 1 2 (type_in bytes unit) || type_in bytes unit == 5) && is_first_slice bytes unit)

-- before unit i, the current access unit already has a slice
abbrev pub is_sliced : List ℕ → List (ℕ × ℕ) → ℕ → Bool
is_sliced bytes units zero = false
is_sliced bytes units (suc i) = has_slice bytes (unit_at units i) || (is_sliced bytes units i && not (may_begin bytes (unit_at units i)))

-- unit i begins a new access unit
abbrev pub begins : List ℕ → List (ℕ × ℕ) → ℕ → Bool
begins bytes units i = is_sliced bytes units i && may_begin bytes (unit_at units i)

-- how many of the units before unit i begin a new access unit
abbrev pub begun_before : List ℕ → List (ℕ × ℕ) → ℕ → ℕ
begun_before bytes units zero = 0
begun_before bytes units (suc i) = begun_before bytes units i + flag (begins bytes units i)

-- the access unit of unit i, counted from 0
abbrev pub access_unit : List ℕ → List (ℕ × ℕ) → ℕ → ℕ
access_unit bytes units i = begun_before bytes units (suc i)

-- Unit i, or an earlier unit of its access unit, has a slice.
pub record HasSlice (bytes : List ℕ) (units : List (ℕ × ℕ)) (i : ℕ) : Type 0 where
  pub unit : ℕ
  pub before : unit ≤ i
  pub one : access_unit bytes units unit ≡ access_unit bytes units i
  pub slice : has_slice bytes (unit_at units unit) ≡ true
