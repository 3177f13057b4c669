-- NAL units in a byte stream (ITU-T H.264, annex B). A range of bytes is a pair: the index of its first byte, and the
-- index after its last byte.
use Rattle.std.specs.Prelude.{◌≡◌, ◌≢◌, ◌↔◌, ℕ, ◌+◌, ◌-◌, ◌<◌, ◌≤◌, ◌==◌, Bool, not, ◌||◌, ◌⊎◌, List, [], ◌∷◌, length, slice_index, filter, find, Contains, AllPairs, Option, None, unwrap_or}
use Rattle.std.specs.List.{range_with_len, filter_map, last_or}
use Rattle.std.specs.Option.{option_map}
use Rattle.memchr.specs.Find.{OccursAt, occurs_at}

-- the start code of a NAL unit, 00 00 01 (ITU-T H.264, annex B)
abbrev pub start_code : List ℕ
start_code = 0 ∷ 0 ∷ 1 ∷ []

-- three zero bytes; a NAL unit ends before them (ITU-T H.264, annex B)
abbrev pub three_zeros : List ℕ
three_zeros = 0 ∷ 0 ∷ 0 ∷ []

-- a NAL unit can end at this index: before a start code, before three zero bytes, or at the end of the bytes
abbrev pub IsEnd : List ℕ → ℕ → Type 0
IsEnd bytes at = OccursAt bytes start_code at ⊎ OccursAt bytes three_zeros at ⊎ (at ≡ length bytes)

-- The bytes from `from` to before `to` are a NAL unit. The unit begins after a start code. `end` is the first later
-- index where a unit can end. The unit has at least one byte, and excludes the zero bytes just before `end`.
pub record IsUnit (bytes : List ℕ) (from to end : ℕ) : Type 0 where
  pub behind : 3 ≤ from
  pub code : OccursAt bytes start_code (from - 3)
  pub ends : IsEnd bytes end
  pub first_end : (k : ℕ) → from ≤ k → k < end → ¬ IsEnd bytes k
  pub some : from < to
  pub within : to ≤ end
  pub last : slice_index bytes (to - 1) ≢ 0
  pub zeros : (k : ℕ) → to ≤ k → k < end → slice_index bytes k ≡ 0

-- the ranges are all NAL units of the bytes, in order
pub record AreUnits (bytes : List ℕ) (ranges : List (ℕ × ℕ)) : Type 0 where
  pub units : (from to : ℕ) → Contains ranges (from, to) ↔ ((end : ℕ) × IsUnit bytes from to end)
  pub in_order : AllPairs (λ (a : ℕ × ℕ) (b : ℕ × ℕ). a.1 ≤ b.0) ranges

-- ---- the units as a function

-- the indexes from `low` to below `high` that pass a test, in order
abbrev pub places : (ℕ → Bool) → ℕ → ℕ → List ℕ
places test low high = filter test (range_with_len low (high - low))

-- a start code begins at this index of the bytes
abbrev pub is_start_code : List ℕ → ℕ → Bool
is_start_code bytes at = occurs_at bytes start_code at

-- a start code or three zero bytes begin at this index of the bytes
abbrev pub is_end : List ℕ → ℕ → Bool
is_end bytes at = occurs_at bytes start_code at || occurs_at bytes three_zeros at

-- the first index, from `from` on, where a NAL unit can end; this is `end` in `IsUnit`, so any zero bytes just before
-- this index are not part of the unit
abbrev pub end_behind : List ℕ → ℕ → ℕ
end_behind bytes from = unwrap_or (find (is_end bytes) (range_with_len from (length bytes - from))) (length bytes)

-- the byte at this index is not 0
abbrev pub is_other_byte : List ℕ → ℕ → Bool
is_other_byte bytes at = not (slice_index bytes at == 0)

-- The NAL unit after the start code at this index. The unit's last byte is the last nonzero byte after the start code
-- and before the index `end_behind`. If all bytes between the start code and `end_behind` are 0, or if there are none,
-- there is no unit.
abbrev pub unit_behind : List ℕ → ℕ → Option (ℕ × ℕ)
unit_behind bytes code =
    option_map (λ last. (code + 3, last + 1))
    (last_or None (places (is_other_byte bytes) (code + 3) (end_behind bytes (code + 3))))

-- the NAL units whose start codes begin at index `at` or later, in order
unfoldable pub units_from : List ℕ → ℕ → List (ℕ × ℕ)
units_from bytes at = filter_map (unit_behind bytes) (places (is_start_code bytes) at (length bytes))

-- all NAL units of the bytes, in order
abbrev pub nal_units : List ℕ → List (ℕ × ℕ)
nal_units bytes = units_from bytes 0
