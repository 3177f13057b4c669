-- The NAL units of a byte stream (ITU-T H.264, annex B).
use Rattle.std.specs.Prelude.{◌≢◌, ℕ, ◌-◌, ◌<◌, List, length, map, slice_index}
use Rattle.std.specs.List.{slice_range}
use Rattle.memchr.specs.Find.{OccursAt}
use Rattle.cvf_format.specs.AnnexB.{nal_units, start_code, three_zeros}

-- A byte stream can carry these bytes as one NAL unit. There is at least one byte, and the last byte is not zero. The
-- bytes contain no start code and no three zeros in a row.
pub record IsCarried (bytes : List ℕ) : Type 0 where
  pub some : 0 < length bytes
  pub no_start_code : (k : ℕ) → ¬ OccursAt bytes start_code k
  pub no_three_zeros : (k : ℕ) → ¬ OccursAt bytes three_zeros k
  pub last : slice_index bytes (length bytes - 1) ≢ 0

-- the NAL units of a byte stream, as their bytes
abbrev pub nal_units_of : List ℕ → List (List ℕ)
nal_units_of bytes = map (λ (range : ℕ × ℕ). slice_range bytes range.0 range.1) (nal_units bytes)
