-- The bits of a packet. Bytes are numbered from 0. The bits of a byte are numbered from its highest bit, which is bit 0
-- and is sent first.
use Rattle.std.specs.Prelude.{ℕ, ◌+◌, ◌-◌, ◌*◌, ◌/◌, ◌%◌, ◌^◌, ◌<◌, ◌==◌, Bool, true, false, List, [], ◌∷◌, slice_index, if◌then◌else◌}
use Rattle.byteorder.specs.Endian.{big_from}

-- The number in `width` bits from bit `first` of byte `at` on, highest bit first. The bytes that contain these bits are
-- read as one big-endian number, and the bits are cut out of that number.
unfoldable pub bits : ℕ → ℕ → ℕ → List ℕ → ℕ
bits at first width bytes =
    let size = (first + width + 7) / 8 in
    big_from at size bytes / 2 ^ (8 * size - (first + width)) % 2 ^ width

-- bit `bit` of byte `at` is 1
abbrev pub is_set : ℕ → ℕ → List ℕ → Bool
is_set at bit bytes = bits at bit 1 bytes == 1

-- a bit as a number: 1 if the bit is set, otherwise 0
abbrev pub flag : Bool → ℕ
flag true = 1
flag false = 0

-- a range of `width` bits from bit `first` of byte `at` on
pub record Range : Type 0 where
  pub at : ℕ
  pub first : ℕ
  pub width : ℕ

-- the range of `width` bits from bit `first` of byte `at` on
abbrev pub range : ℕ → ℕ → ℕ → Range
range at first width = record { at = at; first = first; width = width }

-- some bit of these ranges is set in the bytes
abbrev pub any_set : List Range → List ℕ → Bool
any_set [] bytes = false
any_set (r ∷ ranges) bytes = if bits r.at r.first r.width bytes == 0 then any_set ranges bytes else true

-- every number of the list is a byte, below 256
abbrev pub AreBytes : List ℕ → Type 0
AreBytes bytes = (i : ℕ) → slice_index bytes i < 256
