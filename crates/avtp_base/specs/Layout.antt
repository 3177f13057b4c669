-- Headers as tables, as the standards print them. A table says, part by part, which value each bit belongs to. One
-- table serves both reading and writing.
use Rattle.std.specs.Prelude.{◌≡◌, ℕ, ◌+◌, ◌*◌, ◌/◌, ◌^◌, ◌<◌, Bool, true, false, nat_lt, if◌then◌else◌, List, [], ◌∷◌, map, Option, Some, None, ⊤}
use Rattle.std.specs.List.{flat_map}
use Rattle.byteorder.specs.Endian.{big_bytes}
use Rattle.avtp_base.specs.declared.field.Field.{Field}
use Rattle.avtp_base.specs.declared.refusal.Refusal.{Refusal}
use Rattle.avtp_base.specs.Octets.{bits, Range, range}
use Rattle.avtp_base.specs.Rows.{Row, first_row}

-- Adjacent bits of a header: their width; the value that they hold, if a view of type `V` shows it; and whether they
-- are free (reserved). In a packet that is read, free bits may have any value. A writer writes free bits as 0.
pub record Bits (V : Type 0) : Type 0 where
  pub width : ℕ
  pub shown : Option (V → ℕ)
  pub free : Bool

-- Whole bytes of a header from byte `at` on. If a packet does not contain all bytes of the part, the refusal names
-- `field`.
pub record Part (V : Type 0) : Type 0 where
  pub field : Field
  pub at : ℕ
  pub bits : List (Bits V)

-- the table of a header: its parts, in order
abbrev pub Layout : Type 0 → Type 0
Layout V = List (Part V)

-- A part of a header's table: these bits, from byte `at` on. If a packet does not contain all of these bits, the
-- refusal names this field.
abbrev pub part : {V : Type 0} → Field → ℕ → List (Bits V) → Part V
part field at bits = record { field = field; at = at; bits = bits }

-- bits of a header that hold a value of the view
abbrev pub holds : {V : Type 0} → ℕ → (V → ℕ) → Bits V
holds width value = record { width = width; shown = Some value; free = false }

-- reserved bits of a header, which a view does not show
abbrev pub reserved : {V : Type 0} → ℕ → Bits V
reserved width = record { width = width; shown = None; free = true }

-- reserved bits of a header that a view nevertheless shows
abbrev pub reserved_shown : {V : Type 0} → ℕ → (V → ℕ) → Bits V
reserved_shown width value = record { width = width; shown = Some value; free = true }

-- ---- what a table says of bytes

-- the number is the value that the view shows for these bits; if the view shows none, the number can be any
abbrev pub Shows : {V : Type 0} → Option (V → ℕ) → V → ℕ → Type 0
Shows None v n = ⊤
Shows (Some value) v n = n ≡ value v

-- these bits hold what the view shows for them; the first of these bits is bit `first` of byte `at`
abbrev pub SpellsBits : {V : Type 0} → ℕ → ℕ → List (Bits V) → V → List ℕ → Type 0
SpellsBits at first [] v bytes = ⊤
SpellsBits at first (b ∷ bs) v bytes =
    Shows b.shown v (bits at first b.width bytes) × SpellsBits at (first + b.width) bs v bytes

-- the table assigns bits to each value that the view shows, and the value is in these bits
abbrev pub Spells : {V : Type 0} → Layout V → V → List ℕ → Type 0
Spells [] v bytes = ⊤
Spells (p ∷ parts) v bytes = SpellsBits p.at 0 p.bits v bytes × Spells parts v bytes

-- the ranges of the reserved bits in a list of bits that begins at bit `first` of byte `at`
abbrev pub free_ranges : {V : Type 0} → ℕ → ℕ → List (Bits V) → List Range
free_ranges at first [] = []
free_ranges at first (b ∷ bs) =
    if b.free then range at first b.width ∷ free_ranges at (first + b.width) bs else free_ranges at (first + b.width) bs

-- the ranges of the reserved bits of a header
abbrev pub reserved_ranges : {V : Type 0} → Layout V → List Range
reserved_ranges layout = flat_map (λ p. free_ranges p.at 0 p.bits) layout

-- ---- the sizes of parts, and the refusal of a packet that is too short

-- the total width of these bits
abbrev pub total_width : {V : Type 0} → List (Bits V) → ℕ
total_width [] = 0
total_width (b ∷ bs) = b.width + total_width bs

-- the size of a part in bytes
abbrev pub size_of : {V : Type 0} → Part V → ℕ
size_of p = total_width p.bits / 8

-- the row that refuses a packet of n bytes if the packet cuts off this part of the header
abbrev pub short_row : {V : Type 0} → ℕ → Part V → Row
short_row n p =
    record { refusal = record { field = p.field; at = p.at; short = true }; holds = nat_lt n (p.at + size_of p) }

-- The refusal of a packet of n bytes, at the first part of the header that is cut off. `None` if no part is cut off.
abbrev pub first_short : {V : Type 0} → Layout V → ℕ → Option Refusal
first_short layout n = first_row (map (short_row n) layout)

-- ---- what is written

-- the value that a view shows for some bits; if it shows none, 0
abbrev pub value_of : {V : Type 0} → Option (V → ℕ) → V → ℕ
value_of None v = 0
value_of (Some value) v = value v

-- what a writer puts into these bits: 0 for reserved bits, otherwise the value that the view shows
abbrev pub written : {V : Type 0} → Bits V → V → ℕ
written b v = if b.free then 0 else value_of b.shown v

-- each value that a writer puts into these bits fits its width
abbrev pub FitsBits : {V : Type 0} → List (Bits V) → V → Type 0
FitsBits [] v = ⊤
FitsBits (b ∷ bs) v = (written b v < 2 ^ b.width) × FitsBits bs v

-- each value that a writer puts into the header fits its width
abbrev pub Fits : {V : Type 0} → Layout V → V → Type 0
Fits [] v = ⊤
Fits (p ∷ parts) v = FitsBits p.bits v × Fits parts v

-- the number made of n, followed by the values that a writer puts into these bits; n is the highest part
abbrev pub packed_behind : {V : Type 0} → ℕ → List (Bits V) → V → ℕ
packed_behind n [] v = n
packed_behind n (b ∷ bs) v = packed_behind (n * 2 ^ b.width + written b v) bs v

-- the number made of the values that a writer puts into these bits, with the first value highest
abbrev pub packed : {V : Type 0} → List (Bits V) → V → ℕ
packed [] v = 0
packed (b ∷ bs) v = packed_behind (written b v) bs v

-- the bytes of a header that spell a view, with every reserved bit 0
abbrev pub spelling : {V : Type 0} → Layout V → V → List ℕ
spelling layout v = flat_map (λ p. big_bytes (size_of p) (packed p.bits v)) layout
