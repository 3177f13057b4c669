-- The layout of a capture: the fields of its file header and of a record, their offsets, and which values are refused
-- (draft-ietf-opsawg-pcap, "PCAP Capture File Format", sections 4 and 5).
use Rattle.std.specs.Prelude.{ℕ, ◌+◌, ◌*◌, ◌%◌, ◌^◌, ℤ, pos, ◌≤ℤ◌, Bool, true, false, cond, not, nat_lt, nat_eq, if◌then◌else◌, List, [], ◌∷◌, length, drop, Option, Some, None, is_none}
use Rattle.std.specs.Option.{option_or}
use Rattle.byteorder.specs.Endian.{big_number, little_number, big_bytes, little_bytes}
use Rattle.avtp_base.specs.declared.field.Field.{Field}
use Rattle.avtp_base.specs.declared.field.Field.TheVariants.{Magic, VersionMajor, VersionMinor, Thiszone, Sigfigs, Snaplen, Network, TsSec, TsFraction, InclLen, OrigLen, PacketBytes}
use Rattle.avtp_base.specs.declared.refusal.Refusal.{Refusal}
use Rattle.pcap_frames.specs.declared.style.Order.{Order}
use Rattle.pcap_frames.specs.declared.style.Order.TheVariants.{Little, Big}
use Rattle.pcap_frames.specs.declared.style.Unit as units
use Rattle.pcap_frames.specs.declared.style.Unit.TheVariants.{Micro, Nano}
use Rattle.pcap_frames.specs.declared.style.Style.{Style}

-- the number in the `size` bytes at this offset, in this byte order
unfoldable pub number_at : Order → ℕ → ℕ → List ℕ → ℕ
number_at Little offset size bytes = little_number size (drop offset bytes)
number_at Big offset size bytes = big_number size (drop offset bytes)

-- the lowest `size` bytes of a number, in this byte order
unfoldable pub number_bytes : Order → ℕ → ℕ → List ℕ
number_bytes Little size n = little_bytes size n
number_bytes Big size n = big_bytes size n

-- the magic number of a capture with this unit, in the byte order of the capture
abbrev pub magic_of : units.Unit → ℕ
magic_of Micro = 0xA1B2C3D4
magic_of Nano = 0xA1B23C4D

-- the style of a magic number that was read as little-endian; `None` if the number is not one of the four magic numbers
abbrev pub style_of_magic : ℕ → Option Style
style_of_magic n =
    if nat_eq n 0xA1B2C3D4 then Some (record { order = Little; unit = Micro })
    else if nat_eq n 0xA1B23C4D then Some (record { order = Little; unit = Nano })
    else if nat_eq n 0xD4C3B2A1 then Some (record { order = Big; unit = Micro })
    else if nat_eq n 0x4D3CB2A1 then Some (record { order = Big; unit = Nano })
    else None

-- the style of the magic number at the front of the bytes, if it is one of the four magic numbers
unfoldable pub style_at : List ℕ → Option Style
style_at bytes = style_of_magic (number_at Little 0 4 bytes)

-- the byte order of a style; if there is no style, little-endian
abbrev pub order_of : Option Style → Order
order_of None = Little
order_of (Some style) = style.order

-- A field of a header: its offset, its size in bytes, and which numbers are refused.
pub record Row : Type 0 where
  pub field : Field
  pub offset : ℕ
  pub size : ℕ
  pub refuses : ℕ → Bool

-- the row of a field with this offset, this size and these refused numbers
abbrev pub row : Field → ℕ → ℕ → (ℕ → Bool) → Row
row field offset size refuses = record { field = field; offset = offset; size = size; refuses = refuses }

-- no number is refused
abbrev pub never : ℕ → Bool
never n = false

-- The magic number, which is read as little-endian and gives the byte order of all other fields.
abbrev pub magic_number : List Row
magic_number = row Magic 0 4 (λ n. is_none (style_of_magic n)) ∷ []

-- the fields of the 24-byte file header after its magic number
abbrev pub file_header : List Row
file_header =
    row VersionMajor 4 2 (λ n. not (nat_eq n 2))
    ∷ row VersionMinor 6 2 never
    ∷ row Thiszone 8 4 never
    ∷ row Sigfigs 12 4 never
    ∷ row Snaplen 16 4 never
    ∷ row Network 20 4 (λ n. not (nat_eq (n % 65536) 1))
    ∷ []

-- the fields of the 16-byte header of a record
abbrev pub record_header : List Row
record_header =
    row TsSec 0 4 never
    ∷ row TsFraction 4 4 never
    ∷ row InclLen 8 4 (λ n. nat_lt 262144 n)
    ∷ row OrigLen 12 4 never
    ∷ []

-- the n bytes of a record after its header
abbrev pub packet_bytes : ℕ → List Row
packet_bytes n = row PacketBytes 16 n never ∷ []

-- The refusal according to a table: at the first field that is cut off or whose number is refused. The bytes begin at
-- offset `start` of the capture.
abbrev pub first_refused : Order → ℕ → List Row → List ℕ → Option Refusal
first_refused order start [] bytes = None
first_refused order start (r ∷ rows) bytes =
    if nat_lt (length bytes) (r.offset + r.size) then Some (record { field = r.field; at = start + r.offset; short = true })
    else if r.refuses (number_at order r.offset r.size bytes) then Some (record { field = r.field; at = start + r.offset; short = false })
    else first_refused order start rows bytes

-- The refusal of a file header: at the first field that is cut off or whose number is refused.
unfoldable pub file_refusal : List ℕ → Option Refusal
file_refusal bytes =
    option_or (first_refused Little 0 magic_number bytes) (first_refused (order_of (style_at bytes)) 0 file_header bytes)

-- The refusal of a record. The record is refused at the first field that is cut off or has a refused number. The record
-- begins at offset `start` of the capture.
unfoldable pub record_refusal : Order → ℕ → List ℕ → Option Refusal
record_refusal order start bytes =
    option_or (first_refused order start record_header bytes) (first_refused order start (packet_bytes (number_at order 8 4 bytes)) bytes)

-- the refusal, if its field is complete, so that no later bytes can change the refusal
abbrev pub certain : Option Refusal → Option Refusal
certain None = None
certain (Some refusal) = cond refusal.short None (Some refusal)

-- the number of nanoseconds in one unit of the fraction
abbrev pub scale : units.Unit → ℕ
scale Micro = 1000
scale Nano = 1

-- the instant of a record in nanoseconds; a fraction of one second or more is added unchanged
abbrev pub instant : units.Unit → ℕ → ℕ → ℕ
instant unit seconds fraction = seconds * 1000000000 + fraction * scale unit

-- the times that a record can have, in nanoseconds
abbrev pub IsRecordTime : ℤ → Type 0
IsRecordTime t = (pos 0 ≤ℤ t) × (t ≤ℤ pos (2 ^ 62))
