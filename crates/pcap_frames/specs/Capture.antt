-- Captures, records and refusals, as relations over whole lists of bytes.
use Rattle.std.specs.Prelude.{◌≡◌, ℕ, ℤ, pos, nat_abs, ◌+◌, ◌*◌, ◌/◌, ◌%◌, ◌^◌, ◌<◌, ◌≤◌, ◌≤ℤ◌, ◌<ℤ◌, ◌⊎◌, List, [], ◌∷◌, ◌++◌, length, take, drop, zero, suc, cond, if◌then◌else◌, is_none, Option, Some, None}
use Rattle.std.specs.List.{flat_map}
use Rattle.avtp_base.specs.declared.refusal.Refusal.{Refusal}
use Rattle.pcap_frames.specs.declared.style.Style.{Style}
use Rattle.pcap_frames.specs.Layout.{number_at, number_bytes, magic_of, scale, style_at, file_refusal, record_refusal, instant}

-- A record: its instant in nanoseconds, the length of its frame on the wire, and its captured bytes.
pub record Record : Type 0 where
  pub arrival : ℤ
  pub orig_len : ℕ
  pub bytes : List ℕ

-- The bytes are a file header in this style.
pub record IsFileHeader (style : Style) (bytes : List ℕ) : Type 0 where
  pub size : length bytes ≡ 24
  pub magic : style_at bytes ≡ Some style
  pub version_major : number_at style.order 4 2 bytes ≡ 2
  pub network : number_at style.order 20 4 bytes % 65536 ≡ 1

-- The bytes spell this record in this style.
pub record Spells (style : Style) (r : Record) (bytes : List ℕ) : Type 0 where
  pub size : length bytes ≡ 16 + length r.bytes
  pub arrival : r.arrival ≡ pos (instant style.unit (number_at style.order 0 4 bytes) (number_at style.order 4 4 bytes))
  pub incl_len : number_at style.order 8 4 bytes ≡ length r.bytes
  pub limit : length r.bytes ≤ 262144
  pub orig_len : number_at style.order 12 4 bytes ≡ r.orig_len
  pub packet_bytes : drop 16 bytes ≡ r.bytes

-- the bytes encode these records, in order, and nothing else
abbrev pub SpellsAll : Style → List Record → List ℕ → Type 0
SpellsAll style [] bytes = bytes ≡ []
SpellsAll style (r ∷ records) bytes =
    (first : List ℕ) × (rest : List ℕ) × (bytes ≡ first ++ rest) × Spells style r first × SpellsAll style records rest

-- The bytes are a capture in this style, with these records.
pub record IsCapture (style : Style) (records : List Record) (bytes : List ℕ) : Type 0 where
  pub header : List ℕ
  pub body : List ℕ
  pub whole : bytes ≡ header ++ body
  pub is_header : IsFileHeader style header
  pub spelled : SpellsAll style records body

-- The bytes are a capture of these records, followed by at least one byte. When the bytes after the capture are read as
-- a record, `refusal` is at the first field that is cut off or whose value is refused.
pub record IsRefusedInRecord (bytes : List ℕ) (records : List Record) (refusal : Refusal) : Type 0 where
  pub style : Style
  pub front : List ℕ
  pub rest : List ℕ
  pub whole : bytes ≡ front ++ rest
  pub capture : IsCapture style records front
  pub some : 0 < length rest
  pub refused : record_refusal style.order (length front) rest ≡ Some refusal

-- the refusal is at the first field that is cut off or refused, and `records` are the whole records before it
abbrev pub IsRefused : List ℕ → List Record → Refusal → Type 0
IsRefused bytes records refusal =
    ((records ≡ []) × (file_refusal bytes ≡ Some refusal)) ⊎ IsRefusedInRecord bytes records refusal

-- If there is no refusal, the bytes are a capture of these records. If there is a refusal, it is the first refusal of
-- the bytes, and `records` are the whole records before it.
abbrev pub Holds : List ℕ → List Record → Option Refusal → Type 0
Holds bytes records None = (style : Style) × IsCapture style records bytes
Holds bytes records (Some refusal) = IsRefused bytes records refusal

-- the style of a capture, if nothing in its file header is refused or cut off
abbrev pub style_of : List ℕ → Option Style
style_of bytes = cond (is_none (file_refusal bytes)) (style_at bytes) None

-- the record that the bytes spell, if they spell any
abbrev pub record_of : Style → List ℕ → Record
record_of style bytes = record {
  arrival = pos (instant style.unit (number_at style.order 0 4 bytes) (number_at style.order 4 4 bytes));
  orig_len = number_at style.order 12 4 bytes;
  bytes = drop 16 bytes;
}

-- the record at the front of the bytes has this size in bytes, header included, according to the record's header
abbrev pub record_size : Style → List ℕ → ℕ
record_size style bytes = 16 + number_at style.order 8 4 bytes

-- the first n whole records at the front of the bytes, or all of them if there are fewer than n
abbrev pub records_from : ℕ → Style → List ℕ → List Record
records_from zero style bytes = []
records_from (suc n) style bytes =
    if is_none (record_refusal style.order 0 bytes)
    then record_of style (take (record_size style bytes) bytes) ∷ records_from n style (drop (record_size style bytes) bytes)
    else []

-- The first refusal within the first n records. The bytes begin at offset `start` of the capture.
abbrev pub refusal_from : ℕ → Style → ℕ → List ℕ → Option Refusal
refusal_from zero style start bytes = None
refusal_from (suc n) style start [] = None
refusal_from (suc n) style start (b ∷ bytes) =
    if is_none (record_refusal style.order start (b ∷ bytes))
    then refusal_from n style (start + record_size style (b ∷ bytes)) (drop (record_size style (b ∷ bytes)) (b ∷ bytes))
    else record_refusal style.order start (b ∷ bytes)

-- the whole records after a file header of this style; none if there is no style
abbrev pub records_behind : Option Style → List ℕ → List Record
records_behind None bytes = []
records_behind (Some style) bytes = records_from (length bytes) style (drop 24 bytes)

-- the whole records of a capture, up to its first refusal
unfoldable pub whole_records : List ℕ → List Record
whole_records bytes = records_behind (style_of bytes) bytes

-- the first refusal after a file header of this style; if there is no style, the refusal of the file header
abbrev pub refusal_behind : Option Style → List ℕ → Option Refusal
refusal_behind None bytes = file_refusal bytes
refusal_behind (Some style) bytes = refusal_from (length bytes) style 24 (drop 24 bytes)

-- the first refusal of a capture, at a field that is cut off or whose value is refused
unfoldable pub first_refusal : List ℕ → Option Refusal
first_refusal bytes = refusal_behind (style_of bytes) bytes

-- the canonical spelling of a file header: version 2.4, zone and accuracy 0, snapshot length 262,144, and link type 1
abbrev pub header_spelling : Style → List ℕ
header_spelling style =
    number_bytes style.order 4 (magic_of style.unit)
    ++ number_bytes style.order 2 2
    ++ number_bytes style.order 2 4
    ++ number_bytes style.order 4 0
    ++ number_bytes style.order 4 0
    ++ number_bytes style.order 4 262144
    ++ number_bytes style.order 4 1

-- the canonical spelling of a record, with a fraction below one second
abbrev pub record_spelling : Style → Record → List ℕ
record_spelling style r =
    number_bytes style.order 4 (nat_abs r.arrival / 1000000000)
    ++ number_bytes style.order 4 (nat_abs r.arrival % 1000000000 / scale style.unit)
    ++ number_bytes style.order 4 (length r.bytes)
    ++ number_bytes style.order 4 r.orig_len
    ++ r.bytes

-- A record that can be written in the canonical spelling. The record's instant is from 0 to below 2^32 seconds, and is
-- a whole number of the style's units. The length on the wire fits 32 bits. There are at most 262,144 captured bytes.
pub record HasSpelling (style : Style) (r : Record) : Type 0 where
  pub begun : pos 0 ≤ℤ r.arrival
  pub ended : r.arrival <ℤ pos (2 ^ 32 * 1000000000)
  pub whole : nat_abs r.arrival % scale style.unit ≡ 0
  pub orig_len : r.orig_len < 2 ^ 32
  pub limit : length r.bytes ≤ 262144

-- the canonical spelling of a capture
abbrev pub capture_spelling : Style → List Record → List ℕ
capture_spelling style records = header_spelling style ++ flat_map (record_spelling style) records

-- An arrival that a capture of this style can record: from 0 to below 2^32 seconds, and a whole number of the style's
-- units.
pub record IsArrival (style : Style) (arrival : ℤ) : Type 0 where
  pub begun : pos 0 ≤ℤ arrival
  pub ended : arrival <ℤ pos (2 ^ 32 * 1000000000)
  pub whole : nat_abs arrival % scale style.unit ≡ 0

-- The bytes have one meaning: exactly one list of records and at most one first refusal; a capture has one style.
pub record IsOne (bytes : List ℕ) : Type 0 where
  pub some : Holds bytes (whole_records bytes) (first_refusal bytes)
  pub one_list : (records others : List Record) (x y : Option Refusal) → Holds bytes records x → Holds bytes others y → records ≡ others
  pub one_refusal : (records others : List Record) (x y : Option Refusal) → Holds bytes records x → Holds bytes others y → x ≡ y
  pub one_style : (records others : List Record) (style other : Style) → IsCapture style records bytes → IsCapture other others bytes → style ≡ other

-- The canonical spelling of these records is a capture of exactly this style and these records, without a refusal.
pub record ReadsBack (style : Style) (all : List Record) : Type 0 where
  pub capture : IsCapture style all (capture_spelling style all)
  pub records : whole_records (capture_spelling style all) ≡ all
  pub refusal : first_refusal (capture_spelling style all) ≡ None
