-- Further bytes do not change what is known of an option or a trailer.
use Rattle.std.proofs.Common.{◌≡◌, ℕ, ◌⊎◌, ◌&&◌, not, ◌+◌, ◌-◌, ◌≤◌, ◌<◌, Bool, true, false, nat_lt, nat_eq, if◌then◌else◌, List, [], ◌∷◌, ◌++◌, length, slice_index, Option, Some, None, IfSome, refl, ap, sym, ◌∙◌, arith, inl, inr, length-append}
use Rattle.std.proofs.lemmas.Bool.{cases_lt}
use Rattle.std.proofs.lemmas.Bool.Decides.{nat_tests}
use Rattle.std.proofs.lemmas.List.{get_or_append_left}
use Rattle.std.specs.Int.{cast_signed, w64}
use Rattle.avtp_base.specs.declared.refusal.Refusal.{Refusal}
use Rattle.avtp_base.specs.declared.field.Field.TheVariants.{BlockBody, BlockTrailer, OptionLength, IfTsresol, IfTsoffset}
use Rattle.pcap_frames.specs.declared.style.Order.{Order}
use Rattle.pcap_frames.specs.Layout.{number_at}
use Rattle.pcap_frames.specs.Capture.{Record}
use Rattle.pcap_frames.proofs.Append.{number_stays}
use Rattle.pcapng_blocks.specs.declared.block.Stage.{Stage}
use Rattle.pcapng_blocks.specs.declared.block.Stage.TheVariants as stage
use Rattle.pcapng_blocks.specs.declared.interface.Interface.{Interface}
use Rattle.pcapng_blocks.specs.Fields.{first_refused, padded, option_code, option_length, option_rows, Row, row, refusal_at, with_option}
use Rattle.pcapng_blocks.specs.Interface.{is_resolution}
use Rattle.avtp_base.specs.declared.field.Field.{Field}
use Rattle.pcapng_blocks.specs.Blocks.{Place, order_or_little, described, size_of_option, size_here, next_place, next_by, refusal_here, option_refused, trailer_refused, packet_by, cut_short, ends, short_at, after_trailer}
use Rattle.pcapng_blocks.specs.Section.{IsResolved}
use Rattle.pcapng_blocks.specs.state.Needs.{option_need, value_need}
use Rattle.pcapng_blocks.proofs.Choices.{by_place, long_enough}

byte_stays : (n : ℕ) (bytes more : List ℕ) → n < length bytes → slice_index (bytes ++ more) n ≡ slice_index bytes n
byte_stays n bytes more h = get_or_append_left bytes more _ n h

code_stays : (order : Order) (bytes more : List ℕ) → 4 ≤ length bytes → option_code order (bytes ++ more) ≡ option_code order bytes
code_stays order bytes more h = number_stays order 0 2 bytes more (omega arith)

length_stays : (order : Order) (bytes more : List ℕ) → 4 ≤ length bytes → option_length order (bytes ++ more) ≡ option_length order bytes
length_stays order bytes more h = number_stays order 2 2 bytes more (omega arith)

header_row : (field : Field) (b : Bool) (start len more : ℕ) (rows others : List Row) (x : Option Refusal) → 4 ≤ len → len ≤ more → first_refused start len (row field 0 4 b ∷ rows) ≡ x → (first_refused start len rows ≡ x → first_refused start more others ≡ x)
    → first_refused start more (row field 0 4 b ∷ others) ≡ x
header_row field b start len more rows others x long less e h =
    long_enough more 4 _ _ (omega arith) ∙ by_place b (refusal_at field (start + 0)) (first_refused start len rows) (first_refused start more others) x (sym (long_enough len 4 _ _ long) ∙ e) h

value_row : (field : Field) (b c : Bool) (start len more : ℕ) (x : Option Refusal) → len ≤ more → (5 ≤ len → b ≡ c) → (x ≡ None → (5 ≤ len) ⊎ (c ≡ false)) → first_refused start len (row field 0 5 b ∷ []) ≡ x → first_refused start more (row field 0 5 c ∷ []) ≡ x
value_row field b true start len more x less same h e = grind (arith, nat_tests)
value_row field b false start len more x less same h e = grind (arith, nat_tests)

value_whole : (code len : ℕ) (c : Bool) → value_need code ≤ len → (5 ≤ len) ⊎ ((nat_eq code 9 && c) ≡ false)
value_whole code len c h = elim (cases_lt len 5) [
  | inl short ↦ inr (grind (arith, nat_tests))
  | inr long ↦ inl long
]

rows_by : (b : Bool) (start len more : ℕ) (rows others : List Row) (x : Option Refusal) → first_refused start len (if b then [] else rows) ≡ x → (first_refused start len rows ≡ x → first_refused start more others ≡ x) → first_refused start more (if b then [] else others) ≡ x
rows_by true start len more rows others x e h = e
rows_by false start len more rows others x e h = h e

abbrev value_rows : ℕ → List ℕ → List Row
value_rows code bytes = row IfTsresol 0 5 (nat_eq code 9 && not (is_resolution (slice_index bytes 4))) ∷ []

abbrev offset_rows : ℕ → ℕ → List ℕ → List Row
offset_rows code len bytes = row IfTsoffset 0 4 (nat_eq code 14 && not (nat_eq len 8)) ∷ value_rows code bytes

abbrev resolution_rows : ℕ → ℕ → List ℕ → List Row
resolution_rows code len bytes = row IfTsresol 0 4 (nat_eq code 9 && not (nat_eq len 1)) ∷ offset_rows code len bytes

abbrev length_rows : ℕ → ℕ → ℕ → List ℕ → List Row
length_rows code len left bytes = row OptionLength 0 4 (nat_lt left (4 + padded len)) ∷ resolution_rows code len bytes

rows_stay : (code len left start : ℕ) (bytes more : List ℕ) (x : Option Refusal) → 4 ≤ length bytes → first_refused start (length bytes) (option_rows code len left bytes) ≡ x → (x ≡ None → value_need code ≤ length bytes)
    → first_refused start (length (bytes ++ more)) (option_rows code len left (bytes ++ more)) ≡ x
rows_stay code len left start bytes more x long e h =
    let less : length bytes ≤ length (bytes ++ more) = omega (arith, length-append bytes more) in
    rows_by (nat_eq code 0) start (length bytes) (length (bytes ++ more)) (length_rows code len left bytes) (length_rows code len left (bytes ++ more)) x e
    (λ e1. header_row OptionLength (nat_lt left (4 + padded len)) start (length bytes) (length (bytes ++ more)) (resolution_rows code len bytes) (resolution_rows code len (bytes ++ more)) x long less e1
    (λ e2. header_row IfTsresol (nat_eq code 9 && not (nat_eq len 1)) start (length bytes) (length (bytes ++ more)) (offset_rows code len bytes) (offset_rows code len (bytes ++ more)) x long less e2
    (λ e3. header_row IfTsoffset (nat_eq code 14 && not (nat_eq len 8)) start (length bytes) (length (bytes ++ more)) (value_rows code bytes) (value_rows code (bytes ++ more)) x long less e3
    (λ e4. value_row IfTsresol (nat_eq code 9 && not (is_resolution (slice_index bytes 4))) (nat_eq code 9 && not (is_resolution (slice_index (bytes ++ more) 4))) start (length bytes) (length (bytes ++ more)) x less
    (λ stands. ap (λ (n : ℕ). nat_eq code 9 && not (is_resolution n)) (sym (byte_stays 4 bytes more (omega (arith, stands)))))
    (λ none. value_whole code (length bytes) (not (is_resolution (slice_index (bytes ++ more) 4))) (h none)) e4))))

rows_none : (code len left start : ℕ) (bytes : List ℕ) → length bytes < 4 → first_refused start (length bytes) (option_rows code len left bytes) ≡ None
rows_none code len left start bytes h = grind (arith, nat_tests)

need_four : (code : ℕ) → 4 ≤ value_need code
need_four code = grind (arith, nat_tests)

pub need_of_four : (order : Order) (bytes : List ℕ) → 4 ≤ option_need order bytes
unfolding option_need
need_of_four order bytes = grind (arith, nat_tests, need_four (option_code order bytes))

pub need_whole : (order : Order) (bytes : List ℕ) → 4 ≤ length bytes → option_need order bytes ≡ value_need (option_code order bytes)
unfolding option_need
need_whole order bytes h = grind (arith, nat_tests)

-- If an option is refused, further bytes do not change the refusal. If all bytes that are read of an option are present
-- and nothing is refused, further bytes cause no refusal in the option.
pub option_stays : (order : Order) (left start : ℕ) (bytes more : List ℕ) (x : Option Refusal) → first_refused start (length bytes) (option_rows (option_code order bytes) (option_length order bytes) left bytes) ≡ x
    → (x ≡ None → option_need order bytes ≤ length bytes)
    → first_refused start (length (bytes ++ more)) (option_rows (option_code order (bytes ++ more)) (option_length order (bytes ++ more)) left (bytes ++ more)) ≡ x
option_stays order left start bytes more x e h = elim (cases_lt (length bytes) 4) [
  | inl short ↦ absurd (omega (arith, need_of_four order bytes, h (sym e ∙ rows_none _ _ left start bytes short)))
  | inr long ↦ rw (code_stays order bytes more long, length_stays order bytes more long)
      (rows_stay (option_code order bytes) (option_length order bytes) left start bytes more x long e (λ none. omega (arith, h none, need_whole order bytes long)))
]

pub size_of_stays : (order : Order) (left : ℕ) (bytes more : List ℕ) → 4 ≤ length bytes → size_of_option order left (bytes ++ more) ≡ size_of_option order left bytes
size_of_stays order left bytes more h = rw (code_stays order bytes more h, length_stays order bytes more h) refl

with_by : (b c : Bool) (order : Order) (interface : Interface) (bytes more : List ℕ) → 4 ≤ length bytes → (if b then 8 else if c then 12 else 4) ≤ length bytes
    → (if b then record interface { resolution = slice_index (bytes ++ more) 4 } else if c then record interface { offset = cast_signed w64 (number_at order 4 8 (bytes ++ more)) } else interface)
    ≡ (if b then record interface { resolution = slice_index bytes 4 } else if c then record interface { offset = cast_signed w64 (number_at order 4 8 bytes) } else interface)
with_by true c order interface bytes more h need = rw (byte_stays 4 bytes more (omega arith)) refl
with_by false true order interface bytes more h need = rw (number_stays order 4 8 bytes more (omega arith)) refl
with_by false false order interface bytes more h need = refl

described_stays : (order : Order) (interface : Option Interface) (bytes more : List ℕ) → 4 ≤ length bytes → value_need (option_code order bytes) ≤ length bytes
    → described order (option_code order (bytes ++ more)) interface (bytes ++ more) ≡ described order (option_code order bytes) interface bytes
described_stays order None bytes more h need = refl
described_stays order (Some interface) bytes more h need =
    rw (code_stays order bytes more h)
    (ap Some (with_by (nat_eq (option_code order bytes) 9) (nat_eq (option_code order bytes) 14) order interface bytes more h need))

pub at_option : (p : Place) (bytes : List ℕ) → p.stage ≡ stage.Option
    → refusal_here p bytes ≡ first_refused (p.start + (p.total - 4 - p.left)) (length bytes) (option_rows (option_code (order_or_little p.order) bytes) (option_length (order_or_little p.order) bytes) p.left bytes)
unfolding refusal_here option_refused
at_option p bytes is = rw is refl

pub at_option_place : (p : Place) (bytes : List ℕ) → p.stage ≡ stage.Option → refusal_here p bytes ≡ option_refused (order_or_little p.order) (p.start + (p.total - 4 - p.left)) p.left bytes
unfolding refusal_here
at_option_place p bytes is = rw is refl

pub size_at_option : (p : Place) (bytes : List ℕ) → p.stage ≡ stage.Option → size_here p bytes ≡ size_of_option (order_or_little p.order) p.left bytes
unfolding size_here
size_at_option p bytes is = rw is refl

pub next_at_option : (p : Place) (bytes : List ℕ) → p.stage ≡ stage.Option → next_place p bytes ≡ next_by stage.Option p bytes
unfolding next_place
next_at_option p bytes is = rw is refl

pub none_in_option : (s : Stage) (packet : Option Record) → s ≡ stage.Option → packet_by s packet ≡ None
none_in_option s packet is = rw is refl

pub cut_option : (p : Place) (bytes : List ℕ) → p.stage ≡ stage.Option → cut_short p bytes ≡ ends (Some (short_at BlockBody (p.start + 8)))
cut_option p bytes is = rw is refl

pub next_stays : (p : Place) (bytes more : List ℕ) → 4 ≤ length bytes → value_need (option_code (order_or_little p.order) bytes) ≤ length bytes → next_by stage.Option p (bytes ++ more) ≡ next_by stage.Option p bytes
next_stays p bytes more h need =
    rw (described_stays (order_or_little p.order) p.interface bytes more h need, size_of_stays (order_or_little p.order) p.left bytes more h) refl

pub trailer_stays : (order : Order) (total start : ℕ) (bytes more : List ℕ) (x : Option Refusal) → first_refused start (length bytes) (row BlockTrailer 0 4 (not (nat_eq (number_at order 0 4 bytes) total)) ∷ []) ≡ x → (x ≡ None → 4 ≤ length bytes)
    → first_refused start (length (bytes ++ more)) (row BlockTrailer 0 4 (not (nat_eq (number_at order 0 4 (bytes ++ more)) total)) ∷ []) ≡ x
trailer_stays order total start bytes more x e h = grind (arith, nat_tests, number_stays order 0 4 bytes more, length-append bytes more)

pub at_trailer : (p : Place) (bytes : List ℕ) → p.stage ≡ stage.Trailer
    → refusal_here p bytes ≡ first_refused (p.start + (p.total - 4)) (length bytes) (row BlockTrailer 0 4 (not (nat_eq (number_at (order_or_little p.order) 0 4 bytes) p.total)) ∷ [])
unfolding refusal_here trailer_refused
at_trailer p bytes is = rw is refl

pub at_trailer_place : (p : Place) (bytes : List ℕ) → p.stage ≡ stage.Trailer → refusal_here p bytes ≡ trailer_refused (order_or_little p.order) (p.start + (p.total - 4)) p.total bytes
unfolding refusal_here
at_trailer_place p bytes is = rw is refl

pub size_at_trailer : (p : Place) (bytes : List ℕ) → p.stage ≡ stage.Trailer → size_here p bytes ≡ 4
unfolding size_here
size_at_trailer p bytes is = rw is refl

pub next_at_trailer : (p : Place) (bytes : List ℕ) → p.stage ≡ stage.Trailer → next_place p bytes ≡ after_trailer p
unfolding next_place
next_at_trailer p bytes is = rw is refl

pub packet_at_trailer : (s : Stage) (packet : Option Record) → s ≡ stage.Trailer → packet_by s packet ≡ packet
packet_at_trailer s packet is = rw is refl

fits_by : (code len start left n : ℕ) (bytes : List ℕ) → 4 ≤ n → 4 ≤ left → n ≡ value_need code → first_refused start n (option_rows code len left bytes) ≡ None → n ≤ (if nat_eq code 0 then 4 + (left - 4) else 4 + padded len)
fits_by code len start left n bytes long some whole h = grind (arith, nat_tests)

resolved_nine : (code len start left n : ℕ) (bytes : List ℕ) → nat_eq code 9 ≡ true → 4 ≤ n → n ≡ value_need code → first_refused start n (option_rows code len left bytes) ≡ None → is_resolution (slice_index bytes 4) ≡ true
resolved_nine code len start left n bytes nine long whole h = grind (arith, nat_tests)

with_resolved : (b c : Bool) (order : Order) (interface : Interface) (bytes : List ℕ) → is_resolution interface.resolution ≡ true → (b ≡ true → is_resolution (slice_index bytes 4) ≡ true)
    → is_resolution (if b then record interface { resolution = slice_index bytes 4 } else if c then record interface { offset = cast_signed w64 (number_at order 4 8 bytes) } else interface).resolution ≡ true
with_resolved true c order interface bytes is h = h refl
with_resolved false true order interface bytes is h = is
with_resolved false false order interface bytes is h = is

resolved_by : (code len start left n : ℕ) (order : Order) (interface : Interface) (bytes : List ℕ) → 4 ≤ n → n ≡ value_need code → first_refused start n (option_rows code len left bytes) ≡ None → is_resolution interface.resolution ≡ true → is_resolution (with_option order code interface bytes).resolution ≡ true
resolved_by code len start left n order interface bytes long whole h is = with_resolved (nat_eq code 9) (nat_eq code 14) order interface bytes is (λ nine. resolved_nine code len start left n bytes nine long whole h)

-- the bytes that must be read of an accepted option are within the option
pub option_fits : (order : Order) (start left : ℕ) (bytes : List ℕ) → 4 ≤ length bytes → 4 ≤ left → length bytes ≡ option_need order bytes → option_refused order start left bytes ≡ None
    → length bytes ≤ size_of_option order left bytes
unfolding option_refused
option_fits order start left bytes long some whole h = fits_by (option_code order bytes) (option_length order bytes) start left (length bytes) bytes long some (whole ∙ need_whole order bytes long) h

pub option_small : (order : Order) (bytes : List ℕ) → length bytes ≡ option_need order bytes → length bytes ≤ 12
unfolding option_need
option_small order bytes h = grind (arith, nat_tests)

-- after an accepted option, the resolution of the interface is accepted
pub option_resolved : (order : Order) (start left : ℕ) (interface : Option Interface) (bytes : List ℕ) → 4 ≤ length bytes → length bytes ≡ option_need order bytes → option_refused order start left bytes ≡ None
    → IsResolved interface → IsResolved (described order (option_code order bytes) interface bytes)
unfolding option_refused
option_resolved order start left None bytes long whole h is = tt
option_resolved order start left (Some interface) bytes long whole h is = resolved_by (option_code order bytes) (option_length order bytes) start left (length bytes) order interface bytes long (whole ∙ need_whole order bytes long) h is

pub described_room : (order : Order) (code n : ℕ) (interface : Option Interface) (bytes : List ℕ) → IfSome interface (λ i. n < 256) → IfSome (described order code interface bytes) (λ i. n < 256)
described_room order code n None bytes h = tt
described_room order code n (Some interface) bytes h = omega arith

need_by_code : (code len start left n : ℕ) (bytes : List ℕ) → 4 ≤ n → 4 ≤ left → first_refused start n (option_rows code len left bytes) ≡ None → value_need code ≤ (if nat_eq code 0 then 4 + (left - 4) else 4 + padded len)
need_by_code code len start left n bytes long some h = grind (arith, nat_tests)

size_four : (order : Order) (left : ℕ) (bytes : List ℕ) → 4 ≤ size_of_option order left bytes
size_four order left bytes = grind (arith, nat_tests)

pub option_lacks : (order : Order) (at left : ℕ) (bytes : List ℕ) → 4 ≤ left → option_refused order at left bytes ≡ None → length bytes < option_need order bytes → length bytes < size_of_option order left bytes
unfolding option_refused
option_lacks order at left bytes some h partial = elim (cases_lt (length bytes) 4) [
  | inl short ↦ omega (arith, size_four order left bytes)
  | inr long ↦ omega (arith, need_whole order bytes long, need_by_code (option_code order bytes) (option_length order bytes) at left (length bytes) bytes long some h)
]
