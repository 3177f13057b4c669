-- What does not change when bytes are appended.
use Rattle.std.proofs.Common.{◌≡◌, ℕ, ◌+◌, ◌≤◌, Bool, false, List, [], ◌∷◌, ◌++◌, length, drop, Option, Some, None, refl, ap, ◌∙◌, arith, length-append, length-drop}
use Rattle.std.proofs.lemmas.Bool.Decides.{nat_tests}
use Rattle.std.proofs.lemmas.List.{drop-append-le}
use Rattle.std.specs.Option.{option_or}
use Rattle.byteorder.specs.Numbers.{big_from-append, little_from-append}
use Rattle.avtp_base.specs.declared.refusal.Refusal.{Refusal}
use Rattle.pcap_frames.specs.declared.style.Order.{Order}
use Rattle.pcap_frames.specs.declared.style.Order.TheVariants.{Little, Big}
use Rattle.pcap_frames.specs.Layout.{number_at, style_at, style_of_magic, order_of, Row, magic_number, file_header, record_header, packet_bytes, first_refused, file_refusal, record_refusal}

-- appending bytes does not change a number whose bytes are complete
pub number_stays : (order : Order) (offset size : ℕ) (bytes more : List ℕ) → offset + size ≤ length bytes → number_at order offset size (bytes ++ more) ≡ number_at order offset size bytes
unfolding number_at
number_stays Little offset size bytes more h =
    let low : offset ≤ length bytes = omega arith in
    let room : size ≤ length (drop offset bytes) = rw length-drop (omega arith) in
    rw drop-append-le (little_from-append size (drop offset bytes) more room)
number_stays Big offset size bytes more h =
    let low : offset ≤ length bytes = omega arith in
    let room : size ≤ length (drop offset bytes) = rw length-drop (omega arith) in
    rw drop-append-le (big_from-append size (drop offset bytes) more room)

-- the option is a refusal that is due to missing bytes
abbrev pub is_short : Option Refusal → Bool
is_short None = false
is_short (Some refusal) = refusal.short

-- if the first refusal of a table is not due to missing bytes, appending bytes does not change the refusal
table_stays : (order : Order) (start : ℕ) (rows : List Row) (bytes more : List ℕ) (x : Option Refusal) → first_refused order start rows bytes ≡ x → is_short x ≡ false → first_refused order start rows (bytes ++ more) ≡ x
table_stays order start [] bytes more x e h = e
table_stays order start (r ∷ rows) bytes more x e h =
    grind (arith, nat_tests, number_stays order r.offset r.size bytes more, length-append bytes more, table_stays order start rows bytes more x)

or_stays : (a a' b b' x : Option Refusal) → option_or a b ≡ x → is_short x ≡ false
    → ((y : Option Refusal) → a ≡ y → is_short y ≡ false → a' ≡ y)
    → (a ≡ None → (y : Option Refusal) → b ≡ y → is_short y ≡ false → b' ≡ y)
    → option_or a' b' ≡ x
or_stays None a' b b' x e h first then = rw (first None refl refl) (then refl x e h)
or_stays (Some r) a' b b' x e h first then =
    let long : r.short ≡ false = ap is_short e ∙ h in
    rw (first (Some r) refl long) e

magic_whole : (bytes : List ℕ) → first_refused Little 0 magic_number bytes ≡ None → 4 ≤ length bytes
magic_whole bytes h = grind (arith, nat_tests)

pub header_whole : (order : Order) (start : ℕ) (bytes : List ℕ) → first_refused order start record_header bytes ≡ None → 16 ≤ length bytes
header_whole order start bytes h = grind (arith, nat_tests)

pub style_at_stays : (bytes more : List ℕ) → 4 ≤ length bytes → style_at (bytes ++ more) ≡ style_at bytes
unfolding style_at
style_at_stays bytes more h = ap style_of_magic (number_stays Little 0 4 bytes more h)

-- if the refusal of a file header is not due to missing bytes, appending bytes does not change the refusal
pub file_stays : (bytes more : List ℕ) (x : Option Refusal) → file_refusal bytes ≡ x → is_short x ≡ false → file_refusal (bytes ++ more) ≡ x
unfolding file_refusal
file_stays bytes more x e h =
    or_stays _ _ _ _ x e h
    (λ y ey hy. table_stays Little 0 magic_number bytes more y ey hy)
    (λ none y ey hy. rw (style_at_stays bytes more (magic_whole bytes none)) (table_stays (order_of (style_at bytes)) 0 file_header bytes more y ey hy))

-- if the refusal of a record is not due to missing bytes, appending bytes does not change the refusal
pub record_stays : (order : Order) (start : ℕ) (bytes more : List ℕ) (x : Option Refusal) → record_refusal order start bytes ≡ x → is_short x ≡ false → record_refusal order start (bytes ++ more) ≡ x
unfolding record_refusal
record_stays order start bytes more x e h =
    or_stays _ _ _ _ x e h
    (λ y ey hy. table_stays order start record_header bytes more y ey hy)
    (λ none y ey hy.
    let long = header_whole order start bytes none in
    let same : number_at order 8 4 (bytes ++ more) ≡ number_at order 8 4 bytes = number_stays order 8 4 bytes more (omega arith) in
    rw same (table_stays order start (packet_bytes (number_at order 8 4 bytes)) bytes more y ey hy))
