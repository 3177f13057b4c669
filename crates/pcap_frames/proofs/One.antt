-- Each list of bytes is read in exactly one way.
use Rattle.std.proofs.Common.{◌≡◌, ◌⊎◌, ℕ, ◌+◌, ◌%◌, ◌<◌, ◌≤◌, List, [], ◌∷◌, ◌++◌, length, take, drop, Option, Some, None, refl, sym, ap, subst, ◌∙◌, arith, inl, inr, append_assoc, length-append, ℤ}
use Rattle.std.proofs.lemmas.Bool.Decides.{nat_tests}
use Rattle.std.proofs.lemmas.List.{append-nil, take_at, drop_at}
use Rattle.std.proofs.lemmas.Option.{same_Some}
use Rattle.avtp_base.specs.declared.refusal.Refusal.{Refusal}
use Rattle.pcap_frames.specs.declared.style.Order.{Order}
use Rattle.pcap_frames.specs.declared.style.Style.{Style}
use Rattle.pcap_frames.specs.Layout.{number_at, style_at, file_refusal, record_refusal}
use Rattle.pcap_frames.specs.Capture.{Record, IsFileHeader, Spells, SpellsAll, IsCapture, IsRefusedInRecord, Holds, record_of, record_size}
use Rattle.pcap_frames.proofs.Append.{number_stays, file_stays, record_stays}

-- a record that is whole and within the limit is not refused
pub record_fits : (order : Order) (start : ℕ) (bytes : List ℕ) → 16 + number_at order 8 4 bytes ≤ length bytes → number_at order 8 4 bytes ≤ 262144 → record_refusal order start bytes ≡ None
unfolding record_refusal
record_fits order start bytes whole limit = grind (arith, nat_tests)

file_fits : (style : Style) (bytes : List ℕ) → length bytes ≡ 24 → style_at bytes ≡ Some style → number_at style.order 4 2 bytes ≡ 2 → number_at style.order 20 4 bytes % 65536 ≡ 1 → file_refusal bytes ≡ None
unfolding file_refusal style_at
file_fits style bytes size magic version network = grind (arith, nat_tests)

same_front : (p q p' q' : List ℕ) → p ++ q ≡ p' ++ q' → length p ≡ length p' → p ≡ p'
same_front p q p' q' e l = sym (take_at p q (length p) refl) ∙ (ap (take (length p)) e ∙ take_at p' q' (length p) (sym l))

same_back : (p q p' q' : List ℕ) → p ++ q ≡ p' ++ q' → length p ≡ length p' → q ≡ q'
same_back p q p' q' e l = sym (drop_at p q (length p) refl) ∙ (ap (drop (length p)) e ∙ drop_at p' q' (length p) (sym l))

-- the bytes of a record are not refused, whatever bytes follow
pub spells_accepted : (style : Style) (r : Record) (start : ℕ) (first more : List ℕ) → Spells style r first → record_refusal style.order start (first ++ more) ≡ None
spells_accepted style r start first more s =
    record_stays style.order start first more None (record_fits style.order start first (omega (arith, s.size, s.incl_len)) (omega (arith, s.limit, s.incl_len))) refl

-- the header of a record states the size of the record
pub spells_size : (style : Style) (r : Record) (first more : List ℕ) → Spells style r first → length first ≡ record_size style (first ++ more)
spells_size style r first more s =
    let stays : number_at style.order 8 4 (first ++ more) ≡ number_at style.order 8 4 first = number_stays style.order 8 4 first more (omega (arith, s.size)) in
    omega (arith, s.size, s.incl_len)

abbrev make : ℤ → ℕ → List ℕ → Record
make arrival orig_len bytes = record { arrival = arrival; orig_len = orig_len; bytes = bytes }

-- the bytes of a record spell only that record
pub spells_one : (style : Style) (r : Record) (first : List ℕ) → Spells style r first → r ≡ record_of style first
spells_one style r first s =
    ap (λ (a : ℤ). make a r.orig_len r.bytes) s.arrival
    ∙ (ap (λ (n : ℕ). make (record_of style first).arrival n r.bytes) (sym s.orig_len)
    ∙ ap (λ (b : List ℕ). make (record_of style first).arrival (record_of style first).orig_len b) (sym s.packet_bytes))

-- What follows the whole records. If x is `None`, nothing follows. If x is a refusal, it is the first refusal of the
-- bytes that follow, read as a record.
abbrev pub Ends : Style → ℕ → List ℕ → Option Refusal → Type 0
Ends style start rest x =
    ((rest ≡ []) × (x ≡ None))
    ⊎ ((r : Refusal) × (x ≡ Some r) × (0 < length rest) × (record_refusal style.order start rest ≡ Some r))

-- the bytes after the whole records do not begin with a record
no_more : (style : Style) (r : Record) (start : ℕ) (first more rest : List ℕ) (x : Option Refusal) → Spells style r first → rest ≡ first ++ more → Ends style start rest x → ⊥
no_more style r start first more rest x s e (inl none) = omega (arith, s.size, length-append first more, ap length (sym none.0 ∙ e))
no_more style r start first more rest x s e (inr some) =
    let accepted : record_refusal style.order start rest ≡ None = ap (record_refusal style.order start) e ∙ spells_accepted style r start first more s in
    cc (some.3, accepted)

one_list : (style : Style) (records others : List Record) (b b' rest rest' : List ℕ) (start start' : ℕ) (x y : Option Refusal) → SpellsAll style records b → SpellsAll style others b' → b ++ rest ≡ b' ++ rest'
    → Ends style start rest x → Ends style start' rest' y → (records ≡ others) × (rest ≡ rest')
one_list style [] [] b b' rest rest' start start' x y s t e p q = (refl, ap (λ (z : List ℕ). z ++ rest) (sym s) ∙ (e ∙ ap (λ (z : List ℕ). z ++ rest') t))
one_list style [] (o ∷ others) b b' rest rest' start start' x y s t e p q =
    absurd (no_more style o start t.0 (t.1 ++ rest') rest x t.3 (ap (λ (z : List ℕ). z ++ rest) (sym s) ∙ (e ∙ (ap (λ (z : List ℕ). z ++ rest') t.2 ∙ append_assoc t.0 t.1 rest'))) p)
one_list style (r ∷ records) [] b b' rest rest' start start' x y s t e p q =
    absurd (no_more style r start' s.0 (s.1 ++ rest) rest' y s.3 (ap (λ (z : List ℕ). z ++ rest') (sym t) ∙ (sym e ∙ (ap (λ (z : List ℕ). z ++ rest) s.2 ∙ append_assoc s.0 s.1 rest))) q)
one_list style (r ∷ records) (o ∷ others) b b' rest rest' start start' x y s t e p q =
    let whole : s.0 ++ (s.1 ++ rest) ≡ t.0 ++ (t.1 ++ rest') =
    sym (append_assoc s.0 s.1 rest) ∙ (ap (λ (z : List ℕ). z ++ rest) (sym s.2) ∙ (e ∙ (ap (λ (z : List ℕ). z ++ rest') t.2 ∙ append_assoc t.0 t.1 rest'))) in
    let long : length s.0 ≡ length t.0 = spells_size style r s.0 (s.1 ++ rest) s.3 ∙ (ap (record_size style) whole ∙ sym (spells_size style o t.0 (t.1 ++ rest') t.3)) in
    let front : s.0 ≡ t.0 = same_front s.0 (s.1 ++ rest) t.0 (t.1 ++ rest') whole long in
    let same : r ≡ o = spells_one style r s.0 s.3 ∙ (ap (record_of style) front ∙ sym (spells_one style o t.0 t.3)) in
    let tail = one_list style records others s.1 t.1 rest rest' start start' x y s.4 t.4 (same_back s.0 (s.1 ++ rest) t.0 (t.1 ++ rest') whole long) p q in
    (cc (same, tail.0), tail.1)

-- The bytes are a capture of these records, followed by `rest`. `Ends` says what `rest` is, depending on `x`.
record Split (bytes : List ℕ) (records : List Record) (x : Option Refusal) : Type 0 where
  style : Style
  front : List ℕ
  rest : List ℕ
  whole : bytes ≡ front ++ rest
  capture : IsCapture style records front
  ends : Ends style (length front) rest x

ends_one : (style : Style) (start : ℕ) (rest : List ℕ) (x y : Option Refusal) → Ends style start rest x → Ends style start rest y → x ≡ y
ends_one style start rest x y (inl p) (inl q) = p.1 ∙ sym q.1
ends_one style start rest x y (inl p) (inr q) = absurd (omega (arith, q.2, ap length p.0))
ends_one style start rest x y (inr p) (inl q) = absurd (omega (arith, p.2, ap length q.0))
ends_one style start rest x y (inr p) (inr q) = p.1 ∙ (sym p.3 ∙ (q.3 ∙ sym q.1))

header_accepted : (bytes : List ℕ) (records : List Record) (x : Option Refusal) → Split bytes records x → file_refusal bytes ≡ None
header_accepted bytes records x p =
    let c = p.capture in
    let h = c.is_header in
    let whole : bytes ≡ c.header ++ (c.body ++ p.rest) = p.whole ∙ (ap (λ (z : List ℕ). z ++ p.rest) c.whole ∙ append_assoc c.header c.body p.rest) in
    ap file_refusal whole ∙ file_stays c.header (c.body ++ p.rest) None (file_fits p.style c.header h.size h.magic h.version_major h.network) refl

-- a file header has one style
header_style : (style other : Style) (a b : List ℕ) → IsFileHeader style a → IsFileHeader other b → a ≡ b → style ≡ other
header_style style other a b h k e = same_Some style other (sym h.magic ∙ (ap style_at e ∙ k.magic))

split_one : (bytes : List ℕ) (records others : List Record) (x y : Option Refusal) (p : Split bytes records x) (q : Split bytes others y) → (records ≡ others) × (x ≡ y) × (p.style ≡ q.style)
split_one bytes records others x y p q =
    let c = p.capture in
    let d = q.capture in
    let left : bytes ≡ c.header ++ (c.body ++ p.rest) = p.whole ∙ (ap (λ (z : List ℕ). z ++ p.rest) c.whole ∙ append_assoc c.header c.body p.rest) in
    let right : bytes ≡ d.header ++ (d.body ++ q.rest) = q.whole ∙ (ap (λ (z : List ℕ). z ++ q.rest) d.whole ∙ append_assoc d.header d.body q.rest) in
    let both : c.header ++ (c.body ++ p.rest) ≡ d.header ++ (d.body ++ q.rest) = sym left ∙ right in
    let long : length c.header ≡ length d.header = c.is_header.size ∙ sym d.is_header.size in
    let style : p.style ≡ q.style = header_style p.style q.style c.header d.header c.is_header d.is_header (same_front c.header (c.body ++ p.rest) d.header (d.body ++ q.rest) both long) in
    let spelled : SpellsAll p.style others d.body = subst (λ (s : Style). SpellsAll s others d.body) (sym style) d.spelled in
    let ends : Ends p.style (length q.front) q.rest y = subst (λ (s : Style). Ends s (length q.front) q.rest y) (sym style) q.ends in
    let lists = one_list p.style records others c.body d.body p.rest q.rest (length p.front) (length q.front) x y c.spelled spelled (same_back c.header (c.body ++ p.rest) d.header (d.body ++ q.rest) both long) p.ends ends in
    let fronts : length p.front ≡ length q.front = omega (arith, ap length (sym p.whole ∙ q.whole), length-append p.front p.rest, length-append q.front q.rest, ap length lists.1) in
    let moved : Ends p.style (length p.front) p.rest y =
    subst (λ (n : ℕ). Ends p.style n p.rest y) (sym fronts) (subst (λ (z : List ℕ). Ends p.style (length q.front) z y) (sym lists.1) ends) in
    (lists.0, ends_one p.style (length p.front) p.rest x y p.ends moved, style)

-- a capture splits into its file header and its records, with no bytes after them
split_capture : (style : Style) (records : List Record) (bytes : List ℕ) → IsCapture style records bytes → Split bytes records None
split_capture style records bytes c = record {
  style = style;
  front = bytes;
  rest = [];
  whole = sym (append-nil bytes);
  capture = c;
  ends = inl (refl, refl);
}

split_refused : (bytes : List ℕ) (records : List Record) (r : Refusal) → IsRefusedInRecord bytes records r → Split bytes records (Some r)
split_refused bytes records r h = record {
  style = h.style;
  front = h.front;
  rest = h.rest;
  whole = h.whole;
  capture = h.capture;
  ends = inr (r, refl, h.some, h.refused);
}

holds_by : (bytes : List ℕ) (records : List Record) (x : Option Refusal) → Holds bytes records x
    → Split bytes records x ⊎ ((r : Refusal) × (records ≡ []) × (x ≡ Some r) × (file_refusal bytes ≡ Some r))
holds_by bytes records None h = inl (split_capture h.0 records bytes h.1)
holds_by bytes records (Some r) (inl h) = inr (r, h.0, refl, h.1)
holds_by bytes records (Some r) (inr h) = inl (split_refused bytes records r h)

pub holds_one : (bytes : List ℕ) (records others : List Record) (x y : Option Refusal) → Holds bytes records x → Holds bytes others y → (records ≡ others) × (x ≡ y)
holds_one bytes records others x y h k = elim (holds_by bytes records x h) [
  | inl p ↦ elim (holds_by bytes others y k) [
    | inl q ↦ let one = split_one bytes records others x y p q in (one.0, one.1)
    | inr b ↦ absurd (cc (header_accepted bytes records x p, b.3))
  ]
  | inr a ↦ elim (holds_by bytes others y k) [
    | inl q ↦ absurd (cc (header_accepted bytes others y q, a.3))
    | inr b ↦ (a.1 ∙ sym b.1, a.2 ∙ (sym a.3 ∙ (b.3 ∙ sym b.2)))
  ]
]

pub style_one : (bytes : List ℕ) (records others : List Record) (style other : Style) → IsCapture style records bytes → IsCapture other others bytes → style ≡ other
unfolding split_capture
style_one bytes records others style other c d = (split_one bytes records others None None (split_capture style records bytes c) (split_capture other others bytes d)).2

-- if bytes are refused in a record, their file header is accepted
pub refused_header : (bytes : List ℕ) (records : List Record) (r : Refusal) → IsRefusedInRecord bytes records r → file_refusal bytes ≡ None
refused_header bytes records r h = header_accepted bytes records (Some r) (split_refused bytes records r h)
