-- The whole records in any list of bytes, and the first refusal of these bytes.
use Rattle.std.proofs.Common.{◌≡◌, ℕ, zero, suc, ◌+◌, ◌-◌, ◌<◌, ◌≤◌, Bool, true, false, cond, List, [], ◌∷◌, ◌++◌, length, take, drop, Option, Some, None, refl, sym, ap, subst, ◌∙◌, arith, is_none, inl, inr, append_assoc, length-append, length-drop}
use Rattle.std.proofs.lemmas.List.{append-nil, take-append-drop, length-take-le}
use Rattle.avtp_base.specs.declared.refusal.Refusal.{Refusal}
use Rattle.pcap_frames.specs.declared.style.Order.{Order}
use Rattle.pcap_frames.specs.declared.style.Style.{Style}
use Rattle.pcap_frames.specs.Layout.{number_at, style_at, file_refusal, record_refusal}
use Rattle.pcap_frames.specs.Capture.{Record, IsFileHeader, Spells, SpellsAll, IsCapture, Holds, record_of, record_size, records_from, refusal_from, records_behind, refusal_behind, whole_records, first_refusal}
use Rattle.pcap_frames.proofs.Append.{is_short, number_stays, file_stays, style_at_stays}
use Rattle.pcap_frames.proofs.Fields.{file_whole, file_short, file_style, file_header_is, record_whole}
use Rattle.pcap_frames.proofs.Ends.{record_limited}
use Rattle.pcap_frames.proofs.One.{Ends, record_fits}

-- whether a record is refused does not depend on its offset
none_anywhere : (order : Order) (start other : ℕ) (bytes : List ℕ) → record_refusal order start bytes ≡ None → record_refusal order other bytes ≡ None
none_anywhere order start other bytes e = record_fits order other bytes (record_whole order start bytes e) (record_limited order start bytes e)

is_none_by : (x y : Option Refusal) → (x ≡ None → y ≡ None) → (y ≡ None → x ≡ None) → is_none x ≡ is_none y
is_none_by None y f g = ap is_none (sym (f refl))
is_none_by (Some r) None f g = ap is_none (g refl)
is_none_by (Some r) (Some s) f g = refl

is_none_anywhere : (order : Order) (start other : ℕ) (bytes : List ℕ) → is_none (record_refusal order start bytes) ≡ is_none (record_refusal order other bytes)
is_none_anywhere order start other bytes =
    is_none_by (record_refusal order start bytes) (record_refusal order other bytes) (none_anywhere order start other bytes) (none_anywhere order other start bytes)

empty_refused : (order : Order) (start : ℕ) → is_none (record_refusal order start []) ≡ false
unfolding record_refusal
empty_refused order start = refl

-- if reading the bytes as a record refuses nothing, the bytes begin with the encoding of a record
spells_front : (style : Style) (start : ℕ) (bytes : List ℕ) → record_refusal style.order start bytes ≡ None → Spells style (record_of style (take (record_size style bytes) bytes)) (take (record_size style bytes) bytes)
spells_front style start bytes e =
    let z : ℕ = record_size style bytes in
    let whole = record_whole style.order start bytes e in
    let limit = record_limited style.order start bytes e in
    let first : List ℕ = take z bytes in
    let size : length first ≡ z = length-take-le z bytes whole in
    let stays : number_at style.order 8 4 (first ++ drop z bytes) ≡ number_at style.order 8 4 first = number_stays style.order 8 4 first (drop z bytes) (omega arith) in
    let same : number_at style.order 8 4 bytes ≡ number_at style.order 8 4 first = ap (number_at style.order 8 4) (sym (take-append-drop z bytes)) ∙ stays in
    let rest : length (drop 16 first) ≡ length first - 16 = length-drop 16 first in
    record {
      size = omega arith;
      arrival = refl;
      incl_len = omega arith;
      limit = omega arith;
      orig_len = refl;
      packet_bytes = refl;
    }

-- The bytes are the encodings of these records, followed by an ending. If `x` is `None`, the ending is empty. If `x` is
-- a refusal, it is the first refusal of the ending, read as a record.
abbrev Cut : Style → ℕ → List ℕ → List Record → Option Refusal → Type 0
Cut style start bytes records x =
    (front : List ℕ) × (rest : List ℕ) × (bytes ≡ front ++ rest) × SpellsAll style records front × Ends style (start + length front) rest x

cut_none : (style : Style) (start : ℕ) → Cut style start [] [] None
cut_none style start = ([], [], refl, refl, inl (refl, refl))

cut_refused : (style : Style) (start : ℕ) (bytes : List ℕ) (r : Refusal) → record_refusal style.order start bytes ≡ Some r → 0 < length bytes → Cut style start bytes [] (Some r)
cut_refused style start bytes r e some =
    let same : start + 0 ≡ start = omega arith in
    ([], bytes, refl, refl, inr (r, refl, some, rw same e))

cut_more : (style : Style) (start : ℕ) (bytes : List ℕ) (records : List Record) (x : Option Refusal) → record_refusal style.order start bytes ≡ None
    → Cut style (start + record_size style bytes) (drop (record_size style bytes) bytes) records x
    → Cut style start bytes (record_of style (take (record_size style bytes) bytes) ∷ records) x
cut_more style start bytes records x e c =
    let z : ℕ = record_size style bytes in
    let first : List ℕ = take z bytes in
    let whole = record_whole style.order start bytes e in
    let size : length first ≡ z = length-take-le z bytes whole in
    let place : start + z + length c.0 ≡ start + length (first ++ c.0) = omega (arith, length-append first c.0) in (
      first ++ c.0,
      c.1,
      sym (take-append-drop z bytes) ∙ (ap (λ (b : List ℕ). first ++ b) c.2 ∙ sym (append_assoc first c.0 c.1)),
      (first, c.0, refl, spells_front style start bytes e, c.3),
      subst (λ (n : ℕ). Ends style n c.1 x) place c.4,
    )

cut_by : (n : ℕ) (style : Style) (start : ℕ) (bytes : List ℕ) (x : Option Refusal) → record_refusal style.order start bytes ≡ x → 0 < length bytes
    → Cut style (start + record_size style bytes) (drop (record_size style bytes) bytes) (records_from n style (drop (record_size style bytes) bytes)) (refusal_from n style (start + record_size style bytes) (drop (record_size style bytes) bytes))
    → Cut style start bytes
    (cond (is_none x) (record_of style (take (record_size style bytes) bytes) ∷ records_from n style (drop (record_size style bytes) bytes)) [])
    (cond (is_none x) (refusal_from n style (start + record_size style bytes) (drop (record_size style bytes) bytes)) x)
cut_by n style start bytes None e some c = cut_more style start bytes _ _ e c
cut_by n style start bytes (Some r) e some c = cut_refused style start bytes r e some

cut : (n : ℕ) (style : Style) (start : ℕ) (bytes : List ℕ) → length bytes ≤ n → Cut style start bytes (records_from n style bytes) (refusal_from n style start bytes)
cut zero style start [] h = cut_none style start
cut zero style start (b ∷ bytes) h = absurd (omega arith)
cut (suc n) style start [] h = rw (empty_refused style.order 0) (cut_none style start)
cut (suc n) style start (b ∷ bytes) h =
    let z : ℕ = record_size style (b ∷ bytes) in
    let less : length (drop z (b ∷ bytes)) ≤ n = omega (arith, length-drop z (b ∷ bytes)) in
    rw (is_none_anywhere style.order 0 start (b ∷ bytes))
    (cut_by n style start (b ∷ bytes) (record_refusal style.order start (b ∷ bytes)) refl (omega arith) (cut n style (start + z) (drop z (b ∷ bytes)) less))

holds_cut : (style : Style) (bytes front rest : List ℕ) (records : List Record) (x : Option Refusal) → IsFileHeader style (take 24 bytes) → drop 24 bytes ≡ front ++ rest → SpellsAll style records front
    → Ends style (24 + length front) rest x → Holds bytes records x
holds_cut style bytes front rest records x h e spelled ends =
    let whole : bytes ≡ (take 24 bytes ++ front) ++ rest = sym (take-append-drop 24 bytes) ∙ (ap (λ (b : List ℕ). take 24 bytes ++ b) e ∙ sym (append_assoc (take 24 bytes) front rest)) in
    let capture : IsCapture style records (take 24 bytes ++ front) = record { header = take 24 bytes; body = front; whole = refl; is_header = h; spelled = spelled } in
    let size : 24 + length front ≡ length (take 24 bytes ++ front) = omega (arith, length-append (take 24 bytes) front, h.size) in
    elim ends [
      | inl none ↦
          let all : take 24 bytes ++ front ≡ bytes = sym (whole ∙ (ap (λ (b : List ℕ). (take 24 bytes ++ front) ++ b) none.0 ∙ append-nil (take 24 bytes ++ front))) in
          subst (λ (y : Option Refusal). Holds bytes records y) (sym none.1) (style, subst (λ (b : List ℕ). IsCapture style records b) all capture)
      | inr some ↦
          subst (λ (y : Option Refusal). Holds bytes records y) (sym some.1) (inr (record {
            style = style;
            front = take 24 bytes ++ front;
            rest = rest;
            whole = whole;
            capture = capture;
            some = some.2;
            refused = ap (λ (n : ℕ). record_refusal style.order n rest) (sym size) ∙ some.3;
          }))
    ]

front_by : (bytes : List ℕ) (y : Option Refusal) (short : Bool) → file_refusal bytes ≡ None → length (take 24 bytes) ≡ 24 → file_refusal (take 24 bytes) ≡ y → is_short y ≡ short → y ≡ None
front_by bytes None short e size f is = refl
front_by bytes (Some r) true e size f is = absurd (omega (arith, file_short (take 24 bytes) r f is))
front_by bytes (Some r) false e size f is =
    let stays : file_refusal bytes ≡ Some r = ap file_refusal (sym (take-append-drop 24 bytes)) ∙ file_stays (take 24 bytes) (drop 24 bytes) (Some r) f is in
    absurd (cc (stays, e))

-- if nothing in the file header is refused, the bytes begin with a file header
header_front : (style : Style) (bytes : List ℕ) → file_refusal bytes ≡ None → style_at bytes ≡ Some style → IsFileHeader style (take 24 bytes)
header_front style bytes e s =
    let size : length (take 24 bytes) ≡ 24 = length-take-le 24 bytes (file_whole bytes e) in
    let y : Option Refusal = file_refusal (take 24 bytes) in
    let none : file_refusal (take 24 bytes) ≡ None = front_by bytes y (is_short y) e size refl refl in
    let stays = style_at_stays (take 24 bytes) (drop 24 bytes) (omega arith) in
    let magic : style_at (take 24 bytes) ≡ Some style = sym stays ∙ (ap style_at (take-append-drop 24 bytes) ∙ s) in
    file_header_is (take 24 bytes) style none size magic

holds_by : (bytes : List ℕ) (x : Option Refusal) (style : Option Style) → file_refusal bytes ≡ x → style_at bytes ≡ style → Holds bytes (records_behind (cond (is_none x) style None) bytes) (refusal_behind (cond (is_none x) style None) bytes)
holds_by bytes (Some r) style e s = rw e (inl (refl, e))
holds_by bytes None None e s = absurd (cc (file_style bytes e, s))
holds_by bytes None (Some style) e s =
    let c = cut (length bytes) style 24 (drop 24 bytes) (omega (arith, length-drop 24 bytes)) in
    holds_cut style bytes c.0 c.1 _ _ (header_front style bytes e s) c.2 c.3 c.4

pub holds_whole : (bytes : List ℕ) → Holds bytes (whole_records bytes) (first_refusal bytes)
unfolding whole_records first_refusal
holds_whole bytes = holds_by bytes (file_refusal bytes) (style_at bytes) refl refl
