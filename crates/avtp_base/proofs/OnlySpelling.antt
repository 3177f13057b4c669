-- If each field of a header holds the value that a writer writes for a view, the bytes begin with exactly what the
-- writer writes.
use Rattle.std.proofs.Common.{◌≡◌, ℕ, zero, suc, ◌+◌, ◌-◌, ◌*◌, ◌/◌, ◌%◌, ◌^◌, ◌<◌, ◌≤◌, List, [], ◌∷◌, ◌++◌, length, take, drop, get_or, refl, sym, ap, subst, ◌∙◌, append_assoc, inl, inr, arith}
use Rattle.std.specs.Int.{bytes_high_first}
use Rattle.std.proofs.Math.Nat.{div-eq_of_lt, div-one}
use Rattle.std.proofs.lemmas.Bool.{cases_lt}
use Rattle.std.proofs.lemmas.Grind.{same_number_lists}
use Rattle.std.proofs.lemmas.List.{get_or-append_right, get_or-drop, get_or-take, get_or_append_left, length-append, length-take, take-append-drop}
use Rattle.std.proofs.lemmas.Nat.{same_from_place, shr-shr, shr_split}
use Rattle.byteorder.specs.Endian.{big_from, big_bytes}
use Rattle.byteorder.specs.Numbers.{length-bytes_high_first}
use Rattle.byteorder.proofs.Bytes.{pow256}
use Rattle.avtp_base.specs.Octets.{AreBytes, bits}
use Rattle.avtp_base.specs.Layout.{Bits, Layout, FitsBits, Fits, total_width, size_of, written, packed_behind, packed, spelling}
use Rattle.avtp_base.proofs.BitLemmas.{bits-below}
use Rattle.avtp_base.proofs.LayoutLemmas.{AreBytesAt, Holds, HoldsBits, IsLaid, bits-wide, bytes-below, holds_spelled, number-below, packed_is}

-- ---- a number and its bits

packed_from_bits : {V : Type 0} (bs : List (Bits V)) (v : V) (size at first : ℕ) (xs : List ℕ) → AreBytesAt at size xs
    → first + total_width bs ≡ 8 * size → HoldsBits at first bs v xs
    → packed_behind (big_from at size xs / 2 ^ (8 * size - first)) bs v ≡ big_from at size xs
packed_from_bits [] v size at first xs bytes whole h =
    let none : 8 * size - first ≡ 0 = omega arith in
    rw none (div-one (big_from at size xs))
packed_from_bits (b ∷ bs) v size at first xs bytes whole h =
    let number : ℕ = big_from at size xs in
    let low : ℕ = 8 * size - (first + b.width) in
    let wide : bits at first b.width xs ≡ number / 2 ^ low % 2 ^ b.width = bits-wide size at first b.width xs bytes (omega arith) in
    let places : low + b.width ≡ 8 * size - first = omega arith in
    let front : number / 2 ^ low / 2 ^ b.width ≡ number / 2 ^ (8 * size - first) = rw (← places) (shr-shr number low b.width) in
    let here : written b v ≡ number / 2 ^ low % 2 ^ b.width = sym h.0 ∙ wide in
    let step : number / 2 ^ (8 * size - first) * 2 ^ b.width + written b v ≡ number / 2 ^ low = rw (← front, here) (shr_split (number / 2 ^ low) b.width) in
    rw step (packed_from_bits bs v size at (first + b.width) xs bytes (omega arith) h.1)

number_of_part : {V : Type 0} (bs : List (Bits V)) (v : V) (size at : ℕ) (xs : List ℕ) → AreBytesAt at size xs
    → total_width bs ≡ 8 * size → HoldsBits at 0 bs v xs → packed bs v ≡ big_from at size xs
number_of_part bs v size at xs bytes whole h =
    let below = number-below size at xs bytes in
    let places : 8 * size - 0 ≡ 8 * size = omega arith in
    let none : big_from at size xs / 2 ^ (8 * size - 0) ≡ 0 = rw (places, ← pow256 size) (div-eq_of_lt below) in
    packed_is bs v ∙ sym (ap (λ (n : ℕ). packed_behind n bs v) none) ∙ packed_from_bits bs v size at 0 xs bytes (omega arith) h

bytes_behind : (n at : ℕ) (xs : List ℕ) → AreBytesAt at (suc n) xs → AreBytesAt (suc at) n xs
bytes_behind n at xs bytes i lt =
    let h = bytes (suc i) (omega arith) in
    let e : at + suc i ≡ suc at + i = omega arith in
    rw e at h

-- If n bytes of `xs` form the same number as the n bytes of `ys` at the same index, these bytes are equal.
same_bytes : (n at : ℕ) (xs ys : List ℕ) → AreBytesAt at n xs → AreBytesAt at n ys → big_from at n xs ≡ big_from at n ys
    → (k : ℕ) → k < n → get_or xs (at + k) 0 ≡ get_or ys (at + k) 0
same_bytes zero at xs ys p q e k lt = absurd (omega arith)
same_bytes (suc n) at xs ys p q e zero lt =
    let parts = same_from_place (get_or xs at 0) (big_from (suc at) n xs) (get_or ys at 0) (big_from (suc at) n ys) (256 ^ n)
    (number-below n (suc at) xs (bytes_behind n at xs p)) (number-below n (suc at) ys (bytes_behind n at ys q)) e in
    let here : at + 0 ≡ at = omega arith in
    rw here parts.0
same_bytes (suc n) at xs ys p q e (suc k) lt =
    let parts = same_from_place (get_or xs at 0) (big_from (suc at) n xs) (get_or ys at 0) (big_from (suc at) n ys) (256 ^ n)
    (number-below n (suc at) xs (bytes_behind n at xs p)) (number-below n (suc at) ys (bytes_behind n at ys q)) e in
    let next : at + suc k ≡ suc at + k = omega arith in
    rw next (same_bytes n (suc at) xs ys (bytes_behind n at xs p) (bytes_behind n at ys q) parts.1 k (omega arith))

-- ---- whole headers

-- the size of a header in bytes
abbrev pub layout_size : {V : Type 0} → Layout V → ℕ
layout_size [] = 0
layout_size (p ∷ parts) = size_of p + layout_size parts

bytes_there : (at n : ℕ) (xs : List ℕ) → AreBytes xs → AreBytesAt at n xs
bytes_there at n xs bytes i lt = bytes (at + i)

same_parts : {V : Type 0} (layout : Layout V) (v : V) (at : ℕ) (xs ys : List ℕ) → IsLaid at layout → AreBytes xs → AreBytes ys
    → Holds layout v xs → Holds layout v ys → (k : ℕ) → at ≤ k → k < at + layout_size layout → get_or xs k 0 ≡ get_or ys k 0
same_parts [] v at xs ys laid p q h g k low high = absurd (omega arith)
same_parts (part ∷ parts) v at xs ys laid p q h g k low high =
    let n : ℕ = size_of part in
    elim (cases_lt k (at + n)) [
      | inl inside ↦
          let left : HoldsBits at 0 part.bits v xs = rw (laid.0) at h.0 in
          let right : HoldsBits at 0 part.bits v ys = rw (laid.0) at g.0 in
          let number : big_from at n xs ≡ big_from at n ys =
          sym (number_of_part part.bits v n at xs (bytes_there at n xs p) laid.1 left) ∙ number_of_part part.bits v n at ys (bytes_there at n ys q) laid.1 right in
          let same = same_bytes n at xs ys (bytes_there at n xs p) (bytes_there at n ys q) number (k - at) (omega arith) in
          let place : at + (k - at) ≡ k = omega arith in
          rw place at same
      | inr behind ↦ same_parts parts v (at + n) xs ys laid.2 p q h.1 g.1 k behind (omega arith)
    ]

holds_fit_bits : {V : Type 0} (bs : List (Bits V)) (v : V) (at first : ℕ) (bytes : List ℕ) → HoldsBits at first bs v bytes → FitsBits bs v
holds_fit_bits [] v at first bytes h = tt
holds_fit_bits (b ∷ bs) v at first bytes h =
    let below = bits-below at first b.width bytes in
    (rw (← h.0) below, holds_fit_bits bs v at (first + b.width) bytes h.1)

holds_fit : {V : Type 0} (layout : Layout V) (v : V) (bytes : List ℕ) → Holds layout v bytes → Fits layout v
holds_fit [] v bytes h = tt
holds_fit (p ∷ parts) v bytes h = (holds_fit_bits p.bits v p.at 0 bytes h.0, holds_fit parts v bytes h.1)

are_bytes-append : (n x : ℕ) (rest : List ℕ) → AreBytes rest → AreBytes (bytes_high_first n x ++ rest)
are_bytes-append n x rest bytes i =
    let len = length-bytes_high_first n x in
    elim (cases_lt i n) [
      | inl inside ↦ rw (get_or_append_left (bytes_high_first n x) rest 0 i (omega arith)) (bytes-below n x i)
      | inr behind ↦ rw (get_or-append_right (bytes_high_first n x) rest n i 0 len behind) (bytes (i - n))
    ]

are_bytes-spelling : {V : Type 0} (layout : Layout V) (v : V) (rest : List ℕ) → AreBytes rest → AreBytes (spelling layout v ++ rest)
are_bytes-spelling [] v rest bytes = bytes
are_bytes-spelling (p ∷ parts) v rest bytes =
    let here : List ℕ = big_bytes (size_of p) (packed p.bits v) in
    let others : List ℕ = spelling parts v in
    subst (λ (xs : List ℕ). AreBytes xs) (sym (append_assoc here others rest))
    (are_bytes-append (size_of p) (packed p.bits v) (others ++ rest) (are_bytes-spelling parts v rest bytes))

pub length-spelling : {V : Type 0} (layout : Layout V) (v : V) → length (spelling layout v) ≡ layout_size layout
length-spelling [] v = refl
length-spelling (p ∷ parts) v =
    let here : List ℕ = big_bytes (size_of p) (packed p.bits v) in
    omega (arith, length-append here (spelling parts v), length-bytes_high_first (size_of p) (packed p.bits v), length-spelling parts v)

-- If each field of the header holds the value that a writer writes for the view, the bytes begin with exactly what the
-- writer writes.
pub only_spelling : {V : Type 0} (layout : Layout V) (v : V) (bytes : List ℕ) (size : ℕ) → IsLaid 0 layout → layout_size layout ≡ size
    → AreBytes bytes → size ≤ length bytes → Holds layout v bytes → bytes ≡ spelling layout v ++ drop size bytes
only_spelling layout v bytes size laid len fits long h =
    let spelled : List ℕ = spelling layout v in
    let rest : List ℕ = drop size bytes in
    let whole : List ℕ = spelled ++ rest in
    let written : Holds layout v whole = holds_spelled layout v 0 [] rest refl laid (holds_fit layout v bytes h) in
    let bytes_fit : AreBytes whole = are_bytes-spelling layout v rest (λ i. rw (get_or-drop size bytes i 0) (fits (size + i))) in
    let size_is : length spelled ≡ size = length-spelling layout v ∙ len in
    let front : take size bytes ≡ spelled =
    same_number_lists (take size bytes) spelled (omega (arith, length-take size bytes)) (λ k lt.
    let below : k < size = omega (arith, length-take size bytes) in
    get_or-take size bytes k 0 below
    ∙ same_parts layout v 0 bytes whole laid fits bytes_fit h written k (omega arith) (omega arith)
    ∙ get_or_append_left spelled rest 0 k (omega arith)) in
    sym (take-append-drop size bytes) ∙ ap (λ (xs : List ℕ). xs ++ rest) front
