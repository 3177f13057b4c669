-- Hexadecimal digits of bytes that are printed or written piece by piece.
use Rattle.std.proofs.Common.{◌≡◌, ℕ, ◌+◌, ◌/◌, ◌%◌, ◌<◌, ◌≤◌, List, [], ◌∷◌, ◌++◌, length, take, set, slice_index, refl, sym, ap, ◌∙◌, arith, append_assoc, length-set}
use Rattle.std.proofs.lemmas.List.{take_more, take_more_set}
use Rattle.hex.specs.Hex.{encode_with, encode_lower, lower_digits}

append : (table xs ys : List ℕ) → encode_with table (xs ++ ys) ≡ encode_with table xs ++ encode_with table ys
unfolding encode_with
append table [] ys = refl
append table (x ∷ xs) ys = rw (append table xs ys) refl

pub split_hex : (bytes front back : List ℕ) → bytes ≡ front ++ back → encode_lower front ++ encode_lower back ≡ encode_lower bytes
split_hex bytes front back split = sym (append _ front back) ∙ ap encode_lower (sym split)

abbrev pub pair_of : ℕ → List ℕ
pair_of byte = slice_index lower_digits (byte / 16) ∷ slice_index lower_digits (byte % 16) ∷ []

pub one_byte_more : (bytes : List ℕ) (i : ℕ) → i < length bytes → encode_lower (take (i + 1) bytes) ≡ encode_lower (take i bytes) ++ pair_of (slice_index bytes i)
unfolding encode_with
one_byte_more bytes i lt = ap encode_lower (take_more bytes i 0 lt) ∙ append lower_digits (take i bytes) (slice_index bytes i ∷ [])

pub two_more : (out : List ℕ) (n a b : ℕ) → n + 2 ≤ length out → take (n + 2) (set (set out n a) (n + 1) b) ≡ take n out ++ a ∷ b ∷ []
two_more out n a b room =
    let next : n + 2 ≡ n + 1 + 1 = omega arith in
    let inside : n + 1 < length (set out n a) = omega (arith, room, length-set out n a) in
    rw next (take_more_set (set out n a) (n + 1) b inside ∙ ap (λ front. front ++ b ∷ []) (take_more_set out n a (omega (arith, room))) ∙ append_assoc (take n out) (a ∷ []) (b ∷ []))
