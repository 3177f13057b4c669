-- The bits of a written header hold the values that the writer wrote there.
use Rattle.std.proofs.Common.{◌≡◌, ℕ, zero, suc, ◌+◌, ◌-◌, ◌*◌, ◌/◌, ◌%◌, ◌^◌, ◌<◌, ◌≤◌, Bool, true, false, cond, eqb, List, [], ◌∷◌, ◌++◌, length, get_or, refl, sym, ap, ◌∙◌, append_assoc, arith}
use Rattle.std.specs.Int.{byte_at, bytes_high_first}
use Rattle.std.proofs.Math.Nat.{add-mul, div-one, mul_assoc, pow-suc, zero-mul}
use Rattle.std.proofs.lemmas.List.{drop_at, get_or-append-add, get_or_append_left, length-append}
use Rattle.std.proofs.lemmas.Nat.{div-mul-add, mod_low, mul-add-lt, pow-add, shr-shr, shr_high, shr_split}
use Rattle.byteorder.specs.Endian.{big_from, big_bytes}
use Rattle.byteorder.specs.Numbers.{big_from-bytes, length-bytes_high_first}
use Rattle.byteorder.proofs.Bytes.{pow256}
use Rattle.avtp_base.specs.Octets.{bits, Range, range, any_set}
use Rattle.avtp_base.specs.Layout.{Bits, Layout, FitsBits, Fits, total_width, size_of, value_of, written, free_ranges, reserved_ranges, packed_behind, packed, spelling}
use Rattle.avtp_base.proofs.BitLemmas.{big_from-drop}

-- ---- numbers of several bytes

-- the n items from index `at` on are bytes
abbrev pub AreBytesAt : ℕ → ℕ → List ℕ → Type 0
AreBytesAt at n xs = (i : ℕ) → i < n → get_or xs (at + i) 0 < 256

pub number-below : (n at : ℕ) (xs : List ℕ) → AreBytesAt at n xs → big_from at n xs < 256 ^ n
number-below zero at xs fits = omega arith
number-below (suc n) at xs fits =
    let here : get_or xs at 0 < 256 = let h = fits 0 (omega arith) in let e : at + 0 ≡ at = omega arith in rw e at h in
    let rest : big_from (suc at) n xs < 256 ^ n =
    number-below n (suc at) xs (λ i lt. let h = fits (suc i) (omega arith) in let e : at + suc i ≡ suc at + i = omega arith in rw e at h) in
    let whole = mul-add-lt (get_or xs at 0) (256 ^ n) (big_from (suc at) n xs) 256 here rest in
    let power : 256 ^ suc n ≡ 256 ^ n * 256 = pow-suc 256 n in
    rw power whole

regroup : (a b c d e : ℕ) → a * (b * c) + (d * c + e) ≡ (a * b + d) * c + e
regroup a b c d e = let sum = add-mul (a * b) d c in let product = mul_assoc a b c in omega arith

number-split : (s m at : ℕ) (xs : List ℕ) → big_from at (s + m) xs ≡ big_from at s xs * 256 ^ m + big_from (at + s) m xs
number-split zero m at xs =
    let all : 0 + m ≡ m = omega arith in
    let here : at + 0 ≡ at = omega arith in
    rw (all, here) (omega arith)
number-split (suc s) m at xs =
    let power : 256 ^ (s + m) ≡ 256 ^ s * 256 ^ m = pow-add 256 s m in
    let more : suc s + m ≡ suc (s + m) = omega arith in
    let place : at + suc s ≡ suc at + s = omega arith in
    let rest = number-split s m (suc at) xs in
    rw (more, rest, place, power) (regroup (get_or xs at 0) (256 ^ s) (256 ^ m) (big_from (suc at) s xs) (big_from (suc at + s) m xs))

shifted : (s m k whole front rest : ℕ) → whole ≡ front * 256 ^ m + rest → rest < 256 ^ m → k ≤ 8 * s
    → front / 2 ^ (8 * s - k) ≡ whole / 2 ^ (8 * (s + m) - k)
shifted s m k whole front rest e below within =
    let high : whole / 2 ^ (8 * m) ≡ front = rw (e, ← pow256 m) (div-mul-add front (256 ^ m) rest below) in
    let places : 8 * (s + m) - k ≡ 8 * m + (8 * s - k) = omega arith in
    rw (places, ← shr-shr whole (8 * m) (8 * s - k), high) refl

-- If some bits lie within n bytes, the number in these bits can be cut out of the number that the n bytes form.
pub bits-wide : (n at first width : ℕ) (xs : List ℕ) → AreBytesAt at n xs → first + width ≤ 8 * n
    → bits at first width xs ≡ big_from at n xs / 2 ^ (8 * n - (first + width)) % 2 ^ width
unfolding bits
bits-wide n at first width xs fits within =
    let s : ℕ = (first + width + 7) / 8 in
    let m : ℕ = n - s in
    let all : s + m ≡ n = omega arith in
    let below = number-below m (at + s) xs (λ i lt. let h = fits (s + i) (omega arith) in let e : at + (s + i) ≡ at + s + i = omega arith in rw e at h) in
    let moved = shifted s m (first + width) (big_from at (s + m) xs) (big_from at s xs) (big_from (at + s) m xs) (number-split s m at xs) below (omega arith) in
    let there : big_from at s xs / 2 ^ (8 * s - (first + width)) ≡ big_from at n xs / 2 ^ (8 * n - (first + width)) = rw all at moved in
    ap (λ (x : ℕ). x % 2 ^ width) there

-- ---- numbers that adjacent fields spell

-- Dividing by 2 ^ (total width of the fields) removes the fields from the packed number, and leaves n.
packed_front : {V : Type 0} (bs : List (Bits V)) (v : V) (n : ℕ) → FitsBits bs v → packed_behind n bs v / 2 ^ total_width bs ≡ n
packed_front [] v n fits = div-one n
packed_front (b ∷ bs) v n fits =
    let x : ℕ = written b v in
    let rest = packed_front bs v (n * 2 ^ b.width + x) fits.1 in
    let order : b.width + total_width bs ≡ total_width bs + b.width = omega arith in
    rw (order, ← shr-shr (packed_behind (n * 2 ^ b.width + x) bs v) (total_width bs) b.width, rest) (shr_high n b.width x fits.0)

abbrev pub HoldsBits : {V : Type 0} → ℕ → ℕ → List (Bits V) → V → List ℕ → Type 0
HoldsBits at first [] v bytes = Unit {0}
HoldsBits at first (b ∷ bs) v bytes = (bits at first b.width bytes ≡ written b v) × HoldsBits at (first + b.width) bs v bytes

holds_bits : {V : Type 0} (bs : List (Bits V)) (v : V) (size at first n number : ℕ) (xs : List ℕ)
    → AreBytesAt at size xs → big_from at size xs ≡ number → number ≡ packed_behind n bs v → first + total_width bs ≡ 8 * size → FitsBits bs v
    → HoldsBits at first bs v xs
holds_bits [] v size at first n number xs bytes is packs whole fits = tt
holds_bits (b ∷ bs) v size at first n number xs bytes is packs whole fits =
    let x : ℕ = written b v in
    let wide = bits-wide size at first b.width xs bytes (omega arith) in
    let behind : 8 * size - (first + b.width) ≡ total_width bs = omega arith in
    let front = packed_front bs v (n * 2 ^ b.width + x) fits.1 in
    let low = mod_low n b.width x fits.0 in
    let this : bits at first b.width xs ≡ x = rw (wide, is, behind, packs, front) low in
    (this, holds_bits bs v size at (first + b.width) (n * 2 ^ b.width + x) number xs bytes is packs (omega arith) fits.1)

pub packed_is : {V : Type 0} (bs : List (Bits V)) (v : V) → packed bs v ≡ packed_behind 0 bs v
packed_is [] v = refl
packed_is (b ∷ bs) v =
    let e : 0 * 2 ^ b.width + written b v ≡ written b v = omega arith in
    rw e refl

-- if each field fits its bits, the packed number fits the bytes of the part
packed_whole : {V : Type 0} (bs : List (Bits V)) (v : V) (size : ℕ) → total_width bs ≡ 8 * size → FitsBits bs v
    → packed bs v % 256 ^ size ≡ packed bs v
packed_whole bs v size whole fits =
    let number : ℕ = packed_behind 0 bs v in
    let none : number / 2 ^ total_width bs ≡ 0 = packed_front bs v 0 fits in
    let split = shr_split number (total_width bs) in
    let power : 256 ^ size ≡ 2 ^ total_width bs = rw whole (pow256 size) in
    let nothing : number / 2 ^ total_width bs * 2 ^ total_width bs ≡ 0 = rw none (zero-mul (2 ^ total_width bs)) in
    rw (packed_is bs v, power) (omega (arith, split, nothing))

-- ---- the bytes of a part

byte-below : (k x : ℕ) → byte_at k x < 256
byte-below zero x = omega arith
byte-below (suc k) x = omega arith

pub bytes-below : (n x i : ℕ) → get_or (bytes_high_first n x) i 0 < 256
bytes-below zero x i = omega arith
bytes-below (suc n) x zero = byte-below n x
bytes-below (suc n) x (suc i) = bytes-below n x i

bytes_at : (front rest : List ℕ) (n x : ℕ) → AreBytesAt (length front) n (front ++ (bytes_high_first n x ++ rest))
bytes_at front rest n x i lt =
    let behind = get_or-append-add front (bytes_high_first n x ++ rest) i 0 in
    let len = length-bytes_high_first n x in
    let within = get_or_append_left (bytes_high_first n x) rest 0 i (omega arith) in
    rw (behind, within) (bytes-below n x i)

number_at : (front rest : List ℕ) (n x : ℕ) → big_from (length front) n (front ++ (bytes_high_first n x ++ rest)) ≡ x % 256 ^ n
number_at front rest n x =
    let bytes : List ℕ = bytes_high_first n x ++ rest in
    let dropped = drop_at front bytes (length front) refl in
    let moved = big_from-drop 0 n (length front) (front ++ bytes) in
    let here : length front + 0 ≡ length front = omega arith in
    let there : big_from 0 n bytes ≡ big_from (length front) n (front ++ bytes) = rw here at (rw dropped at moved) in
    sym there ∙ big_from-bytes n x rest

-- ---- whole headers

-- Each part fills whole bytes. The first part begins at byte `at`, and each other part begins where the part before it
-- ends.
abbrev pub IsLaid : {V : Type 0} → ℕ → Layout V → Type 0
IsLaid at [] = Unit {0}
IsLaid at (p ∷ parts) = (p.at ≡ at) × (total_width p.bits ≡ 8 * size_of p) × IsLaid (at + size_of p) parts

-- each field of the header holds the value that a writer writes for the view
abbrev pub Holds : {V : Type 0} → Layout V → V → List ℕ → Type 0
Holds [] v bytes = Unit {0}
Holds (p ∷ parts) v bytes = HoldsBits p.at 0 p.bits v bytes × Holds parts v bytes

pub holds_spelled : {V : Type 0} (layout : Layout V) (v : V) (at : ℕ) (front rest : List ℕ)
    → length front ≡ at → IsLaid at layout → Fits layout v → Holds layout v (front ++ (spelling layout v ++ rest))
holds_spelled [] v at front rest len laid fits = tt
holds_spelled (p ∷ parts) v at front rest len laid fits =
    let n : ℕ = size_of p in
    let here : List ℕ = big_bytes n (packed p.bits v) in
    let others : List ℕ = spelling parts v in
    let size = length-bytes_high_first n (packed p.bits v) in
    let first : front ++ ((here ++ others) ++ rest) ≡ front ++ (here ++ (others ++ rest)) = ap (λ (xs : List ℕ). front ++ xs) (append_assoc here others rest) in
    let behind : front ++ (here ++ (others ++ rest)) ≡ (front ++ here) ++ (others ++ rest) = sym (append_assoc front here (others ++ rest)) in
    let at_front : p.at ≡ length front = laid.0 ∙ sym len in
    let number = number_at front (others ++ rest) n (packed p.bits v) ∙ packed_whole p.bits v n laid.1 fits.0 in
    let part : HoldsBits (length front) 0 p.bits v (front ++ (here ++ (others ++ rest))) =
    holds_bits p.bits v n (length front) 0 0 (packed p.bits v) (front ++ (here ++ (others ++ rest)))
    (bytes_at front (others ++ rest) n (packed p.bits v)) number (packed_is p.bits v) (omega (arith, laid.1)) fits.0 in
    let parts_hold = holds_spelled parts v (at + n) (front ++ here) rest (omega (arith, length-append front here)) laid.2 fits.1 in
    (rw (first, at_front) part, rw (first, behind) parts_hold)

-- ---- reserved bits are written as 0

unset_more : (free : Bool) (at first width value : ℕ) (ranges : List Range) (bytes : List ℕ)
    → bits at first width bytes ≡ cond free 0 value → any_set ranges bytes ≡ false
    → any_set (cond free (range at first width ∷ ranges) ranges) bytes ≡ false
unset_more true at first width value ranges bytes e unset = rw e unset
unset_more false at first width value ranges bytes e unset = unset

unset_bits : {V : Type 0} (bs : List (Bits V)) (v : V) (at first : ℕ) (bytes : List ℕ)
    → HoldsBits at first bs v bytes → any_set (free_ranges at first bs) bytes ≡ false
unset_bits [] v at first bytes h = refl
unset_bits (b ∷ bs) v at first bytes h =
    unset_more b.free at first b.width (value_of b.shown v) (free_ranges at (first + b.width) bs) bytes h.0
    (unset_bits bs v at (first + b.width) bytes h.1)

pub unset-first : (zero_there rest : Bool) → cond zero_there rest true ≡ false → (zero_there ≡ true) × (rest ≡ false)
unset-first true rest e = (refl, e)
unset-first false rest e = absurd cc

unset-append : (xs ys : List Range) (bytes : List ℕ) → any_set xs bytes ≡ false → any_set ys bytes ≡ false → any_set (xs ++ ys) bytes ≡ false
unset-append [] ys bytes left right = right
unset-append (x ∷ xs) ys bytes left right =
    let parts = unset-first (eqb (bits x.at x.first x.width bytes) 0) (any_set xs bytes) left in
    rw (parts.0) (unset-append xs ys bytes parts.1 right)

pub unset_spelled : {V : Type 0} (layout : Layout V) (v : V) (bytes : List ℕ) → Holds layout v bytes → any_set (reserved_ranges layout) bytes ≡ false
unset_spelled [] v bytes h = refl
unset_spelled (p ∷ parts) v bytes h =
    unset-append (free_ranges p.at 0 p.bits) (reserved_ranges parts) bytes (unset_bits p.bits v p.at 0 bytes h.0) (unset_spelled parts v bytes h.1)
