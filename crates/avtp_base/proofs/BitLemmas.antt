-- How the bits of a packet are read.
use Rattle.std.proofs.Common.{◌≡◌, ℕ, zero, suc, ◌+◌, ◌-◌, ◌*◌, ◌/◌, ◌%◌, ◌^◌, ◌<◌, ◌≤◌, List, length, take, drop, get_or, Bool, true, false, eqb, refl, arith}
use Rattle.std.proofs.lemmas.List.{get_or-drop, take_rest}
use Rattle.std.proofs.lemmas.Nat.{and_mask, mod_below, pow_pos}
use Rattle.std.proofs.lemmas.Nat.Bits.{ones_shr}
use Rattle.std.specs.Prelude.{bit_and}
use Rattle.byteorder.specs.Endian.{big_from}
use Rattle.avtp_base.specs.Octets.{AreBytes, bits, flag, is_set}

-- the number at index `i` after dropping `at` bytes is the number at index `at + i`
pub big_from-drop : (i n at : ℕ) (xs : List ℕ) → big_from i n (drop at xs) ≡ big_from (at + i) n xs
big_from-drop i zero at xs = refl
big_from-drop i (suc n) at xs =
    let first = get_or-drop at xs i 0 in
    let rest = big_from-drop (suc i) n at xs in
    let e : at + suc i ≡ suc (at + i) = omega arith in
    rw (first, rest, e) refl

pub number-rest : (n at : ℕ) (xs : List ℕ) → big_from 0 n (take (length xs - at) (drop at xs)) ≡ big_from at n xs
number-rest n at xs =
    let e : at + 0 ≡ at = omega arith in
    rw (take_rest xs at, big_from-drop 0 n at xs, e) refl

-- the code's shift and mask extract `width` bits of the byte, from bit `first` on
pub masked : (b first width : ℕ) → width ≤ 8
    → bit_and (b / 2 ^ (8 - first - width)) (255 / 2 ^ (8 - width)) ≡ b / 2 ^ (8 - first - width) % 2 ^ width
masked b first width h =
    let ones : 255 / 2 ^ (8 - width) ≡ 2 ^ (8 - (8 - width)) - 1 = ones_shr 8 (8 - width) (omega arith) in
    let same : 8 - (8 - width) ≡ width = omega arith in
    rw (ones, same, and_mask) refl

pub bits-byte : (at first width : ℕ) (xs : List ℕ) → 0 < width → first + width ≤ 8
    → bits at first width xs ≡ get_or xs at 0 / 2 ^ (8 - first - width) % 2 ^ width
unfolding bits
bits-byte at first width xs some one =
    let size : (first + width + 7) / 8 ≡ 1 = omega arith in
    let low : 8 * 1 - (first + width) ≡ 8 - first - width = omega arith in
    let number : get_or xs at 0 * 1 + 0 ≡ get_or xs at 0 = omega arith in
    rw (size, low, number) refl

pub bits-low : (at width : ℕ) (xs : List ℕ) (n : ℕ) → AreBytes xs → 8 < width → width ≤ 16 → n ≡ bits at 0 16 xs
    → bit_and n (65535 / 2 ^ (16 - width)) ≡ bits at (16 - width) width xs
unfolding bits
bits-low at width xs n fits two within e =
    let whole : n ≡ big_from at 2 xs = omega (arith, fits at, fits (suc at)) in
    let ones : 65535 / 2 ^ (16 - width) ≡ 2 ^ (16 - (16 - width)) - 1 = ones_shr 16 (16 - width) (omega arith) in
    let same : 16 - (16 - width) ≡ width = omega arith in
    let size : (16 - width + width + 7) / 8 ≡ 2 = omega arith in
    let low : 8 * 2 - (16 - width + width) ≡ 0 = omega arith in
    let number : big_from at 2 xs / 1 ≡ big_from at 2 xs = omega arith in
    rw (ones, same, and_mask, whole, size, low, number) refl

pub bits-below : (at first width : ℕ) (xs : List ℕ) → bits at first width xs < 2 ^ width
unfolding bits
bits-below at first width xs = mod_below (big_from at ((first + width + 7) / 8) xs / 2 ^ (8 * ((first + width + 7) / 8) - (first + width))) (2 ^ width) (pow_pos width)

-- a flag is true if and only if its number is 1
pub bit_of_flag : (n : ℕ) (b : Bool) → n ≡ flag b → eqb n 1 ≡ b
bit_of_flag n true e = rw e refl
bit_of_flag n false e = rw e refl

flag_of_bit : (n : ℕ) → n < 2 → n ≡ flag (eqb n 1)
flag_of_bit zero below = refl
flag_of_bit (suc zero) below = refl
flag_of_bit (suc (suc n)) below = absurd (omega arith)

pub bit_shown : (at bit : ℕ) (xs : List ℕ) → bits at bit 1 xs ≡ flag (is_set at bit xs)
bit_shown at bit xs = flag_of_bit (bits at bit 1 xs) (bits-below at bit 1 xs)

pub flag-below : (b : Bool) → flag b < 2
flag-below true = omega arith
flag-below false = omega arith
