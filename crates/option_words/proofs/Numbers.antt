-- Words that spell numbers, and the numbers that `parse` reads from words.
use Rattle.std.proofs.Common.{◌≡◌, ◌≢◌, ℕ, zero, suc, ◌^◌, ◌<◌, ◌≤◌, List, [], ◌∷◌, drop, length, get_or, Result, Ok, Err, Option, Some, None, IfSome, IfNone, unwrap_or, arith, sym, subst, ap, ◌∙◌, decimal, nat_le, true, IsTrue, ◌↔◌, refl, ℤ, pos, negsuc, unsigned_abs, w64, FitsSigned}
use Rattle.std.specs.Result.{result_ok, OkIff, result_unwrap_or}
use Rattle.std.specs.Str.Parse.{ParsesUnsigned, AllDigits, digits_value}
use Rattle.std.proofs.lemmas.Str.Parse.{IsNumeralModel, numerals_by_value, tells_digits, parse_plain, digit_at}
use Rattle.std.proofs.lemmas.Fmt.{decimal_is_IsNumeral, parse-decimal, decimal_nonempty, first_decimal, decimal_digit, decimal-digits_value, decimal_injective, signed_decimal_injective}
use lib.Signed.{mag}
use Rattle.std.specs.Fmt.{signed_decimal}
use Rattle.std.proofs.lemmas.Bool.{leb-true, le-leb}
use Rattle.std.proofs.lemmas.Bool.Decides.{nat_tests}
use Rattle.option_words.specs.Number.{IsNumber, IsSigned}
use Rattle.option_words.specs.state.Number.{BeginsAsNumber}
use Rattle.option_words.specs.Values.{IsRead, IsReadIf, IsReadSigned}
use Rattle.option_words.specs.Tables.{begins_with_dashes}
use Rattle.option_words.specs.Word.{BeginsWithDash, IsName}

own : IsNumeralModel (AllDigits 10) (digits_value 10)
own = numerals_by_value _ tells_digits

spelled_read : {E : Type 0} (bytes : List ℕ) (r : Result ℕ E) → ParsesUnsigned 64 10 bytes r → BeginsAsNumber bytes → IfSome (result_ok r) (λ n. bytes ≡ decimal n)
spelled_read {E} bytes (Ok n) h begins =
    let plain : get_or bytes 0 0 ≢ 43 = omega (arith, begins.low) in
    let read = parse_plain own {E = E} 64 bytes (Ok n) h plain in
    sym (decimal-digits_value own bytes read.0.0 begins.some begins.zero read.0.2) ∙ ap decimal (sym read.1)
spelled_read bytes (Err e) h begins = tt

-- if `parse` accepts a word that begins as a number, the word spells the result
pub spelled : {E : Type 0} (bytes : List ℕ) (r : Result ℕ E) (o : Option ℕ) → ParsesUnsigned 64 10 bytes r → o ≡ result_ok r → BeginsAsNumber bytes → IfSome o (λ n. bytes ≡ decimal n)
spelled bytes r o h e begins = rw e (spelled_read bytes r h begins)

-- if `parse` refuses a word, the word spells no number below 2^64
pub unread : {E : Type 0} (bytes : List ℕ) (r : Result ℕ E) (o : Option ℕ) → ParsesUnsigned 64 10 bytes r → o ≡ result_ok r → IfNone o ((n : ℕ) → n < 2 ^ 64 → bytes ≡ decimal n → ⊥)
unread bytes r (Some n) h e = tt
unread bytes r None h e = λ n small spells. let ok = parse-decimal 64 n bytes r small small spells h in cc

first_digit : (n : ℕ) → n < 2 ^ 64 → (48 ≤ get_or (decimal n) 0 0) × (get_or (decimal n) 0 0 ≤ 57)
first_digit n small = digit_at (decimal n) 0 (decimal_is_IsNumeral n small).0.1 (decimal_nonempty n small)

alone : (n : ℕ) → n < 2 ^ 64 → get_or (decimal n) 0 0 ≡ 48 → length (decimal n) ≡ 1
alone zero small e = ap length (decimal_digit 0 (omega arith))
alone (suc n) small e = absurd (omega (arith, first_decimal (suc n) (omega arith) small))

pub begins-decimal : (bytes : List ℕ) (n : ℕ) → n < 2 ^ 64 → bytes ≡ decimal n → BeginsAsNumber bytes
begins-decimal bytes n small e = rw e (record {
  some = decimal_nonempty n small;
  low = (first_digit n small).0;
  high = (first_digit n small).1;
  zero = alone n small;
})

-- the decimal digits of a number do not begin with a dash
pub no_dash : (word : List ℕ) (n : ℕ) → n < 2 ^ 64 → word ≡ decimal n → BeginsWithDash word → ⊥
no_dash [] n small e dash = dash
no_dash (first ∷ more) n small e dash = let begins : BeginsAsNumber (first ∷ more) = begins-decimal (first ∷ more) n small e in omega (arith, begins.low, dash)

-- the decimal digits of a number are also valid as a file's name
pub number_name : (word : List ℕ) (n : ℕ) → n < 2 ^ 64 → word ≡ decimal n → IsName word
number_name [] n small e = absurd (let begins : BeginsAsNumber [] = begins-decimal [] n small e in omega (arith, begins.some))
number_name (first ∷ more) n small e = λ dash. no_dash (first ∷ more) n small e dash

pub one_dash : (word : List ℕ) → begins_with_dashes word ≡ true → BeginsWithDash word
one_dash [] e = absurd cc
one_dash (first ∷ []) e = absurd cc
one_dash (first ∷ second ∷ more) e = grind (arith, nat_tests)

second_dash : (first second : ℕ) (more : List ℕ) → begins_with_dashes (first ∷ second ∷ more) ≡ true → second ≡ 45
second_dash first second more e = grind (arith, nat_tests)

-- a word that spells a number, possibly negative, does not begin with two dashes
pub no_dashes : (word : List ℕ) (z : ℤ) → unsigned_abs z < 2 ^ 63 → word ≡ signed_decimal z → begins_with_dashes word ≡ true → ⊥
no_dashes word (pos n) small e both = no_dash word n (omega (arith, small)) e (one_dash word both)
no_dashes [] (negsuc n) small e both = absurd cc
no_dashes (first ∷ []) (negsuc n) small e both = absurd cc
no_dashes (first ∷ second ∷ more) (negsuc n) small e both = no_dash (second ∷ more) (suc n) (omega (arith, small)) (ap (drop 1) e) (second_dash first second more both)

-- if `digits` spell no positive number, `-` followed by `digits` spells no negative number
pub below_none : (digits : List ℕ) → ((n : ℕ) → 0 < n → n < 2 ^ 63 → digits ≢ decimal n) → (z : ℤ) → unsigned_abs z < 2 ^ 63 → (45 ∷ digits) ≢ signed_decimal z
below_none digits none (pos n) small e = no_dash (45 ∷ digits) n (omega (arith, small)) e refl
below_none digits none (negsuc n) small e = none (suc n) (omega arith) small (ap (drop 1) e)

-- if a word has no leading `-` and spells no number from 0 to 2^63 - 1, it spells no signed number
pub above_none : (word : List ℕ) → ((rest : List ℕ) → word ≢ 45 ∷ rest) → ((n : ℕ) → n < 2 ^ 63 → word ≢ decimal n) → (z : ℤ) → unsigned_abs z < 2 ^ 63 → word ≢ signed_decimal z
above_none word plain none (pos n) small e = none n small e
above_none word plain none (negsuc n) small e = plain (decimal (suc n)) e

mag_below : (z : ℤ) → unsigned_abs z < 2 ^ 63 → mag z < 2 ^ 63
mag_below (pos n) small = small
mag_below (negsuc n) small = omega (arith, small)

-- a word spells at most one signed number
pub same_spelled : (word : List ℕ) (y z : ℤ) → unsigned_abs y < 2 ^ 63 → unsigned_abs z < 2 ^ 63 → word ≡ signed_decimal y → word ≡ signed_decimal z → y ≡ z
same_spelled word y z small smaller p q = signed_decimal_injective y z (mag_below y small) (mag_below z smaller) (sym p ∙ q)

-- if `word` spells `y`, the word is a valid value if and only if `y` is in range
pub signed_is : (most : ℕ) (y : ℤ) (word : List ℕ) → unsigned_abs y < 2 ^ 63 → most < 2 ^ 63 → word ≡ signed_decimal y → IsTrue (nat_le (unsigned_abs y) most) ↔ ((z : ℤ) × IsSigned most word z)
signed_is most y word small fits spelled = (
  (λ t. (y, record { size = leb-true (unsigned_abs y) most t; spelled = spelled })),
  λ (z, is).
      let same : z ≡ y = same_spelled word z y (omega (arith, is.size)) small is.spelled spelled in
      le-leb (unsigned_abs y) most (subst (λ x. unsigned_abs x ≤ most) same is.size),
)

-- a number whose magnitude is less than 2^63 fits a signed 64-bit integer
pub fits_mag : (z : ℤ) → mag z < 2 ^ 63 → FitsSigned w64 z
fits_mag (pos n) small = omega (arith, small)
fits_mag (negsuc n) small = omega (arith, small)

pub fits : (z : ℤ) → unsigned_abs z < 2 ^ 63 → FitsSigned w64 z
fits z small = fits_mag z (mag_below z small)

pub fits_after : (o : Option ℤ) (default : ℤ) → mag default < 2 ^ 63 → IfSome o (λ z. unsigned_abs z < 2 ^ 63) → FitsSigned w64 (unwrap_or o default)
fits_after None default is small = fits_mag default is
fits_after (Some z) default is small = fits z small

-- the number that is read from a word is the number that the word spells
pub signed_read_of : (word : List ℕ) (o : Option ℤ) (default : ℤ) → IfSome o (λ z. word ≡ signed_decimal z) → IfSome o (λ z. unsigned_abs z < 2 ^ 63) → IfNone o ((z : ℤ) → unsigned_abs z < 2 ^ 63 → word ≢ signed_decimal z) → IsReadSigned default (Some word) (unwrap_or o default)
signed_read_of word (Some y) default spells small none = record { absent = tt; read = λ z below e. same_spelled word y z small below spells e }
signed_read_of word None default spells small none = record { absent = tt; read = λ z below e. absurd (none z below e) }

pub where_none : {X : Type 0} {P : Type 0} (answer : Option X) → P → IfNone answer P
where_none None holds = holds
where_none (Some x) holds = tt

pub spells_one : (word : List ℕ) (m n : ℕ) → m < 2 ^ 64 → n < 2 ^ 64 → word ≡ decimal n → word ≡ decimal m → m ≡ n
spells_one word m n small smaller e f = decimal_injective m n small smaller (sym f ∙ e)

-- Let `word` spell `n`, let `n` be at least `low`, and let `n` and `high` be below 2^64. Then the word is a valid value
-- if and only if `n` is at most `high`.
pub is_number-then : (low high n : ℕ) (word : List ℕ) (least : low ≤ n) (spells : word ≡ decimal n) → n < 2 ^ 64 → high < 2 ^ 64 → IsTrue (nat_le n high) ↔ ((m : ℕ) × IsNumber low high word m)
is_number-then low high n word least spells small fits = (
  (λ t. (n, record { least = least; most = leb-true n high t; spelled = spells })),
  λ (m, is).
      let same : m ≡ n = decimal_injective m n (omega (arith, is.most)) small (sym is.spelled ∙ spells) in le-leb n high (omega (arith, is.most)),
)

pub is_number-else : (low high n : ℕ) (word : List ℕ) (below : n < low) (spells : word ≡ decimal n) → n < 2 ^ 64 → high < 2 ^ 64 → IsTrue (nat_le low n) ↔ ((m : ℕ) × IsNumber low high word m)
is_number-else low high n word below spells small fits = (
  λ t. absurd (omega (arith, leb-true low n t)),
  λ (m, is).
      let same : m ≡ n = decimal_injective m n (omega (arith, is.most)) small (sym is.spelled ∙ spells) in absurd (omega (arith, is.least)),
)

-- if a word spells `n`, the number that is read from the word is `n`
pub number_is : (word : List ℕ) (o : Option ℕ) (default n : ℕ) → unwrap_or o default < 2 ^ 64 → IfSome o (λ n. word ≡ decimal n) → IfNone o ((n : ℕ) → n < 2 ^ 64 → word ≢ decimal n) → n < 2 ^ 64 → word ≡ decimal n → unwrap_or o default ≡ n
number_is word (Some m) default n fits spells none small e = decimal_injective m n fits small (sym spells ∙ e)
number_is word None default n fits spells none small e = absurd (none n small e)

-- A number below 2^63 does not change when it is read as unsigned and then converted to signed.
pub signed_read : {E : Type 0} (word : Option (List ℕ)) (default n : ℕ) (r : Result ℤ E) → default < 2 ^ 63 → OkIff r (FitsSigned w64 (pos n)) (pos n) → IsRead (2 ^ 64) default word n → (k : ℕ) × FitsSigned w64 (pos k) × (result_unwrap_or r (pos default) ≡ pos k) × IsRead (2 ^ 63) default word k
signed_read word default n (Ok x) small (fits, is) reads = (n, fits, is, record { absent = reads.absent; read = lower word reads.read }) where
  lower : (word : Option (List ℕ)) → IfSome word (λ word. (k : ℕ) → k < 2 ^ 64 → word ≡ decimal k → n ≡ k) → IfSome word (λ word. (k : ℕ) → k < 2 ^ 63 → word ≡ decimal k → n ≡ k)
  lower None read = tt
  lower (Some word) read = λ k below. read k (omega (arith, below))
signed_read word default n (Err e) small large reads = (default, omega (arith, small), refl, record { absent = same word; read = none word reads.read }) where
  same : (word : Option (List ℕ)) → IfNone word (default ≡ default)
  same None = refl
  same (Some word) = tt

  none : (word : Option (List ℕ)) → IfSome word (λ word. (k : ℕ) → k < 2 ^ 64 → word ≡ decimal k → n ≡ k) → IfSome word (λ word. (k : ℕ) → k < 2 ^ 63 → word ≡ decimal k → default ≡ k)
  none None read = tt
  none (Some word) read = λ k below e. absurd (let same : n ≡ k = read k (omega (arith, below)) e in large (omega (arith, same, below)))

-- if a word spells a number below 2^32, that number is read from the word
pub read_if : {E : Type 0} (word : List ℕ) (n : ℕ) (r : Result ℕ E) (given : Option ℕ) → n < 2 ^ 64 → word ≡ decimal n → OkIff r (n < 2 ^ 32) n → given ≡ result_ok r → IsReadIf (2 ^ 32) (Some word) given
read_if {E = E} word n r given small spells tried is = record { absent = tt; read = λ k below e. is ∙ go r tried k below (decimal_injective k n (omega (arith, below)) small (sym e ∙ spells)) } where
  go : (r : Result ℕ E) → OkIff r (n < 2 ^ 32) n → (k : ℕ) → k < 2 ^ 32 → k ≡ n → result_ok r ≡ Some k
  go (Ok x) (fits, x_is) k below same = ap Some (x_is ∙ sym same)
  go (Err e) large k below same = absurd (large (omega (arith, below, same)))

-- if a word without a leading `-` spells `n`, but `n` does not fit a signed 64-bit integer, the word spells no signed
-- 64-bit integer
pub unfit : {E : Type 0} (word : List ℕ) (n : ℕ) (r : Result ℤ E) (given : Option ℤ) → n < 2 ^ 64 → word ≡ decimal n → OkIff r (FitsSigned w64 (pos n)) (pos n) → given ≡ result_ok r → ((rest : List ℕ) → word ≢ 45 ∷ rest) → IfNone given ((z : ℤ) → unsigned_abs z < 2 ^ 63 → word ≢ signed_decimal z)
unfit {E = E} word n r given small spells tried is plain = rw is (go r tried) where
  go : (r : Result ℤ E) → OkIff r (FitsSigned w64 (pos n)) (pos n) → IfNone (result_ok r) ((z : ℤ) → unsigned_abs z < 2 ^ 63 → word ≢ signed_decimal z)
  go (Ok z) tried = tt
  go (Err e) large = above_none word plain (λ k below e. let same : k ≡ n = spells_one word k n (omega (arith, below)) small spells e in absurd (large (omega (arith, same, below))))
