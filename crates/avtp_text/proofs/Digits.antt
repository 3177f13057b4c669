use Rattle.std.proofs.Common.{◌≡◌, ℕ, ◌+◌, ◌*◌, ◌/◌, ◌%◌, ◌^◌, ◌<◌, ◌≤◌, ◌++◌, length, decimal, refl, sym, ap, ◌∙◌, arith, append_assoc}
use Rattle.std.proofs.lemmas.Fmt.{length-decimal-le}
use Rattle.itoa.proofs.Decimal.{decimal_four, length_one, length_two, length_pair}
use Rattle.avtp_text.specs.state.Pairs.{eight_digits, four_digits}

pub digits_of_u64 : (n : ℕ) → n < 2 ^ 64 → length (decimal n) ≤ 20
digits_of_u64 n h = length-decimal-le 20 n (omega arith) (omega arith) h

pub digits_of_u32 : (n : ℕ) → n < 2 ^ 32 → length (decimal n) ≤ 10
digits_of_u32 n h = length-decimal-le 10 n (omega arith) (omega arith) (omega arith)

pub one_digit : (n : ℕ) → n < 10 → length (decimal n) ≡ 1
one_digit n h = length_one n h

pub length_three : (n : ℕ) → 100 ≤ n → n < 1000 → length (decimal n) ≡ 3
length_three n lo hi = let one = length_one (n / 100) (omega arith) in omega (arith, one, length_pair n lo (omega arith))

-- two numbers have equally many digits if both are below 10, both from 10 to 99, or both from 100 to 999
pub as_long_one : (m n : ℕ) → m < 10 → n < 10 → length (decimal n) ≡ length (decimal m)
as_long_one m n a b = length_one n b ∙ sym (length_one m a)

pub as_long_two : (m n : ℕ) → 10 ≤ m → m < 100 → 10 ≤ n → n < 100 → length (decimal n) ≡ length (decimal m)
as_long_two m n a b c d = length_two n c d ∙ sym (length_two m a b)

pub as_long_three : (m n : ℕ) → 100 ≤ m → m < 1000 → 100 ≤ n → n < 1000 → length (decimal n) ≡ length (decimal m)
as_long_three m n a b c d = length_three n c d ∙ sym (length_three m a b)

pub length_eight : (n : ℕ) → length (eight_digits n) ≡ 8
unfolding eight_digits
length_eight n = refl

pub last_eight : (n : ℕ) → 100000000 ≤ n → n < 2 ^ 64 → decimal n ≡ decimal (n / 100000000) ++ eight_digits (n % 100000000)
unfolding eight_digits
last_eight n lo hi =
    let high : n / 10000 / 10000 ≡ n / 100000000 = omega arith in
    let middle : n % 100000000 / 10000 ≡ n / 10000 % 10000 = omega arith in
    let low : n % 100000000 % 10000 ≡ n % 10000 = omega arith in
    decimal_four n (omega arith) hi ∙ ap (λ front. front ++ four_digits (n % 10000)) (decimal_four (n / 10000) (omega arith) (omega arith))
    ∙ append_assoc (decimal (n / 10000 / 10000)) (four_digits (n / 10000 % 10000)) (four_digits (n % 10000)) ∙ rw (high, middle, low) refl

pub with_eight : (high low : ℕ) → 1 ≤ high → low < 100000000 → high * 100000000 + low < 2 ^ 64 → decimal (high * 100000000 + low) ≡ decimal high ++ eight_digits low
with_eight high low some small fits =
    let quotient : (high * 100000000 + low) / 100000000 ≡ high = omega (arith, small) in
    let rest : (high * 100000000 + low) % 100000000 ≡ low = omega (arith, small) in
    rw (quotient, rest) at (last_eight (high * 100000000 + low) (omega arith) fits)
