-- Products that fit 128 bits.
use Rattle.std.proofs.Common.{ℕ, ◌*◌, ◌^◌, ◌<◌, ◌≤◌, arith, mul-le-mul}

pub products : (n m : ℕ) → n < 2 ^ 64 → m ≤ 2 ^ 60 → n * m < 2 ^ 128
products n m a d = let le : n * m ≤ 2 ^ 64 * 2 ^ 60 = mul-le-mul {n₁ = n} {m₁ = m} {n₂ = 2 ^ 64} {m₂ = 2 ^ 60} (omega arith) d in omega arith
