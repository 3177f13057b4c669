-- What the results of a pair's tests imply.
use Rattle.std.proofs.Common.{◌≡◌, ℕ, ◌-◌, ◌*◌, ◌≤◌, Bool, true, false, ℤ, pos, negsuc, ◌-ℤ◌, ◌≤ℤ◌, ◌<ℤ◌, refl, arith}
use Rattle.std.specs.Prelude.{nat_le, int_le, int_lt, if◌then◌else◌}
use Rattle.std.proofs.lemmas.Bool.{le-leb}
use Rattle.std.proofs.lemmas.Bool.Decides.{nat_tests}
use Rattle.std.proofs.lemmas.Int.{ints}
use Rattle.clock_track.specs.declared.pair.Pair.{Pair}
use Rattle.clock_track.specs.PairLines.{Covers, IsJoined, at_least_0, covers, is_joined, nominal, period, reach, step_den, step_num}

by_difference : (a b : ℕ) (z : ℤ) → z ≡ pos b -ℤ pos a → at_least_0 z ≡ b - a
by_difference a b (pos n) e = omega (arith, ints)
by_difference a b (negsuc n) e = omega (arith, ints)

-- if no point is negative, the period is the difference of the points, or 0 if `b` is less than `a`
pub period-natural : (a b : ℕ) → at_least_0 (pos b -ℤ pos a) ≡ b - a
period-natural a b = by_difference a b (pos b -ℤ pos a) refl

-- ---- tests

joins_by : (a b c : ℕ) → (if nat_le a b then nat_le b c else false) ≡ true → (a ≤ b) × (b ≤ c)
joins_by a b c e = grind (arith, nat_tests)

pub joins : (p : Pair) → is_joined p ≡ true → IsJoined p
joins p e =
    let parts = joins_by (7 * nominal p) (8 * step_num p) (9 * nominal p) e in
    record { least = parts.0; most = parts.1 }

pub joins_not : (p : Pair) → IsJoined p → is_joined p ≡ true
joins_not p j = rw (le-leb (7 * nominal p) (8 * step_num p) j.least) (le-leb (8 * step_num p) (9 * nominal p) j.most)

lies_by : (a b c : ℤ) → (if int_le a b then int_lt b c else false) ≡ true → (a ≤ℤ b) × (b <ℤ c)
lies_by a b c e = cases (int_le a b) (int_lt b c) refl refl e
  where
    cases : (p q : Bool) → int_le a b ≡ p → int_lt b c ≡ q → (if p then q else false) ≡ true → (a ≤ℤ b) × (b <ℤ c)
    cases true true f g h = (omega (arith, ints), omega (arith, ints))
    cases true false f g h = absurd cc
    cases false q f g h = absurd cc

pub covers_so : (p : Pair) (rate : ℕ) (instant : ℤ) → covers p rate instant ≡ true → Covers p rate instant
covers_so p rate instant e =
    let parts = lies_by (pos 0) (reach p rate instant) (pos (2 * (period p * step_den p rate))) e in
    record { from = parts.0; to = parts.1 }

lies_not : (a b c : ℤ) → (if int_le a b then int_lt b c else false) ≡ false → a ≤ℤ b → b <ℤ c → ⊥
lies_not a b c e from to = cases (int_le a b) (int_lt b c) refl refl e
  where
    cases : (p q : Bool) → int_le a b ≡ p → int_lt b c ≡ q → (if p then q else false) ≡ false → ⊥
    cases true true f g h = absurd cc
    cases true false f g h = omega (arith, ints)
    cases false q f g h = omega (arith, ints)

pub covers_not : (p : Pair) (rate : ℕ) (instant : ℤ) → covers p rate instant ≡ false → ¬ Covers p rate instant
covers_not p rate instant e c = lies_not (pos 0) (reach p rate instant) (pos (2 * (period p * step_den p rate))) e c.from c.to
