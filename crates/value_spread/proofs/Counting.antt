-- How many values are less than a limit, and the value of a rank.
use Rattle.std.proofs.Common.{◌≡◌, ℕ, zero, suc, ◌+◌, ◌<◌, ◌≤◌, true, false, inl, inr, List, [], ◌∷◌, length, refl, sym, ap, ◌∙◌, subst, arith, ℤ, pos, ◌≤ℤ◌, ◌<ℤ◌, ◌+ℤ◌, ◌-ℤ◌}
use Rattle.std.specs.Prelude.{int_le, int_lt, unsigned_abs}
use Rattle.std.proofs.lemmas.Bool.{cases_lt}
use Rattle.std.proofs.lemmas.Int.{by_lt_z, ints}
use Rattle.value_spread.specs.Spreads.{number_below, number_up_to}

-- ---- tests

lt-true : (a b : ℤ) → a <ℤ b → int_lt a b ≡ true
lt-true a b h = grind (arith, ints)

lt-false : (a b : ℤ) → b ≤ℤ a → int_lt a b ≡ false
lt-false a b h = grind (arith, ints)

le-true : (a b : ℤ) → a ≤ℤ b → int_le a b ≡ true
le-true a b h = grind (arith, ints)

le-false : (a b : ℤ) → b <ℤ a → int_le a b ≡ false
le-false a b h = grind (arith, ints)

pub below-yes : (limit v : ℤ) (values : List ℤ) → v <ℤ limit → number_below limit (v ∷ values) ≡ number_below limit values + 1
below-yes limit v values h = rw (lt-true v limit h) refl

pub below-no : (limit v : ℤ) (values : List ℤ) → limit ≤ℤ v → number_below limit (v ∷ values) ≡ number_below limit values
below-no limit v values h = rw (lt-false v limit h) (omega arith)

pub up-yes : (limit v : ℤ) (values : List ℤ) → v ≤ℤ limit → number_up_to limit (v ∷ values) ≡ number_up_to limit values + 1
up-yes limit v values h = rw (le-true v limit h) refl

pub up-no : (limit v : ℤ) (values : List ℤ) → limit <ℤ v → number_up_to limit (v ∷ values) ≡ number_up_to limit values
up-no limit v values h = rw (le-false v limit h) (omega arith)

-- ---- at least as many values are below a higher limit

pub below-ordered : (a b : ℤ) (values : List ℤ) → a ≤ℤ b → number_below a values ≤ number_below b values
below-ordered a b [] le = omega arith
below-ordered a b (v ∷ values) le =
    by_lt_z v a
    (λ h. omega (arith, below-ordered a b values le, below-yes a v values h, below-yes b v values (omega (arith, ints))))
    (λ h. by_lt_z v b
    (λ g. omega (arith, below-ordered a b values le, below-no a v values h, below-yes b v values g))
    (λ g. omega (arith, below-ordered a b values le, below-no a v values h, below-no b v values g)))

pub below-length : (a : ℤ) (values : List ℤ) → number_below a values ≤ length values
below-length a [] = omega arith
below-length a (v ∷ values) =
    by_lt_z v a
    (λ h. omega (arith, below-length a values, below-yes a v values h))
    (λ h. omega (arith, below-length a values, below-no a v values h))

pub up-next : (a b : ℤ) (values : List ℤ) → b ≡ a +ℤ pos 1 → number_up_to a values ≡ number_below b values
up-next a b [] e = refl
up-next a b (v ∷ values) e =
    by_lt_z v b
    (λ h. up-yes a v values (omega (arith, ints)) ∙ ap (λ (n : ℕ). n + 1) (up-next a b values e) ∙ sym (below-yes b v values h))
    (λ h. up-no a v values (omega (arith, ints)) ∙ up-next a b values e ∙ sym (below-no b v values h))

pub below-up : (a b : ℤ) (values : List ℤ) → a <ℤ b → number_up_to a values ≤ number_below b values
below-up a b values lt = omega (arith, up-next a (a +ℤ pos 1) values refl, below-ordered (a +ℤ pos 1) b values (omega (arith, ints)))

-- ---- the value of a rank

pub record Crossing (values : List ℤ) (rank : ℕ) (low high : ℤ) : Type 0 where
  pub value : ℤ
  pub first : low ≤ℤ value
  pub next : value <ℤ high
  pub less : number_below value values < rank
  pub enough : rank ≤ number_up_to value values

crossing-by : (values : List ℤ) (rank : ℕ) (low : ℤ) (width : ℕ) → number_below low values < rank → rank ≤ number_below (low +ℤ pos width) values → Crossing values rank low (low +ℤ pos width)
crossing-by values rank low zero less enough = absurd (no (ap (λ (z : ℤ). number_below z values) (same low)))
  where
    same : (z : ℤ) → z +ℤ pos 0 ≡ z
    same z = omega (arith, ints)

    no : number_below (low +ℤ pos 0) values ≡ number_below low values → ⊥
    no e = omega (arith, e, less, enough)
crossing-by values rank low (suc width) less enough =
    elim (cases_lt (number_below (low +ℤ pos width) values) rank) [
      | inl below ↦ record {
        value = low +ℤ pos width;
        first = omega (arith, ints);
        next = omega (arith, ints);
        less = below;
        enough = omega (arith, enough, up-next (low +ℤ pos width) (low +ℤ pos (suc width)) values (omega (arith, ints)));
      }
      | inr reached ↦ wider (crossing-by values rank low width less reached)
    ]
  where
    wider : Crossing values rank low (low +ℤ pos width) → Crossing values rank low (low +ℤ pos (suc width))
    wider c = record { value = c.value; first = c.first; next = let n = c.next in omega (arith, ints, n); less = c.less; enough = c.enough }

pub crossing : (values : List ℤ) (rank : ℕ) (low high : ℤ) → low ≤ℤ high → number_below low values < rank → rank ≤ number_below high values → Crossing values rank low high
crossing values rank low high le less enough =
    subst (Crossing values rank low) (sym (apart low high le))
    (crossing-by values rank low (unsigned_abs (high -ℤ low)) less (subst (λ (z : ℤ). rank ≤ number_below z values) (apart low high le) enough))
  where
    apart : (a b : ℤ) → a ≤ℤ b → b ≡ a +ℤ pos (unsigned_abs (b -ℤ a))
    apart a b le = omega (arith, ints, le)
