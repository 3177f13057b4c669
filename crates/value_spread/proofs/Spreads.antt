-- What a spread says about the values that were noted.
use Rattle.std.proofs.Common.{◌≡◌, ℕ, suc, ◌+◌, ◌-◌, ◌*◌, ◌/◌, ◌%◌, ◌^◌, ◌<◌, ◌≤◌, max, min, inl, inr, List, [], ◌∷◌, length, get_or, set, take, refl, sym, ap, ◌∙◌, subst, arith, ℤ, pos, negsuc, ◌≤ℤ◌, ◌<ℤ◌, ◌+ℤ◌, ◌-ℤ◌, sum}
use Rattle.std.specs.Prelude.{unsigned_abs}
use Rattle.std.specs.Int.{int_max, int_min, div_ceil}
use Rattle.std.proofs.lemmas.Bool.{cases_lt}
use Rattle.std.proofs.lemmas.Int.{by_lt_z, clamps, ints}
use Rattle.std.proofs.lemmas.List.{get_or-take, length-set, length-take, take-set-le}
use Rattle.std.proofs.lemmas.List.Sums.{get_or-le-sum_by, sum_by-set}
use Rattle.std.proofs.Math.Seq.{take-set-lt}
use Rattle.std.proofs.Math.Nat.{mul-le-mul_left}
use Rattle.value_spread.specs.declared.spread.Spread.{Spread}
use Rattle.value_spread.specs.Spreads.{RoundedUp, TellsOf, edge, greatest_of, least_of, most_values, number_below, number_up_to, rank, side}
use Rattle.value_spread.specs.state.Places.{HasPlace, Reaches, Widens}
use Rattle.value_spread.proofs.Buckets.{edges-ordered, end, near-edge}
use Rattle.value_spread.proofs.Widening.{sum-zeros}
use Rattle.value_spread.proofs.Counting.{Crossing, below-length, below-no, below-ordered, below-up, below-yes, crossing, up-next, up-yes}

-- ---- the counts of the buckets

sum-past : (xs : List ℕ) (k y p : ℕ) → k < length xs → k < p → sum (take p (set xs k y)) + get_or xs k 0 ≡ sum (take p xs) + y
sum-past xs k y p inside before =
    ap (λ (l : List ℕ). sum l + get_or xs k 0) (take-set-lt p xs k y before)
    ∙ ap (λ (n : ℕ). sum (set (take p xs) k y) + n) (sym (get_or-take p xs k 0 before))
    ∙ sum_by-set (λ (n : ℕ). n) (take p xs) k y 0 (within (length-take p xs) inside before)
  where
    within : {n m : ℕ} → n ≡ min p m → k < m → k < p → k < n
    within e lt le = omega (arith, e, lt, le)

sum-before : (xs : List ℕ) (k y p : ℕ) → p ≤ k → sum (take p (set xs k y)) ≡ sum (take p xs)
sum-before xs k y p le = ap (λ (l : List ℕ). sum l) (take-set-le p xs k y le)

count-le : (xs : List ℕ) (k : ℕ) → k < length xs → get_or xs k 0 ≤ sum (take (k + 1) xs)
count-le xs k inside = omega (arith, get_or-take (k + 1) xs k 0 (omega arith), get_or-le-sum_by (λ (n : ℕ). n) (take (k + 1) xs) k 0 (omega (arith, length-take (k + 1) xs, inside)))

-- ---- no value

pub tells-none : (spread : Spread) → spread.counts.items ≡ [] → spread.first ≡ 0 → spread.count ≡ 0 → spread.least ≡ pos (2 ^ 63 - 1) → spread.greatest ≡ negsuc (2 ^ 63 - 1) → TellsOf spread []
tells-none spread empty first count least greatest = record {
  count = count;
  few = omega arith;
  least = least;
  greatest = greatest;
  places = subst (λ (l : List ℕ). spread.first + length l ≤ 2 * side) (sym empty) (omega (arith, first));
  counts = λ place _. ap (λ (l : List ℕ). sum (take (place - spread.first) l)) empty ∙ sum-zeros (place - spread.first) 0;
}

-- ---- one more value

-- One more value in the bucket at index `k` keeps the counts right. The list of counts begins with the bucket at index
-- `from`.
counts-more : (from : ℕ) (xs : List ℕ) (v : ℤ) (values : List ℤ) (k p : ℕ) → from ≤ k → k < from + length xs → length values < most_values → p ≤ 2 * side → HasPlace v k
    → ((place : ℕ) → place ≤ 2 * side → sum (take (place - from) xs) ≡ number_below (edge place) values)
    → sum (take (p - from) (set xs (k - from) (min (get_or xs (k - from) 0 + 1) (2 ^ 32 - 1)))) ≡ number_below (edge p) (v ∷ values)
counts-more from xs v values k p least reached few within at counts =
    elim (cases_lt k p) [
      | inl past ↦ one-more (sum-past xs (k - from) (min (get_or xs (k - from) 0 + 1) (2 ^ 32 - 1)) (p - from) inside (nearer-past past)) (counts p within) (below-yes (edge p) v values (under past)) fits
      | inr before ↦ sum-before xs (k - from) (min (get_or xs (k - from) 0 + 1) (2 ^ 32 - 1)) (p - from) (omega (arith, before)) ∙ counts p within ∙ sym (below-no (edge p) v values (over before))
    ]
  where
    inside : k - from < length xs
    inside = omega (arith, least, reached)

    nearer-past : k < p → k - from < p - from
    nearer-past lt = omega (arith, least, lt)

    next-place : k + 1 - from ≡ k - from + 1
    next-place = omega (arith, least)

    under : k < p → v <ℤ edge p
    under past = let n = at.next in omega (arith, ints, n, edges-ordered (k + 1) p (omega (arith, past)))

    over : p ≤ k → edge p ≤ℤ v
    over before = let f = at.first in omega (arith, ints, f, edges-ordered p k before)

    fits : get_or xs (k - from) 0 < 2 ^ 32 - 1
    fits = omega (arith, count-le xs (k - from) inside, sym (ap (λ (n : ℕ). sum (take n xs)) next-place) ∙ counts (k + 1) (omega (arith, at.within)), below-length (edge (k + 1)) values, few)

    one-more : {a b c d g : ℕ} → a + g ≡ b + min (g + 1) (2 ^ 32 - 1) → b ≡ c → d ≡ c + 1 → g < 2 ^ 32 - 1 → a ≡ d
    one-more e f h lt = omega (arith, e, f, h, lt)

pub tells-more : (old new : Spread) (v : ℤ) (values : List ℤ) (k : ℕ) (wide : List ℕ) → TellsOf old values → length values < most_values → HasPlace v k
    → Widens old.first old.counts.items k wide new.first
    → new.counts.items ≡ set wide (k - new.first) (min (get_or wide (k - new.first) 0 + 1) (2 ^ 32 - 1)) → new.count ≡ min (old.count + 1) (2 ^ 64 - 1)
    → new.least ≡ int_min old.least v → new.greatest ≡ int_max old.greatest v → TellsOf new (v ∷ values)
tells-more old new v values k wide tells few at widens items count least greatest = record {
  count = count ∙ next (length values) old.count tells.count few;
  few = few;
  least = least ∙ ap (λ (z : ℤ). int_min z v) tells.least;
  greatest = greatest ∙ ap (λ (z : ℤ). int_max z v) tells.greatest;
  places = subst (λ (n : ℕ). new.first + n ≤ 2 * side) (sym (ap (λ (l : List ℕ). length l) items ∙ length-set wide (k - new.first) _)) (widens.within tells.places);
  counts = λ place within. ap (λ (l : List ℕ). sum (take (place - new.first) l)) items
      ∙ counts-more new.first wide v values k place widens.from widens.reached few within at (λ to under. widens.same to ∙ tells.counts to under);
}
  where
    next : (n c : ℕ) → c ≡ n → n < most_values → min (c + 1) (2 ^ 64 - 1) ≡ suc n
    next n c e lt = omega (arith, e, lt)

-- ---- the least and the greatest

none-less : (values : List ℤ) → number_below (least_of values) values ≡ 0
none-less [] = refl
none-less (v ∷ values) =
    omega (arith, below-no (int_min (least_of values) v) v values (omega (arith, ints, clamps)), below-ordered (int_min (least_of values) v) (least_of values) values (omega (arith, ints, clamps)), none-less values)

all-up : (values : List ℤ) → number_up_to (greatest_of values) values ≡ length values
all-up [] = refl
all-up (v ∷ values) = done (up-yes (int_max (greatest_of values) v) v values (omega (arith, ints, clamps))) (all-up values) (wider (greatest_of values) (int_max (greatest_of values) v) (omega (arith, ints, clamps))) (up-length (int_max (greatest_of values) v) values)
  where
    up-length : (a : ℤ) (vs : List ℤ) → number_up_to a vs ≤ length vs
    up-length a vs = omega (arith, up-next a (a +ℤ pos 1) vs refl, below-length (a +ℤ pos 1) vs)

    wider : (a b : ℤ) → a ≤ℤ b → number_up_to a values ≤ number_up_to b values
    wider a b le = omega (arith, up-next a (a +ℤ pos 1) values refl, up-next b (b +ℤ pos 1) values refl, below-ordered (a +ℤ pos 1) (b +ℤ pos 1) values (omega (arith, ints, le)))

    done : {a b c l : ℕ} → a ≡ b + 1 → c ≡ l → c ≤ b → b ≤ l → a ≡ suc l
    done e f le up = omega (arith, e, f, le, up)

-- ---- the rank, and the value that is returned

pub rank-within : (n h : ℕ) → 0 < n → h ≤ 100 → rank n h ≤ n
rank-within n h some le = within (mul-le-mul_left n le)
  where
    within : n * h ≤ n * 100 → max 1 (div_ceil (n * h) 100) ≤ n
    within scaled = part (n * h) (omega (arith, scaled))
      where
        part : (x : ℕ) → x ≤ 100 * n → max 1 (x / 100 + min 1 (x % 100)) ≤ n
        part x most = omega (arith, most, some)

-- each value is below the end of the last bucket
pub all-below : (spread : Spread) (values : List ℤ) → TellsOf spread values → spread.greatest ≤ℤ pos (2 ^ 63 - 1) → number_below (edge 7424) values ≡ length values
all-below spread values tells most = omega (arith, all-up values, below-up (greatest_of values) (edge 7424) values under, below-length (edge 7424) values)
  where
    under : greatest_of values <ℤ edge 7424
    under = subst (λ (z : ℤ). z <ℤ edge 7424) tells.greatest (rw end (omega (arith, ints, most)))

one-least : (d : ℕ) → 1 ≤ max 1 d
one-least d = omega arith

nearer : (last x v : ℤ) → v ≤ℤ x → x ≤ℤ last → 64 * unsigned_abs (last -ℤ v) ≤ unsigned_abs v → 64 * unsigned_abs (x -ℤ v) ≤ unsigned_abs v
nearer last x v from to near = omega (arith, ints, from, to, near)

pub told : (spread : Spread) (values : List ℤ) (h place : ℕ) (x : ℤ) → TellsOf spread values → 0 < length values → h ≤ 100 → place < 2 * side
    → Reaches values (rank (length values) h) place → x ≡ int_min (int_max (edge (place + 1) -ℤ pos 1) spread.least) spread.greatest
    → RoundedUp values h x
told spread values h place x tells some le within reaches e = of (crossing values (rank (length values) h) (edge place) (edge (place + 1)) (edges-ordered place (place + 1) (omega arith)) reaches.before reaches.reached)
  where
    of : Crossing values (rank (length values) h) (edge place) (edge (place + 1)) → RoundedUp values h x
    of c = record {
      exact = c.value;
      percentile = record { less = c.less; enough = c.enough };
      least = omega (arith, ints, clamps, e, n, up-to-greatest);
      most = nearer (edge (place + 1) -ℤ pos 1) x c.value (omega (arith, ints, clamps, e, n, up-to-greatest)) (omega (arith, ints, clamps, e, n, from-least)) (near-edge c.value place within c.first c.next);
    }
      where
        n : c.value <ℤ edge (place + 1)
        n = c.next

        up-to-greatest : c.value ≤ℤ spread.greatest
        up-to-greatest =
            by_lt_z spread.greatest c.value
            (λ lt. absurd (omega (arith, all-up values, below-up (greatest_of values) c.value values (subst (λ (z : ℤ). z <ℤ c.value) tells.greatest lt), c.less, rank-within (length values) h some le)))
            (λ at. at)

        from-least : spread.least ≤ℤ c.value
        from-least =
            by_lt_z c.value spread.least
            (λ lt. absurd (omega (arith, none-less values, below-up c.value (least_of values) values (subst (λ (z : ℤ). c.value <ℤ z) tells.least lt), c.enough, one-least (div_ceil (length values * h) 100))))
            (λ at. at)
