-- The buckets of a spread: where each begins, and how wide it is.
use Rattle.std.proofs.Common.{◌≡◌, ℕ, zero, suc, ◌+◌, ◌-◌, ◌*◌, ◌/◌, ◌^◌, ◌<◌, ◌≤◌, inl, inr, refl, sym, ap, ◌∙◌, subst, arith, lt-ltb, le-ltb, ℤ, pos, negsuc, neg_ℤ, ◌≤ℤ◌, ◌<ℤ◌, ◌-ℤ◌}
use Rattle.std.specs.Prelude.{unsigned_abs}
use Rattle.std.proofs.lemmas.Bool.{cases_lt}
use Rattle.std.proofs.lemmas.Int.{ints}
use Rattle.std.proofs.lemmas.Grind.{pow_more}
use Rattle.std.proofs.lemmas.Nat.{pow_pos, pow-add, mul-le}
use Rattle.std.proofs.Math.Nat.{mul-le-mul_right, pow-le-pow_right, le-div_iff_mul-le, div-lt_iff_lt-mul, div-mul-le_self, lt-div-mul-add}
use Rattle.value_spread.specs.Spreads.{edge, first_in, side}
use Rattle.value_spread.specs.state.Places.{HasPlace, InBucket}

-- ---- magnitudes

narrow : (b : ℕ) → b < 128 → first_in b ≡ b
unfolding first_in
narrow b lt = subst (λ (s : ℕ). (b - 64 * s) * 2 ^ s ≡ b) (zero-shift b lt) (omega arith)
  where
    zero-shift : (b : ℕ) → b < 128 → 0 ≡ b / 64 - 1
    zero-shift b lt = omega arith

wide : (shift top : ℕ) → 64 ≤ top → top < 128 → first_in (64 * shift + top) ≡ top * 2 ^ shift
unfolding first_in
wide shift top least most = subst (λ (s : ℕ). (64 * shift + top - 64 * s) * 2 ^ s ≡ top * 2 ^ shift) (same-shift shift top least most) (ap (λ (t : ℕ). t * 2 ^ shift) (rest shift top))
  where
    same-shift : (shift top : ℕ) → 64 ≤ top → top < 128 → shift ≡ (64 * shift + top) / 64 - 1
    same-shift shift top least most = omega arith

    rest : (shift top : ℕ) → 64 * shift + top - 64 * shift ≡ top
    rest shift top = omega arith

next-wide : (shift top : ℕ) → 64 ≤ top → top < 128 → first_in (64 * shift + top + 1) ≡ (top + 1) * 2 ^ shift
next-wide shift top least most =
    elim (cases_lt (top + 1) 128) [
      | inl inside ↦ ap first_in (moved shift top) ∙ wide shift (top + 1) (omega (arith, least)) inside
      | inr last ↦ ap first_in (octave shift top most last) ∙ wide (shift + 1) 64 (omega arith) (omega arith) ∙ ap (λ (p : ℕ). 64 * p) (pow_more 2 shift) ∙ doubled (top + 1) (2 ^ shift) last (omega (arith, most))
    ]
  where
    moved : (s t : ℕ) → 64 * s + t + 1 ≡ 64 * s + (t + 1)
    moved s t = omega arith

    octave : (s t : ℕ) → t < 128 → 128 ≤ t + 1 → 64 * s + t + 1 ≡ 64 * (s + 1) + 64
    octave s t lt le = omega arith

    doubled : (t p : ℕ) → 128 ≤ t → t < 129 → 64 * (p * 2) ≡ t * p
    doubled t p le lt = subst (λ (n : ℕ). 64 * (p * 2) ≡ n * p) (last-top t lt le) (omega arith)
      where
        last-top : (t : ℕ) → t < 129 → 128 ≤ t → 128 ≡ t
        last-top t lt le = omega arith

-- The least magnitude of the bucket is below the least magnitude of the next bucket. The greatest magnitude of the
-- bucket exceeds the least by at most a 64th of the least.
pub record Width (bucket : ℕ) : Type 0 where
  pub rises : first_in bucket < first_in (bucket + 1)
  pub wide : 64 * (first_in (bucket + 1) - 1 - first_in bucket) ≤ first_in bucket

pub width : (bucket : ℕ) → Width bucket
width bucket =
    elim (cases_lt bucket 64) [
      | inl below ↦ of-narrow below
      | inr above ↦ subst Width (sym (parts bucket above)) (of-wide (bucket / 64 - 1) (bucket - 64 * (bucket / 64 - 1)) (omega (arith, above)) (omega (arith, above)))
    ]
  where
    of-narrow : bucket < 64 → Width bucket
    of-narrow below = record {
      rises = rw (narrow bucket (omega (arith, below)), narrow (bucket + 1) (omega (arith, below))) (omega arith);
      wide = rw (narrow bucket (omega (arith, below)), narrow (bucket + 1) (omega (arith, below))) (omega arith);
    }

    parts : (b : ℕ) → 64 ≤ b → b ≡ 64 * (b / 64 - 1) + (b - 64 * (b / 64 - 1))
    parts b le = omega arith

    of-wide : (shift top : ℕ) → 64 ≤ top → top < 128 → Width (64 * shift + top)
    of-wide shift top least most = record {
      rises = rw (wide shift top least most, next-wide shift top least most) (more top (2 ^ shift) (pow_pos shift));
      wide = rw (wide shift top least most, next-wide shift top least most) (part top (2 ^ shift) least);
    }
      where
        one-more : (t p : ℕ) → (t + 1) * p ≡ t * p + p
        one-more t p = omega arith

        more : (t p : ℕ) → 0 < p → t * p < (t + 1) * p
        more t p some = omega (arith, one-more t p, some)

        scaled : (t p : ℕ) → 64 ≤ t → 64 * p ≤ t * p
        scaled t p le = mul-le-mul_right p le

        part : (t p : ℕ) → 64 ≤ t → 64 * ((t + 1) * p - 1 - t * p) ≤ t * p
        part t p le = omega (arith, one-more t p, scaled t p le)

rises-by : (b k : ℕ) → first_in b ≤ first_in (b + k)
rises-by b zero = omega (arith, ap first_in (plus-zero b))
  where
    plus-zero : (b : ℕ) → b ≡ b + 0
    plus-zero b = omega arith
rises-by b (suc k) = omega (arith, rises-by b k, subst (λ (c : ℕ). first_in (b + k) < first_in c) (one-on b k) (width (b + k)).rises)
  where
    one-on : (b k : ℕ) → b + k + 1 ≡ b + suc k
    one-on b k = omega arith

pub ordered : (b c : ℕ) → b ≤ c → first_in b ≤ first_in c
ordered b c le = subst (λ (d : ℕ). first_in b ≤ first_in d) (rest b c le) (rises-by b (c - b))
  where
    rest : (b c : ℕ) → b ≤ c → b + (c - b) ≡ c
    rest b c le = omega arith

pub first-zero : first_in 0 ≡ 0
first-zero = narrow 0 (omega arith)

pub first-one : first_in 1 ≡ 1
first-one = narrow 1 (omega arith)

pub first-side : first_in side ≡ 2 ^ 63
first-side = wide 57 64 (omega arith) (omega arith)

-- ---- the bucket of a magnitude

pub in-narrow : (m : ℕ) → m < 128 → InBucket m m
in-narrow m lt = record {
  first = rw (narrow m lt) (omega arith);
  next = elim (cases_lt (m + 1) 128) [
    | inl inside ↦ rw (narrow (m + 1) inside) (omega arith)
    | inr last ↦ subst (λ (n : ℕ). m < first_in n) (sym (top m lt last)) (rw (wide 1 64 (omega arith) (omega arith)) (omega (arith, lt)))
  ];
  within = omega (arith, lt);
}
  where
    top : (m : ℕ) → m < 128 → 128 ≤ m + 1 → m + 1 ≡ 64 * 1 + 64
    top m lt le = omega arith

in-wide : (m shift top : ℕ) → 64 ≤ top → top < 128 → shift < 57 → top * 2 ^ shift ≤ m → m < (top + 1) * 2 ^ shift → InBucket m (64 * shift + top)
in-wide m shift top least most near first next = record {
  first = rw (wide shift top least most) first;
  next = rw (next-wide shift top least most) next;
  within = omega (arith, most, near);
}

pub shifted : (m k : ℕ) → 128 ≤ m → m < 2 * 2 ^ k → 6 ≤ k
shifted m k wide next =
    elim (cases_lt k 6) [
      | inl below ↦ absurd (no (2 ^ k) next (pow-le-pow_right (omega arith) (five k below)))
      | inr above ↦ above
    ]
  where
    five : (k : ℕ) → k < 6 → k ≤ 5
    five k lt = omega arith

    no : (p : ℕ) → m < 2 * p → p ≤ 32 → ⊥
    no p lt le = omega (arith, le, wide, lt)

pub in-octave : (m k : ℕ) → 128 ≤ m → m < 2 ^ 63 → 2 ^ k ≤ m → m < 2 * 2 ^ k → InBucket m (64 * (k - 6) + m / 2 ^ (k - 6))
in-octave m k least most power next =
    in-wide m (k - 6) (m / 2 ^ (k - 6)) ((le-div_iff_mul-le (pow_pos (k - 6))).1 (omega (arith, power, six))) ((div-lt_iff_lt-mul (pow_pos (k - 6))).1 (omega (arith, next, six))) below
    (div-mul-le_self m (2 ^ (k - 6))) (omega (arith, lt-div-mul-add {a = m} (pow_pos (k - 6)), one-more (m / 2 ^ (k - 6)) (2 ^ (k - 6))))
  where
    one-more : (t p : ℕ) → (t + 1) * p ≡ t * p + p
    one-more t p = omega arith

    back : (k : ℕ) → 6 ≤ k → 6 + (k - 6) ≡ k
    back k le = omega arith

    six : 2 ^ k ≡ 64 * 2 ^ (k - 6)
    six = subst (λ (n : ℕ). 2 ^ n ≡ 64 * 2 ^ (k - 6)) (back k (shifted m k least next)) (pow-add 2 6 (k - 6))

    below : k - 6 < 57
    below =
        elim (cases_lt k 63) [
          | inl inside ↦ less k inside (shifted m k least next)
          | inr past ↦ absurd (no (2 ^ k) (pow-le-pow_right (omega arith) past) power)
        ]
      where
        less : (k : ℕ) → k < 63 → 6 ≤ k → k - 6 < 57
        less k lt le = omega arith

        no : (p : ℕ) → 2 ^ 63 ≤ p → p ≤ m → ⊥
        no p le under = omega (arith, le, under, most)

-- ---- the first magnitude of a bucket

pub product-fits : (bucket shift : ℕ) → bucket ≤ side → shift ≡ bucket / 64 - 1 → (bucket - 64 * shift) * 2 ^ shift < 2 ^ 64
product-fits bucket shift within e = below (bucket - 64 * shift) (2 ^ shift) (top bucket shift e) (pow-le-pow_right (omega arith) (few bucket shift within e))
  where
    top : (b s : ℕ) → s ≡ b / 64 - 1 → b - 64 * s < 128
    top b s e = omega arith

    few : (b s : ℕ) → b ≤ 3712 → s ≡ b / 64 - 1 → s ≤ 57
    few b s le e = omega arith

    below : (t p : ℕ) → t < 128 → p ≤ 2 ^ 57 → t * p < 2 ^ 64
    below t p lt le = omega (arith, mul-le t p 127 (2 ^ 57) (omega (arith, lt)) le)

pub first-is : (bucket shift : ℕ) → shift ≡ bucket / 64 - 1 → (bucket - 64 * shift) * 2 ^ shift ≡ first_in bucket
unfolding first_in
first-is bucket shift e = ap (λ (s : ℕ). (bucket - 64 * s) * 2 ^ s) e

pub below-side : (bucket : ℕ) → bucket < side → first_in bucket < 2 ^ 63
below-side bucket lt = omega (arith, (width bucket).rises, ordered (bucket + 1) side (omega (arith, lt)), first-side)

pub up-to-side : (bucket : ℕ) → bucket ≤ side → first_in bucket ≤ 2 ^ 63
up-to-side bucket le = omega (arith, ordered bucket side le, first-side)

pub above-zero : (bucket : ℕ) → 0 < bucket → 1 ≤ first_in bucket
above-zero bucket some = omega (arith, ordered 1 bucket (omega (arith, some)), first-one)

-- ---- the edges

pub edge-low : (p : ℕ) → p ≤ side → edge p ≡ neg_ℤ (pos (first_in (side - p)))
unfolding edge
edge-low p le =
    elim (cases_lt p side) [
      | inl below ↦ rw (lt-ltb p side below) refl
      | inr above ↦ rw (le-ltb p side above, none-left p le, nothing p above, first-zero) refl
    ]
  where
    none-left : (p : ℕ) → p ≤ 3712 → p - 3712 ≡ 0
    none-left p le = omega arith

    nothing : (p : ℕ) → 3712 ≤ p → 3712 - p ≡ 0
    nothing p le = omega arith

pub edge-high : (p : ℕ) → side ≤ p → edge p ≡ pos (first_in (p - side))
unfolding edge
edge-high p le = rw (le-ltb p side le) refl

edge-step : (p : ℕ) → edge p ≤ℤ edge (p + 1)
edge-step p =
    elim (cases_lt p side) [
      | inl below ↦ rw (edge-low p (omega (arith, below)), edge-low (p + 1) (omega (arith, below))) (omega (arith, ints, ordered (side - (p + 1)) (side - p) (omega arith)))
      | inr above ↦ rw (edge-high p above, edge-high (p + 1) (omega (arith, above))) (omega (arith, ints, ordered (p - side) (p + 1 - side) (omega arith)))
    ]

edges-by : (p k : ℕ) → edge p ≤ℤ edge (p + k)
edges-by p zero = subst (λ (q : ℕ). edge p ≤ℤ edge q) (plus-zero p) (omega (arith, ints))
  where
    plus-zero : (b : ℕ) → b ≡ b + 0
    plus-zero b = omega arith
edges-by p (suc k) = omega (arith, ints, edges-by p k, subst (λ (q : ℕ). edge (p + k) ≤ℤ edge q) (one-on p k) (edge-step (p + k)))
  where
    one-on : (p k : ℕ) → p + k + 1 ≡ p + suc k
    one-on p k = omega arith

pub edges-ordered : (p q : ℕ) → p ≤ q → edge p ≤ℤ edge q
edges-ordered p q le = subst (λ (r : ℕ). edge p ≤ℤ edge r) (rest p q le) (edges-by p (q - p))
  where
    rest : (b c : ℕ) → b ≤ c → b + (c - b) ≡ c
    rest b c le = omega arith

pub end : edge 7424 ≡ pos (2 ^ 63)
end = edge-high 7424 (omega arith) ∙ ap (λ (n : ℕ). pos n) first-side

-- ---- the place of a value

pub place-low : (v : ℤ) (m b : ℕ) → v ≡ neg_ℤ (pos (m + 1)) → InBucket m b → HasPlace v (3711 - b)
place-low v m b e i = record {
  first = rw (edge-low (3711 - b) (omega arith), up b i.within) (omega (arith, ints, e, i.next));
  next = rw (edge-low (3711 - b + 1) (omega arith), down b i.within) (omega (arith, ints, e, i.first));
  within = omega arith;
}
  where
    up : (b : ℕ) → b < 3712 → 3712 - (3711 - b) ≡ b + 1
    up b lt = omega arith

    down : (b : ℕ) → b < 3712 → 3712 - (3711 - b + 1) ≡ b
    down b lt = omega arith

pub place-high : (v : ℤ) (m b : ℕ) → v ≡ pos m → InBucket m b → HasPlace v (3712 + b)
place-high v m b e i = record {
  first = rw (edge-high (3712 + b) (omega arith), same b) (omega (arith, ints, e, i.first));
  next = rw (edge-high (3712 + b + 1) (omega arith), more b) (omega (arith, ints, e, i.next));
  within = omega (arith, i.within);
}
  where
    same : (b : ℕ) → 3712 + b - 3712 ≡ b
    same b = omega arith

    more : (b : ℕ) → 3712 + b + 1 - 3712 ≡ b + 1
    more b = omega arith

-- ---- the last value of a bucket

pub last-low : (p : ℕ) → p < side → pos 0 -ℤ pos 1 -ℤ pos (first_in (3711 - p)) ≡ edge (p + 1) -ℤ pos 1
last-low p lt = rw (edge-low (p + 1) (omega (arith, lt)), same p) (omega (arith, ints))
  where
    same : (p : ℕ) → 3712 - (p + 1) ≡ 3711 - p
    same p = omega arith

pub last-high : (p : ℕ) → side ≤ p → pos (first_in (p + 1 - 3712) - 1) ≡ edge (p + 1) -ℤ pos 1
last-high p le = rw (edge-high (p + 1) (omega (arith, le))) (omega (arith, ints, above-zero (p + 1 - 3712) (omega (arith, le))))

low-core : (m f g : ℕ) → f ≤ m → m < g → 64 * (g - 1 - f) ≤ f → 64 * unsigned_abs (neg_ℤ (pos f) -ℤ pos 1 -ℤ negsuc m) ≤ suc m
low-core m f g least most wide = rw (apart m f least) (omega (arith, least, most, wide))
  where
    apart : (m f : ℕ) → f ≤ m → neg_ℤ (pos f) -ℤ pos 1 -ℤ negsuc m ≡ pos (m - f)
    apart m f le = omega (arith, ints, le)

high-core : (m f g : ℕ) → f ≤ m → m < g → 64 * (g - 1 - f) ≤ f → 64 * unsigned_abs (pos g -ℤ pos 1 -ℤ pos m) ≤ m
high-core m f g least most wide = rw (apart m g most) (omega (arith, least, most, wide))
  where
    apart : (m g : ℕ) → m < g → pos g -ℤ pos 1 -ℤ pos m ≡ pos (g - 1 - m)
    apart m g lt = omega (arith, ints, lt)

-- the greatest value of a bucket exceeds each value `v` of the bucket by at most a 64th of the magnitude of `v`
pub near-edge : (v : ℤ) (p : ℕ) → p < 2 * side → edge p ≤ℤ v → v <ℤ edge (p + 1) → 64 * unsigned_abs (edge (p + 1) -ℤ pos 1 -ℤ v) ≤ unsigned_abs v
near-edge (negsuc m) p within first next =
    elim (cases_lt p 3712) [
      | inl below ↦
          let f : neg_ℤ (pos (first_in (3711 - p + 1))) ≤ℤ negsuc m = subst (λ (z : ℤ). z ≤ℤ negsuc m) (edge-low p (omega (arith, below)) ∙ ap (λ (b : ℕ). neg_ℤ (pos (first_in b))) (up p below)) first in
          let n : negsuc m <ℤ neg_ℤ (pos (first_in (3711 - p))) = subst (λ (z : ℤ). negsuc m <ℤ z) (edge-low (p + 1) (omega (arith, below)) ∙ ap (λ (b : ℕ). neg_ℤ (pos (first_in b))) (same p)) next in
          rw (edge-low (p + 1) (omega (arith, below)), same p)
          (low-core m (first_in (3711 - p)) (first_in (3711 - p + 1)) (omega (arith, ints, n)) (omega (arith, ints, f)) (width (3711 - p)).wide)
      | inr above ↦ absurd (none (first_in (p - side)) (subst (λ (z : ℤ). z ≤ℤ negsuc m) (edge-high p above) first))
    ]
  where
    up : (p : ℕ) → p < 3712 → 3712 - p ≡ 3711 - p + 1
    up p lt = omega arith

    same : (p : ℕ) → 3712 - (p + 1) ≡ 3711 - p
    same p = omega arith

    none : (n : ℕ) → pos n ≤ℤ negsuc m → ⊥
    none n le = omega (arith, ints, le)
near-edge (pos m) p within first next =
    elim (cases_lt p 3712) [
      | inl below ↦ absurd (none (first_in (3712 - (p + 1))) (subst (λ (z : ℤ). pos m <ℤ z) (edge-low (p + 1) (omega (arith, below))) next))
      | inr above ↦
          let f : pos (first_in (p - 3712)) ≤ℤ pos m = subst (λ (z : ℤ). z ≤ℤ pos m) (edge-high p above) first in
          let n : pos m <ℤ pos (first_in (p - 3712 + 1)) = subst (λ (z : ℤ). pos m <ℤ z) (edge-high (p + 1) (omega (arith, above)) ∙ ap (λ (b : ℕ). pos (first_in b)) (up p above)) next in
          rw (edge-high (p + 1) (omega (arith, above)), up p above)
          (high-core m (first_in (p - 3712)) (first_in (p - 3712 + 1)) (omega (arith, ints, f)) (omega (arith, ints, n)) (width (p - 3712)).wide)
    ]
  where
    up : (p : ℕ) → 3712 ≤ p → p + 1 - 3712 ≡ p - 3712 + 1
    up p le = omega arith

    none : (n : ℕ) → pos m <ℤ neg_ℤ (pos n) → ⊥
    none n lt = omega (arith, ints, lt)
