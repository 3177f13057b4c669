-- If equal elements keep their order, a list can be sorted in only one way. So every stable sort gives the same list as
-- sorting by insertion.
use Rattle.std.proofs.Common.{◌≡◌, ℕ, suc, ◌<◌, ◌≤◌, Bool, true, false, not, cond, List, [], ◌∷◌, length, filter, refl, sym, ap, ◌∙◌, subst, arith, get_or}
use Rattle.std.specs.Cmp.{IsStrictWeakOrder}
use Rattle.std.specs.List.Sorted.{IsSortedBy, IsStableBy, ties}
use Rattle.std.proofs.lemmas.Bool.{and_parts, and_from, not-true, not_from_false, both_ways, cond-true, cond-false}
use Rattle.std.proofs.lemmas.List.Sorted.{sorted_far}

module _ {X : Type 0} (lt : X → X → Bool) where
  -- a list with x inserted directly after the leading elements that are less than x
  abbrev pub put : X → List X → List X
  put x [] = x ∷ []
  put x (y ∷ ys) = cond (lt y x) (y ∷ put x ys) (x ∷ y ∷ ys)

  abbrev pub sorted : List X → List X
  sorted [] = []
  sorted (x ∷ xs) = put x (sorted xs)

module _ {X : Type 0} (lt : X → X → Bool) (o : IsStrictWeakOrder lt) where
  -- no element of the list is less than x
  Least : X → List X → Type 0
  Least x [] = Unit {0}
  Least x (y ∷ ys) = (lt y x ≡ false) × Least x ys

  -- no element of the list is less than an earlier element
  Rising : List X → Type 0
  Rising [] = Unit {0}
  Rising (x ∷ xs) = Least x xs × Rising xs

  -- ---- ties

  ties-parts : (x y : X) → ties lt x y ≡ true → (lt x y ≡ false) × (lt y x ≡ false)
  ties-parts x y e =
      let parts : (not (lt x y) ≡ true) × (not (lt y x) ≡ true) = and_parts _ _ e in
      (not-true _ parts.0, not-true _ parts.1)

  ties-from : (x y : X) → lt x y ≡ false → lt y x ≡ false → ties lt x y ≡ true
  ties-from x y a b = and_from _ _ (not_from_false _ a) (not_from_false _ b)

  not-less : (x : X) → lt x x ≡ false
  not-less x = by_case (lt x x) refl
    where
      by_case : (r : Bool) → lt x x ≡ r → lt x x ≡ false
      by_case true e = o.one_way x x e
      by_case false e = e

  ties-self : (x : X) → ties lt x x ≡ true
  ties-self x = ties-from x x (not-less x) (not-less x)

  -- ---- from the sort of the library

  least-from : (x : X) (ys : List X) → ((j : ℕ) (d : X) → j < length ys → lt (get_or ys j d) x ≡ false) → Least x ys
  unfolding Least
  least-from x [] far = tt
  least-from x (y ∷ ys) far = (far 0 x (omega arith), least-from x ys (λ j d h. far (suc j) d (omega arith)))

  rising-from : (xs : List X) → ((i j : ℕ) (d : X) → i ≤ j → j < length xs → lt (get_or xs j d) (get_or xs i d) ≡ false) → Rising xs
  unfolding Rising
  rising-from [] far = tt
  rising-from (x ∷ xs) far = (least-from x xs (λ j d h. far 0 (suc j) d (omega arith) (omega arith)), rising-from xs (λ i j d h k. far (suc i) (suc j) d (omega arith) (omega arith)))

  rising : (xs : List X) → IsSortedBy lt xs → Rising xs
  rising xs up = rising-from xs (sorted_far lt o xs up)

  -- ---- one order

  not-below : (y z w : X) (ys l : List X) → Least y ys → filter (ties lt z) ys ≡ w ∷ l → lt z y ≡ false
  unfolding Least
  not-below y z w [] l least e = absurd cc
  not-below y z w (x ∷ ys) l least e = by_case (ties lt z x) refl (λ rest. not-below y z w ys l least.1 rest)
    where
      by_case : (r : Bool) → ties lt z x ≡ r → (filter (ties lt z) ys ≡ w ∷ l → lt z y ≡ false) → lt z y ≡ false
      by_case true t next = o.chain z x y (ties-parts z x t).0 least.0
      by_case false t next = next (sym (cond-false _ _ _ t) ∙ e)

  first-of : (x : X) (xs : List X) → filter (ties lt x) (x ∷ xs) ≡ x ∷ filter (ties lt x) xs
  first-of x xs = cond-true _ _ _ (ties-self x)

  heads : (a b : X) (xs ys : List X) → a ∷ xs ≡ b ∷ ys → a ≡ b
  heads a b xs ys e = cc

  tails : (a b : X) (xs ys : List X) → a ∷ xs ≡ b ∷ ys → xs ≡ ys
  tails a b xs ys e = cc

  -- Suppose that two lists rise, and that for each x the elements that tie with x are the same in both lists. Then the
  -- two lists have the same first element.
  first-same : (y z : X) (ys zs : List X) → Least y ys → Least z zs
      → ((x : X) → filter (ties lt x) (y ∷ ys) ≡ filter (ties lt x) (z ∷ zs)) → y ≡ z
  unfolding Least
  first-same y z ys zs least_y least_z same =
      let above : lt z y ≡ false = not-below y z z (y ∷ ys) (filter (ties lt z) zs) (not-less y, least_y) (same z ∙ first-of z zs) in
      let below : lt y z ≡ false = not-below z y y (z ∷ zs) (filter (ties lt y) ys) (not-less z, least_z) (sym (same y) ∙ first-of y ys) in
      heads y z (filter (ties lt y) ys) (filter (ties lt y) zs)
      (sym (first-of y ys) ∙ same y ∙ cond-true _ _ _ (ties-from y z below above))

  rest-same : (x y z : X) (ys zs : List X) → y ≡ z → filter (ties lt x) (y ∷ ys) ≡ filter (ties lt x) (z ∷ zs) → filter (ties lt x) ys ≡ filter (ties lt x) zs
  rest-same x y z ys zs e same = by_case (ties lt x y) refl
    where
      there : (r : Bool) → ties lt x y ≡ r → ties lt x z ≡ r
      there r t = ap (ties lt x) (sym e) ∙ t

      by_case : (r : Bool) → ties lt x y ≡ r → filter (ties lt x) ys ≡ filter (ties lt x) zs
      by_case true t = tails y z _ _ (sym (cond-true _ _ _ t) ∙ same ∙ cond-true _ _ _ (there true t))
      by_case false t = sym (cond-false _ _ _ t) ∙ same ∙ cond-false _ _ _ (there false t)

  unique : (ys zs : List X) → Rising ys → Rising zs → ((x : X) → filter (ties lt x) ys ≡ filter (ties lt x) zs) → ys ≡ zs
  unfolding Rising
  unique [] [] up_y up_z same = refl
  unique [] (z ∷ zs) up_y up_z same = let none : [] ≡ z ∷ filter (ties lt z) zs = same z ∙ first-of z zs in absurd cc
  unique (y ∷ ys) [] up_y up_z same = let none : [] ≡ y ∷ filter (ties lt y) ys = sym (same y) ∙ first-of y ys in absurd cc
  unique (y ∷ ys) (z ∷ zs) up_y up_z same =
      let first : y ≡ z = first-same y z ys zs up_y.0 up_z.0 same in
      ap (λ (x : X). x ∷ ys) first ∙ ap (λ (l : List X). z ∷ l) (unique ys zs up_y.1 up_z.1 (λ x. rest-same x y z ys zs first (same x)))

  -- ---- the result of sorting by insertion rises

  least-put : (y x : X) (ys : List X) → lt x y ≡ false → Least y ys → Least y (put lt x ys)
  unfolding Least
  least-put y x [] e least = (e, tt)
  least-put y x (z ∷ ys) e least = by_case (lt z x) refl (least-put y x ys e least.1)
    where
      by_case : (r : Bool) → lt z x ≡ r → Least y (put lt x ys) → Least y (put lt x (z ∷ ys))
      by_case true t rest = let P : List X → Type 0 = Least y in subst P (sym (cond-true _ _ _ t)) (least.0, rest)
      by_case false t rest = let P : List X → Type 0 = Least y in subst P (sym (cond-false _ _ _ t)) (e, least)

  least-chain : (x y : X) (ys : List X) → lt y x ≡ false → Least y ys → Least x ys
  unfolding Least
  least-chain x y [] e least = tt
  least-chain x y (z ∷ ys) e least = (o.chain z y x least.0 e, least-chain x y ys e least.1)

  rising-put : (x : X) (ys : List X) → Rising ys → Rising (put lt x ys)
  unfolding Rising Least
  rising-put x [] up = (tt, tt)
  rising-put x (y ∷ ys) up = by_case (lt y x) refl (rising-put x ys up.1)
    where
      by_case : (r : Bool) → lt y x ≡ r → Rising (put lt x ys) → Rising (put lt x (y ∷ ys))
      by_case true t rest = let P : List X → Type 0 = Rising in subst P (sym (cond-true _ _ _ t)) (least-put y x ys (o.one_way y x t) up.0, rest)
      by_case false t rest = let P : List X → Type 0 = Rising in subst P (sym (cond-false _ _ _ t)) ((t, least-chain x y ys t up.0), up)

  rising-sorted : (xs : List X) → Rising (sorted lt xs)
  unfolding Rising
  rising-sorted [] = tt
  rising-sorted (x ∷ xs) = rising-put x (sorted lt xs) (rising-sorted xs)

  -- putting x into a list keeps the order of the elements that tie
  ties-put : (z x : X) (ys : List X) → filter (ties lt z) (put lt x ys) ≡ filter (ties lt z) (x ∷ ys)
  ties-put z x [] = refl
  ties-put z x (y ∷ ys) = by_case (lt y x) refl (ties-put z x ys)
    where
      both : (r s : Bool) → ties lt z y ≡ r → ties lt z x ≡ s → lt y x ≡ true → cond r (y ∷ cond s (x ∷ filter (ties lt z) ys) (filter (ties lt z) ys)) (cond s (x ∷ filter (ties lt z) ys) (filter (ties lt z) ys))
          ≡ cond s (x ∷ cond r (y ∷ filter (ties lt z) ys) (filter (ties lt z) ys)) (cond r (y ∷ filter (ties lt z) ys) (filter (ties lt z) ys))
      both true true a b less = absurd (both_ways _ (o.chain y z x (ties-parts z y a).1 (ties-parts z x b).0) less)
      both true false a b less = refl
      both false true a b less = refl
      both false false a b less = refl

      by_case : (r : Bool) → lt y x ≡ r → filter (ties lt z) (put lt x ys) ≡ filter (ties lt z) (x ∷ ys) → filter (ties lt z) (put lt x (y ∷ ys)) ≡ filter (ties lt z) (x ∷ y ∷ ys)
      by_case true t rest =
          ap (filter (ties lt z)) (cond-true _ _ _ t)
          ∙ ap (λ (l : List X). cond (ties lt z y) (y ∷ l) l) rest
          ∙ both (ties lt z y) (ties lt z x) refl refl t
      by_case false t rest = ap (filter (ties lt z)) (cond-false _ _ _ t)

  ties-sorted : (z : X) (xs : List X) → filter (ties lt z) (sorted lt xs) ≡ filter (ties lt z) xs
  ties-sorted z [] = refl
  ties-sorted z (x ∷ xs) = ties-put z x (sorted lt xs) ∙ ap (λ (l : List X). cond (ties lt z x) (x ∷ l) l) (ties-sorted z xs)

  -- the result of a stable sort is the result of sorting by insertion
  pub stable-is : (xs ys : List X) → IsSortedBy lt ys → IsStableBy lt xs ys → ys ≡ sorted lt xs
  stable-is xs ys up stable = unique ys (sorted lt xs) (rising ys up) (rising-sorted xs) (λ x. stable x ∙ sym (ties-sorted x xs))
