-- The library's stable sort leaves copies sorted by arrival.
use Rattle.std.proofs.Common.{◌≡◌, ℕ, ℤ, Bool, true, false, cond, List, [], ◌∷◌, int_lt, refl, ap, ◌∙◌}
use Rattle.std.specs.declared.cmp.Ordering.TheVariants.{Less, Equal, Greater}
use Rattle.std.specs.Cmp.{int_cmp_total}
use Rattle.std.specs.List.Sorted.{IsSortedByKey, IsStableByKey}
use Rattle.std.specs.Ordering.{int_cmp, is_lt}
use Rattle.std.proofs.lemmas.List.Sorted.{ranks_by}
use Rattle.soak_run.specs.Network.{by_arrival, put_in}
use Rattle.soak_run.proofs.Sorting.{put, sorted, stable-is}

-- one copy arrives before another
earlier : ℤ × ℕ → ℤ × ℕ → Bool
earlier x y = is_lt (int_cmp x.0 y.0)

earlier-is : (x y : ℤ × ℕ) → earlier x y ≡ int_lt x.0 y.0
unfolding earlier
earlier-is x y = by_case (int_lt x.0 y.0) (int_lt y.0 x.0)
  where
    by_case : (r s : Bool) → is_lt (cond r Less (cond s Greater Equal)) ≡ r
    by_case true s = refl
    by_case false true = refl
    by_case false false = refl

put-is : (x : ℤ × ℕ) (ys : List (ℤ × ℕ)) → put earlier x ys ≡ put_in x ys
put-is x [] = refl
put-is x (y ∷ ys) =
    ap (λ (b : Bool). cond b (y ∷ put earlier x ys) (x ∷ y ∷ ys)) (earlier-is y x)
    ∙ ap (λ (l : List (ℤ × ℕ)). cond (int_lt y.0 x.0) (y ∷ l) (x ∷ y ∷ ys)) (put-is x ys)

sorted-is : (xs : List (ℤ × ℕ)) → sorted earlier xs ≡ by_arrival xs
sorted-is [] = refl
sorted-is (x ∷ xs) = put-is x (sorted earlier xs) ∙ ap (put_in x) (sorted-is xs)

pub arrivals : (xs ys : List (ℤ × ℕ)) → IsSortedByKey {X = ℤ × ℕ} (λ copy. copy.0) int_cmp ys → IsStableByKey {X = ℤ × ℕ} (λ copy. copy.0) int_cmp xs ys → ys ≡ by_arrival xs
unfolding earlier
arrivals xs ys up stable = stable-is earlier (ranks_by int_cmp_total (λ copy. copy.0)) xs ys up stable ∙ sorted-is xs
