-- A list whose first items are overwritten.
use Rattle.std.proofs.Common.{◌≡◌, ◌+◌, ◌-◌, ◌≤◌, ◌<◌, ◌++◌, ◌⊎◌, inl, inr, length, take, drop, ℕ, List, sym, ap, subst, ◌∙◌, arith, length-append, length-drop}
use Rattle.std.proofs.lemmas.Bool.{cases_lt}
use Rattle.std.proofs.lemmas.List.{drop-take, length-take-le, take-take, take-append-le}
use Rattle.std.proofs.Math.Seq.{take-append-add}
use Rattle.std.specs.List.{refill}

rest_stays : (k : ℕ) (xs w : List ℕ) → take (length w + k) (w ++ drop (length w) xs) ≡ take (length w + k) (w ++ drop (length w) (take (length w + k) xs))
rest_stays k xs w =
    take-append-add w (drop (length w) xs) k
    ∙ ap (λ (x : List ℕ). w ++ x) (sym (ap (take k) (drop-take (length w) k xs) ∙ take-take k k (drop (length w) xs) (omega arith)))
    ∙ sym (take-append-add w (drop (length w) (take (length w + k) xs)) k)

none_stays : (n : ℕ) (xs w : List ℕ) → n ≤ length w → take n (w ++ drop (length w) xs) ≡ take n (w ++ drop (length w) (take n xs))
none_stays n xs w le = take-append-le n w (drop (length w) xs) le ∙ sym (take-append-le n w (drop (length w) (take n xs)) le)

front_left : (n : ℕ) (xs w : List ℕ) → (length w < n) ⊎ (n ≤ length w) → take n (w ++ drop (length w) xs) ≡ take n (w ++ drop (length w) (take n xs))
front_left n xs w (inr le) = none_stays n xs w le
front_left n xs w (inl lt) =
    let sum : length w + (n - length w) ≡ n = omega arith in
    subst (λ (m : ℕ). take m (w ++ drop (length w) xs) ≡ take m (w ++ drop (length w) (take m xs))) sum (rest_stays (n - length w) xs w)

pub refill_front : (n m : ℕ) (xs w : List ℕ) → n ≤ m → n ≤ length xs
    → take n (refill m xs (w ++ drop (length w) xs)) ≡ refill (length (take n xs)) (take n xs) w
refill_front n m xs w within le =
    let long : n ≤ length (w ++ drop (length w) xs) = omega (arith, length-append w (drop (length w) xs), length-drop (length w) xs) in
    take-take n m (w ++ drop (length w) xs ++ drop (length (w ++ drop (length w) xs)) xs) within
    ∙ take-append-le n (w ++ drop (length w) xs) (drop (length (w ++ drop (length w) xs)) xs) long
    ∙ front_left n xs w (cases_lt (length w) n)
    ∙ ap (λ (k : ℕ). take k (w ++ drop (length w) (take n xs))) (sym (length-take-le n xs le))
