-- Values of 24 bits, with and without labels.
use Rattle.std.proofs.Common.{◌≡◌, ℕ, zero, suc, ◌+◌, ◌*◌, ◌≤◌, List, ◌∷◌, ◌++◌, length, take, drop, refl, sym, ap, subst, ◌∙◌, append_assoc, append-nil, arith}
use Rattle.std.proofs.Math.Seq.{drop-append-add, drop-append_seam, take-add, take-append_seam}
use Rattle.std.proofs.lemmas.List.{drop-append-le, drop-drop, length-drop, length-take-le, take-append-drop, take-append-le, take_all}
use Rattle.am824_gateway.specs.Labels.{labelled, unlabelled}
use Rattle.am824_gateway.proofs.GatewayLemmas.{length_labelled, length_unlabelled}
use Rattle.am824_gateway.proofs.ListLemmas.{length-part}

-- ---- parts of lists

take_here : (xs ys : List ℕ) (n : ℕ) → length xs ≡ n → take n (xs ++ ys) ≡ xs
take_here xs ys n e = subst (λ (k : ℕ). take k (xs ++ ys) ≡ xs) e (take-append_seam xs ys)

drop_here : (xs ys : List ℕ) (n : ℕ) → length xs ≡ n → drop n (xs ++ ys) ≡ ys
drop_here xs ys n e = subst (λ (k : ℕ). drop k (xs ++ ys) ≡ ys) e (drop-append_seam xs ys)

dropped : (m n k : ℕ) (xs : List ℕ) → n + m ≡ k → drop m (drop n xs) ≡ drop k xs
dropped m n k xs e = drop-drop m n xs ∙ ap (λ (i : ℕ). drop i xs) e

-- ---- the first `a` elements and the `b` elements after them

labels_both : (a b : ℕ) (v : List ℕ) → labelled (a + b) v ≡ labelled a v ++ labelled b (drop (3 * a) v)
labels_both a zero v = (let same : a + 0 ≡ a = omega arith in rw same (sym (append-nil (labelled a v))))
labels_both a (suc b) v =
    let next : a + suc b ≡ suc (a + b) = omega arith in
    let before = labels_both a b v in
    let at = dropped (3 * b) (3 * a) (3 * (a + b)) v (omega arith) in
    rw (next, before, ← at) (append_assoc (labelled a v) (labelled b (drop (3 * a) v)) (0x40 ∷ take 3 (drop (3 * b) (drop (3 * a) v))))

values_both : (a b : ℕ) (q : List ℕ) → unlabelled (a + b) q ≡ unlabelled a q ++ unlabelled b (drop (4 * a) q)
values_both a zero q = (let same : a + 0 ≡ a = omega arith in rw same (sym (append-nil (unlabelled a q))))
values_both a (suc b) q =
    let next : a + suc b ≡ suc (a + b) = omega arith in
    let before = values_both a b q in
    let at = dropped (4 * b + 1) (4 * a) (4 * (a + b) + 1) q (omega arith) in
    rw (next, before, ← at) (append_assoc (unlabelled a q) (unlabelled b (drop (4 * a) q)) (take 3 (drop (4 * b + 1) (drop (4 * a) q))))

-- ---- later quadlets make no difference

values_front : (n : ℕ) (xs ys : List ℕ) → 4 * n ≤ length xs → unlabelled n (xs ++ ys) ≡ unlabelled n xs
values_front zero xs ys h = refl
values_front (suc n) xs ys h =
    let before = values_front n xs ys (omega arith) in
    let cut = drop-append-le (4 * n + 1) xs ys (omega arith) in
    let long : 3 ≤ length (drop (4 * n + 1) xs) = simp length-drop (omega arith) in
    let value = take-append-le 3 (drop (4 * n + 1) xs) ys long in
    rw (before, cut, value) refl

-- ---- labels added, then removed

pub back : (n : ℕ) (v : List ℕ) → 3 * n ≤ length v → unlabelled n (labelled n v) ≡ take (3 * n) v
back zero v h = refl
back (suc n) v h =
    let quad : List ℕ = 0x40 ∷ take 3 (drop (3 * n) v) in
    let size = length_labelled n v (omega arith) in
    let front = values_front n (labelled n v) quad (omega (arith, size)) in
    let before = back n v (omega arith) in
    let at = drop-append-add (labelled n v) quad 1 in
    let place : length (labelled n v) + 1 ≡ 4 * n + 1 = omega (arith, size) in
    let at : drop (4 * n + 1) (labelled n v ++ quad) ≡ take 3 (drop (3 * n) v) = subst (λ (k : ℕ). drop k (labelled n v ++ quad) ≡ drop 1 quad) place at in
    let value = length-part (3 * n) 3 v (omega arith) in
    let all = take_all 3 (take 3 (drop (3 * n) v)) (omega (arith, value)) in
    let next : 3 * suc n ≡ 3 * n + 3 = omega arith in
    rw (front, before, at, all, next) (sym (take-add (3 * n) 3 v))

-- ---- part of a list with its labels added or removed

-- If all values get labels, and quadlets a to a + b - 1 then lose their labels, the result is values a to a + b - 1 of
-- `v`.
pub labels_part : (a b d : ℕ) (v : List ℕ) → 3 * (a + b + d) ≤ length v → unlabelled b (take (4 * b) (drop (4 * a) (labelled (a + b + d) v))) ≡ take (3 * b) (drop (3 * a) v)
labels_part a b d v h =
    let group : a + b + d ≡ a + (b + d) = omega arith in
    let whole = labels_both a (b + d) v in
    let first = drop_here (labelled a v) (labelled (b + d) (drop (3 * a) v)) (4 * a) (length_labelled a v (omega arith)) in
    let rest : 3 * b ≤ length (drop (3 * a) v) = simp length-drop (omega arith) in
    let both = labels_both b d (drop (3 * a) v) in
    let here = take_here (labelled b (drop (3 * a) v)) (labelled d (drop (3 * b) (drop (3 * a) v))) (4 * b) (length_labelled b (drop (3 * a) v) rest) in
    rw (group, whole, first, both, here) (back b (drop (3 * a) v) rest)

-- If all quadlets lose their labels, values a to a + b - 1 of the result are quadlets a to a + b - 1 of `q`, each
-- without its label.
pub values_part : (a b d : ℕ) (q : List ℕ) → 4 * (a + b + d) ≤ length q → take (3 * b) (drop (3 * a) (unlabelled (a + b + d) q)) ≡ unlabelled b (take (4 * b) (drop (4 * a) q))
values_part a b d q h =
    let group : a + b + d ≡ a + (b + d) = omega arith in
    let whole = values_both a (b + d) q in
    let first = drop_here (unlabelled a q) (unlabelled (b + d) (drop (4 * a) q)) (3 * a) (length_unlabelled a q (omega arith)) in
    let rest : 4 * b ≤ length (drop (4 * a) q) = simp length-drop (omega arith) in
    let both = values_both b d (drop (4 * a) q) in
    let here = take_here (unlabelled b (drop (4 * a) q)) (unlabelled d (drop (4 * b) (drop (4 * a) q))) (3 * b) (length_unlabelled b (drop (4 * a) q) rest) in
    let short = length-take-le (4 * b) (drop (4 * a) q) rest in
    let front = values_front b (take (4 * b) (drop (4 * a) q)) (drop (4 * b) (drop (4 * a) q)) (omega (arith, short)) in
    let split = take-append-drop (4 * b) (drop (4 * a) q) in
    let same : unlabelled b (drop (4 * a) q) ≡ unlabelled b (take (4 * b) (drop (4 * a) q)) = ap (unlabelled b) (sym split) ∙ front in
    rw (group, whole, first, both, here) same
