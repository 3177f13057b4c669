-- Parts of lists of bytes.
use Rattle.std.proofs.Common.{◌≡◌, ℕ, suc, ◌+◌, ◌-◌, ◌*◌, ◌≤◌, List, [], ◌∷◌, ◌++◌, length, take, drop, refl, sym, ap, ◌∙◌, append_assoc, arith}
use Rattle.std.specs.Prelude.{slice_index_or}
use Rattle.std.proofs.Math.Seq.{take-append_seam}
use Rattle.std.proofs.lemmas.List.{length-append, length-drop, length-take-le, take_all}
use Rattle.am824_gateway.specs.Labels.{labelled, unlabelled}

-- a list of three bytes consists of its elements 0, 1 and 2
pub three : (xs : List ℕ) → length xs ≡ 3 → slice_index_or xs 0 0 ∷ slice_index_or xs 1 0 ∷ slice_index_or xs 2 0 ∷ [] ≡ xs
three [] e = absurd cc
three (x ∷ []) e = absurd cc
three (x ∷ y ∷ []) e = absurd cc
three (x ∷ y ∷ z ∷ []) e = refl
three (x ∷ y ∷ z ∷ w ∷ rest) e = absurd (omega arith)

pub length-part : (i n : ℕ) (xs : List ℕ) → i + n ≤ length xs → length (take n (drop i xs)) ≡ n
length-part i n xs h = length-take-le n (drop i xs) (simp length-drop (omega arith))

pub three_in : (i j : ℕ) (xs : List ℕ) → j ≡ i + 3 → j ≤ length xs
    → slice_index_or (take (j - i) (drop i xs)) 0 0 ∷ slice_index_or (take (j - i) (drop i xs)) 1 0 ∷ slice_index_or (take (j - i) (drop i xs)) 2 0 ∷ [] ≡ take 3 (drop i xs)
three_in i j xs e h =
    let size : j - i ≡ 3 = omega arith in
    let whole = length-part i 3 xs (omega arith) in
    rw size (three (take 3 (drop i xs)) whole)

seam : (xs ys : List ℕ) (n : ℕ) → n ≡ length xs → take n (xs ++ ys) ≡ xs
seam xs ys n e = rw e (take-append_seam xs ys)

-- if `q` is written directly after `a`, the list begins with `a ++ q`
written : (a q d new : List ℕ) (n : ℕ) → new ≡ a ++ (q ++ d) → n ≡ length a + length q → take n new ≡ a ++ q
written a q d new n e size =
    let whole : new ≡ (a ++ q) ++ d = e ∙ sym (append_assoc a q d) in
    let long : n ≡ length (a ++ q) = size ∙ sym (length-append a q) in
    rw whole (seam (a ++ q) d n long)

-- after one more quadlet is written, the list begins with k + 1 quadlets
pub labelled_more : (k : ℕ) (out values new : List ℕ) → 4 * k + 4 ≤ length out → 3 * k + 3 ≤ length values → take (4 * k) out ≡ labelled k values
    → new ≡ take (4 * k) out ++ ((0x40 ∷ take 3 (drop (3 * k) values)) ++ drop (4 * k + 4) out) → take (4 * (k + 1)) new ≡ labelled (k + 1) values
labelled_more k out values new room value e is =
    let before : length (take (4 * k) out) ≡ 4 * k = length-take-le (4 * k) out (omega arith) in
    let size : length (0x40 ∷ take 3 (drop (3 * k) values)) ≡ 4 = ap suc (length-part (3 * k) 3 values value) in
    let next : k + 1 ≡ suc k = omega arith in
    let made = written (take (4 * k) out) (0x40 ∷ take 3 (drop (3 * k) values)) (drop (4 * k + 4) out) new (4 * (k + 1)) is (omega arith) in
    made ∙ (rw (next, e) refl)

-- after one more value is written, the list begins with k + 1 values
pub unlabelled_more : (k : ℕ) (out quadlets new : List ℕ) → 3 * k + 3 ≤ length out → 4 * k + 4 ≤ length quadlets → take (3 * k) out ≡ unlabelled k quadlets
    → new ≡ take (3 * k) out ++ (take 3 (drop (4 * k + 1) quadlets) ++ drop (3 * k + 3) out) → take (3 * (k + 1)) new ≡ unlabelled (k + 1) quadlets
unlabelled_more k out quadlets new room value e is =
    let before : length (take (3 * k) out) ≡ 3 * k = length-take-le (3 * k) out (omega arith) in
    let size : length (take 3 (drop (4 * k + 1) quadlets)) ≡ 3 = length-part (4 * k + 1) 3 quadlets (omega arith) in
    let next : k + 1 ≡ suc k = omega arith in
    let made = written (take (3 * k) out) (take 3 (drop (4 * k + 1) quadlets)) (drop (3 * k + 3) out) new (3 * (k + 1)) is (omega arith) in
    made ∙ (rw (next, e) refl)

-- writing `q` into a list does not change the list's length
pub length_same : (a q d out new : List ℕ) (i j : ℕ) → a ≡ take i out → d ≡ drop j out → j ≡ i + length q → j ≤ length out → new ≡ a ++ (q ++ d) → length new ≡ length out
length_same a q d out new i j ea ed ej h is =
    let first : length a ≡ i = rw ea (length-take-le i out (omega arith)) in
    let last : length d ≡ length out - j = rw ed (length-drop j out) in
    let inner = length-append q d in
    let outer = length-append a (q ++ d) in
    let all = ap (λ (l : List ℕ). length l) is in
    omega arith

-- if the first n elements of a list of length n are `made`, the list is `made`
pub all_written : (n : ℕ) (out made : List ℕ) → length out ≡ n → take n out ≡ made → out ≡ made
all_written n out made size e = sym (take_all n out (omega arith)) ∙ e
