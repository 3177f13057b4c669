-- The pairs and counts after one more batch.
use Rattle.std.proofs.Common.{◌≡◌, ℕ, suc, ◌+◌, ◌-◌, ◌^◌, ◌<◌, ◌≤◌, true, false, List, [], ◌∷◌, ◌++◌, length, filter, Option, Some, None, refl, sym, ap, ◌∙◌, subst, arith, append-nil, append_assoc, length-append}
use Rattle.std.specs.Prelude.{is_some, option_map}
use Rattle.std.specs.List.{cons_option, filter_map, find}
use Rattle.std.specs.Option.{option_to_list}
use Rattle.std.proofs.lemmas.List.Elements.{filter-append, filter_map-append}
use Rattle.sample_schedule.specs.Batches.{Presented}
use Rattle.listener_pair.specs.declared.difference.Difference.{Difference}
use Rattle.listener_pair.specs.declared.difference.PairCounts.{PairCounts}
use Rattle.listener_pair.specs.declared.difference.Which.{Which}
use Rattle.listener_pair.specs.declared.difference.Which.TheVariants.{A, B}
use Rattle.listener_pair.specs.declared.placed.Placed.{Placed}
use Rattle.listener_pair.specs.Merged.{Sided, is_side}
use Rattle.listener_pair.specs.Pairs.{Paired, at_place, left_by, may_pair, pair_by, pairs, pairs_from, partner_of, unpaired, unpaired_from, unpaired_with, without_first}
use Rattle.listener_pair.specs.Differences.{alone, counts_of, difference_of, differences}
use Rattle.listener_pair.specs.Matching.{batches_of, of_side}
use Rattle.listener_pair.specs.state.Window.{counted, difference_by_pair, paired_with, risen, risen_if}
use Rattle.listener_pair.proofs.Sorting.{length-of}
use Rattle.listener_pair.proofs.Windows.{IsAscending, ascending-filter, ascending-length, ascending-with, fewer, find-passes, filter-no, filter-yes, other_side, partner-side, side-of, without-apart}

-- ---- one more batch at the end of a list

unpaired-more : (place n : ℕ) (u : List Placed) (xs : List Sided) (x : Sided) → n ≡ place + length xs → unpaired_from place u (xs ++ x ∷ []) ≡ unpaired_with (at_place n x) (unpaired_from place u xs)
unfolding unpaired_from
unpaired-more place n u [] x e = ap (λ m. unpaired_with (at_place m x) u) (omega arith)
unpaired-more place n u (y ∷ xs) x e = unpaired-more (suc place) n (unpaired_with (at_place place y) u) xs x (omega arith)

pairs-append : (place n : ℕ) (u : List Placed) (xs ys : List Sided) → n ≡ place + length xs → pairs_from place u (xs ++ ys) ≡ pairs_from place u xs ++ pairs_from n (unpaired_from place u xs) ys
unfolding pairs_from unpaired_from
pairs-append place n u [] ys e = ap (λ m. pairs_from m u ys) (omega arith)
pairs-append place n u (y ∷ xs) ys e =
    ap (λ (l : List Paired). pair_by (at_place place y) (partner_of (at_place place y) u) ++ l) (pairs-append (suc place) n (unpaired_with (at_place place y) u) xs ys (omega arith))
    ∙ sym (append_assoc (pair_by (at_place place y) (partner_of (at_place place y) u)) (pairs_from (suc place) (unpaired_with (at_place place y) u) xs) (pairs_from n (unpaired_from (suc place) (unpaired_with (at_place place y) u) xs) ys))

pairs-one : (n : ℕ) (u : List Placed) (x : Sided) → pairs_from n u (x ∷ []) ≡ pair_by (at_place n x) (partner_of (at_place n x) u)
unfolding pairs_from
pairs-one n u x = append-nil (pair_by (at_place n x) (partner_of (at_place n x) u))

-- the pairs of `xs` are the first pairs of `xs ++ ys`
pub pairs-front : (xs ys : List Sided) → (more : List Paired) × (pairs (xs ++ ys) ≡ pairs xs ++ more)
pairs-front xs ys = (pairs_from (length xs) (unpaired xs) ys, pairs-append 0 (length xs) [] xs ys (omega arith))

pub pairs-more : (xs : List Sided) (x : Sided) → pairs (xs ++ x ∷ []) ≡ pairs xs ++ pair_by (at_place (length xs) x) (partner_of (at_place (length xs) x) (unpaired xs))
pairs-more xs x = pairs-append 0 (length xs) [] xs (x ∷ []) (omega arith) ∙ ap (λ (l : List Paired). pairs xs ++ l) (pairs-one (length xs) (unpaired xs) x)

pub unpaired-next : (xs : List Sided) (x : Sided) → unpaired (xs ++ x ∷ []) ≡ unpaired_with (at_place (length xs) x) (unpaired xs)
unpaired-next xs x = unpaired-more 0 (length xs) [] xs x (omega arith)

ascending-from-place : (place n : ℕ) (u : List Placed) (xs : List Sided) → IsAscending 0 place u → n ≡ place + length xs → IsAscending 0 n (unpaired_from place u xs)
unfolding unpaired_from
ascending-from-place place n u [] h e = subst (λ (m : ℕ). IsAscending 0 m u) (omega arith) h
ascending-from-place place n u (y ∷ xs) h e = ascending-from-place (suc place) n (unpaired_with (at_place place y) u) xs (ascending-with (at_place place y) u h) (omega arith)

unpaired-nil : unpaired [] ≡ []
unfolding unpaired_from
unpaired-nil = refl

pub ascending-unpaired : (xs : List Sided) → IsAscending 0 (length xs) (unpaired xs)
ascending-unpaired xs = ascending-from-place 0 (length xs) [] xs (omega arith) (omega arith)

-- ---- how many

one-pair : (x : Placed) (f : Option Placed) → length (pair_by x f) ≤ 1
one-pair x None = omega arith
one-pair x (Some y) = omega arith

pairs-few : (place : ℕ) (u : List Placed) (xs : List Sided) → length (pairs_from place u xs) ≤ length xs
unfolding pairs_from
pairs-few place u [] = omega arith
pairs-few place u (y ∷ xs) =
    let p = at_place place y in
    let one = one-pair p (partner_of p u) in
    let rest = pairs-few (suc place) (unpaired_with p u) xs in
    let both = length-append (pair_by p (partner_of p u)) (pairs_from (suc place) (unpaired_with p u) xs) in
    omega arith

some-few : {T U : Type 0} (f : T → Option U) (l : List T) → length (filter_map f l) ≤ length l
some-few f [] = omega arith
some-few f (x ∷ l) =
    let rest = some-few f l in
    elim (f x) as (λ o. length (cons_option o (filter_map f l)) ≤ suc (length l)) [
      | None ↦ omega arith
      | Some y ↦ omega arith
    ]

alone-few : (s : Which) (n : ℕ) (u : List Placed) → IsAscending 0 n u → alone s u ≤ n
alone-few s n u h = let long = ascending-length 0 n (filter (λ x. is_side s x.side) u) (ascending-filter (λ x. is_side s x.side) 0 n u h) in omega arith

risen-is : (n : ℕ) → n < 2 ^ 63 → risen n ≡ n + 1
risen-is n h = omega arith

-- ---- the counts

pub differences-append : (ps qs : List Paired) → filter_map difference_of (ps ++ qs) ≡ filter_map difference_of ps ++ filter_map difference_of qs
differences-append ps qs = filter_map-append difference_of ps qs

one-difference : (o : Option Difference) → cons_option o [] ≡ option_to_list o
one-difference None = refl
one-difference (Some d) = refl

pub differences-by : (x : Placed) (f : Option Placed) → filter_map difference_of (pair_by x f) ≡ option_to_list (difference_by_pair (option_map (paired_with x) f))
differences-by x None = refl
differences-by x (Some y) = one-difference (difference_of (paired_with x y))

more-length : {T : Type 0} (xs : List T) (y : T) → length (xs ++ y ∷ []) ≡ length xs + 1
more-length xs y = length-append xs (y ∷ [])

alone-own : (s : Which) (x : Placed) (u : List Placed) → is_side s x.side ≡ true → alone s (u ++ x ∷ []) ≡ alone s u + 1
alone-own s x u hit =
    ap length (filter-append (λ y. is_side s y.side) u (x ∷ []) ∙ ap (λ (l : List Placed). filter (λ y. is_side s y.side) u ++ l) (filter-yes (λ y. is_side s y.side) x [] hit))
    ∙ more-length (filter (λ y. is_side s y.side) u) x

alone-not : (s : Which) (x : Placed) (u : List Placed) → is_side s x.side ≡ false → alone s (u ++ x ∷ []) ≡ alone s u
alone-not s x u miss =
    ap length (filter-append (λ y. is_side s y.side) u (x ∷ []) ∙ ap (λ (l : List Placed). filter (λ y. is_side s y.side) u ++ l) (filter-no (λ y. is_side s y.side) x [] miss) ∙ append-nil (filter (λ y. is_side s y.side) u))

alone-partner : (x y : Placed) (u : List Placed) → find (may_pair x) u ≡ Some y → alone (other_side x.side) u - 1 ≡ alone (other_side x.side) (without_first (may_pair x) u)
alone-partner x y u e =
    let one = fewer (may_pair x) (λ z. is_side (other_side x.side) z.side) u y (partner-side x y (find-passes (may_pair x) u y e)) e in
    omega arith

alone-same : (x : Placed) (u : List Placed) → alone x.side u ≡ alone x.side (without_first (may_pair x) u)
alone-same x u = sym (ap length (without-apart (may_pair x) (λ z. is_side x.side z.side) (λ z m. side-of x.side z.side (partner-side x z m)) u))

differ-more : (ds : List Difference) (o : Option Difference) → length ds < 2 ^ 63 → risen_if (is_some o) (length ds) ≡ length (ds ++ option_to_list o)
differ-more ds None h = ap length (sym (append-nil ds))
differ-more ds (Some d) h = risen-is (length ds) h ∙ sym (more-length ds d)

counts-eq : (c d : PairCounts) → c.matched ≡ d.matched → c.only_a ≡ d.only_a → c.only_b ≡ d.only_b → c.differ ≡ d.differ → c ≡ d
counts-eq c d m a b e = ap (λ n. record c { matched = n }) m ∙ ap (λ n. record c { matched = d.matched; only_a = n }) a ∙ ap (λ n. record c { matched = d.matched; only_a = d.only_a; only_b = n }) b ∙ ap (λ n. record d { differ = n }) e

abbrev counts-with : List Paired → List Placed → PairCounts
counts-with ps u = record { matched = length ps; only_a = alone A u; only_b = alone B u; differ = length (filter_map difference_of ps) }

counted-at : (n : ℕ) (s : Which) (b : Presented) (ps : List Paired) (u : List Placed) (f : Option Placed) → n < 2 ^ 63 → length ps ≤ n → IsAscending 0 n u → find (may_pair (at_place n (of_side s b))) u ≡ f
    → counted s (option_map (paired_with (at_place n (of_side s b))) f) (counts-with ps u) ≡ counts-with (ps ++ pair_by (at_place n (of_side s b)) f) (left_by (at_place n (of_side s b)) u f)
counted-at n A b ps u None few ps-few asc e =
    let p = at_place n (of_side A b) in
    counts-eq _ _ (ap length (sym (append-nil ps))) (risen-is (alone A u) (let k = alone-few A n u asc in omega arith) ∙ sym (alone-own A p u refl)) (sym (alone-not B p u refl)) (ap (λ (l : List Paired). length (filter_map difference_of l)) (sym (append-nil ps)))
counted-at n B b ps u None few ps-few asc e =
    let p = at_place n (of_side B b) in
    counts-eq _ _ (ap length (sym (append-nil ps))) (sym (alone-not A p u refl)) (risen-is (alone B u) (let k = alone-few B n u asc in omega arith) ∙ sym (alone-own B p u refl)) (ap (λ (l : List Paired). length (filter_map difference_of l)) (sym (append-nil ps)))
counted-at n A b ps u (Some y) few ps-few asc e =
    let p = at_place n (of_side A b) in
    counts-eq _ _ (risen-is (length ps) (omega arith) ∙ sym (more-length ps (paired_with p y))) (alone-same p u) (alone-partner p y u e)
    (differ-more (filter_map difference_of ps) (difference_of (paired_with p y)) (let k = some-few difference_of ps in omega arith)
    ∙ ap length (sym (differences-append ps (paired_with p y ∷ []) ∙ ap (λ (l : List Difference). filter_map difference_of ps ++ l) (one-difference (difference_of (paired_with p y))))))
counted-at n B b ps u (Some y) few ps-few asc e =
    let p = at_place n (of_side B b) in
    counts-eq _ _ (risen-is (length ps) (omega arith) ∙ sym (more-length ps (paired_with p y))) (alone-partner p y u e) (alone-same p u)
    (differ-more (filter_map difference_of ps) (difference_of (paired_with p y)) (let k = some-few difference_of ps in omega arith)
    ∙ ap length (sym (differences-append ps (paired_with p y ∷ []) ∙ ap (λ (l : List Difference). filter_map difference_of ps ++ l) (one-difference (difference_of (paired_with p y))))))

pub counted-next : (done : List Sided) (s : Which) (b : Presented) → length done < 2 ^ 63
    → counted s (option_map (paired_with (at_place (length done) (of_side s b))) (partner_of (at_place (length done) (of_side s b)) (unpaired done))) (counts_of done) ≡ counts_of (done ++ of_side s b ∷ [])
counted-next done s b few =
    let p = at_place (length done) (of_side s b) in
    counted-at (length done) s b (pairs done) (unpaired done) (partner_of p (unpaired done)) few (pairs-few 0 [] done) (ascending-unpaired done) refl
    ∙ ap (λ (ps : List Paired). counts-with ps (unpaired_with p (unpaired done))) (sym (pairs-more done (of_side s b)))
    ∙ ap (λ (u : List Placed). counts-with (pairs (done ++ of_side s b ∷ [])) u) (sym (unpaired-next done (of_side s b)))

pub differences-next : (done : List Sided) (x : Sided) → differences (done ++ x ∷ []) ≡ differences done ++ option_to_list (difference_by_pair (option_map (paired_with (at_place (length done) x)) (partner_of (at_place (length done) x) (unpaired done))))
differences-next done x =
    let p = at_place (length done) x in
    ap (filter_map difference_of) (pairs-more done x)
    ∙ differences-append (pairs done) (pair_by p (partner_of p (unpaired done)))
    ∙ ap (λ (l : List Difference). differences done ++ l) (differences-by p (partner_of p (unpaired done)))

-- the differences of `xs` are the first differences of `xs ++ ys`
pub differences-front : (xs ys : List Sided) → (more : List Difference) × (differences (xs ++ ys) ≡ differences xs ++ more)
differences-front xs ys =
    let front = pairs-front xs ys in
    (filter_map difference_of front.0, ap (filter_map difference_of) front.1 ∙ differences-append (pairs xs) front.0)

-- ---- all batches of a side

count-one : (s r : Which) (n : ℕ) (b : Presented) (u : List Placed) (o : Option Placed) → find (may_pair (at_place n (of_side r b))) u ≡ o
    → length (pair_by (at_place n (of_side r b)) o) + alone s (left_by (at_place n (of_side r b)) u o) ≡ alone s u + length (batches_of s (of_side r b ∷ []))
count-one A A n b u None e = let h = alone-own A (at_place n (of_side A b)) u refl in omega arith
count-one B B n b u None e = let h = alone-own B (at_place n (of_side B b)) u refl in omega arith
count-one A B n b u None e = let h = alone-not A (at_place n (of_side B b)) u refl in omega arith
count-one B A n b u None e = let h = alone-not B (at_place n (of_side A b)) u refl in omega arith
count-one A A n b u (Some y) e = let h = alone-same (at_place n (of_side A b)) u in omega arith
count-one B B n b u (Some y) e = let h = alone-same (at_place n (of_side B b)) u in omega arith
count-one A B n b u (Some y) e =
    let x = at_place n (of_side B b) in
    let h = fewer (may_pair x) (λ z. is_side A z.side) u y (partner-side x y (find-passes (may_pair x) u y e)) e in
    omega arith
count-one B A n b u (Some y) e =
    let x = at_place n (of_side A b) in
    let h = fewer (may_pair x) (λ z. is_side B z.side) u y (partner-side x y (find-passes (may_pair x) u y e)) e in
    omega arith

count-from : (s : Which) (place : ℕ) (u : List Placed) (xs : List Sided) → length (pairs_from place u xs) + alone s (unpaired_from place u xs) ≡ alone s u + length (batches_of s xs)
unfolding pairs_from unpaired_from
count-from s place u [] = omega arith
count-from s place u (x ∷ xs) =
    let p = at_place place x in
    let one = count-one s x.side place x.batch u (partner_of p u) refl in
    let rest = count-from s (suc place) (unpaired_with p u) xs in
    let both = length-append (pair_by p (partner_of p u)) (pairs_from (suc place) (unpaired_with p u) xs) in
    let all = length-of s x xs in
    omega arith

-- the number of all batches of a side is the number of pairs plus the number of the side's unpaired batches
pub count-all : (s : Which) (list : List Sided) → length (pairs list) + alone s (unpaired list) ≡ length (batches_of s list)
count-all s list = let h = count-from s 0 [] list in omega arith
