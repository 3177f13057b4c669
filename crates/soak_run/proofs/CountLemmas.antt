-- Each item that is passed on is counted once.
use Rattle.std.proofs.Common.{◌≡◌, ℕ, ◌+◌, ◌-◌, ◌^◌, ◌<◌, Bool, cond, List, [], ◌∷◌, ◌++◌, length, refl, sym, ap, ◌∙◌, arith, append_assoc, append-nil, length-append}
use Rattle.std.specs.Prelude.{count_by}
use Rattle.std.proofs.lemmas.List.Sums.{count_by-le-length}
use Rattle.sample_schedule.specs.declared.shown.Reason.TheVariants.{Full, Late, Repeat, Untimed}
use Rattle.sample_schedule.specs.declared.shown.Shown.{Shown}
use Rattle.sample_schedule.specs.declared.shown.Shown.TheVariants.{Present, Flag}
use Rattle.listener.specs.Heard.{is_present}
use Rattle.listener.proofs.Listened.{count_next}
use Rattle.soak_run.specs.declared.counts.SoakCounts.{SoakCounts}
use Rattle.soak_run.specs.state.Counting.{one_more, with_all, with_shown}
use Rattle.soak_run.specs.Outcomes.{is_full, is_late, is_repeat, is_untimed, outcomes}

-- ---- one item after another

pub with_all_append : (counts : SoakCounts) (xs ys : List Shown) → with_all counts (xs ++ ys) ≡ with_all (with_all counts xs) ys
with_all_append counts [] ys = refl
with_all_append counts (x ∷ xs) ys = with_all_append (with_shown counts x) xs ys

-- ---- the number of items that are counted

abbrev counted : Bool → ℕ
counted b = cond b 1 0

abbrev counts_with : ℕ → ℕ → ℕ → ℕ → ℕ → ℕ → SoakCounts
counts_with d p l r u f = record { delivered = d; presented = p; late = l; repeat = r; untimed = u; full = f }

same_counts : (d p l r u f : ℕ) (p' l' r' u' f' : ℕ) → p ≡ p' → l ≡ l' → r ≡ r' → u ≡ u' → f ≡ f' → counts_with d p l r u f ≡ counts_with d p' l' r' u' f'
same_counts d p l r u f p' l' r' u' f' a b c e g =
    ap (λ (n : ℕ). counts_with d n l r u f) a
    ∙ ap (λ (n : ℕ). counts_with d p' n r u f) b
    ∙ ap (λ (n : ℕ). counts_with d p' l' n u f) c
    ∙ ap (λ (n : ℕ). counts_with d p' l' r' n f) e
    ∙ ap (λ (n : ℕ). counts_with d p' l' r' u' n) g

none : (n : ℕ) → n ≡ n + 0
none n = omega arith

abbrev IsFew : ℕ → Type 0
IsFew n = n < 2 ^ 64 - 1

one : (n : ℕ) → IsFew n → one_more n ≡ n + 1
one n few = omega (arith, few)

with_one : (d p l r u f : ℕ) (x : Shown) → IsFew p → IsFew l → IsFew r → IsFew u → IsFew f → with_shown (counts_with d p l r u f) x
    ≡ counts_with d (p + counted (is_present x)) (l + counted (is_late x)) (r + counted (is_repeat x)) (u + counted (is_untimed x)) (f + counted (is_full x))
with_one d p l r u f (Present batch) a b c e g = same_counts d (one_more p) l r u f (p + 1) (l + 0) (r + 0) (u + 0) (f + 0) (one p a) (none l) (none r) (none u) (none f)
with_one d p l r u f (Flag frame seq Late) a b c e g = same_counts d p (one_more l) r u f (p + 0) (l + 1) (r + 0) (u + 0) (f + 0) (none p) (one l b) (none r) (none u) (none f)
with_one d p l r u f (Flag frame seq Repeat) a b c e g = same_counts d p l (one_more r) u f (p + 0) (l + 0) (r + 1) (u + 0) (f + 0) (none p) (none l) (one r c) (none u) (none f)
with_one d p l r u f (Flag frame seq Untimed) a b c e g = same_counts d p l r (one_more u) f (p + 0) (l + 0) (r + 0) (u + 1) (f + 0) (none p) (none l) (none r) (one u e) (none f)
with_one d p l r u f (Flag frame seq Full) a b c e g = same_counts d p l r u (one_more f) (p + 0) (l + 0) (r + 0) (u + 0) (f + 1) (none p) (none l) (none r) (none u) (one f g)
with_one d p l r u f (Flag frame seq reason) a b c e g = same_counts d p l r u f (p + 0) (l + 0) (r + 0) (u + 0) (f + 0) (none p) (none l) (none r) (none u) (none f)

few_of : (p : Shown → Bool) (list : List Shown) → IsFew (length list) → IsFew (count_by p list)
few_of p list few = omega (arith, few, count_by-le-length p list)

with_more : (d : ℕ) (list : List Shown) (x : Shown) → IsFew (length list) → with_shown (outcomes d list) x ≡ outcomes d (list ++ x ∷ [])
with_more d list x few =
    with_one d (count_by is_present list) (count_by is_late list) (count_by is_repeat list) (count_by is_untimed list) (count_by is_full list) x
    (few_of is_present list few) (few_of is_late list few) (few_of is_repeat list few) (few_of is_untimed list few) (few_of is_full list few)
    ∙ sym (same_counts d _ _ _ _ _ _ _ _ _ _ (count_next is_present list x) (count_next is_late list x) (count_next is_repeat list x) (count_next is_untimed list x) (count_next is_full list x))

counts_on : (d : ℕ) (list items : List Shown) → IsFew (length list + length items) → with_all (outcomes d list) items ≡ outcomes d (list ++ items)
counts_on d list [] few = ap (outcomes d) (sym (append-nil list))
counts_on d list (x ∷ items) few =
    ap (λ (counts : SoakCounts). with_all counts items) (with_more d list x (omega (arith, few)))
    ∙ counts_on d (list ++ x ∷ []) items (omega (arith, few, length-append list (x ∷ [])))
    ∙ ap (outcomes d) (append_assoc list (x ∷ []) items)

-- if a list is not too long, counting item by item gives the counts of the list
pub counts_all : (d : ℕ) (items : List Shown) → IsFew (length items) → with_all (outcomes d []) items ≡ outcomes d items
counts_all d items few = counts_on d [] items (omega (arith, few))
