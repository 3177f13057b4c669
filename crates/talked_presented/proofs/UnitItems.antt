-- The items of a whole capture of H.264 are its units, one after another.
use Rattle.std.proofs.Common.{◌≡◌, ℕ, zero, suc, ◌+◌, ◌<◌, ◌≤◌, Bool, true, List, [], ◌∷◌, ◌++◌, length, map, refl, sym, ap, ◌∙◌, subst, arith, append_assoc, append-nil, length-append}
use Rattle.std.specs.Prelude.{Contains, count_by}
use Rattle.std.specs.List.{AllByRecursion}
use Rattle.packet_journal.specs.Deliveries.{Delivery}
use Rattle.listener.specs.Items.{MadeItem, flagged, given_after, items_of, items_so_far, left_at_end, sources}
use Rattle.listener.specs.Units.{waiting}
use Rattle.listener.specs.Known.{IsKnownUnit}
use Rattle.sample_schedule.specs.declared.shown.Reason.TheVariants.{Broken as BrokenUnit}
use Rattle.listener.proofs.Made.{all_made, count-cons, last_counts, so_far_more, tally, tally-append, tally-cons}

every : Delivery → Bool
every d = true

some_sources : (m : MadeItem) → 1 ≤ count_by every (sources m)
unfolding every
some_sources m = last_counts every m refl

-- ---- one item made of all that is left

none_left : (ys : List MadeItem) → tally every ys ≤ 0 → ys ≡ []
none_left [] most = refl
none_left (y ∷ ys) most = absurd (omega (arith, tally-cons every y ys, some_sources y))

at_least : (ys : List MadeItem) (u : MadeItem) → Contains ys u → count_by every (sources u) ≤ tally every ys
at_least [] u (k, lt, e) = absurd (omega arith)
at_least (y ∷ ys) u (zero, lt, e) =
    let same : y ≡ u = e in
    let count = ap (λ (m : MadeItem). count_by every (sources m)) same in
    omega (arith, tally-cons every y ys, count)
at_least (y ∷ ys) u (suc k, lt, e) = let rest = at_least ys u (k, let within = lt in omega arith, e) in omega (arith, tally-cons every y ys)

only_item : (ys : List MadeItem) (u : MadeItem) → Contains ys u → tally every ys ≤ count_by every (sources u) → ys ≡ u ∷ []
only_item [] u (k, lt, e) most = absurd (omega arith)
only_item (y ∷ ys) u (zero, lt, e) most =
    let same : y ≡ u = e in
    let count = ap (λ (m : MadeItem). count_by every (sources m)) same in
    let none = none_left ys (omega (arith, tally-cons every y ys, count)) in
    rw (same, none) refl
only_item (y ∷ ys) u (suc k, lt, e) most =
    let least = at_least ys u (k, let within = lt in omega arith, e) in
    absurd (omega (arith, tally-cons every y ys, some_sources y))

not_first : (b : ℕ) (xs ys : List MadeItem) (u : MadeItem) → AllByRecursion (λ m. m.last.frame ≤ b) xs → b < u.last.frame → Contains (xs ++ ys) u → Contains ys u
not_first b [] ys u all later has = has
not_first b (x ∷ xs) ys u all later (zero, lt, e) =
    let same : x ≡ u = e in
    let frame = ap (λ (m : MadeItem). m.last.frame) same in
    absurd (omega (arith, all.0, frame))
not_first b (x ∷ xs) ys u all later (suc k, lt, e) = not_first b xs ys u all.1 later (k, let within = lt in omega arith, e)

flags_alone : (ws : List Delivery) (u : MadeItem) → IsKnownUnit u → map (flagged BrokenUnit) ws ≡ u ∷ [] → ⊥
flags_alone [] u is e = cc
flags_alone (w ∷ ws) u is e =
    let same : flagged BrokenUnit w ≡ u = cc in
    let entry = ap (λ (m : MadeItem). m.entry) same ∙ is.is in
    cc

record IsSplit (given left : List MadeItem) (u : MadeItem) : Type 0 where
  given_is : given ≡ u ∷ []
  left_is : left ≡ []

split_at : (given left : List MadeItem) (u : MadeItem) → (left ≡ u ∷ [] → ⊥) → given ++ left ≡ u ∷ [] → IsSplit given left u
split_at [] left u never e = absurd (never e)
split_at (g ∷ []) [] u never e = record { given_is = e; left_is = refl }
split_at (g ∷ []) (x ∷ left) u never e = absurd cc
split_at (g ∷ (h ∷ given)) left u never e = absurd cc

-- ---- one more unit

all_counted : (xs : List Delivery) → count_by every xs ≡ length xs
unfolding every
all_counted [] = refl
all_counted (x ∷ xs) = omega (arith, count-cons every x xs, all_counted xs)

pub record IsOneMore (ds es : List Delivery) (xs : List MadeItem) (u : MadeItem) : Type 0 where
  pub so_far : items_so_far (ds ++ es) ≡ xs ++ u ∷ []
  pub none : left_at_end (ds ++ es) ≡ []

pub one_more_unit : (ds es : List Delivery) (xs : List MadeItem) (u : MadeItem) (b : ℕ) → items_so_far ds ≡ xs → left_at_end ds ≡ [] → AllByRecursion (λ m. m.last.frame ≤ b) xs → b < u.last.frame → IsKnownUnit u → length (sources u) ≡ length es → Contains (items_of (ds ++ es)) u
    → IsOneMore ds es xs u
one_more_unit ds es xs u b so_far none frames later is size has =
    let more = given_after ds es in
    let left = left_at_end (ds ++ es) in
    let longer : items_so_far (ds ++ es) ≡ xs ++ more = so_far_more ds es ∙ ap (λ (l : List MadeItem). l ++ more) so_far in
    let items : items_of (ds ++ es) ≡ xs ++ (more ++ left) = ap (λ (l : List MadeItem). l ++ left) longer ∙ append_assoc xs more left in
    let before : tally every xs ≡ length ds =
    ap (tally every) (sym so_far ∙ sym (append-nil (items_so_far ds)) ∙ ap (λ (l : List MadeItem). items_so_far ds ++ l) (sym none)) ∙ (all_made every ds ∙ all_counted ds) in
    let all : tally every (xs ++ (more ++ left)) ≡ length ds + length es = ap (tally every) (sym items) ∙ (all_made every (ds ++ es) ∙ (all_counted (ds ++ es) ∙ length-append ds es)) in
    let rest : tally every (more ++ left) ≤ count_by every (sources u) = omega (arith, tally-append every xs (more ++ left), before, all, all_counted (sources u), size) in
    let there = not_first b xs (more ++ left) u frames later (subst (λ (l : List MadeItem). Contains l u) items has) in
    let split = split_at more left u (flags_alone (waiting (ds ++ es)) u is) (only_item (more ++ left) u there rest) in
    record {
      so_far = longer ∙ ap (λ (l : List MadeItem). xs ++ l) split.given_is;
      none = split.left_is;
    }
