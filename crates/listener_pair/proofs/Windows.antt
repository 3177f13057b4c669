-- The batches that wait for a partner are the unpaired ones among the last 512 batches.
use Rattle.std.proofs.Common.{◌≡◌, ℕ, suc, ◌+◌, ◌<◌, ◌≤◌, Bool, true, false, cond, ◌&&◌, ◌⊎◌, inl, inr, List, [], ◌∷◌, ◌++◌, length, filter, Option, Some, None, refl, sym, ap, ◌∙◌, subst, arith, append-nil}
use Rattle.std.specs.Prelude.{nat_le, not, option_map}
use Rattle.std.specs.List.{find}
use Rattle.std.proofs.lemmas.Bool.Decides.{nat_tests}
use Rattle.std.proofs.lemmas.List.Elements.{filter-append}
use Rattle.listener_pair.specs.declared.difference.Which.{Which}
use Rattle.listener_pair.specs.declared.difference.Which.TheVariants.{A, B}
use Rattle.listener_pair.specs.declared.placed.Placed.{Placed}
use Rattle.listener_pair.specs.Merged.{is_side}
use Rattle.listener_pair.specs.Pairs.{left_by, may_pair, unpaired_with, without_first}
use Rattle.listener_pair.specs.Matching.{is_within, window}
use Rattle.listener_pair.specs.state.Window.{kept, paired_with, takes, without_passed}

-- ---- positions that ascend

-- the positions of the batches ascend; each is at least `lo` and less than `hi`
abbrev pub IsAscending : ℕ → ℕ → List Placed → Type 0
IsAscending lo hi [] = lo ≤ hi
IsAscending lo hi (y ∷ ys) = (lo ≤ y.place) × IsAscending (suc y.place) hi ys

ascending-from : (l k hi : ℕ) (ys : List Placed) → l ≤ k → IsAscending k hi ys → IsAscending l hi ys
ascending-from l k hi [] le h = omega arith
ascending-from l k hi (y ∷ ys) le h = (let p = h.0 in omega arith, h.1)

ascending-to : (lo hi : ℕ) (ys : List Placed) → IsAscending lo hi ys → IsAscending lo (suc hi) ys
ascending-to lo hi [] h = omega arith
ascending-to lo hi (y ∷ ys) h = (h.0, ascending-to (suc y.place) hi ys h.1)

pub ascending-filter : (q : Placed → Bool) (lo hi : ℕ) (ys : List Placed) → IsAscending lo hi ys → IsAscending lo hi (filter q ys)
ascending-filter q lo hi [] h = h
ascending-filter q lo hi (y ∷ ys) h = elim (q y) as (λ v. IsAscending lo hi (cond v (y ∷ filter q ys) (filter q ys))) [
  | true ↦ (h.0, ascending-filter q (suc y.place) hi ys h.1)
  | false ↦ ascending-from lo (suc y.place) hi (filter q ys) (let p = h.0 in omega arith) (ascending-filter q (suc y.place) hi ys h.1)
]

ascending-without : (t : Placed → Bool) (lo hi : ℕ) (ys : List Placed) → IsAscending lo hi ys → IsAscending lo hi (without_first t ys)
ascending-without t lo hi [] h = h
ascending-without t lo hi (y ∷ ys) h = elim (t y) as (λ v. IsAscending lo hi (cond v ys (y ∷ without_first t ys))) [
  | true ↦ ascending-from lo (suc y.place) hi ys (let p = h.0 in omega arith) h.1
  | false ↦ (h.0, ascending-without t (suc y.place) hi ys h.1)
]

ascending-more : (lo : ℕ) (ys : List Placed) (x : Placed) → IsAscending lo x.place ys → IsAscending lo (suc x.place) (ys ++ x ∷ [])
ascending-more lo [] x h = (h, omega arith)
ascending-more lo (y ∷ ys) x h = (h.0, ascending-more (suc y.place) ys x h.1)

pub ascending-length : (lo hi : ℕ) (ys : List Placed) → IsAscending lo hi ys → lo + length ys ≤ hi
ascending-length lo hi [] h = omega arith
ascending-length lo hi (y ∷ ys) h = let p = h.0 in let n = ascending-length (suc y.place) hi ys h.1 in omega arith

ascending-left : (x : Placed) (ys : List Placed) (f : Option Placed) → IsAscending 0 x.place ys → IsAscending 0 (suc x.place) (left_by x ys f)
ascending-left x ys None h = ascending-more 0 ys x h
ascending-left x ys (Some y) h = ascending-to 0 x.place (without_first (may_pair x) ys) (ascending-without (may_pair x) 0 x.place ys h)

pub ascending-with : (x : Placed) (ys : List Placed) → IsAscending 0 x.place ys → IsAscending 0 (suc x.place) (unpaired_with x ys)
ascending-with x ys h = ascending-left x ys (find (may_pair x) ys) h

-- ---- tests

pub le-yes : (a b : ℕ) → a ≤ b → nat_le a b ≡ true
le-yes a b h = grind (arith, nat_tests)

pub le-of : (a b : ℕ) → nat_le a b ≡ true → a ≤ b
le-of a b h = grind (arith, nat_tests)

pub either : (b : Bool) → (b ≡ true) ⊎ (b ≡ false)
either true = inl refl
either false = inr refl

pub filter-yes : (q : Placed → Bool) (y : Placed) (ys : List Placed) → q y ≡ true → filter q (y ∷ ys) ≡ y ∷ filter q ys
filter-yes q y ys e = ap (λ v. cond v (y ∷ filter q ys) (filter q ys)) e

pub filter-no : (q : Placed → Bool) (y : Placed) (ys : List Placed) → q y ≡ false → filter q (y ∷ ys) ≡ filter q ys
filter-no q y ys e = ap (λ v. cond v (y ∷ filter q ys) (filter q ys)) e

without-yes : (t : Placed → Bool) (y : Placed) (ys : List Placed) → t y ≡ true → without_first t (y ∷ ys) ≡ ys
without-yes t y ys e = ap (λ v. cond v ys (y ∷ without_first t ys)) e

without-no : (t : Placed → Bool) (y : Placed) (ys : List Placed) → t y ≡ false → without_first t (y ∷ ys) ≡ y ∷ without_first t ys
without-no t y ys e = ap (λ v. cond v ys (y ∷ without_first t ys)) e

pub find-yes : (t : Placed → Bool) (y : Placed) (ys : List Placed) → t y ≡ true → find t (y ∷ ys) ≡ Some y
find-yes t y ys e = ap (λ v. cond v (Some y) (find t ys)) e

find-no : (t : Placed → Bool) (y : Placed) (ys : List Placed) → t y ≡ false → find t (y ∷ ys) ≡ find t ys
find-no t y ys e = ap (λ v. cond v (Some y) (find t ys)) e

-- ---- the first batch that passes a test, among those that pass another test

find-at : (t p q : Placed → Bool) (y : Placed) (ys : List Placed) → t y ≡ (q y && p y) → find t ys ≡ find p (filter q ys) → (q y ≡ true) ⊎ (q y ≡ false) → find t (y ∷ ys) ≡ find p (filter q (y ∷ ys))
find-at t p q y ys e rest (inl hit) =
    ap (λ v. cond v (Some y) (find t ys)) (e ∙ ap (λ v. v && p y) hit)
    ∙ ap (λ (o : Option Placed). cond (p y) (Some y) o) rest
    ∙ sym (ap (find p) (filter-yes q y ys hit))
find-at t p q y ys e rest (inr miss) =
    find-no t y ys (e ∙ ap (λ v. v && p y) miss) ∙ rest ∙ sym (ap (find p) (filter-no q y ys miss))

find-within : (t p q : Placed → Bool) → ((y : Placed) → t y ≡ (q y && p y)) → (ys : List Placed) → find t ys ≡ find p (filter q ys)
find-within t p q e [] = refl
find-within t p q e (y ∷ ys) = find-at t p q y ys (e y) (find-within t p q e ys) (either (q y))

without-at : (t p q : Placed → Bool) (y : Placed) (ys : List Placed) → t y ≡ (q y && p y) → filter q (without_first t ys) ≡ without_first p (filter q ys)
    → (q y ≡ true) ⊎ (q y ≡ false) → (p y ≡ true) ⊎ (p y ≡ false) → filter q (without_first t (y ∷ ys)) ≡ without_first p (filter q (y ∷ ys))
without-at t p q y ys e rest (inl hit) (inl hit2) =
    ap (filter q) (without-yes t y ys (e ∙ ap (λ v. v && p y) hit ∙ hit2))
    ∙ sym (ap (without_first p) (filter-yes q y ys hit) ∙ without-yes p y (filter q ys) hit2)
without-at t p q y ys e rest (inl hit) (inr miss2) =
    ap (filter q) (without-no t y ys (e ∙ ap (λ v. v && p y) hit ∙ miss2))
    ∙ filter-yes q y (without_first t ys) hit
    ∙ ap (λ (l : List Placed). y ∷ l) rest
    ∙ sym (ap (without_first p) (filter-yes q y ys hit) ∙ without-no p y (filter q ys) miss2)
without-at t p q y ys e rest (inr miss) d =
    ap (filter q) (without-no t y ys (e ∙ ap (λ v. v && p y) miss))
    ∙ filter-no q y (without_first t ys) miss
    ∙ rest
    ∙ sym (ap (without_first p) (filter-no q y ys miss))

without-within : (t p q : Placed → Bool) → ((y : Placed) → t y ≡ (q y && p y)) → (ys : List Placed) → filter q (without_first t ys) ≡ without_first p (filter q ys)
without-within t p q e [] = refl
without-within t p q e (y ∷ ys) = without-at t p q y ys (e y) (without-within t p q e ys) (either (q y)) (either (p y))

apart-at : (t q : Placed → Bool) (y : Placed) (ys : List Placed) → (t y ≡ true → q y ≡ false) → filter q (without_first t ys) ≡ filter q ys → (t y ≡ true) ⊎ (t y ≡ false) → filter q (without_first t (y ∷ ys)) ≡ filter q (y ∷ ys)
apart-at t q y ys e rest (inl hit) = ap (filter q) (without-yes t y ys hit) ∙ sym (filter-no q y ys (e hit))
apart-at t q y ys e rest (inr miss) = ap (filter q) (without-no t y ys miss) ∙ ap (λ (r : List Placed). cond (q y) (y ∷ r) r) rest

pub without-apart : (t q : Placed → Bool) → ((y : Placed) → t y ≡ true → q y ≡ false) → (ys : List Placed) → filter q (without_first t ys) ≡ filter q ys
without-apart t q e [] = refl
without-apart t q e (y ∷ ys) = apart-at t q y ys (e y) (without-apart t q e ys) (either (t y))

none-at : (t : Placed → Bool) (y : Placed) (ys : List Placed) → (find t ys ≡ None → without_first t ys ≡ ys) → find t (y ∷ ys) ≡ None → (t y ≡ true) ⊎ (t y ≡ false) → without_first t (y ∷ ys) ≡ y ∷ ys
none-at t y ys rest h (inl hit) = let e = sym (find-yes t y ys hit) ∙ h in absurd (cc)
none-at t y ys rest h (inr miss) = without-no t y ys miss ∙ ap (λ (l : List Placed). y ∷ l) (rest (sym (find-no t y ys miss) ∙ h))

without-none : (t : Placed → Bool) (ys : List Placed) → find t ys ≡ None → without_first t ys ≡ ys
without-none t [] h = refl
without-none t (y ∷ ys) h = none-at t y ys (without-none t ys) h (either (t y))

some-is : {T : Type 0} (x y : T) → Some x ≡ Some y → x ≡ y
some-is x y e = cc

passes-at : (t : Placed → Bool) (y : Placed) (ys : List Placed) (x : Placed) → (find t ys ≡ Some x → t x ≡ true) → find t (y ∷ ys) ≡ Some x → (t y ≡ true) ⊎ (t y ≡ false) → t x ≡ true
passes-at t y ys x rest h (inl hit) = subst (λ (z : Placed). t z ≡ true) (some-is y x (sym (find-yes t y ys hit) ∙ h)) hit
passes-at t y ys x rest h (inr miss) = rest (sym (find-no t y ys miss) ∙ h)

pub find-passes : (t : Placed → Bool) (ys : List Placed) (x : Placed) → find t ys ≡ Some x → t x ≡ true
find-passes t [] x h = absurd (cc)
find-passes t (y ∷ ys) x h = passes-at t y ys x (find-passes t ys x) h (either (t y))

fewer-at : (t q : Placed → Bool) (y : Placed) (ys : List Placed) (x : Placed) → q x ≡ true → (find t ys ≡ Some x → suc (length (filter q (without_first t ys))) ≡ length (filter q ys)) → find t (y ∷ ys) ≡ Some x
    → (t y ≡ true) ⊎ (t y ≡ false) → suc (length (filter q (without_first t (y ∷ ys)))) ≡ length (filter q (y ∷ ys))
fewer-at t q y ys x qx rest h (inl hit) =
    ap (λ (l : List Placed). suc (length (filter q l))) (without-yes t y ys hit)
    ∙ sym (ap length (filter-yes q y ys (subst (λ (z : Placed). q z ≡ true) (sym (some-is y x (sym (find-yes t y ys hit) ∙ h))) qx)))
fewer-at t q y ys x qx rest h (inr miss) =
    ap (λ (l : List Placed). suc (length (filter q l))) (without-no t y ys miss)
    ∙ fewer-in (q y) (filter q (without_first t ys)) (filter q ys) (rest (sym (find-no t y ys miss) ∙ h))
  where
    fewer-in : (b : Bool) (V W : List Placed) → suc (length V) ≡ length W → suc (length (cond b (y ∷ V) V)) ≡ length (cond b (y ∷ W) W)
    fewer-in true V W e = ap suc e
    fewer-in false V W e = e

pub fewer : (t q : Placed → Bool) (ys : List Placed) (x : Placed) → q x ≡ true → find t ys ≡ Some x → suc (length (filter q (without_first t ys))) ≡ length (filter q ys)
fewer t q [] x qx h = absurd (cc)
fewer t q (y ∷ ys) x qx h = fewer-at t q y ys x qx (fewer t q ys x qx) h (either (t y))

-- ---- sides

abbrev pub other_side : Which → Which
other_side A = B
other_side B = A

not-side : (s r : Which) → not (is_side s r) ≡ is_side (other_side s) r
not-side A A = refl
not-side A B = refl
not-side B A = refl
not-side B B = refl

pub side-of : (s r : Which) → is_side (other_side s) r ≡ true → is_side s r ≡ false
side-of A A h = absurd (cc)
side-of A B h = refl
side-of B A h = refl
side-of B B h = absurd (cc)

pub own-side : (s : Which) → is_side s s ≡ true
own-side A = refl
own-side B = refl

pub not-other : (s : Which) → is_side (other_side s) s ≡ false
not-other A = refl
not-other B = refl

swapped : (u v w : Bool) → (u && v && w) ≡ ((v && u) && w)
swapped true true w = refl
swapped true false w = refl
swapped false true w = refl
swapped false false w = refl

may-pair-is : (x y : Placed) → may_pair x y ≡ (is_within (other_side x.side) x.place y && takes x y)
may-pair-is x y =
    swapped (nat_le x.place (y.place + 512)) (not (is_side x.side y.side)) (takes x y)
    ∙ ap (λ v. (v && nat_le x.place (y.place + 512)) && takes x y) (not-side x.side y.side)

both-true : (u v w : Bool) → ((u && v) && w) ≡ true → u ≡ true
both-true true v w h = refl
both-true false v w h = h

first-false : (u v : Bool) → u ≡ false → (u && v) ≡ false
first-false u v e = ap (λ b. b && v) e

pub partner-side : (x y : Placed) → may_pair x y ≡ true → is_side (other_side x.side) y.side ≡ true
partner-side x y h = both-true (is_side (other_side x.side) y.side) (nat_le x.place (y.place + 512)) (takes x y) (sym (may-pair-is x y) ∙ h)

partner-apart : (n : ℕ) (x y : Placed) → may_pair x y ≡ true → is_within x.side n y ≡ false
partner-apart n x y h = first-false (is_side x.side y.side) (nat_le n (y.place + 512)) (side-of x.side y.side (partner-side x y h))

-- ---- the window

all-near : (s : Which) (n lo hi : ℕ) (ys : List Placed) → IsAscending lo hi ys → n ≤ lo + 512 → window s n ys ≡ filter (λ y. is_side s y.side) ys
all-near s n lo hi [] h le = refl
all-near s n lo hi (y ∷ ys) h le =
    let near : nat_le n (y.place + 512) ≡ true = le-yes n (y.place + 512) (let p = h.0 in omega arith) in
    let rest = all-near s n (suc y.place) hi ys h.1 (let p = h.0 in omega arith) in
    ap (λ v. cond (is_side s y.side && v) (y ∷ window s n ys) (window s n ys)) near
    ∙ elim (is_side s y.side) as (λ b. cond (b && true) (y ∷ window s n ys) (window s n ys) ≡ cond b (y ∷ filter (λ z. is_side s z.side) ys) (filter (λ z. is_side s z.side) ys)) [
      | true ↦ ap (λ (l : List Placed). y ∷ l) rest
      | false ↦ rest
    ]

window-at : (n : ℕ) (y : Placed) (W V : List Placed) (b u v : Bool) → nat_le (suc n) (y.place + 512) ≡ v → (u ≡ true → V ≡ W) → (v ≡ true → u ≡ true) → V ≡ without_passed (suc n) W
    → cond (b && v) (y ∷ V) V ≡ without_passed (suc n) (cond (b && u) (y ∷ W) W)
window-at n y W V false u v e same less step = step
window-at n y W V true true true e same less step = ap (λ (l : List Placed). y ∷ l) (same refl) ∙ sym (ap (λ k. cond k (y ∷ W) W) e)
window-at n y W V true true false e same less step = same refl ∙ sym (ap (λ k. cond k (y ∷ W) W) e)
window-at n y W V true false true e same less step = let f = less refl in absurd (cc)
window-at n y W V true false false e same less step = step

-- when the position grows by one, at most the first waiting batch is dropped
pub window-next : (s : Which) (n lo hi : ℕ) (ys : List Placed) → IsAscending lo hi ys → window s (suc n) ys ≡ without_passed (suc n) (window s n ys)
window-next s n lo hi [] h = refl
window-next s n lo hi (y ∷ ys) h =
    window-at n y (window s n ys) (window s (suc n) ys) (is_side s y.side) (nat_le n (y.place + 512)) (nat_le (suc n) (y.place + 512)) refl
    (λ near. let le = le-of n (y.place + 512) near in
    all-near s (suc n) (suc y.place) hi ys h.1 (omega arith) ∙ sym (all-near s n (suc y.place) hi ys h.1 (omega arith)))
    (λ near. let le = le-of (suc n) (y.place + 512) near in le-yes n (y.place + 512) (omega arith))
    (window-next s n (suc y.place) hi ys h.1)

abbrev QO : Placed → Placed → Bool
QO x = is_within (other_side x.side) x.place

others-left : (x : Placed) (u : List Placed) (f : Option Placed) → find (may_pair x) u ≡ f → window (other_side x.side) x.place (left_by x u f) ≡ without_first (takes x) (window (other_side x.side) x.place u)
others-left x u None e =
    filter-append (QO x) u (x ∷ [])
    ∙ ap (λ (l : List Placed). window (other_side x.side) x.place u ++ l) (filter-no (QO x) x [] (first-false (is_side (other_side x.side) x.side) (nat_le x.place (x.place + 512)) (not-other x.side)))
    ∙ append-nil (window (other_side x.side) x.place u)
    ∙ sym (without-none (takes x) (window (other_side x.side) x.place u) (sym (find-within (may_pair x) (takes x) (QO x) (may-pair-is x) u) ∙ e))
others-left x u (Some y) e = without-within (may_pair x) (takes x) (QO x) (may-pair-is x) u

-- the batches that wait on the other side after x is added
pub others-next : (x : Placed) (u : List Placed) → IsAscending 0 x.place u
    → window (other_side x.side) (suc x.place) (unpaired_with x u) ≡ without_passed (suc x.place) (without_first (takes x) (window (other_side x.side) x.place u))
others-next x u h =
    window-next (other_side x.side) x.place 0 (suc x.place) (unpaired_with x u) (ascending-with x u h)
    ∙ ap (without_passed (suc x.place)) (others-left x u (find (may_pair x) u) refl)

-- x's partner is found among the batches that wait on the other side
pub partner-waits : (x : Placed) (u : List Placed) → find (may_pair x) u ≡ find (takes x) (window (other_side x.side) x.place u)
partner-waits x u = find-within (may_pair x) (takes x) (QO x) (may-pair-is x) u

own-left : (x : Placed) (u : List Placed) (f : Option Placed) → find (may_pair x) u ≡ f
    → window x.side (suc x.place) (left_by x u f) ≡ window x.side (suc x.place) u ++ kept x (option_map (paired_with x) f)
own-left x u None e =
    filter-append (is_within x.side (suc x.place)) u (x ∷ [])
    ∙ ap (λ (l : List Placed). window x.side (suc x.place) u ++ l)
    (filter-yes (is_within x.side (suc x.place)) x [] (ap (λ v. v && nat_le (suc x.place) (x.place + 512)) (own-side x.side) ∙ le-yes (suc x.place) (x.place + 512) (omega arith)))
own-left x u (Some y) e =
    without-apart (may_pair x) (is_within x.side (suc x.place)) (λ z p. partner-apart (suc x.place) x z p) u
    ∙ sym (append-nil (window x.side (suc x.place) u))

-- the batches that wait on x's own side after x is added
pub own-next : (x : Placed) (u : List Placed) → IsAscending 0 x.place u
    → window x.side (suc x.place) (unpaired_with x u) ≡ without_passed (suc x.place) (window x.side x.place u) ++ kept x (option_map (paired_with x) (find (may_pair x) u))
own-next x u h =
    own-left x u (find (may_pair x) u) refl
    ∙ ap (λ (l : List Placed). l ++ kept x (option_map (paired_with x) (find (may_pair x) u))) (window-next x.side x.place 0 x.place u h)

second-false : (u v : Bool) → v ≡ false → (u && v) ≡ false
second-false true v e = e
second-false false v e = refl

room-at : (s : Which) (n : ℕ) (y : Placed) (ys : List Placed) → IsAscending (suc y.place) n ys → length (window s (suc n) ys) < 512
    → (nat_le (suc n) (y.place + 512) ≡ true) ⊎ (nat_le (suc n) (y.place + 512) ≡ false) → length (window s (suc n) (y ∷ ys)) < 512
room-at s n y ys h rest (inl near) =
    let asc = ascending-filter (is_within s (suc n)) y.place n (y ∷ ys) (omega arith, h) in
    let long = ascending-length y.place n (window s (suc n) (y ∷ ys)) asc in
    let le = le-of (suc n) (y.place + 512) near in
    omega arith
room-at s n y ys h rest (inr far) =
    subst (λ (l : List Placed). length l < 512) (sym (filter-no (is_within s (suc n)) y ys (second-false (is_side s y.side) (nat_le (suc n) (y.place + 512)) far))) rest

room-from : (s : Which) (n lo : ℕ) (ys : List Placed) → IsAscending lo n ys → length (window s (suc n) ys) < 512
room-from s n lo [] h = omega arith
room-from s n lo (y ∷ ys) h = room-at s n y ys h.1 (room-from s n (suc y.place) ys h.1) (either (nat_le (suc n) (y.place + 512)))

-- there is room for one more waiting batch
pub room-next : (s : Which) (n : ℕ) (u : List Placed) → IsAscending 0 n u → length (without_passed (suc n) (window s n u)) < 512
room-next s n u h = subst (λ (l : List Placed). length l < 512) (window-next s n 0 n u h) (room-from s n 0 u h)

passed-one : (n : ℕ) (l : List Placed) → length l ≤ suc (length (without_passed n l))
passed-one n [] = omega arith
passed-one n (y ∷ ys) = elim (nat_le n (y.place + 512)) as (λ v. length (y ∷ ys) ≤ suc (length (cond v (y ∷ ys) ys))) [
  | true ↦ omega arith
  | false ↦ omega arith
]

-- at most 512 batches of a side wait
pub few-wait : (s : Which) (n : ℕ) (u : List Placed) → IsAscending 0 n u → length (window s n u) ≤ 512
few-wait s n u h = let one = passed-one (suc n) (window s n u) in let room = room-next s n u h in omega arith
