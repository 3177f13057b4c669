-- Sorted keys, and the blocks in which they are kept.
use Rattle.std.proofs.Common.{◌≡◌, ◌≢◌, ℕ, zero, suc, ◌+◌, ◌-◌, ◌*◌, ◌<◌, ◌≤◌, ◌||◌, Bool, true, false, cond, ℤ, ◌≤ℤ◌, ◌<ℤ◌, List, [], ◌∷◌, ◌++◌, length, take, drop, get_or, refl, ap, sym, ◌∙◌, subst, arith}
use Rattle.std.specs.Prelude.{insert, int_le, int_lt, slice_set}
use Rattle.std.specs.List.{AllByRecursion, AllWithin, list_any}
use Rattle.std.specs.List.Sorted.{IsPartitionPoint, IsPartitionedBy}
use Rattle.std.proofs.lemmas.Int.{ints, by_lt_z}
use Rattle.std.proofs.lemmas.List.{append_assoc, append-nil, drop_all, length-append, take_all, take-append-drop}
use Rattle.std.proofs.lemmas.List.Folds.{list_any-append}
use Rattle.std.proofs.Math.Bool.{or-false}
use Rattle.sorted_keys.specs.declared.key.Key.{Key}
use Rattle.sorted_keys.specs.Keys.{is_key, put_key}
use Rattle.sorted_keys.specs.state.Keys.{AreBlocks, AreBlocksBut, IsBlockFor, IsPlace, IsStarted, KeysAreInOrder, all_keys, starts_before, starts_by}
use Rattle.sorted_keys.proofs.Comparing.{le_false, le_true, lt_true, lt_false}

from_le : (x y : ℤ) → int_le x y ≡ true → x ≤ℤ y
from_le x y h = grind (arith, ints)

from_not_le : (x y : ℤ) → int_le x y ≡ false → y <ℤ x
from_not_le x y h = grind (arith, ints)

from_lt : (x y : ℤ) → int_lt x y ≡ true → x <ℤ y
from_lt x y h = grind (arith, ints)

-- ---- facts about all items of a list

pub all-at : {X : Type 0} (P : X → Type 0) (xs : List X) (n : ℕ) (d : X) → n < length xs → AllByRecursion P xs → P (get_or xs n d)
all-at P [] n d l p = absurd (omega arith)
all-at P (x ∷ xs) zero d l p = p.0
all-at P (x ∷ xs) (suc n) d l p = all-at P xs n d (omega arith) p.1

all-set : {X : Type 0} (P : X → Type 0) (xs : List X) (n : ℕ) (x : X) → AllByRecursion P xs → P x → AllByRecursion P (slice_set xs n x)
all-set P [] n x p q = tt
all-set P (y ∷ ys) zero x p q = (q, p.1)
all-set P (y ∷ ys) (suc n) x p q = (p.0, all-set P ys n x p.1 q)

all-left : (P : Key → Type 0) (xs ys : List Key) → AllByRecursion P (xs ++ ys) → AllByRecursion P xs
all-left P [] ys p = tt
all-left P (x ∷ xs) ys p = (p.0, all-left P xs ys p.1)

pub all-right : {X : Type 0} (P : X → Type 0) (xs ys : List X) → AllByRecursion P (xs ++ ys) → AllByRecursion P ys
all-right P [] ys p = p
all-right P (x ∷ xs) ys p = all-right P xs ys p.1

-- ---- the order of keys

pub in_order-right : (xs ys : List Key) → KeysAreInOrder (xs ++ ys) → KeysAreInOrder ys
in_order-right [] ys s = s
in_order-right (x ∷ xs) ys s = in_order-right xs ys s.1

pub in_order-left : (xs ys : List Key) → KeysAreInOrder (xs ++ ys) → KeysAreInOrder xs
in_order-left [] ys s = tt
in_order-left (x ∷ xs) ys s = (all-left (λ o. x.instant ≤ℤ o.instant) xs ys s.0, in_order-left xs ys s.1)

not-earlier : (t u : ℤ) (ks : List Key) → t ≤ℤ u → AllByRecursion (λ o. u ≤ℤ o.instant) ks → AllByRecursion (λ o. t ≤ℤ o.instant) ks
not-earlier t u [] h p = tt
not-earlier t u (x ∷ xs) h p = (let q = p.0 in omega (arith, ints), not-earlier t u xs h p.1)

later : (t u : ℤ) (ks : List Key) → t <ℤ u → AllByRecursion (λ o. u ≤ℤ o.instant) ks → AllByRecursion (λ o. t <ℤ o.instant) ks
later t u [] h p = tt
later t u (x ∷ xs) h p = (let q = p.0 in omega (arith, ints), later t u xs h p.1)

pub all-put_key : (P : Key → Type 0) (ks : List Key) (k : Key) → AllByRecursion P ks → P k → AllByRecursion P (put_key ks k)
all-put_key P [] k p q = (q, tt)
all-put_key P (x ∷ xs) k p q = elim (int_lt k.instant x.instant) as (λ v. AllByRecursion P (cond v (k ∷ x ∷ xs) (x ∷ put_key xs k))) [
  | true ↦ (q, p)
  | false ↦ (p.0, all-put_key P xs k p.1 q)
]

pub in_order-put : (ks : List Key) (k : Key) → KeysAreInOrder ks → KeysAreInOrder (put_key ks k)
in_order-put [] k s = (tt, tt)
in_order-put (x ∷ xs) k s = by_lt_z k.instant x.instant
    (λ h. rw (lt_true k.instant x.instant h) ((omega (arith, ints), not-earlier k.instant x.instant xs (omega (arith, ints)) s.0), s))
    (λ h. rw (lt_false k.instant x.instant h) (all-put_key (λ o. x.instant ≤ℤ o.instant) xs k s.0 h, in_order-put xs k s.1))

pub placed : (ks : List Key) (n : ℕ) (k : Key) → IsPlace k.instant ks n → insert ks n k ≡ put_key ks k
placed ks n k is = at ks n k is.not_later is.later
  where
    at : (ks : List Key) (n : ℕ) (k : Key) → AllByRecursion (λ o. o.instant ≤ℤ k.instant) (take n ks) → AllByRecursion (λ o. k.instant <ℤ o.instant) (drop n ks) → insert ks n k ≡ put_key ks k
    at [] zero k p q = refl
    at (x ∷ xs) zero k p q = let h = q.0 in rw (lt_true k.instant x.instant (omega (arith, ints))) refl
    at [] (suc n) k p q = refl
    at (x ∷ xs) (suc n) k p q = let h = p.0 in rw (lt_false k.instant x.instant (omega (arith, ints))) (ap (λ (l : List Key). x ∷ l) (at xs n k p.1 q))

pub length-put : (ks : List Key) (k : Key) → length (put_key ks k) ≡ suc (length ks)
length-put [] k = refl
length-put (x ∷ xs) k = by_lt_z k.instant x.instant
    (λ h. rw (lt_true k.instant x.instant h) refl)
    (λ h. rw (lt_false k.instant x.instant h) (ap suc (length-put xs k)))

-- ---- indices in a block

pub partitioned : (t : ℤ) (ks : List Key) → KeysAreInOrder ks → IsPartitionedBy (λ k. int_le k.instant t) ks
partitioned t [] s i j d le l p = absurd (omega arith)
partitioned t (k ∷ ks) s zero zero d le l p = p
partitioned t (k ∷ ks) s zero (suc j) d le l p =
    let before = all-at (λ o. k.instant ≤ℤ o.instant) ks j d (omega arith) s.0 in
    let reached = from_le (get_or ks j d).instant t p in
    le_true k.instant t (omega (arith, ints))
partitioned t (k ∷ ks) s (suc i) zero d le l p = absurd (omega arith)
partitioned t (k ∷ ks) s (suc i) (suc j) d le l p = partitioned t ks s.1 i j d (omega arith) (omega arith) p

within-take : (t : ℤ) (ks : List Key) (n : ℕ) → n ≤ length ks → AllWithin (λ k. int_le k.instant t ≡ true) ks 0 n → AllByRecursion (λ k. k.instant ≤ℤ t) (take n ks)
within-take t [] zero l p = tt
within-take t [] (suc n) l p = tt
within-take t (k ∷ ks) zero l p = tt
within-take t (k ∷ ks) (suc n) l p = (from_le k.instant t (p 0 k (omega arith) (omega arith)), within-take t ks n (omega arith) (λ i d a b. p (suc i) d (omega arith) (omega arith)))

within-drop : (t : ℤ) (ks : List Key) (n : ℕ) → AllWithin (λ k. int_le k.instant t ≡ false) ks n (length ks) → AllByRecursion (λ k. t <ℤ k.instant) (drop n ks)
within-drop t [] zero p = tt
within-drop t [] (suc n) p = tt
within-drop t (k ∷ ks) zero p = (from_not_le k.instant t (p 0 k (omega arith) (omega arith)), within-drop t ks zero (λ i d a b. p (suc i) d (omega arith) (omega arith)))
within-drop t (k ∷ ks) (suc n) p = within-drop t ks n (λ i d a b. p (suc i) d (omega arith) (omega arith))

pub place-found : (t : ℤ) (ks : List Key) (n : ℕ) → n ≤ length ks → IsPartitionPoint (λ k. int_le k.instant t ≡ true) (λ k. int_le k.instant t ≡ false) ks n → IsPlace t ks n
place-found t ks n l p = record { within = l; not_later = within-take t ks n l p.0; later = within-drop t ks n p.1 }

up-to-read : (t : ℤ) (ks : List Key) (n : ℕ) (k : Key) → n ≤ length ks → k ≡ get_or ks (n - 1) k → KeysAreInOrder ks → k.instant ≤ℤ t → AllByRecursion (λ o. o.instant ≤ℤ t) (take n ks)
up-to-read t [] zero k l read s h = tt
up-to-read t [] (suc n) k l read s h = tt
up-to-read t (x ∷ xs) zero k l read s h = tt
up-to-read t (x ∷ xs) (suc zero) k l read s h = (let i : k.instant ≡ x.instant = ap (λ (o : Key). o.instant) read in omega (arith, ints), tt)
up-to-read t (x ∷ xs) (suc (suc n)) k l read s h =
    let at : suc (suc n) - 1 ≡ suc n = omega arith in
    let again : suc n - 1 ≡ n = omega arith in
    let is : k ≡ get_or xs n k = rw at at read in
    let before : x.instant ≤ℤ (get_or xs n k).instant = all-at (λ o. x.instant ≤ℤ o.instant) xs n k (omega arith) s.0 in
    let i : k.instant ≡ (get_or xs n k).instant = ap (λ (o : Key). o.instant) is in
    (omega (arith, ints), up-to-read t xs (suc n) k (omega arith) (rw again is) s.1 h)

pub place-end : (t : ℤ) (ks : List Key) (n : ℕ) (x : Key) → n ≡ length ks → x ≡ get_or ks (length ks - 1) x → KeysAreInOrder ks → x.instant ≤ℤ t → IsPlace t ks n
place-end t ks n x e is s h =
    let none : drop n ks ≡ [] = drop_all n ks (omega arith) in
    record {
      within = omega arith;
      not_later = up-to-read t ks n x (omega arith) (rw e is) s h;
      later = rw none tt;
    }

-- ---- a key is searched for

none-later : (t : ℤ) (seq : ℕ) (ks : List Key) → AllByRecursion (λ k. t <ℤ k.instant) ks → list_any (is_key t seq) ks ≡ false
none-later t seq [] p = refl
none-later t seq (x ∷ xs) p = rw (le_false x.instant t p.0) (none-later t seq xs p.1)

none-earlier : (t u : ℤ) (seq : ℕ) (ks : List Key) → u <ℤ t → AllByRecursion (λ k. k.instant ≤ℤ u) ks → list_any (is_key t seq) ks ≡ false
none-earlier t u seq [] h p = refl
none-earlier t u seq (x ∷ xs) h p =
    let q = p.0 in rw (le_true x.instant t (omega (arith, ints)), le_false t x.instant (omega (arith, ints))) (none-earlier t u seq xs h p.1)

pub keys-before : (t : ℤ) (seq : ℕ) (ks : List Key) (n : ℕ) → IsPlace t ks n → list_any (is_key t seq) (take n ks) ≡ list_any (is_key t seq) ks
keys-before t seq ks n place =
    sym (or-false (list_any (is_key t seq) (take n ks)))
    ∙ ap (λ (b : Bool). list_any (is_key t seq) (take n ks) || b) (sym (none-later t seq (drop n ks) place.later))
    ∙ sym (list_any-append (is_key t seq) (take n ks) (drop n ks))
    ∙ ap (λ (l : List Key). list_any (is_key t seq) l) (take-append-drop n ks)

-- `n` is from 1 to the length of the list, and `x` is the item at index `n` - 1.
pub record IsBehind {X : Type 0} (xs : List X) (n : ℕ) (x : X) : Type 0 where
  pub some : 0 < n
  pub within : n ≤ length xs
  pub read : x ≡ get_or xs (n - 1) x

take-one : {X : Type 0} (xs : List X) (n : ℕ) (x : X) → n < length xs → x ≡ get_or xs n x → take (suc n) xs ≡ take n xs ++ x ∷ []
take-one [] n x l e = absurd (omega arith)
take-one (y ∷ ys) zero x l e = ap (λ o. o ∷ []) (sym e)
take-one (y ∷ ys) (suc n) x l e = ap (λ r. y ∷ r) (take-one ys n x (omega arith) e)

take-behind : {X : Type 0} (xs : List X) (n : ℕ) (x : X) → IsBehind xs n x → take n xs ≡ take (n - 1) xs ++ x ∷ []
take-behind xs zero x is = absurd (let h = is.some in omega arith)
take-behind xs (suc n) x is =
    let at : suc n - 1 ≡ n = omega arith in
    let within = is.within in
    rw at (take-one xs n x (omega arith) (rw at at is.read))

pub behind-holds : (P : Key → Type 0) (ks : List Key) (n : ℕ) (k : Key) → IsBehind ks n k → AllByRecursion P (take n ks) → P k
behind-holds P ks n k is p = let q = subst (λ (l : List Key). AllByRecursion P l) (take-behind ks n k is) p in (all-right P (take (n - 1) ks) (k ∷ []) q).0

pub no-key-earlier : (t : ℤ) (seq : ℕ) (ks : List Key) (n : ℕ) (k : Key) → IsBehind ks n k → KeysAreInOrder ks → k.instant <ℤ t → list_any (is_key t seq) (take n ks) ≡ false
no-key-earlier t seq ks n k is o h = none-earlier t k.instant seq (take n ks) h (up-to-read k.instant ks n k is.within is.read o (omega (arith, ints)))

pub none-behind : (t : ℤ) (seq : ℕ) (ks : List Key) (k : Key) → 0 < length ks → k ≡ get_or ks (length ks - 1) k → KeysAreInOrder ks → k.instant <ℤ t → list_any (is_key t seq) ks ≡ false
none-behind t seq ks k some read o h =
    subst (λ (l : List Key). list_any (is_key t seq) l ≡ false) (take_all (length ks) ks (omega arith))
    (no-key-earlier t seq ks (length ks) k (record { some = some; within = omega arith; read = read }) o h)

-- ---- blocks

filled-some : (b : List Key) → 256 ≤ length b → b ≢ []
filled-some [] l e = absurd (omega arith)
filled-some (k ∷ b) l e = absurd (let n = ap (λ (x : List Key). length x) e in omega arith)

first-of : (P : Key → Type 0) (bs : List (List Key)) (n : ℕ) (k : Key) (b d : List Key) → k ∷ b ≡ get_or bs n d → n < length bs → AllByRecursion P (all_keys bs) → P k
first-of P [] n k b d e l p = absurd (omega arith)
first-of P (c ∷ cs) zero k b d e l p = (all-left P (k ∷ b) (all_keys cs) (subst (λ (x : List Key). AllByRecursion P (x ++ all_keys cs)) (sym e) p)).0
first-of P (c ∷ cs) (suc n) k b d e l p = first-of P cs n k b d e (omega arith) (all-right P c (all_keys cs) p)

-- Suppose that `c`, followed by the keys in the blocks `bs`, is sorted. If `k` is the first key of block `n`, each key
-- in `c` is at or before `k`.
before-first : (c : List Key) (bs : List (List Key)) (n : ℕ) (k : Key) (b d : List Key) → k ∷ b ≡ get_or bs n d → n < length bs → KeysAreInOrder (c ++ all_keys bs) → AllByRecursion (λ o. o.instant ≤ℤ k.instant) c
before-first [] bs n k b d e l s = tt
before-first (x ∷ c) bs n k b d e l s =
    (first-of (λ o. x.instant ≤ℤ o.instant) bs n k b d e l (all-right (λ o. x.instant ≤ℤ o.instant) c (all_keys bs) s.0), before-first c bs n k b d e l s.1)

earlier-than : (t u : ℤ) (ks : List Key) → u ≤ℤ t → AllByRecursion (λ o. o.instant ≤ℤ u) ks → AllByRecursion (λ o. o.instant ≤ℤ t) ks
earlier-than t u [] h p = tt
earlier-than t u (x ∷ xs) h p = (let q = p.0 in omega (arith, ints), earlier-than t u xs h p.1)

first-later : (t : ℤ) (b ys : List Key) → KeysAreInOrder (b ++ ys) → starts_by t b ≡ false → AllByRecursion (λ o. t <ℤ o.instant) (b ++ ys)
first-later t [] ys s h = absurd (let e : true ≡ false = h in cc)
first-later t (k ∷ b) ys s h = let g = from_not_le k.instant t h in (g, later t k.instant (b ++ ys) g s.0)

rest-later : (t : ℤ) (bs : List (List Key)) → KeysAreInOrder (all_keys bs) → AllWithin (λ b. starts_by t b ≡ false) bs 0 (length bs) → AllByRecursion (λ o. t <ℤ o.instant) (all_keys bs)
rest-later t [] s p = tt
rest-later t (b ∷ bs) s p = first-later t b (all_keys bs) s (p 0 b (omega arith) (omega arith))

-- `n` - 1, or 0 if `n` is 0
abbrev before : ℕ → ℕ
before zero = zero
before (suc n) = n

blocks-found : (t : ℤ) (bs : List (List Key)) (n : ℕ) → 1 ≤ length bs → n ≤ length bs → KeysAreInOrder (all_keys bs) → AllByRecursion (λ b. 256 ≤ length b) (drop 1 bs)
    → AllWithin (λ b. starts_by t b ≡ true) bs 0 n → AllWithin (λ b. starts_by t b ≡ false) bs n (length bs) → IsBlockFor t bs (before n)
blocks-found t [] n some l s f p q = absurd (omega arith)
blocks-found t (b ∷ bs) zero some l s f p q =
    all-right (λ o. t <ℤ o.instant) b (all_keys bs) (first-later t b (all_keys bs) s (q 0 b (omega arith) (omega arith)))
blocks-found t (b ∷ bs) (suc zero) some l s f p q = rest-later t bs (in_order-right b (all_keys bs) s) (λ i d x y. q (suc i) d (omega arith) (omega arith))
blocks-found t (b ∷ []) (suc (suc n)) some l s f p q = absurd (omega arith)
blocks-found t (b ∷ [] ∷ cs) (suc (suc n)) some l s f p q = absurd (let h = f.0 in omega arith)
blocks-found t (b ∷ (k ∷ c) ∷ cs) (suc (suc n)) some l s f p q =
    let h = from_le k.instant t (p 1 b (omega arith) (omega arith)) in (
      earlier-than t k.instant b h (before-first b ((k ∷ c) ∷ cs) 0 k c b refl (omega arith) s),
      blocks-found t ((k ∷ c) ∷ cs) (suc n) (omega arith) (omega arith) (in_order-right b (all_keys ((k ∷ c) ∷ cs)) s) f.1
          (λ i d x y. p (suc i) d (omega arith) (omega arith)) (λ i d x y. q (suc i) d (omega arith) (omega arith)),
    )

starts-at-first : (t : ℤ) (b : List Key) (bs : List (List Key)) (n : ℕ) (d : List Key) → KeysAreInOrder (b ++ all_keys bs) → n < length bs → get_or bs n d ≢ [] → starts_by t (get_or bs n d) ≡ true → starts_by t b ≡ true
starts-at-first t [] bs n d s l some h = refl
starts-at-first t (k ∷ b) bs n d s l some h = at (get_or bs n d) refl
  where
    at : (c : List Key) → c ≡ get_or bs n d → starts_by t (k ∷ b) ≡ true
    at [] e = absurd (some (sym e))
    at (x ∷ c) e =
        let before = first-of (λ o. k.instant ≤ℤ o.instant) bs n x c d e l (all-right (λ o. k.instant ≤ℤ o.instant) b (all_keys bs) s.0) in
        let reached = from_le x.instant t (subst (λ (y : List Key). starts_by t y ≡ true) (sym e) h) in
        le_true k.instant t (omega (arith, ints))

all-drop-one : (b : List Key) (bs : List (List Key)) → AllByRecursion (λ c. 256 ≤ length c) bs → AllByRecursion (λ c. 256 ≤ length c) (drop 1 bs)
all-drop-one b [] p = tt
all-drop-one b (c ∷ cs) p = p.1

blocks-partitioned : (t : ℤ) (bs : List (List Key)) → KeysAreInOrder (all_keys bs) → AllByRecursion (λ b. 256 ≤ length b) (drop 1 bs) → IsPartitionedBy (λ b. starts_by t b) bs
blocks-partitioned t [] s f i j d le l p = absurd (omega arith)
blocks-partitioned t (b ∷ bs) s f zero zero d le l p = p
blocks-partitioned t (b ∷ bs) s f zero (suc j) d le l p =
    starts-at-first t b bs j d s (omega arith) (filled-some (get_or bs j d) (all-at (λ c. 256 ≤ length c) bs j d (omega arith) f)) p
blocks-partitioned t (b ∷ bs) s f (suc i) zero d le l p = absurd (omega arith)
blocks-partitioned t (b ∷ bs) s f (suc i) (suc j) d le l p =
    blocks-partitioned t bs (in_order-right b (all_keys bs) s) (all-drop-one b bs f) i j d (omega arith) (omega arith) p

started-some : (bs : List (List Key)) → IsStarted bs → 1 ≤ length bs
started-some [] s = absurd s
started-some (b ∷ bs) s = omega arith

pub block-partitioned : (t : ℤ) (bs : List (List Key)) → AreBlocks bs → IsPartitionedBy (λ b. starts_by t b) bs
block-partitioned t bs are = blocks-partitioned t bs are.in_order are.filled

pub block-found : (t : ℤ) (bs : List (List Key)) (n : ℕ) → AreBlocks bs → n ≤ length bs → IsPartitionPoint (λ b. starts_by t b ≡ true) (λ b. starts_by t b ≡ false) bs n → IsBlockFor t bs (n - 1)
block-found t bs n are l p = subst (λ (m : ℕ). IsBlockFor t bs m) (at n) (blocks-found t bs n (started-some bs are.started) l are.in_order are.filled p.0 p.1)
  where
    at : (n : ℕ) → before n ≡ n - 1
    at zero = omega arith
    at (suc n) = let e : suc n - 1 ≡ n = omega arith in sym e

pub block-within : (t : ℤ) (bs : List (List Key)) (n : ℕ) → IsBlockFor t bs n → n < length bs
block-within t [] n p = absurd p
block-within t (b ∷ bs) zero p = omega arith
block-within t (b ∷ bs) (suc n) p = let h = block-within t bs n p.1 in omega arith

-- ---- a key is put into its block

put-before : (b ys : List Key) (k : Key) → AllByRecursion (λ o. k.instant <ℤ o.instant) ys → put_key (b ++ ys) k ≡ put_key b k ++ ys
put-before [] [] k p = refl
put-before [] (y ∷ ys) k p = rw (lt_true k.instant y.instant p.0) refl
put-before (x ∷ b) ys k p = by_lt_z k.instant x.instant
    (λ h. rw (lt_true k.instant x.instant h) refl)
    (λ h. rw (lt_false k.instant x.instant h) (ap (λ (l : List Key). x ∷ l) (put-before b ys k p)))

put-after : (b ys : List Key) (k : Key) → AllByRecursion (λ o. o.instant ≤ℤ k.instant) b → put_key (b ++ ys) k ≡ b ++ put_key ys k
put-after [] ys k p = refl
put-after (x ∷ b) ys k p = rw (lt_false k.instant x.instant p.0) (ap (λ (l : List Key). x ∷ l) (put-after b ys k p.1))

all-put : (bs : List (List Key)) (n : ℕ) (b : List Key) (k : Key) → IsBlockFor k.instant bs n → b ≡ get_or bs n b → all_keys (slice_set bs n (put_key b k)) ≡ put_key (all_keys bs) k
all-put [] n b k p e = absurd p
all-put (c ∷ cs) zero b k p e = ap (λ (x : List Key). put_key x k ++ all_keys cs) e ∙ sym (put-before c (all_keys cs) k p)
all-put (c ∷ cs) (suc n) b k p e = ap (λ (l : List Key). c ++ l) (all-put cs n b k p.1 e) ∙ sym (put-after c (all_keys cs) k p.0)

length-set : {X : Type 0} (xs : List X) (n : ℕ) (x : X) → length (slice_set xs n x) ≡ length xs
length-set [] n x = refl
length-set (y ∷ ys) zero x = refl
length-set (y ∷ ys) (suc n) x = ap suc (length-set ys n x)

get-set : {X : Type 0} (xs : List X) (n : ℕ) (x d : X) → n < length xs → get_or (slice_set xs n x) n d ≡ x
get-set [] n x d l = absurd (omega arith)
get-set (y ∷ ys) zero x d l = refl
get-set (y ∷ ys) (suc n) x d l = get-set ys n x d (omega arith)

-- if an index is inside a list, the default of `get_or` does not matter
pub get-any : {X : Type 0} (xs : List X) (n : ℕ) (d e : X) → n < length xs → get_or xs n d ≡ get_or xs n e
get-any [] n d e l = absurd (omega arith)
get-any (y ∷ ys) zero d e l = refl
get-any (y ∷ ys) (suc n) d e l = get-any ys n d e (omega arith)

set-set : {X : Type 0} (xs : List X) (n : ℕ) (x y : X) → slice_set (slice_set xs n x) n y ≡ slice_set xs n y
set-set [] n x y = refl
set-set (z ∷ zs) zero x y = refl
set-set (z ∷ zs) (suc n) x y = ap (λ l. z ∷ l) (set-set zs n x y)

started-set : (bs : List (List Key)) (n : ℕ) (b : List Key) → IsStarted bs → 1 ≤ length b → IsStarted (slice_set bs n b)
started-set [] n b s l = s
started-set (c ∷ []) zero b s l = tt
started-set (c ∷ []) (suc n) b s l = tt
started-set (c ∷ d ∷ cs) zero [] s l = absurd (omega arith)
started-set (c ∷ d ∷ cs) zero (k ∷ b) s l = tt
started-set ([] ∷ d ∷ cs) (suc n) b s l = absurd s
started-set ((k ∷ c) ∷ d ∷ cs) (suc zero) b s l = tt
started-set ((k ∷ c) ∷ d ∷ cs) (suc (suc n)) b s l = tt

filled-set : (bs : List (List Key)) (n : ℕ) (b : List Key) → AllByRecursion (λ c. 256 ≤ length c) (drop 1 bs) → (0 < n → 256 ≤ length b) → AllByRecursion (λ c. 256 ≤ length c) (drop 1 (slice_set bs n b))
filled-set [] n b f l = tt
filled-set (c ∷ cs) zero b f l = f
filled-set (c ∷ cs) (suc n) b f l = all-set (λ d. 256 ≤ length d) cs n b f (l (omega arith))

filled-at : (bs : List (List Key)) (n : ℕ) (d : List Key) → n < length bs → AllByRecursion (λ c. 256 ≤ length c) (drop 1 bs) → 0 < n → 256 ≤ length (get_or bs n d)
filled-at [] n d l f h = absurd (omega arith)
filled-at (c ∷ cs) zero d l f h = absurd (omega arith)
filled-at (c ∷ cs) (suc n) d l f h = all-at (λ b. 256 ≤ length b) cs n d (omega arith) f

-- A key was put into the block at index `n`, and the other blocks are unchanged.
pub record IsPutInto (bs cs : List (List Key)) (n : ℕ) (b : List Key) (k : Key) : Type 0 where
  pub place : IsBlockFor k.instant bs n
  pub read : b ≡ get_or bs n b
  pub set : cs ≡ slice_set bs n (put_key b k)

pub put-all : (bs cs : List (List Key)) (n : ℕ) (b : List Key) (k : Key) → IsPutInto bs cs n b k → all_keys cs ≡ put_key (all_keys bs) k
put-all bs cs n b k is = ap (λ (l : List (List Key)). all_keys l) is.set ∙ all-put bs n b k is.place is.read

pub put-blocks : (bs cs : List (List Key)) (n : ℕ) (b : List Key) (k : Key) → AreBlocks bs → IsPutInto bs cs n b k → AreBlocksBut n cs
put-blocks bs cs n b k are is =
    let within = block-within k.instant bs n is.place in
    let more = length-put b k in
    let longer : 0 < n → 256 ≤ length (put_key b k) = λ h. let l = filled-at bs n b within are.filled h in let e = ap (λ (x : List Key). length x) is.read in omega arith in
    subst (λ (l : List (List Key)). AreBlocksBut n l) (sym is.set) (record {
      in_order = subst (λ (l : List Key). KeysAreInOrder l) (sym (all-put bs n b k is.place is.read)) (in_order-put (all_keys bs) k are.in_order);
      started = started-set bs n (put_key b k) are.started (omega arith);
      filled = filled-set bs n (put_key b k) are.filled longer;
      within = let l = length-set bs n (put_key b k) in omega arith;
      most =
          let now = ap (λ (x : List Key). length x) (get-set bs n (put_key b k) [] within) in
          let short = all-at (λ c. length c < 512) bs n b within are.short in
          let e = ap (λ (x : List Key). length x) is.read in
          omega arith;
      others = subst (λ (l : List (List Key)). AllByRecursion (λ c. length c < 512) l) (sym (set-set bs n (put_key b k) [])) (all-set (λ c. length c < 512) bs n [] are.short (omega arith));
    })

pub short-again : (bs : List (List Key)) (n : ℕ) (b : List Key) → AreBlocksBut n bs → b ≡ get_or bs n b → length b < 512 → AreBlocks bs
short-again bs n b are e l = record {
  in_order = are.in_order;
  started = are.started;
  filled = are.filled;
  short = all bs n b e l are.others;
}
  where
    all : (bs : List (List Key)) (n : ℕ) (b : List Key) → b ≡ get_or bs n b → length b < 512 → AllByRecursion (λ c. length c < 512) (slice_set bs n []) → AllByRecursion (λ c. length c < 512) bs
    all [] n b e l p = tt
    all (c ∷ cs) zero b e l p = (let h = ap (λ (x : List Key). length x) e in omega arith, p.1)
    all (c ∷ cs) (suc n) b e l p = (p.0, all cs n b e l p.1)

-- ---- a block is split

-- A full block was replaced by two blocks, each with half of its keys.
pub record IsSplit (bs cs : List (List Key)) (n : ℕ) (lower upper : List Key) : Type 0 where
  pub full : length (get_or bs n []) ≡ 512
  pub half : length lower ≡ 256
  pub both : lower ++ upper ≡ get_or bs n []
  pub set : cs ≡ insert (slice_set bs n lower) (suc n) upper

two-all : (bs : List (List Key)) (n : ℕ) (lower upper : List Key) → n < length bs → lower ++ upper ≡ get_or bs n [] → all_keys (insert (slice_set bs n lower) (suc n) upper) ≡ all_keys bs
two-all [] n lower upper l e = absurd (omega arith)
two-all (b ∷ bs) zero lower upper l e = sym (append_assoc lower upper (all_keys bs)) ∙ ap (λ (x : List Key). x ++ all_keys bs) e
two-all (b ∷ bs) (suc n) lower upper l e = ap (λ (x : List Key). b ++ x) (two-all bs n lower upper (omega arith) e)

two-hold : (P : List Key → Type 0) (bs : List (List Key)) (n : ℕ) (lower upper : List Key) → AllByRecursion P bs → P lower → P upper → AllByRecursion P (insert (slice_set bs n lower) (suc n) upper)
two-hold P [] n lower upper p l u = (u, tt)
two-hold P (b ∷ bs) zero lower upper p l u = (l, (u, p.1))
two-hold P (b ∷ bs) (suc n) lower upper p l u = (p.0, two-hold P bs n lower upper p.1 l u)

two-filled : (bs : List (List Key)) (n : ℕ) (lower upper : List Key) → n < length bs → AllByRecursion (λ c. 256 ≤ length c) (drop 1 bs) → 256 ≤ length lower → 256 ≤ length upper → AllByRecursion (λ c. 256 ≤ length c) (drop 1 (insert (slice_set bs n lower) (suc n) upper))
two-filled [] n lower upper h f l u = absurd (omega arith)
two-filled (b ∷ bs) zero lower upper h f l u = (u, f)
two-filled (b ∷ bs) (suc n) lower upper h f l u = two-hold (λ c. 256 ≤ length c) bs n lower upper f l u

two-started : (bs : List (List Key)) (n : ℕ) (lower upper : List Key) → n < length bs → IsStarted bs → 1 ≤ length lower → IsStarted (insert (slice_set bs n lower) (suc n) upper)
two-started [] n lower upper h s l = absurd s
two-started (b ∷ bs) zero [] upper h s l = absurd (omega arith)
two-started (b ∷ bs) zero (k ∷ lower) upper h s l = tt
two-started (b ∷ []) (suc n) lower upper h s l = absurd (omega arith)
two-started ([] ∷ c ∷ cs) (suc n) lower upper h s l = absurd s
two-started ((k ∷ b) ∷ c ∷ cs) (suc zero) lower upper h s l = tt
two-started ((k ∷ b) ∷ c ∷ cs) (suc (suc n)) lower upper h s l = tt

two-short : (bs : List (List Key)) (n : ℕ) (lower upper : List Key) → AllByRecursion (λ c. length c < 512) (slice_set bs n []) → length lower < 512 → length upper < 512 → AllByRecursion (λ c. length c < 512) (insert (slice_set bs n lower) (suc n) upper)
two-short bs n lower upper p l u =
    subst (λ (x : List (List Key)). AllByRecursion (λ c. length c < 512) (insert x (suc n) upper)) (set-set bs n [] lower)
    (two-hold (λ c. length c < 512) (slice_set bs n []) n lower upper p l u)

pub split-all : (bs cs : List (List Key)) (n : ℕ) (lower upper : List Key) → AreBlocksBut n bs → IsSplit bs cs n lower upper → all_keys cs ≡ all_keys bs
split-all bs cs n lower upper are is = ap (λ (l : List (List Key)). all_keys l) is.set ∙ two-all bs n lower upper are.within is.both

pub split-blocks : (bs cs : List (List Key)) (n : ℕ) (lower upper : List Key) → AreBlocksBut n bs → IsSplit bs cs n lower upper → AreBlocks cs
split-blocks bs cs n lower upper are is =
    let full = is.full in
    let half = is.half in
    let sum = ap (λ (l : List Key). length l) is.both in
    let parts = length-append lower upper in
    subst (λ (l : List (List Key)). AreBlocks l) (sym is.set) (record {
      in_order = subst (λ (l : List Key). KeysAreInOrder l) (sym (two-all bs n lower upper are.within is.both)) are.in_order;
      started = two-started bs n lower upper are.within are.started (omega arith);
      filled = two-filled bs n lower upper are.within are.filled (omega arith) (omega arith);
      short = two-short bs n lower upper are.others (omega arith) (omega arith);
    })

-- ---- how many blocks there are

filled-count : (bs : List (List Key)) → AllByRecursion (λ c. 256 ≤ length c) bs → 256 * length bs ≤ length (all_keys bs)
filled-count [] f = omega arith
filled-count (b ∷ bs) f =
    let here = f.0 in
    let rest = filled-count bs f.1 in
    let both = length-append b (all_keys bs) in
    omega arith

full-count : (bs : List (List Key)) (n : ℕ) → n < length bs → AllByRecursion (λ c. 256 ≤ length c) bs → length (get_or bs n []) ≡ 512 → 256 * length bs + 256 ≤ length (all_keys bs)
full-count [] n l f e = absurd (omega arith)
full-count (b ∷ bs) zero l f e =
    let rest = filled-count bs f.1 in
    let both = length-append b (all_keys bs) in
    omega arith
full-count (b ∷ bs) (suc n) l f e =
    let here = f.0 in
    let rest = full-count bs n (omega arith) f.1 e in
    let both = length-append b (all_keys bs) in
    omega arith

pub blocks-count : (bs : List (List Key)) (n : ℕ) → AreBlocksBut n bs → length (get_or bs n []) ≡ 512 → 256 * length bs ≤ length (all_keys bs)
blocks-count bs n are e = at bs n are.within are.filled e
  where
    at : (bs : List (List Key)) (n : ℕ) → n < length bs → AllByRecursion (λ c. 256 ≤ length c) (drop 1 bs) → length (get_or bs n []) ≡ 512 → 256 * length bs ≤ length (all_keys bs)
    at [] n l f e = absurd (omega arith)
    at (b ∷ bs) zero l f e =
        let rest = filled-count bs f in
        let both = length-append b (all_keys bs) in
        omega arith
    at (b ∷ bs) (suc n) l f e =
        let rest = full-count bs n (omega arith) f e in
        let both = length-append b (all_keys bs) in
        omega arith

-- ---- a key is searched for in blocks

pub blocks-before : (t : ℤ) (seq : ℕ) (bs : List (List Key)) (n : ℕ) → IsBlockFor t bs n → list_any (is_key t seq) (all_keys (take (suc n) bs)) ≡ list_any (is_key t seq) (all_keys bs)
blocks-before t seq [] n p = absurd p
blocks-before t seq (b ∷ bs) zero p =
    list_any-append (is_key t seq) b [] ∙ ap (λ (x : Bool). list_any (is_key t seq) b || x) (sym (none-later t seq (all_keys bs) p))
    ∙ sym (list_any-append (is_key t seq) b (all_keys bs))
blocks-before t seq (b ∷ bs) (suc n) p =
    list_any-append (is_key t seq) b (all_keys (take (suc n) bs)) ∙ ap (λ (x : Bool). list_any (is_key t seq) b || x) (blocks-before t seq bs n p.1)
    ∙ sym (list_any-append (is_key t seq) b (all_keys bs))

all-append : (xs ys : List (List Key)) → all_keys (xs ++ ys) ≡ all_keys xs ++ all_keys ys
all-append [] ys = refl
all-append (x ∷ xs) ys = ap (λ (l : List Key). x ++ l) (all-append xs ys) ∙ sym (append_assoc x (all_keys xs) (all_keys ys))

any-block : (p : Key → Bool) (bs : List (List Key)) (n : ℕ) (b : List Key) → IsBehind bs n b → list_any p (all_keys (take n bs)) ≡ (list_any p (all_keys (take (n - 1) bs)) || list_any p b)
any-block p bs n b is =
    ap (λ (l : List (List Key)). list_any p (all_keys l)) (take-behind bs n b is)
    ∙ ap (λ (l : List Key). list_any p l) (all-append (take (n - 1) bs) (b ∷ []) ∙ ap (λ (l : List Key). all_keys (take (n - 1) bs) ++ l) (append-nil b))
    ∙ list_any-append p (all_keys (take (n - 1) bs)) b

pub block-passed : (p : Key → Bool) (bs : List (List Key)) (n : ℕ) (b : List Key) → IsBehind bs n b → list_any p b ≡ false → list_any p (all_keys (take (n - 1) bs)) ≡ list_any p (all_keys (take n bs))
block-passed p bs n b is h = sym (any-block p bs n b is ∙ ap (λ (x : Bool). list_any p (all_keys (take (n - 1) bs)) || x) h ∙ or-false (list_any p (all_keys (take (n - 1) bs))))

-- if the first key of block `b` is earlier than `t`, no block before `b` has a key at `t`
pub no-block-earlier : (t : ℤ) (seq : ℕ) (bs : List (List Key)) (n : ℕ) (b : List Key) → IsBehind bs n b → KeysAreInOrder (all_keys bs) → starts_before t b ≡ true → list_any (is_key t seq) (all_keys (take (n - 1) bs)) ≡ false
no-block-earlier t seq bs n [] is s h = absurd (let e : false ≡ true = h in cc)
no-block-earlier t seq bs n (k ∷ b) is s h = let some = is.some in let within = is.within in at bs (n - 1) s (omega arith) is.read
  where
    at : (bs : List (List Key)) (m : ℕ) → KeysAreInOrder (all_keys bs) → m < length bs → k ∷ b ≡ get_or bs m (k ∷ b) → list_any (is_key t seq) (all_keys (take m bs)) ≡ false
    at bs zero s l e = refl
    at [] (suc m) s l e = absurd (omega arith)
    at (c ∷ cs) (suc m) s l e =
        list_any-append (is_key t seq) c (all_keys (take m cs))
        ∙ ap (λ (x : Bool). x || list_any (is_key t seq) (all_keys (take m cs))) (none-earlier t k.instant seq c (from_lt k.instant t h) (before-first c cs m k b (k ∷ b) e (omega arith) s))
        ∙ at cs m (in_order-right c (all_keys cs) s) (omega arith) e
