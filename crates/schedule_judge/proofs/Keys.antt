-- Keys and the batches that they belong to.
use Rattle.std.proofs.Common.{◌≡◌, ◌≢◌, ℕ, suc, ◌+◌, ◌-◌, ◌||◌, Bool, true, false, cond, ℤ, List, [], ◌∷◌, Option, Some, None, length, refl, ap, sym, ◌∙◌, subst, arith}
use Rattle.std.specs.Prelude.{int_lt, slice_get}
use Rattle.std.specs.List.{AllByRecursion, cons_option, list_any}
use Rattle.std.proofs.lemmas.Int.{ints, by_lt_z}
use Rattle.std.proofs.lemmas.List.Sums.{sum_by-cons}
use Rattle.slab.specs.Slab.{Slab, Updates, get, slab_len}
use Rattle.sample_schedule.specs.declared.accepted.Accepted.{Accepted}
use Rattle.sorted_keys.specs.declared.key.Key.{Key}
use Rattle.sorted_keys.specs.Keys.{is_key, put_key}
use Rattle.sample_schedule.specs.Order.{put_behind}
use Rattle.schedule_judge.specs.state.Order.{starts_due}
use Rattle.sample_schedule.specs.Verdicts.{is_copy, total_bytes}
use Rattle.schedule_judge.specs.state.Waiting.{HaveOwnSlots, IsKey, IsWaiting, batch_of, held}
use Rattle.sorted_keys.proofs.BlockLemmas.{all-put_key, length-put}
use Rattle.sample_schedule.proofs.LawLemmas.{bytes-put_behind}
use Rattle.sample_schedule.proofs.OrderLemmas.{lt_true, lt_false}

-- ---- the batches to which keys belong

held-cons : (s : Slab Accepted) (k : Key) (ks : List Key) (a : Accepted) → batch_of s k ≡ Some a → held s (k ∷ ks) ≡ a ∷ held s ks
held-cons s k ks a e = ap (λ (o : Option Accepted). cons_option o (held s ks)) e

pub held-length : (s : Slab Accepted) (ks : List Key) → AllByRecursion (IsKey s) ks → length (held s ks) ≡ length ks
held-length s [] p = refl
held-length s (k ∷ ks) p = ap (λ (l : List Accepted). length l) (held-cons s k ks p.0.batch p.0.there) ∙ ap suc (held-length s ks p.1)

held-put : (s : Slab Accepted) (ks : List Key) (k : Key) (a : Accepted) → AllByRecursion (IsKey s) ks → batch_of s k ≡ Some a → k.instant ≡ a.instant → held s (put_key ks k) ≡ put_behind (held s ks) a
held-put s [] k a p e i = held-cons s k [] a e
held-put s (x ∷ xs) k a p e i =
    let b = p.0.batch in
    let at : b.instant ≡ x.instant = p.0.instant in
    let first = held-cons s x xs b p.0.there in
    by_lt_z k.instant x.instant
    (λ h. rw (lt_true k.instant x.instant h) (held-cons s k (x ∷ xs) a e ∙ ap (λ (l : List Accepted). a ∷ l) first
    ∙ sym (ap (λ (l : List Accepted). put_behind l a) first ∙ ap (λ (c : Bool). cond c (a ∷ b ∷ held s xs) (b ∷ put_behind (held s xs) a)) (lt_true a.instant b.instant (omega (arith, ints))))))
    (λ h. rw (lt_false k.instant x.instant h) (held-cons s x (put_key xs k) b p.0.there ∙ ap (λ (l : List Accepted). b ∷ l) (held-put s xs k a p.1 e i)
    ∙ sym (ap (λ (l : List Accepted). put_behind l a) first ∙ ap (λ (c : Bool). cond c (a ∷ b ∷ held s xs) (b ∷ put_behind (held s xs) a)) (lt_false a.instant b.instant (omega (arith, ints))))))

pub held-copies : (t : ℤ) (seq : ℕ) (s : Slab Accepted) (ks : List Key) → AllByRecursion (IsKey s) ks → list_any (is_key t seq) ks ≡ list_any (is_copy t seq) (held s ks)
held-copies t seq s [] p = refl
held-copies t seq s (x ∷ xs) p =
    let b = p.0.batch in
    let same : is_key t seq x ≡ is_copy t seq b = rw (p.0.instant, p.0.seq) refl in
    ap (λ (c : Bool). c || list_any (is_key t seq) xs) same ∙ ap (λ (c : Bool). is_copy t seq b || c) (held-copies t seq s xs p.1)
    ∙ ap (λ (l : List Accepted). list_any (is_copy t seq) l) (sym (held-cons s x xs b p.0.there))

pub first-due : (now : ℤ) (s : Slab Accepted) (ks : List Key) (k : Key) → AllByRecursion (IsKey s) ks → slice_get ks 0 ≡ Some k → starts_due now (held s ks) ≡ int_lt k.instant now
first-due now s [] k p e = absurd (let h : None ≡ Some k = e in cc)
first-due now s (x ∷ xs) k p e =
    let same : x ≡ k = let h : Some x ≡ Some k = e in cc in
    ap (λ (l : List Accepted). starts_due now l) (held-cons s x xs p.0.batch p.0.there) ∙ ap (λ (i : ℤ). int_lt i now) (p.0.instant ∙ ap (λ (o : Key). o.instant) same)

pub none-due : (now : ℤ) (s : Slab Accepted) (ks : List Key) → slice_get ks 0 ≡ None → starts_due now (held s ks) ≡ false
none-due now s [] e = refl
none-due now s (x ∷ xs) e = absurd (let h : Some x ≡ None = e in cc)

-- ---- slots

not-taken : (s : Slab Accepted) (slot : ℕ) (ks : List Key) → get s slot ≡ None → AllByRecursion (IsKey s) ks → AllByRecursion (λ k. k.slot ≢ slot) ks
not-taken s slot [] none p = tt
not-taken s slot (k ∷ ks) none p =
    let there = p.0.there in
    ((λ e. let same : get s k.slot ≡ get s slot = ap (λ (n : ℕ). get s n) e in cc), not-taken s slot ks none p.1)

held-same : (s t : Slab Accepted) (slot : ℕ) (now : Option Accepted) (ks : List Key) → Updates s t slot now → AllByRecursion (λ k. k.slot ≢ slot) ks → held t ks ≡ held s ks
held-same s t slot now [] u p = refl
held-same s t slot now (k ∷ ks) u p =
    ap (λ (o : Option Accepted). cons_option o (held t ks)) (u.others k.slot p.0) ∙ ap (λ (l : List Accepted). cons_option (get s k.slot) l) (held-same s t slot now ks u p.1)

keys-same : (s t : Slab Accepted) (slot : ℕ) (now : Option Accepted) (ks : List Key) → Updates s t slot now → AllByRecursion (λ k. k.slot ≢ slot) ks → AllByRecursion (IsKey s) ks → AllByRecursion (IsKey t) ks
keys-same s t slot now [] u p q = tt
keys-same s t slot now (k ∷ ks) u p q =
    (record { batch = q.0.batch; there = u.others k.slot p.0 ∙ q.0.there; instant = q.0.instant; seq = q.0.seq }, keys-same s t slot now ks u p.1 q.1)

own-put : (ks : List Key) (k : Key) → HaveOwnSlots ks → AllByRecursion (λ other. other.slot ≢ k.slot) ks → HaveOwnSlots (put_key ks k)
own-put [] k o p = (tt, tt)
own-put (x ∷ xs) k o p = elim (int_lt k.instant x.instant) as (λ v. HaveOwnSlots (cond v (k ∷ x ∷ xs) (x ∷ put_key xs k))) [
  | true ↦ (p, o)
  | false ↦ (all-put_key (λ other. other.slot ≢ x.slot) xs k o.0 (λ e. p.0 (sym e)), own-put xs k o.1 p.1)
]

-- ---- one more batch waits

-- A batch was put into a free slot. The batch's key was put after all keys with earlier or equal instants.
pub record IsPut (s t : Slab Accepted) (ks ls : List Key) (k : Key) (a : Accepted) : Type 0 where
  pub free : get s k.slot ≡ None
  pub slot : Updates s t k.slot (Some a)
  pub instant : k.instant ≡ a.instant
  pub seq : k.seq ≡ a.batch.seq
  pub keys : ls ≡ put_key ks k

put-there : (s t : Slab Accepted) (ks ls : List Key) (k : Key) (a : Accepted) → IsPut s t ks ls k a → AllByRecursion (IsKey s) ks → AllByRecursion (IsKey t) ks
put-there s t ks ls k a is p = keys-same s t k.slot (Some a) ks is.slot (not-taken s k.slot ks is.free p) p

pub put-list : (s t : Slab Accepted) (ks ls : List Key) (k : Key) (a : Accepted) → IsPut s t ks ls k a → AllByRecursion (IsKey s) ks → held t ls ≡ put_behind (held s ks) a
put-list s t ks ls k a is p =
    ap (λ (l : List Key). held t l) is.keys
    ∙ held-put t ks k a (put-there s t ks ls k a is p) is.slot.changed is.instant
    ∙ ap (λ (l : List Accepted). put_behind l a) (held-same s t k.slot (Some a) ks is.slot (not-taken s k.slot ks is.free p))

pub put-waiting : (s t : Slab Accepted) (ks ls : List Key) (k : Key) (a : Accepted) (bytes : ℕ) → IsPut s t ks ls k a → slab_len t ≡ slab_len s + 1 → IsWaiting ks s bytes → IsWaiting ls t (bytes + length a.batch.bytes)
put-waiting s t ks ls k a bytes is more w =
    let count = w.count in
    let longer = length-put ks k in
    let total = w.total in
    let sum = bytes-put_behind (held s ks) a in
    let list = ap total_bytes (put-list s t ks ls k a is w.there) in
    let keys = ap (λ (l : List Key). length l) is.keys in
    record {
      there = subst (λ (l : List Key). AllByRecursion (IsKey t) l) (sym is.keys)
          (all-put_key (IsKey t) ks k (put-there s t ks ls k a is w.there) (record { batch = a; there = is.slot.changed; instant = sym is.instant; seq = sym is.seq }));
      own = subst (λ (l : List Key). HaveOwnSlots l) (sym is.keys) (own-put ks k w.own (not-taken s k.slot ks is.free w.there));
      total = omega arith;
      count = omega arith;
    }

-- ---- the first batch is taken

pub take-list : (s t : Slab Accepted) (k : Key) (ks : List Key) (a : Accepted) (bytes : ℕ) → IsWaiting (k ∷ ks) s bytes → get s k.slot ≡ Some a → Updates s t k.slot None → held s (k ∷ ks) ≡ a ∷ held t ks
take-list s t k ks a bytes w e u = held-cons s k ks a e ∙ ap (λ (l : List Accepted). a ∷ l) (sym (held-same s t k.slot None ks u w.own.0))

pub take-waiting : (s t : Slab Accepted) (k : Key) (ks : List Key) (a : Accepted) (bytes : ℕ) → IsWaiting (k ∷ ks) s bytes → get s k.slot ≡ Some a → Updates s t k.slot None → slab_len t + 1 ≡ slab_len s → IsWaiting ks t (bytes - length a.batch.bytes)
take-waiting s t k ks a bytes w e u fewer =
    let count = w.count in
    let total : bytes ≡ length a.batch.bytes + total_bytes (held t ks) =
    w.total ∙ ap total_bytes (take-list s t k ks a bytes w e u) ∙ sum_by-cons (λ b. length b.batch.bytes) a (held t ks) in
    record {
      there = keys-same s t k.slot None ks u w.own.0 w.there.1;
      own = w.own.1;
      total = omega arith;
      count = omega arith;
    }
