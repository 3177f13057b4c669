-- The first sample that differs.
use Rattle.std.proofs.Common.{◌≡◌, ℕ, zero, suc, ◌+◌, ◌≤◌, Bool, true, false, cond, ◌&&◌, int_eq, nat_eq, ℤ, List, Option, Some, None, refl, sym, ap, ◌∙◌, subst, arith}
use Rattle.std.specs.Prelude.{int_le, ◌-◌}
use Rattle.std.specs.Str.{bytes_eq}
use Rattle.std.proofs.lemmas.Slice.Eq.{bytes_eq-Decides}
use Rattle.std.proofs.lemmas.Int.{ints}
use Rattle.std.proofs.lemmas.Bool.Decides.{Decides-eqb, Decides-int_eq}
use Rattle.time_unfold.specs.declared.line.Line.{Line}
use Rattle.sample_schedule.specs.Batches.{Presented, sample_instant}
use Rattle.sample_schedule.specs.Verdicts.{same_instant}
use Rattle.sample_schedule.proofs.OrderLemmas.{le_true}
use Rattle.listener_pair.specs.declared.difference.Way.{Way}
use Rattle.listener_pair.specs.declared.difference.Way.TheVariants.{At as AtWay, Bytes as BytesWay, Count as CountWay}
use Rattle.listener_pair.specs.Ways.{first_way, or_way, sample_bytes, sample_way, way_of}

pub first-none : (a b : Presented) → first_way a b 0 ≡ None
unfolding first_way
first-none a b = refl

pub first-more : (a b : Presented) (n : ℕ) → first_way a b (suc n) ≡ or_way (first_way a b n) (sample_way a b n)
unfolding first_way
first-more a b n = refl

pub first-next : (a b : Presented) (n : ℕ) → first_way a b n ≡ None → first_way a b (suc n) ≡ sample_way a b n
first-next a b n e = first-more a b n ∙ ap (λ (o : Option Way). or_way o (sample_way a b n)) e

stays : (a b : Presented) (n k : ℕ) (w : Way) → first_way a b n ≡ Some w → first_way a b (k + n) ≡ Some w
stays a b n zero w e = subst (λ (m : ℕ). first_way a b m ≡ Some w) (omega arith) e
stays a b n (suc k) w e =
    subst (λ (m : ℕ). first_way a b m ≡ Some w) (omega arith)
    (first-more a b (k + n) ∙ ap (λ (o : Option Way). or_way o (sample_way a b (k + n))) (stays a b n k w e))

pub first-stays : (a b : Presented) (n m : ℕ) (w : Way) → n ≤ m → first_way a b n ≡ Some w → first_way a b m ≡ Some w
first-stays a b n m w le e = subst (λ (l : ℕ). first_way a b l ≡ Some w) (omega arith) (stays a b n (m - n) w e)

pub same-is : (x y : ℤ) → x ≡ y → same_instant x y ≡ true
same-is x y e = subst (λ (z : ℤ). same_instant x z ≡ true) e (ap (λ v. cond v (int_le x x) false) (le_true x x (omega (arith, ints))) ∙ le_true x x (omega (arith, ints)))

pub equal-sample : (a b : Presented) (j : ℕ) → sample_instant a j ≡ sample_instant b j → sample_bytes a j ≡ sample_bytes b j → sample_way a b j ≡ None
unfolding sample_way
equal-sample a b j at bytes =
    ap (λ v. cond v (cond (bytes_eq (sample_bytes a j) (sample_bytes b j)) None (Some (BytesWay j))) (Some (AtWay j (sample_instant a j) (sample_instant b j)))) (same-is (sample_instant a j) (sample_instant b j) at)
    ∙ ap (λ v. cond v None (Some (BytesWay j))) ((bytes_eq-Decides (sample_bytes a j) (sample_bytes b j)).1 bytes)

-- two batches do not differ if their lines, first sample numbers, counts of samples and bytes are equal
pub equal-batches : (a b : Presented) (n : ℕ) → a.line ≡ b.line → a.from ≡ b.from → a.count ≡ b.count → a.bytes ≡ b.bytes → first_way a b n ≡ None
equal-batches a b zero l f c y = first-none a b
equal-batches a b (suc n) l f c y = first-next a b n (equal-batches a b n l f c y) ∙ equal-sample a b n (cc) (cc)

-- ---- what follows from the comparisons that the code makes

pub both-left : (u v : Bool) → (u && v) ≡ true → u ≡ true
both-left true v h = refl
both-left false v h = h

pub both-right : (u v : Bool) → (u && v) ≡ true → v ≡ true
both-right true v h = h
both-right false v h = absurd (cc)

line-eq : (l m : Line) → l.base ≡ m.base → l.num ≡ m.num → l.den ≡ m.den → l ≡ m
line-eq l m b n d = ap (λ x. record l { base = x }) b ∙ ap (λ x. record l { base = m.base; num = x }) n ∙ ap (λ x. record m { den = x }) d

pub lines-equal : (l m : Line) (r : Bool) → r ≡ (int_eq l.base m.base && (nat_eq l.num m.num && nat_eq l.den m.den)) → r ≡ true → l ≡ m
lines-equal l m r e h =
    let all = sym e ∙ h in
    let last = both-right (int_eq l.base m.base) (nat_eq l.num m.num && nat_eq l.den m.den) all in
    line-eq l m
    ((Decides-int_eq l.base m.base).0 (both-left (int_eq l.base m.base) (nat_eq l.num m.num && nat_eq l.den m.den) all))
    ((Decides-eqb l.num m.num).0 (both-left (nat_eq l.num m.num) (nat_eq l.den m.den) last))
    ((Decides-eqb l.den m.den).0 (both-right (nat_eq l.num m.num) (nat_eq l.den m.den) last))

pub bytes-equal : (x y : List ℕ) (r : Bool) → r ≡ bytes_eq x y → r ≡ true → x ≡ y
bytes-equal x y r e h = (bytes_eq-Decides x y).0 (sym e ∙ h)

pub no-way : (a b : Presented) → a.count ≡ b.count → first_way a b a.count ≡ None → None ≡ way_of a b
unfolding way_of
no-way a b count none = sym (ap (λ v. cond v (first_way a b a.count) (Some (CountWay a.count b.count))) ((Decides-eqb a.count b.count).1 count) ∙ none)
