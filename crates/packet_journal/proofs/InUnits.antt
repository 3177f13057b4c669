-- Each packet of H.264 belongs to a unit.
use Rattle.std.proofs.Common.{◌≡◌, ◌⊎◌, inl, inr, ℕ, zero, suc, ◌+◌, ◌-◌, ◌<◌, ◌≤◌, refl, sym, ap, ◌∙◌, subst, arith}
use Rattle.std.proofs.lemmas.Bool.{cases_lt}
use Rattle.stream_journal.specs.Conforming.{Begins, Ends, IsVideo}
use Rattle.stream_journal.specs.Journal.{Journal, Part, Single, First, Middle, Last}
use Rattle.packet_journal.specs.InUnits.{IsInUnit}
use Rattle.packet_journal.specs.Units.{AreUnit}

-- ---- parts

begins_or : (q : Part) → Begins q ⊎ (Begins q → ⊥)
begins_or Single = inl (inl refl)
begins_or First = inl (inr refl)
begins_or Middle = inr neither
  where
    neither : Begins Middle → ⊥
    neither (inl e) = cc
    neither (inr e) = cc
begins_or Last = inr neither
  where
    neither : Begins Last → ⊥
    neither (inl e) = cc
    neither (inr e) = cc

ends_or : (q : Part) → Ends q ⊎ (Ends q → ⊥)
ends_or Single = inl (inl refl)
ends_or Last = inl (inr refl)
ends_or First = inr neither
  where
    neither : Ends First → ⊥
    neither (inl e) = cc
    neither (inr e) = cc
ends_or Middle = inr neither
  where
    neither : Ends Middle → ⊥
    neither (inl e) = cc
    neither (inr e) = cc

single_of : (q : Part) → Begins q → Ends q → q ≡ Single
single_of q (inl e) f = e
single_of q (inr e) (inl f) = f
single_of q (inr e) (inr f) = absurd (let g = sym e ∙ f in cc)

first_of : (q : Part) → Begins q → (Ends q → ⊥) → q ≡ First
first_of q (inl e) inner = absurd (inner (inl e))
first_of q (inr e) inner = e

last_of : (q : Part) → (Begins q → ⊥) → Ends q → q ≡ Last
last_of q inside (inl e) = absurd (inside (inl e))
last_of q inside (inr e) = e

middle_of : (q : Part) → (Begins q → ⊥) → (Ends q → ⊥) → q ≡ Middle
middle_of Single inside inner = absurd (inside (inl refl))
middle_of First inside inner = absurd (inside (inr refl))
middle_of Middle inside inner = refl
middle_of Last inside inner = absurd (inner (inr refl))

-- ---- from a packet back to the first packet of its unit, and forward to the last

-- no packet k with `from` ≤ k < `to` ends a unit
abbrev AreOpen : (ℕ → Part) → ℕ → ℕ → Type 0
AreOpen part from to = (k : ℕ) → from ≤ k → k < to → Ends (part k) → ⊥

record HasBegin (part : ℕ → Part) (n : ℕ) : Type 0 where
  from : ℕ
  low : from ≤ n
  begins : Begins (part from)
  inner : AreOpen part from n

one_more : (part : ℕ → Part) (from n : ℕ) → AreOpen part from n → (Ends (part n) → ⊥) → AreOpen part from (suc n)
one_more part from n inner here k low high = elim (cases_lt k n) [
  | inl below ↦ inner k low below
  | inr past ↦ let same : n ≡ k = omega arith in subst (λ (i : ℕ). Ends (part i) → ⊥) same here
]

begin_of : (j : Journal) (part : ℕ → Part) → IsVideo j part → (n : ℕ) → n < j.packets → HasBegin part n
begin_of j part is zero known = record { from = 0; low = omega arith; begins = is.first (omega arith); inner = λ k low high. absurd (omega arith) }
begin_of j part is (suc n) known = elim (begins_or (part (suc n))) [
  | inl begins ↦ record { from = suc n; low = omega arith; begins = begins; inner = λ k low high. absurd (omega arith) }
  | inr inside ↦
      let rest = begin_of j part is n (omega arith) in
      let low = rest.low in
      record { from = rest.from; low = omega arith; begins = rest.begins; inner = one_more part rest.from n rest.inner (λ e. inside ((is.beside n known).0 e)) }
]

record HasEnd (j : Journal) (part : ℕ → Part) (n : ℕ) : Type 0 where
  to : ℕ
  high : n ≤ to
  known : to < j.packets
  ends : Ends (part to)
  inner : AreOpen part n to

one_before : (part : ℕ → Part) (n to : ℕ) → (Ends (part n) → ⊥) → AreOpen part (suc n) to → AreOpen part n to
one_before part n to here inner k low high = elim (cases_lt n k) [
  | inl above ↦ inner k (omega arith) high
  | inr same ↦ let same : n ≡ k = omega arith in subst (λ (i : ℕ). Ends (part i) → ⊥) same here
]

end_of : (j : Journal) (part : ℕ → Part) → IsVideo j part → (n left : ℕ) → suc (n + left) ≡ j.packets → HasEnd j part n
end_of j part is n zero e =
    let last : j.packets ≡ suc n = omega arith in
    record { to = n; high = omega arith; known = omega arith; ends = is.last n last; inner = λ k low high. absurd (omega arith) }
end_of j part is n (suc left) e = elim (ends_or (part n)) [
  | inl ends ↦ record { to = n; high = omega arith; known = omega arith; ends = ends; inner = λ k low high. absurd (omega arith) }
  | inr here ↦
      let rest = end_of j part is (suc n) left (omega arith) in
      let high = rest.high in
      record { to = rest.to; high = omega arith; known = rest.known; ends = rest.ends; inner = one_before part n rest.to here rest.inner }
]

both_open : (part : ℕ → Part) (from n to : ℕ) → AreOpen part from n → AreOpen part n to → AreOpen part from to
both_open part from n to first second k low high = elim (cases_lt k n) [
  | inl below ↦ first k low below
  | inr past ↦ second k past high
]

-- ---- the unit

inside_of : (j : Journal) (part : ℕ → Part) → IsVideo j part → (from to k : ℕ) → AreOpen part from to → to < j.packets → from < k → k ≤ to → Begins (part k) → ⊥
inside_of j part is from to zero inner known low high begins = absurd (omega arith)
inside_of j part is from to (suc k) inner known low high begins = inner k (omega arith) (omega arith) ((is.beside k (omega arith)).1 begins)

unit_of : (j : Journal) (part : ℕ → Part) → IsVideo j part → (from to : ℕ) → from ≤ to → to < j.packets → Begins (part from) → Ends (part to) → AreOpen part from to → AreUnit part from to
unit_of j part is from to order known begins ends inner = elim (cases_lt from to) [
  | inl some ↦ inr (record {
    some = some;
    first = first_of (part from) begins (inner from (omega arith) some);
    middle = λ k low high. middle_of (part k) (inside_of j part is from to k inner known low (omega arith)) (inner k (omega arith) high);
    last = last_of (part to) (inside_of j part is from to to inner known some (omega arith)) ends;
  })
  | inr one ↦
      let same : from ≡ to = omega arith in
      inl (same, single_of (part to) (subst (λ (i : ℕ). Begins (part i)) same begins) ends)
]

due_on : (j : Journal) (part : ℕ → Part) → IsVideo j part → (from left : ℕ) → from + left < j.packets → AreOpen part from (from + left) → j.due (from + left) ≡ j.due from
due_on j part is from zero known inner = let same : from + 0 ≡ from = omega arith in ap j.due same
due_on j part is from (suc left) known inner =
    let next : from + suc left ≡ suc (from + left) = omega arith in
    let before = due_on j part is from left (omega arith) (λ k low high. inner k low (omega arith)) in
    ap j.due next ∙ (is.unit (from + left) (omega arith) (inner (from + left) (omega arith) (omega arith)) ∙ before)

due_at : (j : Journal) (part : ℕ → Part) → IsVideo j part → (from to k : ℕ) → to < j.packets → AreOpen part from to → from ≤ k → k ≤ to → j.due k ≡ j.due from
due_at j part is from to k known inner low high =
    let place : from + (k - from) ≡ k = omega arith in
    subst (λ (i : ℕ). j.due i ≡ j.due from) place (due_on j part is from (k - from) (omega arith) (λ i a b. inner i a (omega arith)))

pub in_unit : (j : Journal) (part : ℕ → Part) (n : ℕ) → IsVideo j part → n < j.packets → IsInUnit j part n
in_unit j part n is known =
    let b = begin_of j part is n known in
    let e = end_of j part is n (j.packets - suc n) (omega arith) in
    let inner = both_open part b.from n e.to b.inner e.inner in
    let low = b.low in
    let high = e.high in
    record {
      from = b.from;
      to = e.to;
      low = low;
      high = high;
      known = e.known;
      packets = unit_of j part is b.from e.to (omega arith) e.known b.begins e.ends inner;
      due = λ k from to. due_at j part is b.from e.to k e.known inner from to ∙ sym (due_at j part is b.from e.to n e.known inner low high);
    }
