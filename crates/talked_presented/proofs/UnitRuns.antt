-- A stream of H.264 consists of units, one after another.
use Rattle.std.proofs.Common.{◌≡◌, ◌⊎◌, ℕ, zero, suc, ◌+◌, ◌-◌, ◌<◌, ◌≤◌, true, false, [], ◌∷◌, filter, refl, sym, ap, ◌∙◌, subst, inl, inr, arith}
use Rattle.std.specs.List.{range_with_len}
use Rattle.std.proofs.lemmas.Bool.{cases_lt}
use Rattle.std.proofs.lemmas.List.Elements.{filter-append}
use Rattle.stream_journal.specs.Conforming.{Begins, Ends, IsVideo}
use Rattle.stream_journal.specs.Journal.{Journal, Part, Single, First, Middle, Last}
use Rattle.packet_journal.specs.Units.{AreUnit}
use Rattle.talked_presented.specs.Whole.{ends_unit}
use Rattle.talked_presented.proofs.Counted.{more_range}

-- A unit begins with packet m, and ends with packet `n`.
pub record HasEnd (j : Journal) (part : ℕ → Part) (m : ℕ) : Type 0 where
  pub n : ℕ
  pub known : n < j.packets
  pub packets : AreUnit part m n

inside_ends : (q : Part) → (q ≡ First) ⊎ (q ≡ Middle) → Ends q → ⊥
inside_ends q (inl e) (inl f) = let g = sym e ∙ f in cc
inside_ends q (inl e) (inr f) = let g = sym e ∙ f in cc
inside_ends q (inr e) (inl f) = let g = sym e ∙ f in cc
inside_ends q (inr e) (inr f) = let g = sym e ∙ f in cc

-- all packets after m, up to j, are middle fragments
abbrev AreMiddle : (ℕ → Part) → ℕ → ℕ → Type 0
AreMiddle part m j = (i : ℕ) → m < i → i ≤ j → part i ≡ Middle

open_at : (part : ℕ → Part) (m j : ℕ) → m ≤ j → part m ≡ First → AreMiddle part m j → (part j ≡ First) ⊎ (part j ≡ Middle)
open_at part m j le first middle = elim (cases_lt m j) [
  | inl later ↦ inr (middle j later (omega arith))
  | inr not ↦ let same : m ≡ j = omega (arith, le) in inl (subst (λ (i : ℕ). part i ≡ First) same first)
]

one_more_middle : (part : ℕ → Part) (m j : ℕ) → AreMiddle part m j → part (suc j) ≡ Middle → AreMiddle part m (suc j)
one_more_middle part m j middle e i from to = elim (cases_lt j i) [
  | inl last ↦ let same : suc j ≡ i = omega arith in subst (λ (k : ℕ). part k ≡ Middle) same e
  | inr before ↦ middle i from before
]

scan : (fuel : ℕ) (j : Journal) (part : ℕ → Part) (m k : ℕ) → IsVideo j part → m ≤ k → suc k + fuel ≡ j.packets → part m ≡ First → AreMiddle part m k → HasEnd j part m
scan zero j part m k is le sum first middle =
    let all : j.packets ≡ suc k = omega arith in
    absurd (inside_ends (part k) (open_at part m k le first middle) (is.last k all))
scan (suc fuel) j part m k is le sum first middle = by (part (suc k)) refl (λ e. scan fuel j part m (suc k) is (omega arith) (omega arith) first (one_more_middle part m k middle e))
  where
    begun : Begins (part (suc k)) → HasEnd j part m
    begun b = absurd (inside_ends (part k) (open_at part m k le first middle) ((is.beside k (omega arith)).1 b))

    by : (q : Part) → part (suc k) ≡ q → (part (suc k) ≡ Middle → HasEnd j part m) → HasEnd j part m
    by Single e on = begun (inl e)
    by First e on = begun (inr e)
    by Middle e on = on e
    by Last e on = record {
      n = suc k;
      known = omega arith;
      packets = inr (record { some = omega arith; first = first; middle = λ i from to. middle i from (omega arith); last = e });
    }

pub find_end : (j : Journal) (part : ℕ → Part) (m : ℕ) → IsVideo j part → m < j.packets → Begins (part m) → HasEnd j part m
find_end j part m is known (inl one) = record { n = m; known = known; packets = inl (refl, one) }
find_end j part m is known (inr first) = scan (j.packets - suc m) j part m m is (omega arith) (omega arith) first (λ i from to. absurd (omega arith))

pub unit_low : (part : ℕ → Part) (m n : ℕ) → AreUnit part m n → m ≤ n
unit_low part m n (inl a) = let same = a.0 in omega arith
unit_low part m n (inr a) = let some = a.some in omega arith

pub unit_ends : (part : ℕ → Part) (m n : ℕ) → AreUnit part m n → Ends (part n)
unit_ends part m n (inl a) = inl a.1
unit_ends part m n (inr a) = inr a.last

-- ---- the numbers of last packets

pub ends_so : (q : Part) → Ends q → ends_unit q ≡ true
ends_so Single e = refl
ends_so First e = absurd (inside_ends First (inl refl) e)
ends_so Middle e = absurd (inside_ends Middle (inr refl) e)
ends_so Last e = refl

inside_so : (q : Part) → (q ≡ First) ⊎ (q ≡ Middle) → ends_unit q ≡ false
inside_so q (inl e) = rw e refl
inside_so q (inr e) = rw e refl

none_inside : (part : ℕ → Part) (a k : ℕ) → ((i : ℕ) → a ≤ i → i < a + k → ends_unit (part i) ≡ false) → filter (λ (i : ℕ). ends_unit (part i)) (range_with_len a k) ≡ []
none_inside part a zero none = refl
none_inside part a (suc k) none = rw (none a (omega arith) (omega arith)) (none_inside part (a + 1) k (λ i from to. none i (omega arith) (omega arith)))

pub inside_unit : (part : ℕ → Part) (m n i : ℕ) → AreUnit part m n → m ≤ i → i < n → ends_unit (part i) ≡ false
inside_unit part m n i (inl a) from to = absurd (let same = a.0 in omega arith)
inside_unit part m n i (inr a) from to = elim (cases_lt m i) [
  | inl later ↦ inside_so (part i) (inr (a.middle i later to))
  | inr not ↦ let same : m ≡ i = omega arith in inside_so (part i) (inl (subst (λ (k : ℕ). part k ≡ First) same a.first))
]

pub one_end : (part : ℕ → Part) (m n : ℕ) → AreUnit part m n → filter (λ (i : ℕ). ends_unit (part i)) (range_with_len m (suc n - m)) ≡ n ∷ []
one_end part m n unit =
    let low = unit_low part m n unit in
    let parts : suc n - m ≡ (n - m) + 1 = omega (arith, low) in
    let place : m + (n - m) ≡ n = omega (arith, low) in
    ap (λ (k : ℕ). filter (λ (i : ℕ). ends_unit (part i)) (range_with_len m k)) parts
    ∙ (ap (filter (λ (i : ℕ). ends_unit (part i))) (more_range m (n - m) 1)
    ∙ (filter-append (λ (i : ℕ). ends_unit (part i)) (range_with_len m (n - m)) (range_with_len (m + (n - m)) 1)
    ∙ rw (none_inside part m (n - m) (λ i from to. inside_unit part m n i unit from (omega (arith, to, place))), place, ends_so (part n) (unit_ends part m n unit)) refl))
