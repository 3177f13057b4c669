-- A sample has at most one instant. If a packet is counted from a stamp, there is no restart between the packet and the
-- stamp.
use Rattle.std.proofs.Common.{◌≡◌, ◌≢◌, ◌⊎◌, inl, inr, ℕ, zero, suc, ◌+◌, ◌-◌, ◌<◌, ◌≤◌, Bool, true, false, ℤ, pos, Option, Some, None, refl, sym, ap, ◌∙◌, arith}
use Rattle.std.specs.Prelude.{nat_le, if◌then◌else◌, option_map, option_and_then}
use Rattle.std.specs.Option.{option_or}
use Rattle.time_unfold.specs.Stamps.{same_flag}
use Rattle.clock_track.specs.PairLines.{Covers}
use Rattle.stream_journal.specs.Clocks.{Place, pair_at}
use Rattle.time_unfold.specs.declared.head_rule.Distance.{Distance}
use Rattle.time_unfold.specs.Heads.{distance}
use Rattle.time_unfold.specs.declared.head_rule.Head.{Head}
use Rattle.stream_journal.specs.Journal.{IsAt, IsAtBy, IsAtByClock, IsAtNominal, Journal, Kind, DenseAaf, SparseAaf, Am824, H264, head_from, head_of, instant_by, nominal_instant, own_head, rule_of}
use Rattle.stream_journal.specs.Conforming.{AgreesWithClock, Conforms, HoldsEight, IsOfKind}

-- the instant of a head is a timestamp of the journal
pub record IsStamped (j : Journal) (head : ℤ) : Type 0 where
  pub number : ℕ
  pub instant : ℕ
  pub known : number < j.packets
  pub stamped : j.stamp number ≡ Some instant
  pub same : head ≡ pos instant

own_stamped : (j : Journal) (n : ℕ) (head : Head) (r : Option ℕ) (first : ℤ) → n < j.packets → j.stamp n ≡ r → option_map (λ (i : ℕ). record { instant = pos i; first = first }) r ≡ Some head → IsStamped j head.instant
own_stamped j n head None first known e f = absurd cc
own_stamped j n head (Some i) first known e f =
    let same : record { instant = pos i; first = first } ≡ head = cc in
    rw (← same) (record { number = n; instant = i; known = known; stamped = e; same = refl })

from_stamped : (j : Journal) (n : ℕ) (far : Distance) (head : Head) (a b : Bool) → n < j.packets
    → (if a then if b then option_map (λ (i : ℕ). record { instant = pos i; first = pos far.samples }) (j.stamp (n - far.packets)) else None else None) ≡ Some head → IsStamped j head.instant
from_stamped j n far head true true known e = own_stamped j (n - far.packets) head (j.stamp (n - far.packets)) (pos far.samples) (omega arith) refl e
from_stamped j n far head true false known e = absurd cc
from_stamped j n far head false b known e = absurd cc

back_stamped : (j : Journal) (n : ℕ) (head : Head) (r : Option Distance) → n < j.packets → option_and_then (head_from j n) r ≡ Some head → IsStamped j head.instant
back_stamped j n head None known e = absurd cc
back_stamped j n head (Some far) known e = from_stamped j n far head (nat_le far.packets n) (same_flag (j.mr (n - far.packets)) (j.mr n)) known e

either_stamped : (j : Journal) (n : ℕ) (head : Head) (own back : Option Head) → (own ≡ Some head → IsStamped j head.instant) → (back ≡ Some head → IsStamped j head.instant) → option_or own back ≡ Some head → IsStamped j head.instant
either_stamped j n head None back f g e = g e
either_stamped j n head (Some h) back f g e = f e

pub head_stamped : (j : Journal) (n : ℕ) (head : Head) → n < j.packets → head_of j n ≡ Some head → IsStamped j head.instant
head_stamped j n head known e =
    either_stamped j n head (own_head j n) (option_and_then (head_from j n) (distance (rule_of j.kind n) n j.count))
    (λ f. own_stamped j n head (j.stamp n) _ known refl f)
    (λ f. back_stamped j n head (distance (rule_of j.kind n) n j.count) known f) e

nominal_once : (j : Journal) (n k : ℕ) (x y : ℤ) → IsAtNominal j n k x → IsAtNominal j n k y → x ≡ y
nominal_once j n k x y a b =
    let same : a.head ≡ b.head = let p = a.is_head in let q = b.is_head in cc in
    a.at ∙ ap (λ (h : Head). nominal_instant j h k) same ∙ sym b.at

same_instant : (j : Journal) (k : ℕ) (head other : Head) (p q r s : Place) → head ≡ other → p ≡ r → q ≡ s → instant_by (pair_at j.clock p q) j head k ≡ instant_by (pair_at j.clock r s) j other k
same_instant j k head other p q r s e f g = rw (e, f, g) refl

clock_once : (j : Journal) → AgreesWithClock j → (n k : ℕ) (x y : ℤ) → n < j.packets → IsAtByClock j n k x → IsAtByClock j n k y → x ≡ y
clock_once j agrees n k x y known a b =
    let same : a.head ≡ b.head = let p = a.is_head in let q = b.is_head in cc in
    let s = head_stamped j n a.head known a.is_head in
    let covers : Covers (pair_at j.clock b.earlier b.later) j.rate a.head.instant = rw same b.covers in
    let one = agrees.one s.number s.instant a.earlier a.later b.earlier b.later
    (record { known = s.known; stamped = s.stamped; joined = a.joined; covers = rw (← s.same) a.covers })
    (record { known = s.known; stamped = s.stamped; joined = b.joined; covers = rw (← s.same) covers }) in
    a.at ∙ same_instant j k a.head b.head a.earlier a.later b.earlier b.later same one.0 one.1 ∙ sym b.at

at_once : (kind : Kind) (by_clock : Bool) (j : Journal) → IsOfKind kind j → (n k : ℕ) (x y : ℤ) → n < j.packets → IsAtBy kind by_clock j n k x → IsAtBy kind by_clock j n k y → x ≡ y
at_once DenseAaf true j is n k x y known a b = clock_once j is.1 n k x y known a b
at_once DenseAaf false j is n k x y known a b = nominal_once j n k x y a b
at_once SparseAaf true j is n k x y known a b = clock_once j is.1 n k x y known a b
at_once SparseAaf false j is n k x y known a b = nominal_once j n k x y a b
at_once (Am824 interval dbc) true j is n k x y known a b = clock_once j is.1 n k x y known a b
at_once (Am824 interval dbc) false j is n k x y known a b = nominal_once j n k x y a b
at_once (H264 part) by_clock j is n k x y known a b = a.1 ∙ sym b.1

pub one_instant : (j : Journal) → Conforms j → (by_clock : Bool) (n k : ℕ) (x y : ℤ) → n < j.packets → IsAt by_clock j n k x → IsAt by_clock j n k y → x ≡ y
one_instant j is by_clock n k x y known a b = at_once j.kind by_clock j is.kind n k x y known a b

-- ---- restarts

one_of_two : (a b : Bool) → (a ≡ b) ⊎ (a ≢ b)
one_of_two true true = inl refl
one_of_two true false = inr (λ e. cc)
one_of_two false true = inr (λ e. cc)
one_of_two false false = inl refl

holds_on : (packets : ℕ) (mr : ℕ → Bool) → HoldsEight packets mr → (a d i : ℕ) → d ≤ 8 → a + d < packets → mr (a + d) ≡ mr a → i ≤ d → mr (a + i) ≡ mr a
holds_on packets mr holds a d zero few known e within = let p : a + 0 ≡ a = omega arith in rw p refl
holds_on packets mr holds a d (suc i) few known e within =
    let before = holds_on packets mr holds a d i few known e (omega arith) in
    let next : a + suc i ≡ suc (a + i) = omega arith in
    elim (one_of_two (mr (suc (a + i))) (mr (a + i))) [
      | inl same ↦ rw next (same ∙ before)
      | inr other ↦
          let k : ℕ = d - suc i in
          let place : suc (a + i) + k ≡ a + d = omega arith in
          let kept : mr (a + d) ≡ mr (suc (a + i)) = rw (← place) (holds (a + i) k other (omega arith) (omega arith)) in
          absurd (other (sym kept ∙ e ∙ sym before))
    ]

pub no_restart : (j : Journal) → HoldsEight j.packets j.mr → (n d k : ℕ) → n < j.packets → d ≤ n → d ≤ 8 → j.mr (n - d) ≡ j.mr n → n - d ≤ k → k ≤ n → j.mr k ≡ j.mr n
no_restart j holds n d k known back few e from to =
    let last : (n - d) + d ≡ n = omega arith in
    let place : (n - d) + (k - (n - d)) ≡ k = omega arith in
    let same = holds_on j.packets j.mr holds (n - d) d (k - (n - d)) few (omega arith) (rw last (sym e)) (omega arith) in
    rw place at same ∙ e
