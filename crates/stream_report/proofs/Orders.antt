-- The counts of a stream after one more packet.
use Rattle.std.proofs.Common.{◌≡◌, ℕ, zero, suc, ◌+◌, ◌-◌, ◌^◌, ◌<◌, ◌≤◌, max, min, nat_lt, Bool, true, false, inl, inr, if◌then◌else◌, List, [], ◌∷◌, length, refl, sym, ap, ◌∙◌, arith, lt-ltb, le-ltb}
use Rattle.std.proofs.lemmas.Bool.{cases_lt, cases_Bool}
use Rattle.stream_report.specs.declared.order.Order.{Order}
use Rattle.stream_report.specs.declared.sequence.Place.{Place}
use Rattle.stream_report.specs.declared.sequence.Place.TheVariants.{Ahead, Late, Early, Repeat}
use Rattle.stream_report.specs.Sequence.{CountsOf, Few, StandsFor, greatest, has_come, late, lost, lost_with, missing_among, most_passed, place_of, repeats}
use Rattle.stream_report.specs.state.Orders.{Passed}
use Rattle.stream_report.proofs.Lost.{lost-more}
use Rattle.stream_report.proofs.Numbers.{none-above}

-- ---- all counts are small

among-le : (first : ℕ) (later : List ℕ) (count : ℕ) → missing_among first later count ≤ count
among-le first later zero = omega arith
among-le first later (suc count) =
    elim (cases_Bool (has_come first later (first + count))) [
      | inl come ↦ rw come (omega (arith, among-le first later count))
      | inr missing ↦ rw missing (omega (arith, among-le first later count))
    ]

lost-le : (first : ℕ) (later : List ℕ) → lost first later ≤ greatest first later
lost-le first later = omega (arith, among-le first later (greatest first later - first))

pub repeats-le : (first : ℕ) (later : List ℕ) → repeats first later ≤ length later
repeats-le first [] = omega arith
repeats-le first (number ∷ later) =
    elim (cases_Bool (has_come first later number)) [
      | inl come ↦ rw come (omega (arith, repeats-le first later))
      | inr missing ↦ rw missing (omega (arith, repeats-le first later))
    ]

pub late-le : (first : ℕ) (later : List ℕ) → late first later ≤ length later
late-le first [] = omega arith
late-le first (number ∷ later) = more (late first later) (length later) (nat_lt (greatest first later) number) (has_come first later number) (late-le first later)
  where
    more : (a l : ℕ) (b c : Bool) → a ≤ l → a + (if b then 0 else if c then 0 else 1) ≤ suc l
    more a l true c le = omega (arith, le)
    more a l false true le = omega (arith, le)
    more a l false false le = omega (arith, le)

-- ---- what the place of a packet says

-- A packet whose number is not ahead of all others. `come` is true if and only if the number has arrived before.
pub record Behind (first : ℕ) (later : List ℕ) (number : ℕ) (come : Bool) : Type 0 where
  pub within : number ≤ greatest first later
  pub is : has_come first later number ≡ come

pub ahead-read : (first : ℕ) (later : List ℕ) (number missing : ℕ) → Ahead missing ≡ place_of first later number → greatest first later < number
ahead-read first later number missing e =
    elim (cases_lt (greatest first later) number) [
      | inl ahead ↦ ahead
      | inr behind ↦ absurd (no (has_come first later number) (nat_lt number first) (e ∙ ap (λ (b : Bool). if b then Ahead (number - greatest first later - 1) else if has_come first later number then Repeat else if nat_lt number first then Early else Late) (le-ltb (greatest first later) number behind)))
    ]
  where
    no : (b c : Bool) → Ahead missing ≡ (if b then Repeat else if c then Early else Late) → ⊥
    no true c h = absurd (cc)
    no false true h = absurd (cc)
    no false false h = absurd (cc)

pub missing-read : (first : ℕ) (later : List ℕ) (number missing : ℕ) → Ahead missing ≡ place_of first later number → missing ≡ number - greatest first later - 1
missing-read first later number missing e = same (e ∙ ap (λ (b : Bool). if b then Ahead (number - greatest first later - 1) else if has_come first later number then Repeat else if nat_lt number first then Early else Late) (lt-ltb (greatest first later) number (ahead-read first later number missing e)))
  where
    same : Ahead missing ≡ Ahead (number - greatest first later - 1) → missing ≡ number - greatest first later - 1
    same h = ap missing-of h
      where
        missing-of : Place → ℕ
        missing-of (Ahead n) = n
        missing-of Late = 0
        missing-of Early = 0
        missing-of Repeat = 0

-- whether the number of a packet with this place has arrived before; the place is not `Ahead`
abbrev pub come-in : Place → Bool
come-in (Ahead missing) = false
come-in Late = false
come-in Early = false
come-in Repeat = true

abbrev pub is-behind : Place → Bool
is-behind (Ahead missing) = false
is-behind Late = true
is-behind Early = true
is-behind Repeat = true

pub behind-read : (first : ℕ) (later : List ℕ) (number : ℕ) (place : Place) → place ≡ place_of first later number → is-behind place ≡ true → Behind first later number (come-in place)
behind-read first later number place e behind =
    elim (cases_lt (greatest first later) number) [
      | inl ahead ↦ absurd (no (sym behind ∙ ap is-behind (e ∙ ap (λ (b : Bool). if b then Ahead (number - greatest first later - 1) else if has_come first later number then Repeat else if nat_lt number first then Early else Late) (lt-ltb (greatest first later) number ahead))))
      | inr within ↦ record {
        within = within;
        is = come (has_come first later number) (nat_lt number first) refl
            ∙ sym (ap come-in (e ∙ ap (λ (b : Bool). if b then Ahead (number - greatest first later - 1) else if has_come first later number then Repeat else if nat_lt number first then Early else Late) (le-ltb (greatest first later) number within)));
      }
    ]
  where
    no : true ≡ false → ⊥
    no h = absurd (cc)

    come : (b c : Bool) → has_come first later number ≡ b → b ≡ come-in (if b then Repeat else if c then Early else Late)
    come true c h = refl
    come false true h = refl
    come false false h = refl

-- ---- one more packet

pub counts-ahead : (old new : Order) (first : ℕ) (later : List ℕ) (number missing : ℕ) → CountsOf old first later → greatest first later < number
    → missing ≡ number - greatest first later - 1 → Passed old new missing → StandsFor new.window first (number ∷ later) → Few first (number ∷ later)
    → CountsOf new first (number ∷ later)
counts-ahead old new first later number missing counts ahead is passed window few = record {
  window = window;
  lost = lost-now (lost-le first (number ∷ later)) few.numbers (lost-more first later number ∙ placed) passed.lost counts.lost is;
  most_lost = passed.most_lost ∙ ap (λ (n : ℕ). max n missing) counts.most_lost ∙ ap (max (most_passed first later)) is;
  repeated = passed.repeated ∙ counts.repeated ∙ rw (none-above first later number ahead) (omega arith);
  late = passed.late ∙ counts.late ∙ rw (lt-ltb (greatest first later) number ahead) (omega arith);
}
  where
    placed : lost_with (lost first later) (place_of first later number) ≡ lost first later + (number - greatest first later - 1)
    placed = rw (lt-ltb (greatest first later) number ahead) refl

    lost-now : {l g a b m d n : ℕ} → l ≤ g → g < 2 ^ 64 → l ≡ a + d → n ≡ min (b + m) (2 ^ 64 - 1) → b ≡ a → m ≡ d → n ≡ l
    lost-now le small e f h i = omega (arith, le, small, e, f, h, i)

-- if a packet is late or repeated, the counts stay right
pub counts-behind : (old new : Order) (first : ℕ) (later : List ℕ) (number : ℕ) (come : Bool) → CountsOf old first later → Behind first later number come
    → new.lost.count ≡ lost first (number ∷ later) → new.most_lost ≡ old.most_lost
    → new.repeated.count ≡ old.repeated.count + (if come then 1 else 0) → new.late.count ≡ old.late.count + (if come then 0 else 1)
    → StandsFor new.window first (number ∷ later) → CountsOf new first (number ∷ later)
counts-behind old new first later number come counts behind lost most repeated late window = record {
  window = window;
  lost = lost;
  most_lost = most ∙ counts.most_lost ∙ none (most_passed first later) number (greatest first later) behind.within;
  repeated = repeated ∙ ap (λ (n : ℕ). n + (if come then 1 else 0)) counts.repeated ∙ ap (λ (b : Bool). repeats first later + (if b then 1 else 0)) (sym behind.is);
  late = late ∙ ap (λ (n : ℕ). n + (if come then 0 else 1)) counts.late ∙ rw (le-ltb (greatest first later) number behind.within, behind.is) refl;
}
  where
    none : (m n g : ℕ) → n ≤ g → m ≡ max m (n - g - 1)
    none m n g le = omega (arith, le)

-- the count of packets does not overflow
pub one-more : (n l : ℕ) → n ≤ l → suc l < 2 ^ 64 → min (n + 1) (2 ^ 64 - 1) ≡ n + 1
one-more n l le small = omega (arith, le, small)
