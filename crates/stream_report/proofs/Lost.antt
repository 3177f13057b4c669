-- The number of lost packets after one more packet has arrived.
use Rattle.std.proofs.Common.{◌≡◌, ◌≢◌, ℕ, zero, suc, ◌+◌, ◌-◌, ◌<◌, ◌≤◌, max, nat_lt, Bool, true, false, inl, inr, if◌then◌else◌, List, [], ◌∷◌, refl, sym, ap, ◌∙◌, arith, lt-ltb, le-ltb, eq-eqb}
use Rattle.std.proofs.lemmas.Bool.{both_ways, cases_eq, cases_lt, cases_Bool}
use Rattle.stream_report.specs.declared.sequence.Place.TheVariants.{Late, Early, Repeat}
use Rattle.stream_report.specs.Sequence.{greatest, has_come, missing_among, lost, lost_with, place_of}
use Rattle.stream_report.proofs.Numbers.{first-least, none-above, come-same, come-other}

-- 1 if a number has not arrived, otherwise 0
one : Bool → ℕ
one come = if come then 0 else 1

-- if the same numbers have arrived, equally many numbers are missing
among-same : (first : ℕ) (old new : List ℕ) (count : ℕ) → ((i : ℕ) → i < count → has_come first new (first + i) ≡ has_come first old (first + i))
    → missing_among first new count ≡ missing_among first old count
among-same first old new zero same = refl
among-same first old new (suc count) same =
    ap (λ (m : ℕ). m + (if has_come first new (first + count) then 0 else 1)) (among-same first old new count (λ i lt. same i (omega (arith, lt))))
    ∙ ap (λ (b : Bool). missing_among first old count + (if b then 0 else 1)) (same count (omega arith))

-- if a missing number arrives, one number fewer is missing
among-one : (first : ℕ) (later : List ℕ) (number place count : ℕ) → number ≡ first + place → place < count → has_come first later number ≡ false
    → missing_among first later count ≡ suc (missing_among first (number ∷ later) count)
among-one first later number place zero at lt missing = absurd (none place lt)
  where
    none : (n : ℕ) → n < 0 → ⊥
    none n lt = omega arith
among-one first later number place (suc count) at lt missing =
    elim (cases_eq place count) [
      | inl last ↦
          let here : first + count ≡ number = omega (arith, at, last) in
          let was : has_come first later (first + count) ≡ false = ap (has_come first later) here ∙ missing in
          let now : has_come first (number ∷ later) (first + count) ≡ true = ap (has_come first (number ∷ later)) here ∙ come-same first number later in
          let rest : missing_among first (number ∷ later) count ≡ missing_among first later count =
          among-same first later (number ∷ later) count (λ i below. come-other first number (first + i) later (λ e. omega (arith, e, at, last, below))) in
          last-step (missing_among first later count) (missing_among first (number ∷ later) count) _ _ rest was now
      | inr before ↦
          let same : has_come first (number ∷ later) (first + count) ≡ has_come first later (first + count) =
          come-other first number (first + count) later (λ e. before (omega (arith, e, at))) in
          step (missing_among first later count) (missing_among first (number ∷ later) count) _ _
          (among-one first later number place count at (omega (arith, lt, before)) missing) same
    ]
  where
    last-step : (m n : ℕ) (was now : Bool) → n ≡ m → was ≡ false → now ≡ true → m + (if was then 0 else 1) ≡ suc (n + (if now then 0 else 1))
    last-step m n was now e f g = rw (f, g, e) (omega arith)

    step : (m n : ℕ) (was now : Bool) → m ≡ suc n → now ≡ was → m + (if was then 0 else 1) ≡ suc (n + (if now then 0 else 1))
    step m n was now e f = rw (f, e) (omega arith)

-- the greatest number has arrived
greatest-come : (first : ℕ) (later : List ℕ) → has_come first later (greatest first later) ≡ true
greatest-come first [] = rw (eq-eqb first first refl) refl
greatest-come first (come ∷ later) =
    elim (cases_eq come (max come (greatest first later))) [
      | inl top ↦ ap (has_come first (come ∷ later)) (sym top) ∙ come-same first come later
      | inr below ↦
          come-other first come (max come (greatest first later)) later below
          ∙ ap (has_come first later) (other come (greatest first later) below) ∙ greatest-come first later
    ]
  where
    other : (a b : ℕ) → a ≢ max a b → max a b ≡ b
    other a b ne = omega (arith, ne)

-- the numbers that a packet skips are missing
among-gap : (first : ℕ) (later : List ℕ) (number gap : ℕ) → greatest first later + gap < number
    → missing_among first (number ∷ later) (greatest first later - first + suc gap) ≡ lost first later + gap
among-gap first later number zero lt =
    let g = greatest first later in
    let most = first-least first later in
    let here : first + (g - first) ≡ g = omega (arith, most) in
    let now : has_come first (number ∷ later) (first + (g - first)) ≡ true =
    ap (has_come first (number ∷ later)) here ∙ come-other first number g later (λ e. omega (arith, e, lt)) ∙ greatest-come first later in
    let rest : missing_among first (number ∷ later) (g - first) ≡ missing_among first later (g - first) =
    among-same first later (number ∷ later) (g - first) (λ i below. come-other first number (first + i) later (λ e. omega (arith, e, lt, below))) in
    ap (missing_among first (number ∷ later)) (next (g - first)) ∙ end _ _ _ rest now
  where
    next : (n : ℕ) → n + 1 ≡ suc n
    next n = omega arith

    end : (m n : ℕ) (now : Bool) → m ≡ n → now ≡ true → m + (if now then 0 else 1) ≡ n + 0
    end m n now e f = rw (f, e) (omega arith)
among-gap first later number (suc gap) lt =
    let g = greatest first later in
    let most = first-least first later in
    let beyond : g < first + (g - first + suc gap) = omega (arith, most) in
    let now : has_come first (number ∷ later) (first + (g - first + suc gap)) ≡ false =
    come-other first number (first + (g - first + suc gap)) later (λ e. omega (arith, e, lt, most))
    ∙ none-above first later (first + (g - first + suc gap)) beyond in
    ap (missing_among first (number ∷ later)) (next (g - first) gap)
    ∙ end _ (lost first later) gap _ (among-gap first later number gap (omega (arith, lt))) now
  where
    next : (n gap : ℕ) → n + suc (suc gap) ≡ suc (n + suc gap)
    next n gap = omega arith

    end : (m n gap : ℕ) (now : Bool) → m ≡ n + gap → now ≡ false → m + (if now then 0 else 1) ≡ n + suc gap
    end m n gap now e f = rw (f, e) (omega arith)

stays : (n g : ℕ) → n ≤ g → max n g ≡ g
stays n g le = omega arith

pub lost-more : (first : ℕ) (later : List ℕ) (number : ℕ) → lost first (number ∷ later) ≡ lost_with (lost first later) (place_of first later number)
lost-more first later number =
    elim (cases_lt (greatest first later) number) [
      | inl ahead ↦
          let gap = number - greatest first later - 1 in
          rw (lt-ltb (greatest first later) number ahead)
          (ap (missing_among first (number ∷ later)) (far number (greatest first later) first ahead (first-least first later))
          ∙ among-gap first later number gap (omega (arith, ahead)))
      | inr behind ↦ rw (le-ltb (greatest first later) number behind) (among behind)
    ]
  where
    far : (n g f : ℕ) → g < n → f ≤ g → max n g - f ≡ g - f + suc (n - g - 1)
    far n g f lt le = omega arith

    top : number ≤ greatest first later → lost first (number ∷ later) ≡ missing_among first (number ∷ later) (greatest first later - first)
    top le = ap (λ (g : ℕ). missing_among first (number ∷ later) (g - first)) (stays number (greatest first later) le)

    apart : has_come first later number ≡ false → number ≢ greatest first later
    apart missing e = both_ways (has_come first later number) missing (ap (has_come first later) e ∙ greatest-come first later)

    less : (m n : ℕ) → m ≡ suc n → n ≡ m - 1
    less m n e = omega arith

    inside : number ≤ greatest first later → has_come first later number ≡ false → first ≤ number → number - first < greatest first later - first
    inside le missing after = omega (arith, le, after, apart missing)

    known : has_come first later number ≡ true → (n : ℕ) → has_come first (number ∷ later) n ≡ has_come first later n
    known come n =
        elim (cases_eq number n) [
          | inl same ↦ ap (has_come first (number ∷ later)) (sym same) ∙ come-same first number later ∙ sym come ∙ ap (has_come first later) same
          | inr other ↦ come-other first number n later other
        ]

    new : number ≤ greatest first later → has_come first later number ≡ false
        → lost first (number ∷ later) ≡ lost_with (lost first later) (if nat_lt number first then Early else Late)
    new le missing =
        elim (cases_lt number first) [
          | inl before ↦
              rw (lt-ltb number first before)
              (top le ∙ among-same first later (number ∷ later) (greatest first later - first)
              (λ i below. come-other first number (first + i) later (λ e. omega (arith, e, before))))
          | inr after ↦ rw (le-ltb number first after) (top le ∙ less _ _ (among-one first later number (number - first) (greatest first later - first)
              (omega (arith, after)) (inside le missing after) missing))
        ]

    among : number ≤ greatest first later
        → lost first (number ∷ later) ≡ lost_with (lost first later) (if has_come first later number then Repeat else if nat_lt number first then Early else Late)
    among le =
        elim (cases_Bool (has_come first later number)) [
          | inl come ↦
              rw come
              (top le ∙ among-same first later (number ∷ later) (greatest first later - first) (λ i below. known come (first + i)))
          | inr missing ↦ rw missing (new le missing)
        ]
