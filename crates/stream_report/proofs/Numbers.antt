-- Which numbers have arrived, and the place of the next packet.
use Rattle.std.proofs.Common.{◌≡◌, ◌≢◌, ℕ, ◌+◌, ◌-◌, ◌%◌, ◌<◌, ◌≤◌, ◌==◌, max, min, Bool, true, false, ◌||◌, inl, inr, List, [], ◌∷◌, refl, sym, ap, ◌∙◌, subst, arith, le-ltb, eq-eqb, ne_eqb}
use Rattle.std.specs.Int.{bit_at}
use Rattle.std.specs.List.{list_any}
use Rattle.std.proofs.lemmas.Bool.{cases_eq, cases_lt}
use Rattle.stream_report.specs.declared.sequence.Place.TheVariants.{Late}
use Rattle.stream_report.specs.declared.sequence.Window.{Window}
use Rattle.stream_report.specs.Sequence.{greatest, has_come, place_of, Passes, Returns, StandsFor}
use Rattle.stream_report.specs.state.Bits.{Moves, Marks}
use Rattle.stream_report.proofs.Bits.{one-other}

-- ---- which numbers have arrived

pub first-least : (first : ℕ) (later : List ℕ) → first ≤ greatest first later
first-least first [] = omega arith
first-least first (come ∷ later) = below first come (greatest first later) (first-least first later)
  where
    below : (a b c : ℕ) → a ≤ c → a ≤ max b c
    below a b c le = omega arith

apart : (a g n : ℕ) → a ≤ g → g < n → a ≢ n
apart a g n le lt e = omega arith

left : (a b : ℕ) → a ≤ max a b
left a b = omega arith

right-below : (a b n : ℕ) → max a b < n → b < n
right-below a b n lt = omega arith

any-above : (first : ℕ) (later : List ℕ) (n : ℕ) → greatest first later < n → list_any (λ come. come == n) later ≡ false
any-above first [] n lt = refl
any-above first (come ∷ later) n lt =
    rw (ne_eqb come n (apart come (max come (greatest first later)) n (left come (greatest first later)) lt))
    (any-above first later n (right-below come (greatest first later) n lt))

pub none-above : (first : ℕ) (later : List ℕ) (n : ℕ) → greatest first later < n → has_come first later n ≡ false
none-above first later n lt = rw (ne_eqb first n (apart first (greatest first later) n (first-least first later) lt)) (any-above first later n lt)

pub or-true : (a : Bool) → (a || true) ≡ true
or-true true = refl
or-true false = refl

pub come-same : (first number : ℕ) (later : List ℕ) → has_come first (number ∷ later) number ≡ true
come-same first number later = rw (eq-eqb number number refl) (or-true (first == number))

pub come-other : (first number n : ℕ) (later : List ℕ) → number ≢ n → has_come first (number ∷ later) n ≡ has_come first later n
come-other first number n later ne = rw (ne_eqb number n ne) refl

-- ---- one more packet

same-place : (g number n b : ℕ) → g < number → n + b ≡ max number g → b ≡ 0 → number ≡ n
same-place g number n b lt at e = omega arith

between-places : (g number n b : ℕ) → g < number → n + b ≡ max number g → 0 < b → b < number - g → g < n
between-places g number n b lt at some below = omega arith

not-newest : (g number n b : ℕ) → g < number → n + b ≡ max number g → 0 < b → number ≢ n
not-newest g number n b lt at some e = omega arith

older-place : (g number n b : ℕ) → g < number → n + b ≡ max number g → number - g ≤ b → n + (b - (number - g)) ≡ g
older-place g number n b lt at le = omega arith

pub passed : (old new : Window) (first : ℕ) (later : List ℕ) (number : ℕ) → StandsFor old first later → Passes first later number
    → new.newest ≡ number % 256 → Moves old.came (number - greatest first later) new.came
    → new.begin ≡ min 64 (old.begin + (number - greatest first later)) → StandsFor new first (number ∷ later)
passed old new first later number s p newest m begin = record {
  newest = newest ∙ ap (λ (g : ℕ). g % 256) (top number (greatest first later) p.ahead);
  came = came;
  begin = begin ∙ far number (greatest first later) first old.begin p.ahead (first-least first later) s.begin;
}
  where
    top : (n g : ℕ) → g < n → n ≡ max n g
    top n g lt = omega arith

    far : (n g f b : ℕ) → g < n → f ≤ g → b ≡ min 64 (g - f) → min 64 (b + (n - g)) ≡ min 64 (max n g - f)
    far n g f b lt le e = omega arith

    g : ℕ
    g = greatest first later

    came : (n b : ℕ) → Returns first (number ∷ later) n b → (bit_at new.came b == 1) ≡ has_come first (number ∷ later) n
    came n b r =
        elim (cases_eq b 0) [
          | inl zeroth ↦
              ap (λ (i : ℕ). bit_at new.came i == 1) zeroth ∙ ap (λ (x : ℕ). x == 1) m.newest
              ∙ sym (come-same first number later) ∙ ap (has_come first (number ∷ later)) (same-place g number n b p.ahead r.place zeroth)
          | inr some ↦ after (omega (arith, some))
        ]
      where
        after : 0 < b → (bit_at new.came b == 1) ≡ has_come first (number ∷ later) n
        after some =
            elim (cases_lt b (number - g)) [
              | inl below ↦
                  ap (λ (x : ℕ). x == 1) (m.between b some below r.near)
                  ∙ sym (come-other first number n later (not-newest g number n b p.ahead r.place some)
                  ∙ none-above first later n (between-places g number n b p.ahead r.place some below))
              | inr older ↦
                  let back : b - (number - g) + (number - g) ≡ b = omega (arith, older) in
                  let bit : bit_at new.came b ≡ bit_at old.came (b - (number - g)) =
                  subst (λ (i : ℕ). bit_at new.came i ≡ bit_at old.came (b - (number - g))) back (m.before (b - (number - g)) (omega (arith, back, r.near))) in
                  let was : Returns first later n (b - (number - g)) =
                  record { place = older-place g number n b p.ahead r.place older; near = omega (arith, r.near) } in
                  ap (λ (x : ℕ). x == 1) bit ∙ s.came n (b - (number - g)) was
                  ∙ sym (come-other first number n later (not-newest g number n b p.ahead r.place some))
            ]

pub filled : (old new : Window) (first : ℕ) (later : List ℕ) (number behind : ℕ) → StandsFor old first later → Returns first later number behind
    → new.newest ≡ old.newest → Marks old.came behind new.came → new.begin ≡ old.begin → StandsFor new first (number ∷ later)
filled old new first later number behind s at newest m begin = record {
  newest = newest ∙ s.newest ∙ ap (λ (g : ℕ). g % 256) (sym top);
  came = came;
  begin = begin ∙ s.begin ∙ ap (λ (g : ℕ). min 64 (g - first)) (sym top);
}
  where
    stays : (n g b : ℕ) → n + b ≡ g → max n g ≡ g
    stays n g b e = omega arith

    top : max number (greatest first later) ≡ greatest first later
    top = stays number (greatest first later) behind at.place

    came : (n b : ℕ) → Returns first (number ∷ later) n b → (bit_at new.came b == 1) ≡ has_come first (number ∷ later) n
    came n b r =
        elim (cases_eq b behind) [
          | inl same ↦
              ap (λ (i : ℕ). bit_at new.came i == 1) same ∙ ap (λ (x : ℕ). x == 1) m.same
              ∙ sym (come-same first number later) ∙ ap (has_come first (number ∷ later)) (one number n behind b (greatest first later) at.place (r.place ∙ top) same)
          | inr other ↦
              ap (λ (x : ℕ). x == 1) (m.other b other) ∙ s.came n b (record { place = r.place ∙ top; near = r.near })
              ∙ sym (come-other first number n later (two number n behind b (greatest first later) at.place (r.place ∙ top) other))
        ]
      where
        one : (number n behind b g : ℕ) → number + behind ≡ g → n + b ≡ g → b ≡ behind → number ≡ n
        one number n behind b g e f same = omega arith

        two : (number n behind b g : ℕ) → number + behind ≡ g → n + b ≡ g → b ≢ behind → number ≢ n
        two number n behind b g e f other same = other (omega arith)

-- ---- the first packet

alone : (first n b : ℕ) → n + b ≡ first → b ≡ 0 → first ≡ n
alone first n b at e = omega arith

not-alone : (first n b : ℕ) → n + b ≡ first → b ≢ 0 → first ≢ n
not-alone first n b at some e = some (omega arith)

pub started : (first seq : ℕ) → first % 256 ≡ seq → StandsFor (record { newest = seq; came = 1; begin = 0 }) first []
started first seq e = record {
  newest = sym e;
  came = came;
  begin = omega arith;
}
  where
    positive : (b : ℕ) → b ≢ 0 → 0 < b
    positive b ne = omega arith

    came : (n b : ℕ) → Returns first [] n b → (bit_at 1 b == 1) ≡ has_come first [] n
    came n b r =
        elim (cases_eq b 0) [
          | inl zeroth ↦ ap (λ (i : ℕ). bit_at 1 i == 1) zeroth ∙ sym (rw (eq-eqb first n (alone first n b r.place zeroth)) refl)
          | inr some ↦ ap (λ (x : ℕ). x == 1) (one-other b (positive b some)) ∙ sym (rw (ne_eqb first n (not-alone first n b r.place some)) refl)
        ]

-- ---- sequence numbers

pub ahead-exact : (g n seq w : ℕ) → n % 256 ≡ seq → w ≡ g % 256 → g < n → n ≤ g + 256 → (seq + 255 - w) % 256 + 1 ≡ n - g
ahead-exact g n seq w e f lt most = omega arith

pub not-before : (g f n b w : ℕ) → n + b ≡ g → b < 64 → f ≤ g → w ≡ min 64 (g - f) → b ≤ w → f ≤ n
not-before g f n b w at near le begin within = omega arith

-- ---- the place of the next packet

pub is-late : (first : ℕ) (later : List ℕ) (number : ℕ) → number ≤ greatest first later → has_come first later number ≡ false → first ≤ number
    → Late ≡ place_of first later number
is-late first later number le come after = rw (le-ltb (greatest first later) number le, come, le-ltb number first after) refl
