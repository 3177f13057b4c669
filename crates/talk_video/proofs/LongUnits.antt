-- Access units that need too many packets.
use Rattle.std.proofs.Common.{◌≡◌, inl, inr, ℕ, zero, suc, ◌+◌, ◌-◌, ◌<◌, ◌≤◌, Bool, true, false, List, [], ◌∷◌, length, get_or, refl, sym, ap, ◌∙◌, arith}
use Rattle.std.specs.Prelude.{◌==◌, ◌||◌, nat_lt, if◌then◌else◌}
use Rattle.std.specs.List.{list_any, range_with_len}
use Rattle.std.proofs.lemmas.Bool.{cases_lt, or_left, or_right}
use Rattle.std.proofs.lemmas.Bool.Decides.{nat_tests}
use Rattle.cvf_format.specs.AnnexB.{nal_units}
use Rattle.talk_video.specs.AccessUnits.{access_unit, begins, begun_before}
use Rattle.talk_video.specs.Fragments.{access_unit_of, all_packets, packets_before, place_of}
use Rattle.talk_video.specs.state.Listing.{is_long_in, packets_behind}
use Rattle.talk_video.specs.Units.{has_long_access_unit, most_packets}
use Rattle.talk_video.proofs.AccessLemmas.{access_rises, before_rises, begun_rises, placed, some_packets, unit_found, unit_known}

-- ---- tests of numbers

pub any_there : (test : ℕ → Bool) (a n k : ℕ) → a ≤ k → k < a + n → test k ≡ true → list_any test (range_with_len a n) ≡ true
any_there test a zero k from below e = absurd (omega arith)
any_there test a (suc n) k from below e = elim (cases_lt a k) [
  | inl later ↦ or_right (test a) (list_any test (range_with_len (a + 1) n)) (any_there test (a + 1) n k (omega arith) (omega arith) e)
  | inr not ↦ let same : k ≡ a = omega arith in or_left (test a) (list_any test (range_with_len (a + 1) n)) (rw same at e)
]

pub any_nowhere : (test : ℕ → Bool) (a n : ℕ) → ((k : ℕ) → a ≤ k → k < a + n → test k ≡ false) → list_any test (range_with_len a n) ≡ false
any_nowhere test a zero none = refl
any_nowhere test a (suc n) none = rw (none a (omega arith) (omega arith)) (any_nowhere test (a + 1) n (λ k from below. none k (omega arith) (omega arith)))

pub record IsFoundAt (test : ℕ → Bool) (high : ℕ) : Type 0 where
  pub place : ℕ
  pub below : place < high
  pub passes : test place ≡ true

found_by : (test : ℕ → Bool) (a high : ℕ) (b rest : Bool) → a < high → test a ≡ b → (rest ≡ true → IsFoundAt test high) → (b || rest) ≡ true
    → IsFoundAt test high
found_by test a high true rest below e later h = record { place = a; below = below; passes = e }
found_by test a high false rest below e later h = later h

pub any_found : (test : ℕ → Bool) (a n high : ℕ) → a + n ≡ high → list_any test (range_with_len a n) ≡ true → IsFoundAt test high
any_found test a zero high e h = absurd cc
any_found test a (suc n) high e h =
    found_by test a high (test a) (list_any test (range_with_len (a + 1) n)) (omega arith) refl (λ t. any_found test (a + 1) n high (omega arith) t) h

-- ---- tests of a list

pub any_at : {X : Type 0} (test : X → Bool) (xs : List X) (i : ℕ) (d : X) → i < length xs → test (get_or xs i d) ≡ true → list_any test xs ≡ true
any_at test [] i d h e = absurd (omega arith)
any_at test (x ∷ xs) zero d h e = or_left (test x) (list_any test xs) e
any_at test (x ∷ xs) (suc i) d h e = or_right (test x) (list_any test xs) (any_at test xs i d (omega arith) e)

pub none_at : {X : Type 0} (test : X → Bool) (xs : List X) (d : X) → ((i : ℕ) → i < length xs → test (get_or xs i d) ≡ false) → list_any test xs ≡ false
none_at test [] d none = refl
none_at test (x ∷ xs) d none = rw (none 0 (omega arith)) (none_at test xs d (λ i h. none (suc i) (omega arith)))

not_by : (a b : Bool) → (a ≡ true → b ≡ true) → b ≡ false → a ≡ false
not_by true b so e = let some = so refl in absurd cc
not_by false b so e = refl

pub not_at : {X : Type 0} (test : X → Bool) (xs : List X) (i : ℕ) (d : X) → list_any test xs ≡ false → i < length xs → test (get_or xs i d) ≡ false
not_at test xs i d none h = not_by (test (get_or xs i d)) (list_any test xs) (λ e. any_at test xs i d h e) none

-- ---- the first unit of an access unit

abbrev start : List ℕ → List (ℕ × ℕ) → ℕ → ℕ
start bytes units zero = 0
start bytes units (suc i) = if begins bytes units (suc i) then suc i else start bytes units i

record IsStart (bytes : List ℕ) (units : List (ℕ × ℕ)) (i s : ℕ) : Type 0 where
  low : s ≤ i
  same : access_unit bytes units s ≡ access_unit bytes units i
  first : (j : ℕ) → j ≤ i → access_unit bytes units j ≡ access_unit bytes units i → s ≤ j
  packets : packets_behind bytes units (suc i) ≡ packets_before units s

next_start : (bytes : List ℕ) (units : List (ℕ × ℕ)) (i s : ℕ) (b : Bool) → begins bytes units (suc i) ≡ b → IsStart bytes units i s
    → IsStart bytes units (suc i) (if b then suc i else s)
next_start bytes units i s true e is = record {
  low = omega arith;
  same = refl;
  first = λ j below same. (elim (cases_lt j (suc i)) [
    | inl less ↦
        let rise = begun_rises bytes units (suc j) (suc i) (omega arith) in
        let more : access_unit bytes units (suc i) ≡ suc (begun_before bytes units (suc i)) = rw e (omega arith) in
        absurd (omega (arith, rise, more, same))
    | inr not ↦ not
  ]);
  packets = rw e refl;
}
next_start bytes units i s false e is =
    let none : access_unit bytes units (suc i) ≡ access_unit bytes units i = rw e (omega arith) in
    record {
      low = (let low = is.low in omega arith);
      same = is.same ∙ sym none;
      first = λ j below same. (elim (cases_lt j (suc i)) [
        | inl less ↦ is.first j (omega arith) (same ∙ none)
        | inr not ↦ let low = is.low in omega arith
      ]);
      packets = rw e is.packets;
    }

started : (bytes : List ℕ) (units : List (ℕ × ℕ)) (i : ℕ) → IsStart bytes units i (start bytes units i)
started bytes units zero = record { low = omega arith; same = refl; first = λ j below same. omega arith; packets = refl }
started bytes units (suc i) = next_start bytes units i (start bytes units i) (begins bytes units (suc i)) refl (started bytes units i)

-- ---- too many packets up to a unit

record IsLongAt (bytes : List ℕ) (units : List (ℕ × ℕ)) (m : ℕ) : Type 0 where
  unit : ℕ
  known : unit < m
  long : packets_behind bytes units (suc unit) + 255 < packets_before units (suc unit)

long_by : (bytes : List ℕ) (units : List (ℕ × ℕ)) (i : ℕ) (a b : Bool) → (a ≡ true → IsLongAt bytes units i)
    → nat_lt most_packets (packets_before units (suc i) - packets_behind bytes units (suc i)) ≡ b → (a || b) ≡ true → IsLongAt bytes units (suc i)
long_by bytes units i true b before q e = let found = before refl in record {
  unit = found.unit;
  known = (let
      known = found.known in omega arith);
  long = found.long;
}
long_by bytes units i false true before q e =
    let more : 255 < packets_before units (suc i) - packets_behind bytes units (suc i) = grind (arith, nat_tests) in
    record { unit = i; known = omega arith; long = omega arith }
long_by bytes units i false false before q e = absurd cc

long_found : (bytes : List ℕ) (units : List (ℕ × ℕ)) (m : ℕ) → is_long_in bytes units m ≡ true → IsLongAt bytes units m
long_found bytes units zero e = absurd cc
long_found bytes units (suc i) e =
    long_by bytes units i (is_long_in bytes units i) (nat_lt most_packets (packets_before units (suc i) - packets_behind bytes units (suc i)))
    (λ t. long_found bytes units i t) refl e

long_there : (bytes : List ℕ) (units : List (ℕ × ℕ)) (m i : ℕ) → i < m → packets_behind bytes units (suc i) + 255 < packets_before units (suc i)
    → is_long_in bytes units m ≡ true
long_there bytes units zero i h long = absurd (omega arith)
long_there bytes units (suc m) i h long = elim (cases_lt i m) [
  | inl less ↦ or_left (is_long_in bytes units m) (nat_lt most_packets (packets_before units (suc m) - packets_behind bytes units (suc m)))
      (long_there bytes units m i less long)
  | inr not ↦
      let same : m ≡ i = omega arith in
      let here : nat_lt most_packets (packets_before units (suc i) - packets_behind bytes units (suc i)) ≡ true = grind (arith, nat_tests) in
      or_right (is_long_in bytes units m) (nat_lt most_packets (packets_before units (suc m) - packets_behind bytes units (suc m))) (rw same here)
]

-- packets n and n + 255 are of the same access unit
abbrev pub apart : List ℕ → List (ℕ × ℕ) → ℕ → Bool
apart bytes units n = access_unit_of bytes units n == access_unit_of bytes units (n + most_packets)

one_way : (bytes : List ℕ) (units : List (ℕ × ℕ)) → is_long_in bytes units (length units) ≡ true
    → list_any (apart bytes units) (range_with_len 0 (all_packets units - most_packets)) ≡ true
one_way bytes units e =
    let found = long_found bytes units (length units) e in
    let i : ℕ = found.unit in
    let s : ℕ = start bytes units i in
    let is = started bytes units i in
    let n : ℕ = packets_before units s in
    let known = before_rises units (suc i) (length units) found.known in
    let more : n + 255 < packets_before units (suc i) = omega (arith, found.long, is.packets) in
    let here : (place_of units n).unit ≡ s = unit_found units s n (omega arith) (let step = before_rises units s (suc s) (omega arith) in some units s) in
    let low : access_unit_of bytes units n ≡ access_unit bytes units i = ap (access_unit bytes units) here ∙ is.same in
    let rise = access_rises bytes units n (n + 255) (omega arith) in
    let at = placed units (n + 255) in
    let not_behind : (place_of units (n + 255)).unit ≤ i = elim (cases_lt i (place_of units (n + 255)).unit) [
      | inl past ↦ let step = before_rises units (suc i) (place_of units (n + 255)).unit past in absurd (omega (arith, at.number))
      | inr not ↦ not
    ] in
    let high = begun_rises bytes units (suc (place_of units (n + 255)).unit) (suc i) (omega arith) in
    let same : access_unit_of bytes units n ≡ access_unit_of bytes units (n + 255) = omega (arith, low, rise, high) in
    let tells : apart bytes units n ≡ true = grind (arith, nat_tests) in
    any_there (apart bytes units) 0 (all_packets units - most_packets) n (omega arith) (omega arith) tells
  where
    some : (units : List (ℕ × ℕ)) (s : ℕ) → packets_before units s < packets_before units (suc s)
    some units s = let size = some_packets units s in omega arith

other_way : (bytes : List ℕ) (units : List (ℕ × ℕ)) → list_any (apart bytes units) (range_with_len 0 (all_packets units - most_packets)) ≡ true
    → is_long_in bytes units (length units) ≡ true
other_way bytes units e =
    let found = any_found (apart bytes units) 0 (all_packets units - most_packets) (all_packets units - most_packets) (omega arith) e in
    let n : ℕ = found.place in
    let passes = found.passes in
    let same : access_unit_of bytes units n ≡ access_unit_of bytes units (n + 255) = grind (arith, nat_tests) in
    let below = found.below in
    let i : ℕ = (place_of units (n + 255)).unit in
    let j : ℕ = (place_of units n).unit in
    let is = started bytes units i in
    let here = placed units n in
    let there = placed units (n + 255) in
    let order : j ≤ i = elim (cases_lt i j) [
      | inl past ↦ let step = before_rises units (suc i) j past in absurd (omega (arith, here.number, there.number, there.within))
      | inr not ↦ not
    ] in
    let first = is.first j order same in
    let step = before_rises units (start bytes units i) j first in
    long_there bytes units (length units) i (unit_known units (n + 255) (omega arith)) (omega (arith, is.packets, here.number, there.number, there.within))

pub long_is : (bytes : List ℕ) → is_long_in bytes (nal_units bytes) (length (nal_units bytes)) ≡ has_long_access_unit bytes
long_is bytes = both (is_long_in bytes (nal_units bytes) (length (nal_units bytes))) (has_long_access_unit bytes) (one_way bytes (nal_units bytes))
    (other_way bytes (nal_units bytes))
  where
    both : (a b : Bool) → (a ≡ true → b ≡ true) → (b ≡ true → a ≡ true) → a ≡ b
    both true b f g = sym (f refl)
    both false true f g = g refl
    both false false f g = refl
