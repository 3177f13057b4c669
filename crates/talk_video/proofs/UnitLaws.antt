-- Lemmas for the laws of units.
use Rattle.std.proofs.Common.{◌≡◌, ◌⊎◌, inl, inr, ℕ, zero, suc, ◌+◌, ◌-◌, ◌*◌, ◌<◌, ◌≤◌, Bool, true, false, not, List, [], ◌∷◌, ◌++◌, take, drop, refl, sym, ap}
use Rattle.std.proofs.Common.{subst, ◌∙◌, arith}
use Rattle.std.specs.Prelude.{◌&&◌, ◌==◌, if◌then◌else◌}
use Rattle.std.specs.List.{flat_map, range_with_len}
use Rattle.std.proofs.lemmas.Bool.{cases_lt, and_parts, or_left, or_right, or_cases, not-true}
use Rattle.std.proofs.lemmas.Bool.Decides.{nat_tests}
use Rattle.std.proofs.lemmas.List.{append-nil, length-take, take_all}
use Rattle.avtp_base.specs.Octets.{flag}
use Rattle.cvf_format.specs.declared.cvf.NalPart.TheVariants.{Single, First, Middle, Last}
use Rattle.cvf_format.specs.Packets.{packets_of}
use Rattle.talk_video.specs.AccessUnits.{HasSlice, access_unit, begins, has_slice, is_sliced, may_begin, unit_at}
use Rattle.talk_video.specs.Fragments.{Place, body_by, body_of, packets_at, packets_before, packets_for, part_by, place_of, rest_in}
use Rattle.talk_video.proofs.AccessLemmas.{IsPlaced, begun_rises, one_unit, placed}

-- ---- access units

flag_is : (b : Bool) (a n : ℕ) → n ≡ a + flag b → (n ≡ a) ⊎ (n ≡ suc a)
flag_is true a n e = inr (omega arith)
flag_is false a n e = inl (omega arith)

pub same_or_next : (bytes : List ℕ) (units : List (ℕ × ℕ)) (i : ℕ)
    → (access_unit bytes units (suc i) ≡ access_unit bytes units i) ⊎ (access_unit bytes units (suc i) ≡ suc (access_unit bytes units i))
same_or_next bytes units i = flag_is (begins bytes units (suc i)) (access_unit bytes units i) (access_unit bytes units (suc i)) refl

-- if unit i + 1 does not begin an access unit, it belongs to the access unit of unit i
stays : (bytes : List ℕ) (units : List (ℕ × ℕ)) (i : ℕ) → begins bytes units (suc i) ≡ false → access_unit bytes units (suc i) ≡ access_unit bytes units i
stays bytes units i e = rw e (omega arith)

begun : (bytes : List ℕ) (units : List (ℕ × ℕ)) (i : ℕ) → begins bytes units (suc i) ≡ true → access_unit bytes units (suc i) ≡ suc (access_unit bytes units i)
begun bytes units i e = rw e (omega arith)

sliced_so : (bytes : List ℕ) (units : List (ℕ × ℕ)) (i : ℕ) → is_sliced bytes units (suc i) ≡ true → HasSlice bytes units i
sliced_so bytes units zero e = elim (or_cases (has_slice bytes (unit_at units 0)) false e) [
  | inl here ↦ record { unit = 0; before = omega arith; one = refl; slice = here }
  | inr none ↦ absurd cc
]
sliced_so bytes units (suc i) e =
    elim (or_cases (has_slice bytes (unit_at units (suc i))) (is_sliced bytes units (suc i) && not (may_begin bytes (unit_at units (suc i)))) e) [
      | inl here ↦ record { unit = suc i; before = omega arith; one = refl; slice = here }
      | inr there ↦
          let parts = and_parts (is_sliced bytes units (suc i)) (not (may_begin bytes (unit_at units (suc i)))) there in
          let none : begins bytes units (suc i) ≡ false = rw (parts.0, not-true (may_begin bytes (unit_at units (suc i))) parts.1) refl in
          let before = sliced_so bytes units i parts.0 in
          record {
            unit = before.unit;
            before = (let low = before.before in omega arith);
            one = before.one
                ∙ sym (stays bytes units i none);
            slice = before.slice;
          }
    ]

sliced_by : (bytes : List ℕ) (units : List (ℕ × ℕ)) (i j : ℕ) → j ≤ i → access_unit bytes units j ≡ access_unit bytes units i
    → has_slice bytes (unit_at units j) ≡ true → is_sliced bytes units (suc i) ≡ true
sliced_by bytes units zero j h one slice = let first : j ≡ 0 = omega arith in or_left (has_slice bytes (unit_at units 0)) false (rw first at slice)
sliced_by bytes units (suc i) j h one slice = elim (cases_lt j (suc i)) [
  | inl less ↦
      let low = begun_rises bytes units (suc j) (suc i) less in
      let high = begun_rises bytes units (suc i) (suc (suc i)) (omega arith) in
      let before = sliced_by bytes units i j (omega arith) (omega arith) slice in
      elim (same_or_next bytes units i) [
        | inl same ↦ or_right (has_slice bytes (unit_at units (suc i))) (is_sliced bytes units (suc i) && not (may_begin bytes (unit_at units (suc i))))
            (other before same (may_begin bytes (unit_at units (suc i))) refl)
        | inr next ↦ absurd (omega arith)
      ]
  | inr last ↦ let here : j ≡ suc i = omega arith in or_left (has_slice bytes (unit_at units (suc i)))
      (is_sliced bytes units (suc i) && not (may_begin bytes (unit_at units (suc i)))) (rw here at slice)
]
  where
    other : is_sliced bytes units (suc i) ≡ true → access_unit bytes units (suc i) ≡ access_unit bytes units i → (b : Bool)
        → may_begin bytes (unit_at units (suc i)) ≡ b
        → (is_sliced bytes units (suc i) && not (may_begin bytes (unit_at units (suc i)))) ≡ true
    other before same true e = let next = begun bytes units i (rw (before, e) refl) in absurd (omega arith)
    other before same false e = rw (before, e) refl

pub begun_where : (bytes : List ℕ) (units : List (ℕ × ℕ)) (i : ℕ) → access_unit bytes units (suc i) ≡ suc (access_unit bytes units i)
    → HasSlice bytes units i × (may_begin bytes (unit_at units (suc i)) ≡ true)
begun_where bytes units i e = by (begins bytes units (suc i)) refl
  where
    by : (b : Bool) → begins bytes units (suc i) ≡ b → HasSlice bytes units i × (may_begin bytes (unit_at units (suc i)) ≡ true)
    by true f = let parts = and_parts (is_sliced bytes units (suc i)) (may_begin bytes (unit_at units (suc i))) f in (sliced_so bytes units i parts.0, parts.1)
    by false f = let same = stays bytes units i f in absurd (omega arith)

pub begins_where : (bytes : List ℕ) (units : List (ℕ × ℕ)) (i : ℕ) → HasSlice bytes units i → may_begin bytes (unit_at units (suc i)) ≡ true
    → access_unit bytes units (suc i) ≡ suc (access_unit bytes units i)
begins_where bytes units i has may =
    let sliced = sliced_by bytes units i has.unit has.before has.one has.slice in
    begun bytes units i (rw (sliced, may) refl)

-- ---- what packet n carries

pub place_is : (units : List (ℕ × ℕ)) (n i k : ℕ) → place_of units n ≡ record { unit = i; fragment = k }
    → (packets_before units i + k ≡ n) × (k < packets_at units i)
place_is units n i k e =
    let is = subst (λ (p : Place). IsPlaced units p n) e (placed units n) in
    (is.number, is.within)

pub place_by : (units : List (ℕ × ℕ)) (n i k : ℕ) → packets_before units i + k ≡ n → k < packets_at units i
    → place_of units n ≡ record { unit = i; fragment = k }
place_by units n i k number within =
    let here : IsPlaced units (record { unit = i; fragment = k }) n = record { number = number; within = within } in
    let is = placed units n in
    let unit = one_unit units (place_of units n) (record { unit = i; fragment = k }) n is here in
    let same = ap (packets_before units) unit in
    let fragment : (place_of units n).fragment ≡ k = omega (arith, is.number) in
    both (place_of units n) unit fragment
  where
    both : (p : Place) → p.unit ≡ i → p.fragment ≡ k → p ≡ record { unit = i; fragment = k }
    both p e f = ap (λ (u : ℕ). record { unit = u; fragment = p.fragment }) e ∙ ap (λ (f : ℕ). record { unit = i; fragment = f }) f

-- ---- the fragments of a unit, put together

abbrev nil : List ℕ
nil = []

take_more : (a b : ℕ) (xs : List ℕ) → take a xs ++ take b (drop a xs) ≡ take (a + b) xs
take_more zero b xs = let e : 0 + b ≡ b = omega arith in rw e refl
take_more (suc a) b [] = let e : suc a + b ≡ suc (a + b) = omega arith in rw e (none b)
  where
    none : (b : ℕ) → take b nil ≡ nil
    none zero = refl
    none (suc b) = refl
take_more (suc a) b (x ∷ xs) = let e : suc a + b ≡ suc (a + b) = omega arith in rw e (ap (λ (ys : List ℕ). x ∷ ys) (take_more a b xs))

drop_more : (a b : ℕ) (xs : List ℕ) → drop b (drop a xs) ≡ drop (a + b) xs
drop_more zero b xs = let e : 0 + b ≡ b = omega arith in rw e refl
drop_more (suc a) b [] = let e : suc a + b ≡ suc (a + b) = omega arith in rw e (none b)
  where
    none : (b : ℕ) → drop b nil ≡ nil
    none zero = refl
    none (suc b) = refl
drop_more (suc a) b (x ∷ xs) = let e : suc a + b ≡ suc (a + b) = omega arith in rw e (drop_more a b xs)

chunks : (rest : List ℕ) (a n : ℕ) → flat_map (λ (k : ℕ). take 1398 (drop (k * 1398) rest)) (range_with_len a n) ≡ take (n * 1398) (drop (a * 1398) rest)
chunks rest a zero = refl
chunks rest a (suc n) =
    let next : (a + 1) * 1398 ≡ a * 1398 + 1398 = omega arith in
    let all : suc n * 1398 ≡ 1398 + n * 1398 = omega arith in
    let here : List ℕ = drop (a * 1398) rest in
    ap (λ (xs : List ℕ). take 1398 here ++ xs) (chunks rest (a + 1) n ∙ ap (λ (k : ℕ). take (n * 1398) (drop k rest)) next
    ∙ ap (λ (xs : List ℕ). take (n * 1398) xs) (sym (drop_more (a * 1398) 1398 rest)))
    ∙ take_more 1398 (n * 1398) here ∙ ap (λ (k : ℕ). take k here) (sym all)

-- if a unit has more than one packet, packet k carries up to 1398 bytes of `rest`, from byte k * 1398 on
not_single : (packets k : ℕ) (rest : List ℕ) → (packets == 1) ≡ false → body_by (part_by packets k) k rest ≡ take 1398 (drop (k * 1398) rest)
unfolding part_by
not_single packets k rest more = by (packets == 1) (k == 0) (k + 1 == packets) more
  where
    by : (a b c : Bool) → a ≡ false → body_by (if a then Single else if b then First else if c then Last else Middle) k rest ≡ take 1398 (drop (k * 1398) rest)
    by true b c e = absurd cc
    by false true c e = refl
    by false false true e = refl
    by false false false e = refl

mapped : (f g : ℕ → List ℕ) (a n : ℕ) → ((k : ℕ) → f k ≡ g k) → flat_map f (range_with_len a n) ≡ flat_map g (range_with_len a n)
mapped f g a zero same = refl
mapped f g a (suc n) same = rw (same a) (ap (λ (xs : List ℕ). g a ++ xs) (mapped f g (a + 1) n same))

enough : (len : ℕ) → (packets_of len == 1) ≡ false → len - 1 ≤ packets_of len * 1398
enough len more = grind (arith, nat_tests)

single : (rest : List ℕ) (k : ℕ) → body_by (part_by 1 k) k rest ≡ rest
unfolding part_by
single rest k = refl

whole_by : (bytes : List ℕ) (unit : ℕ × ℕ) (b : Bool) → (packets_for unit == 1) ≡ b
    → flat_map (body_of bytes unit) (range_with_len 0 (packets_for unit)) ≡ rest_in bytes unit
whole_by bytes unit true e =
    let one : packets_for unit ≡ 1 = grind (arith, nat_tests) in
    let rest : List ℕ = rest_in bytes unit in
    let P : ℕ → Type 0 = λ packets. flat_map (λ (k : ℕ). body_by (part_by packets k) k rest) (range_with_len 0 packets) ≡ rest in
    subst P (sym one) (ap (λ (xs : List ℕ). xs ++ []) (single rest 0) ∙ append-nil rest)
whole_by bytes unit false e =
    let rest : List ℕ = rest_in bytes unit in
    let many = enough (unit.1 - unit.0) e in
    let size = length-take (unit.1 - (unit.0 + 1)) (drop (unit.0 + 1) bytes) in
    mapped (body_of bytes unit) (λ (k : ℕ). take 1398 (drop (k * 1398) rest)) 0 (packets_for unit) (λ k. not_single (packets_for unit) k rest e)
    ∙ chunks rest 0 (packets_for unit)
    ∙ take_all (packets_for unit * 1398) rest (omega arith)

pub whole : (bytes : List ℕ) (unit : ℕ × ℕ) → flat_map (body_of bytes unit) (range_with_len 0 (packets_for unit)) ≡ rest_in bytes unit
whole bytes unit = whole_by bytes unit (packets_for unit == 1) refl
