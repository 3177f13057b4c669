-- `nal_units` lists exactly the NAL units of the bytes, in order.
use Rattle.std.proofs.Common.{◌≡◌, ◌≢◌, ℕ, zero, suc, ◌+◌, ◌-◌, ◌<◌, ◌≤◌, Bool, true, false, cond, not, eqb, eq-eqb, ◌⊎◌, inl, inr, List, ◌∷◌, length, get_or, Option, None, Some, refl, sym, ap, subst, ◌∙◌, arith}
use Rattle.std.specs.Prelude.{filter, Contains, AllPairs, All}
use Rattle.std.specs.List.{cons_option, filter_map, last_or, range_with_len}
use Rattle.std.specs.Option.{option_map}
use Rattle.std.proofs.lemmas.Bool.{cases_lt, or_left, or_right, or_cases}
use Rattle.std.proofs.lemmas.List.Elements.{All-contains_itself, All-weaker}
use Rattle.std.proofs.lemmas.List.Kept.{AllPairs-cons}
use Rattle.memchr.specs.Find.{OccursAt, occurs_at}
use Rattle.memchr.proofs.lemmas.MatchLemmas.{OccursAt-true, occurs_at-true}
use Rattle.avtp_base.proofs.RowLemmas.{not_other}
use Rattle.cvf_format.specs.AnnexB.{AreUnits, IsEnd, IsUnit, end_behind, is_end, is_other_byte, is_start_code, nal_units, places, start_code, three_zeros, unit_behind, units_from}
use Rattle.cvf_format.proofs.PlaceLemmas.{last_place, last_place_known, other_byte}
use Rattle.cvf_format.proofs.AnnexBLemmas.{code_apart, end_first, unit_is}

-- ---- members of a list

contains_here : {X : Type 0} (y : X) (ys : List X) → Contains (y ∷ ys) y
contains_here y ys = (0, omega arith, refl)

contains_later : {X : Type 0} (y : X) (ys : List X) (x : X) → Contains ys x → Contains (y ∷ ys) x
contains_later y ys x c = (suc c.0, omega (arith, c.1), c.2)

contains_cases : {X : Type 0} (y : X) (ys : List X) (x : X) → Contains (y ∷ ys) x → (y ≡ x) ⊎ Contains ys x
contains_cases {X} y ys x c = by_place c.0 c.1 c.2
  where
    by_place : (k : ℕ) → k < length (y ∷ ys) → get_or (y ∷ ys) k x ≡ x → (y ≡ x) ⊎ Contains ys x
    by_place zero lt e = inl e
    by_place (suc k) lt e = inr (k, omega arith, e)

contains_option : {X : Type 0} (o : Option X) (ys : List X) (x : X) → Contains (cons_option o ys) x → (o ≡ Some x) ⊎ Contains ys x
contains_option None ys x c = inr c
contains_option (Some y) ys x c = elim (contains_cases y ys x c) [ inl same ↦ inl (ap (λ z. Some z) same) | inr later ↦ inr later ]

-- ---- the items of the indexes that pass a test

record Comes {X : Type 0} (test : ℕ → Bool) (gives : ℕ → Option X) (low high : ℕ) (x : X) (place : ℕ) : Type 0 where
  from : low ≤ place
  within : place < high
  passes : test place ≡ true
  gives_it : gives place ≡ Some x

comes_known : {X : Type 0} (test : ℕ → Bool) (gives : ℕ → Option X) (n low : ℕ) (x : X)
    → Contains (filter_map gives (filter test (range_with_len low n))) x → (place : ℕ) × Comes test gives low (low + n) x place
comes_known test gives zero low x c = absurd (omega (arith, c.1))
comes_known {X} test gives (suc n) low x c =
    elim (test low) as (λ b. test low ≡ b → Contains (filter_map gives (cond b (low ∷ filter test (range_with_len (low + 1) n)) (filter test (range_with_len (low + 1) n)))) x
    → (place : ℕ) × Comes test gives low (low + suc n) x place) [
      | true ↦ λ t m. elim (contains_option (gives low) (filter_map gives (filter test (range_with_len (low + 1) n))) x m) [
        | inl here ↦ (low, record { from = omega arith; within = omega arith; passes = t; gives_it = here })
        | inr later ↦ wider (comes_known test gives n (low + 1) x later)
      ]
      | false ↦ λ f m. wider (comes_known test gives n (low + 1) x m)
    ] refl c
  where
    wider : (place : ℕ) × Comes test gives (low + 1) (low + 1 + n) x place → (place : ℕ) × Comes test gives low (low + suc n) x place
    wider p = (
      p.0,
      record { from = omega (arith, p.1.from); within = omega (arith, p.1.within); passes = p.1.passes; gives_it = p.1.gives_it },
    )

behind_option : {X : Type 0} (o : Option X) (ys : List X) (x : X) → Contains ys x → Contains (cons_option o ys) x
behind_option None ys x c = c
behind_option (Some y) ys x c = contains_later y ys x c

comes_there : {X : Type 0} (test : ℕ → Bool) (gives : ℕ → Option X) (n low : ℕ) (x : X) (place : ℕ) → Comes test gives low (low + n) x place
    → Contains (filter_map gives (filter test (range_with_len low n))) x
comes_there test gives zero low x place p = absurd (omega (arith, p.from, p.within))
comes_there {X} test gives (suc n) low x place p =
    let later : List X = filter_map gives (filter test (range_with_len (low + 1) n)) in
    elim (cases_lt low place) [
      | inl behind ↦
          let rest = comes_there test gives n (low + 1) x place (record { from = omega arith; within = omega (arith, p.within); passes = p.passes; gives_it = p.gives_it }) in
          elim (test low) as (λ b. Contains (filter_map gives (cond b (low ∷ filter test (range_with_len (low + 1) n)) (filter test (range_with_len (low + 1) n)))) x) [
            | true ↦ behind_option (gives low) later x rest
            | false ↦ rest
          ]
      | inr at ↦
          let here : low ≡ place = omega (arith, p.from) in
          let t : test low ≡ true = rw here p.passes in
          let g : gives low ≡ Some x = rw here p.gives_it in
          rw (t, g) (contains_here x later)
    ]

-- items are in the order of the indexes that give them
comes_in_order : {X : Type 0} (R : X → X → Type 0) (test : ℕ → Bool) (gives : ℕ → Option X) (high : ℕ)
    → ((x y : X) (i j : ℕ) → Comes test gives 0 high x i → Comes test gives (i + 1) high y j → R x y)
    → (n low : ℕ) → low + n ≡ high → AllPairs R (filter_map gives (filter test (range_with_len low n)))
comes_in_order {X} R test gives high apart zero low e = λ i j d order within. absurd (omega (arith, within))
comes_in_order {X} R test gives high apart (suc n) low e =
    let later : List X = filter_map gives (filter test (range_with_len (low + 1) n)) in
    let rest = comes_in_order R test gives high apart n (low + 1) (omega arith) in
    elim (test low) as (λ b. test low ≡ b → AllPairs R (filter_map gives (cond b (low ∷ filter test (range_with_len (low + 1) n)) (filter test (range_with_len (low + 1) n))))) [
      | true ↦ λ t. elim (gives low) as (λ o. gives low ≡ o → AllPairs R (cons_option o later)) [
        | None ↦ λ g. rest
        | Some x ↦ λ g.
            let here : Comes test gives 0 high x low = record { from = omega arith; within = omega arith; passes = t; gives_it = g } in
            let all : All (R x) later = All-weaker (Contains later) (R x) (λ y c.
            let p = comes_known test gives n (low + 1) y c in
            apart x y low p.0 here (record { from = p.1.from; within = omega (arith, p.1.within); passes = p.1.passes; gives_it = p.1.gives_it })) later (All-contains_itself later) in
            AllPairs-cons R x later all rest
      ] refl
      | false ↦ λ f. rest
    ] refl

-- ---- the unit after a start code

-- if `is_end` is true at an index, or the index is the end of the bytes, a unit ends there as `IsEnd` defines it
ends_so : (bytes : List ℕ) (at : ℕ) → (is_end bytes at ≡ true) ⊎ (at ≡ length bytes) → IsEnd bytes at
ends_so bytes at (inl t) = elim (or_cases (occurs_at bytes start_code at) (occurs_at bytes three_zeros at) t) [
  | inl code ↦ inl (OccursAt-true bytes start_code at code)
  | inr zeros ↦ inr (inl (OccursAt-true bytes three_zeros at zeros))
]
ends_so bytes at (inr e) = inr (inr e)

end_tested : (bytes : List ℕ) (at : ℕ) → IsEnd bytes at → (is_end bytes at ≡ true) ⊎ (at ≡ length bytes)
end_tested bytes at (inl code) =
    inl (or_left (occurs_at bytes start_code at) (occurs_at bytes three_zeros at) (occurs_at-true bytes start_code at code))
end_tested bytes at (inr (inl zeros)) =
    inl (or_right (occurs_at bytes start_code at) (occurs_at bytes three_zeros at) (occurs_at-true bytes three_zeros at zeros))
end_tested bytes at (inr (inr e)) = inr e

no_end : (bytes : List ℕ) (at : ℕ) → is_end bytes at ≡ false → at < length bytes → ¬ IsEnd bytes at
no_end bytes at f within ends = elim (end_tested bytes at ends) [
  | inl t ↦ let e : true ≡ false = sym t ∙ f in absurd cc
  | inr e ↦ absurd (omega arith)
]

mapped : {X Y : Type 0} (f : X → Y) (o : Option X) (y : Y) → option_map f o ≡ Some y → (x : X) × (o ≡ Some x) × (f x ≡ y)
mapped f None y e = absurd cc
mapped f (Some x) y e = (x, refl, cc)

some_byte : (byte : ℕ) → not (eqb byte 0) ≡ true → byte ≢ 0
some_byte byte t e = let z : not (eqb 0 0) ≡ true = subst (λ (n : ℕ). not (eqb n 0) ≡ true) e t in absurd cc

unit_known : (bytes : List ℕ) (code : ℕ) (u : ℕ × ℕ) → is_start_code bytes code ≡ true → unit_behind bytes code ≡ Some u
    → IsUnit bytes u.0 u.1 (end_behind bytes (code + 3))
unit_known bytes code u t gives =
    let from : ℕ = code + 3 in
    let end : ℕ = end_behind bytes from in
    let there = OccursAt-true bytes start_code code t in
    let ends = end_first bytes from (omega (arith, there.fits)) in
    let found = mapped (λ (last : ℕ). (from, last + 1)) (last_or None (places (is_other_byte bytes) from end)) u gives in
    let last = last_place_known (is_other_byte bytes) from end found.0 ends.from found.1 in
    let place : from - 3 ≡ code = omega arith in
    let one_less : found.0 + 1 - 1 ≡ found.0 = omega arith in
    let unit : IsUnit bytes from (found.0 + 1) end = record {
      behind = omega arith;
      code = rw place there;
      ends = ends_so bytes end ends.there;
      first_end = λ k low high. no_end bytes k (ends.before k low high) (omega (arith, ends.within));
      some = omega (arith, last.from);
      within = omega (arith, last.within);
      last = rw one_less (some_byte (get_or bytes found.0 0) last.passes);
      zeros = λ k low high. not_other (get_or bytes k 0) 0 (last.behind k low high);
    } in
    subst (λ (v : ℕ × ℕ). IsUnit bytes v.0 v.1 end) found.2 unit

same_end : (bytes : List ℕ) (from to end : ℕ) → IsUnit bytes from to end → from ≤ length bytes → end ≡ end_behind bytes from
same_end bytes from to end u inside =
    let ends = end_first bytes from inside in
    elim (cases_lt end (end_behind bytes from)) [
      | inl before ↦ absurd (no_end bytes end (ends.before end (omega (arith, u.some, u.within)) before) (omega (arith, ends.within)) u.ends)
      | inr not_before ↦ elim (cases_lt (end_behind bytes from) end) [
        | inl behind ↦ absurd (u.first_end (end_behind bytes from) ends.from behind (ends_so bytes (end_behind bytes from) ends.there))
        | inr same ↦ omega arith
      ]
    ]

unit_there : (bytes : List ℕ) (code to end : ℕ) → OccursAt bytes start_code code → IsUnit bytes (code + 3) to end → unit_behind bytes code ≡ Some (code + 3, to)
unit_there bytes code to end there u =
    let from : ℕ = code + 3 in
    let e = same_end bytes from to end u (omega (arith, there.fits)) in
    let back : to - 1 + 1 ≡ to = omega (arith, u.some) in
    let last : last_or None (places (is_other_byte bytes) from end) ≡ Some (to - 1) =
    last_place (is_other_byte bytes) from end (to - 1) (omega (arith, u.some)) (omega (arith, u.some, u.within)) (other_byte (get_or bytes (to - 1) 0) u.last)
    (λ k low high. ap not (eq-eqb (get_or bytes k 0) 0 (u.zeros k (omega (arith, u.some)) high))) in
    let found : Option ℕ = last_or None (places (is_other_byte bytes) from end) in
    let range : option_map (λ (l : ℕ). (from, l + 1)) found ≡ Some (from, to) = rw (last, back) refl in
    unit_is bytes code end (option_map (λ (l : ℕ). (from, l + 1)) found) (Some (from, to)) e refl range

-- ---- the list of units

unit_comes : (bytes : List ℕ) (from to end : ℕ) → IsUnit bytes from to end
    → Comes (is_start_code bytes) (unit_behind bytes) 0 (length bytes) (from, to) (from - 3)
unit_comes bytes from to end u =
    let fits = u.code.fits in
    let back : from - 3 + 3 ≡ from = omega (arith, u.behind) in
    let unit : IsUnit bytes (from - 3 + 3) to end = subst (λ (n : ℕ). IsUnit bytes n to end) (sym back) u in
    record {
      from = omega arith;
      within = omega (arith, fits);
      passes = occurs_at-true bytes start_code (from - 3) u.code;
      gives_it = unit_there bytes (from - 3) to end u.code unit ∙ ap (λ (n : ℕ). Some (n, to)) back;
    }

-- a unit ends before the next one begins
units_apart : (bytes : List ℕ) (x y : ℕ × ℕ) (i j : ℕ) → Comes (is_start_code bytes) (unit_behind bytes) 0 (length bytes) x i
    → Comes (is_start_code bytes) (unit_behind bytes) (i + 1) (length bytes) y j → x.1 ≤ y.0
units_apart bytes x y i j p q =
    let end : ℕ = end_behind bytes (i + 3) in
    let first = unit_known bytes i x p.passes p.gives_it in
    let second = mapped (λ (l : ℕ). (j + 3, l + 1)) (last_or None (places (is_other_byte bytes) (j + 3) (end_behind bytes (j + 3)))) y q.gives_it in
    let begins : j + 3 ≡ y.0 = ap (λ (u : ℕ × ℕ). u.0) second.2 in
    elim (cases_lt j end) [
      | inl inside ↦
          let none = code_apart bytes i (OccursAt-true bytes start_code i p.passes) j q.from inside in
          let e : true ≡ false = sym q.passes ∙ none in
          absurd cc
      | inr behind ↦ omega (arith, first.within)
    ]

pub are_units : (bytes : List ℕ) → AreUnits bytes (nal_units bytes)
unfolding units_from
are_units bytes =
    let test : ℕ → Bool = is_start_code bytes in
    let gives : ℕ → Option (ℕ × ℕ) = unit_behind bytes in
    let n : ℕ = length bytes - 0 in
    let whole : 0 + n ≡ length bytes = omega arith in
    record {
      units = λ from to. (
        λ c.
            let p = comes_known test gives n 0 (from, to) c in
            (end_behind bytes (p.0 + 3), unit_known bytes p.0 (from, to) p.1.passes p.1.gives_it),
        λ (end, u). comes_there test gives n 0 (from, to) (from - 3) (rw whole (unit_comes bytes from to end u)),
      );
      in_order = comes_in_order (λ (a : ℕ × ℕ) (b : ℕ × ℕ). a.1 ≤ b.0) test gives (length bytes) (units_apart bytes) n 0 (omega arith);
    }
