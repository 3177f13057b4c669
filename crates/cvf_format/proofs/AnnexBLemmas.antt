-- Where start codes begin and where NAL units end.
use Rattle.std.proofs.Common.{◌≡◌, ℕ, zero, suc, ◌+◌, ◌-◌, ◌<◌, ◌≤◌, true, false, inl, inr, List, [], ◌∷◌, length, take, drop, get_or, leb, Option, None, Some, refl, sym, ap, subst, ◌∙◌, arith}
use Rattle.std.specs.Prelude.{filter, find, unwrap_or}
use Rattle.std.specs.List.{cons_option, filter_map, last_or, range_with_len}
use Rattle.std.specs.Option.{option_map}
use Rattle.std.proofs.lemmas.List.{get_or-drop, length-drop, take_rest}
use Rattle.std.proofs.lemmas.Bool.{cases_lt, or_left, or_right, or_parts, false_from_ne_true, or_from}
use Rattle.std.proofs.lemmas.Bool.Decides.{leb_tells}
use Rattle.memchr.specs.Find.{FindsNeedle, IsFirst, Nowhere, NoneBefore, OccursAt, occurs_at}
use Rattle.memchr.proofs.lemmas.MatchLemmas.{OccursAt-true, occurs_at-true}
use Rattle.cvf_format.specs.AnnexB.{end_behind, is_end, is_other_byte, is_start_code, places, start_code, three_zeros, unit_behind, units_from}
use Rattle.cvf_format.proofs.PlaceLemmas.{FirstPlace, NonePasses, filter_none, filter_skip, filter_there, first_place, find_none, find_skip, find_there}

-- ---- a needle in a suffix of the bytes

occurs_there : (hay needle : List ℕ) (from k : ℕ) → from ≤ length hay → OccursAt (drop from hay) needle k → OccursAt hay needle (from + k)
occurs_there hay needle from k within o = record {
  fits = omega (arith, o.fits, length-drop from hay);
  reads = λ j lt.
      let place : from + k + j ≡ from + (k + j) = omega arith in
      rw place (sym (get_or-drop from hay (k + j) 0) ∙ o.reads j lt);
}

occurs_here : (hay needle : List ℕ) (from k : ℕ) → from ≤ k → OccursAt hay needle k → OccursAt (drop from hay) needle (k - from)
occurs_here hay needle from k low o = record {
  fits = omega (arith, o.fits, length-drop from hay);
  reads = λ j lt.
      let place : from + (k - from + j) ≡ k + j = omega arith in
      get_or-drop from hay (k - from + j) 0 ∙ ap (λ i. get_or hay i 0) place ∙ o.reads j lt;
}

nowhere_before : (hay needle : List ℕ) (from found : ℕ) → Nowhere (OccursAt (drop from hay) needle) 0 found
    → Nowhere (OccursAt hay needle) from (from + found)
nowhere_before hay needle from found none k low high o = none (k - from) (omega arith) (omega arith) (occurs_here hay needle from k low o)

first_there : (hay needle : List ℕ) (from : ℕ) → from ≤ length hay → (r : Option ℕ) → FindsNeedle (drop from hay) needle 0 r
    → IsFirst (OccursAt hay needle) from (length hay + 1) (option_map (λ k. from + k) r)
first_there hay needle from within None none =
    let places : length hay + 1 ≡ from + (length (drop from hay) + 1) = omega (arith, length-drop from hay) in
    rw places (nowhere_before hay needle from (length (drop from hay) + 1) none)
first_there hay needle from within (Some k) found = (
  record {
    low = omega arith;
    high = omega (arith, found.0.high, length-drop from hay);
    before = nowhere_before hay needle from k found.0.before;
  },
  occurs_there hay needle from k within found.1,
)

pub found_there : (hay needle : List ℕ) (from : ℕ) → from ≤ length hay → (r s : Option ℕ) → r ≡ s
    → FindsNeedle (take (length hay - from) (drop from hay)) needle 0 r → IsFirst (OccursAt hay needle) from (length hay + 1) (option_map (λ k. from + k) s)
found_there hay needle from within r s e found =
    let rest : FindsNeedle (drop from hay) needle 0 s = subst (λ (xs : List ℕ). FindsNeedle xs needle 0 s) (take_rest hay from) (subst (λ (o : Option ℕ). FindsNeedle (take (length hay - from) (drop from hay)) needle 0 o) e found) in
    first_there hay needle from within s rest

-- ---- three bytes

pub three_read : (bytes : List ℕ) (at a b c : ℕ) → get_or bytes at 0 ≡ a → get_or bytes (at + 1) 0 ≡ b → get_or bytes (at + 2) 0 ≡ c
    → (j : ℕ) → j < 3 → get_or bytes (at + j) 0 ≡ get_or (a ∷ b ∷ c ∷ []) j 0
three_read bytes at a b c p q r zero lt = let e : at + 0 ≡ at = omega arith in rw e p
three_read bytes at a b c p q r (suc zero) lt = q
three_read bytes at a b c p q r (suc (suc zero)) lt = r
three_read bytes at a b c p q r (suc (suc (suc j))) lt = absurd (omega arith)

three_stand : (bytes : List ℕ) (at c : ℕ) → OccursAt bytes (0 ∷ 0 ∷ []) at → at + 2 < length bytes → get_or bytes (at + 2) 0 ≡ c
    → OccursAt bytes (0 ∷ 0 ∷ c ∷ []) at
three_stand bytes at c two more third = record {
  fits = omega arith;
  reads =
      let e : at + 0 ≡ at = omega arith in
      let first : get_or bytes at 0 ≡ 0 = rw e at (two.reads 0 (omega arith)) in
      three_read bytes at 0 0 c first (two.reads 1 (omega arith)) third;
}

two_of_three : (bytes : List ℕ) (at c : ℕ) → OccursAt bytes (0 ∷ 0 ∷ c ∷ []) at → OccursAt bytes (0 ∷ 0 ∷ []) at
two_of_three bytes at c o = record { fits = omega (arith, o.fits); reads = read }
  where
    read : (j : ℕ) → j < 2 → get_or bytes (at + j) 0 ≡ get_or (0 ∷ 0 ∷ []) j 0
    read zero lt = o.reads 0 (omega arith)
    read (suc zero) lt = o.reads 1 (omega arith)
    read (suc (suc j)) lt = absurd (omega arith)

-- if two zero bytes are followed by a byte that is at most 1, a unit ends before the two zero bytes
third_ends : (bytes : List ℕ) (at : ℕ) → OccursAt bytes (0 ∷ 0 ∷ []) at → at + 2 < length bytes → get_or bytes (at + 2) 0 ≤ 1 → is_end bytes at ≡ true
third_ends bytes at two more few = ends_by (get_or bytes (at + 2) 0) refl few
  where
    ends_by : (c : ℕ) → get_or bytes (at + 2) 0 ≡ c → c ≤ 1 → is_end bytes at ≡ true
    ends_by zero e few =
        or_right (occurs_at bytes start_code at) (occurs_at bytes three_zeros at) (occurs_at-true bytes three_zeros at (three_stand bytes at 0 two more e))
    ends_by (suc zero) e few =
        or_left (occurs_at bytes start_code at) (occurs_at bytes three_zeros at) (occurs_at-true bytes start_code at (three_stand bytes at 1 two more e))
    ends_by (suc (suc c)) e few = absurd (omega arith)

third_passes : (bytes : List ℕ) (at : ℕ) → OccursAt bytes (0 ∷ 0 ∷ []) at → (at + 2 < length bytes → 1 < get_or bytes (at + 2) 0) → is_end bytes at ≡ false
third_passes bytes at two many =
    or_from (occurs_at bytes start_code at) (occurs_at bytes three_zeros at)
    (false_from_ne_true (occurs_at bytes start_code at) (λ t. not_there 1 (omega arith) (OccursAt-true bytes start_code at t)))
    (false_from_ne_true (occurs_at bytes three_zeros at) (λ t. not_there 0 (omega arith) (OccursAt-true bytes three_zeros at t)))
  where
    not_there : (c : ℕ) → c ≤ 1 → OccursAt bytes (0 ∷ 0 ∷ c ∷ []) at → ⊥
    not_there c few o = let third : get_or bytes (at + 2) 0 ≡ c = o.reads 2 (omega arith) in let fits : at + 2 < length bytes = omega (arith, o.fits) in let more = many fits in absurd (omega arith)

-- if two zero bytes do not begin at `at`, `is_end` is false at `at`
passes_without : (bytes : List ℕ) (at : ℕ) → ¬ OccursAt bytes (0 ∷ 0 ∷ []) at → is_end bytes at ≡ false
passes_without bytes at none =
    or_from (occurs_at bytes start_code at) (occurs_at bytes three_zeros at)
    (false_from_ne_true (occurs_at bytes start_code at) (λ t. none (two_of_three bytes at 1 (OccursAt-true bytes start_code at t))))
    (false_from_ne_true (occurs_at bytes three_zeros at) (λ t. none (two_of_three bytes at 0 (OccursAt-true bytes three_zeros at t))))

pub none_ends : (bytes : List ℕ) (low high : ℕ) → Nowhere (OccursAt bytes (0 ∷ 0 ∷ [])) low high → NonePasses (is_end bytes) low high
none_ends bytes low high none k from below = passes_without bytes k (none k from below)

-- ---- where a unit ends

pub end_skipped : (bytes : List ℕ) (low high : ℕ) → low ≤ high → high ≤ length bytes → NonePasses (is_end bytes) low high
    → end_behind bytes low ≡ end_behind bytes high
end_skipped bytes low high order within none =
    let count : length bytes - low ≡ (high - low) + (length bytes - high) = omega arith in
    let place : low + (high - low) ≡ high = omega arith in
    ap (λ (o : Option ℕ). unwrap_or o (length bytes))
    (ap (λ (n : ℕ). find (is_end bytes) (range_with_len low n)) count ∙ find_skip (is_end bytes) (high - low) (length bytes - high) low high place none)

pub end_there : (bytes : List ℕ) (at : ℕ) → at < length bytes → is_end bytes at ≡ true → end_behind bytes at ≡ at
end_there bytes at within ends =
    ap (λ (o : Option ℕ). unwrap_or o (length bytes)) (find_there (is_end bytes) (length bytes - at) at (omega arith) ends)

pub end_none : (bytes : List ℕ) (at : ℕ) → at ≤ length bytes → NonePasses (is_end bytes) at (length bytes) → end_behind bytes at ≡ length bytes
end_none bytes at within none =
    let all : at + (length bytes - at) ≡ length bytes = omega arith in
    let rest : NonePasses (is_end bytes) at (at + (length bytes - at)) = λ k low high. none k low (omega arith) in
    ap (λ (o : Option ℕ). unwrap_or o (length bytes)) (find_none (is_end bytes) (length bytes - at) at rest)

-- the byte after two zero bytes is at most 1 if and only if a unit ends before these zero bytes
pub third_tells : (bytes : List ℕ) (at : ℕ) → OccursAt bytes (0 ∷ 0 ∷ []) at → at + 2 < length bytes → leb (get_or bytes (at + 2) 0) 1 ≡ is_end bytes at
third_tells bytes at two more =
    elim (leb_tells (get_or bytes (at + 2) 0) 1) [
      | inl few ↦ few.0 ∙ sym (third_ends bytes at two more few.1)
      | inr many ↦ many.0 ∙ sym (third_passes bytes at two (λ _. many.1))
    ]

-- ---- units, from one start code to the next

pub end_first : (bytes : List ℕ) (from : ℕ) → from ≤ length bytes → FirstPlace (is_end bytes) from (length bytes) (end_behind bytes from)
end_first bytes from within = first_place (is_end bytes) (length bytes - from) from (length bytes) (omega arith)

units_skipped : (bytes : List ℕ) (low high : ℕ) → low ≤ high → high ≤ length bytes → NonePasses (is_start_code bytes) low high
    → units_from bytes low ≡ units_from bytes high
unfolding units_from
units_skipped bytes low high order within none =
    let count : length bytes - low ≡ (high - low) + (length bytes - high) = omega arith in
    let place : low + (high - low) ≡ high = omega arith in
    ap (λ (xs : List ℕ). filter_map (unit_behind bytes) xs)
    (ap (λ (n : ℕ). filter (is_start_code bytes) (range_with_len low n)) count ∙ filter_skip (is_start_code bytes) (high - low) (length bytes - high) low high place none)

units_none : (bytes : List ℕ) (at : ℕ) → at ≤ length bytes → NonePasses (is_start_code bytes) at (length bytes) → units_from bytes at ≡ []
unfolding units_from
units_none bytes at within none =
    ap (λ (xs : List ℕ). filter_map (unit_behind bytes) xs)
    (filter_none (is_start_code bytes) (length bytes - at) at (λ k low high. none k low (omega arith)))

units_there : (bytes : List ℕ) (code : ℕ) → code < length bytes → is_start_code bytes code ≡ true
    → units_from bytes code ≡ cons_option (unit_behind bytes code) (units_from bytes (code + 1))
unfolding units_from
units_there bytes code within there =
    let count : length bytes - code ≡ suc (length bytes - (code + 1)) = omega arith in
    ap (λ (n : ℕ). filter_map (unit_behind bytes) (filter (is_start_code bytes) (range_with_len code n))) count
    ∙ ap (λ (xs : List ℕ). filter_map (unit_behind bytes) xs) (filter_there (is_start_code bytes) (length bytes - (code + 1)) code there)

not_code : (bytes : List ℕ) (k at j : ℕ) → OccursAt bytes start_code at → k + j ≡ at + 2 → j < 2 → is_start_code bytes k ≡ false
not_code bytes k at j code e few = false_from_ne_true (is_start_code bytes k) (λ t.
    let here : OccursAt bytes start_code k = OccursAt-true bytes start_code k t in
    let one : get_or bytes (at + 2) 0 ≡ 1 = code.reads 2 (omega arith) in
    zero_there j few here e one)
  where
    zero_there : (j : ℕ) → j < 2 → OccursAt bytes start_code k → k + j ≡ at + 2 → get_or bytes (at + 2) 0 ≡ 1 → ⊥
    zero_there zero few here e one = let z = here.reads 0 (omega arith) in let same : get_or bytes (at + 2) 0 ≡ 0 = rw (← e) z in absurd (omega arith)
    zero_there (suc zero) few here e one = let z = here.reads 1 (omega arith) in let same : get_or bytes (at + 2) 0 ≡ 0 = rw (← e) z in absurd (omega arith)
    zero_there (suc (suc j)) few here e one = absurd (omega arith)

-- after the start code at index `code`, no start code begins before the end of the unit
pub code_apart : (bytes : List ℕ) (code : ℕ) → OccursAt bytes start_code code → NonePasses (is_start_code bytes) (code + 1) (end_behind bytes (code + 3))
code_apart bytes code there k from below =
    let ends = end_first bytes (code + 3) (omega (arith, there.fits)) in
    elim (cases_lt k (code + 3)) [
      | inl near ↦ not_code bytes k code (code + 2 - k) there (omega arith) (omega arith)
      | inr far ↦ (or_parts (is_start_code bytes k) (occurs_at bytes three_zeros k) (ends.before k far below)).0
    ]

none_codes : (bytes : List ℕ) (low high : ℕ) → Nowhere (OccursAt bytes start_code) low high → NonePasses (is_start_code bytes) low high
none_codes bytes low high none k from below = false_from_ne_true (is_start_code bytes k) (λ t. none k from below (OccursAt-true bytes start_code k t))

pub codes_none : (bytes : List ℕ) (at : ℕ) → at ≤ length bytes → Nowhere (OccursAt bytes start_code) at (length bytes + 1) → units_from bytes at ≡ []
codes_none bytes at within none = units_none bytes at within (none_codes bytes at (length bytes) (λ k low high. none k low (omega arith)))

-- Let `code` be the index of the first start code at or after `at`. The units from `at` on are the unit (if any) after
-- the start code at `code`, followed by the units from `code` + 1 on.
pub code_found : (bytes : List ℕ) (at code : ℕ) → NoneBefore (OccursAt bytes start_code) at (length bytes + 1) code → OccursAt bytes start_code code
    → units_from bytes at ≡ cons_option (unit_behind bytes code) (units_from bytes (code + 1))
code_found bytes at code first there =
    units_skipped bytes at code first.low (omega (arith, there.fits)) (none_codes bytes at code first.before)
    ∙ units_there bytes code (omega (arith, there.fits)) (occurs_at-true bytes start_code code there)

pub unit_passed : (bytes : List ℕ) (code k : ℕ) → OccursAt bytes start_code code → code + 1 ≤ k → k ≤ end_behind bytes (code + 3)
    → units_from bytes (code + 1) ≡ units_from bytes k
unit_passed bytes code k there behind before =
    let ends = end_first bytes (code + 3) (omega (arith, there.fits)) in
    units_skipped bytes (code + 1) k behind (omega (arith, ends.within)) (λ i low high. code_apart bytes code there i low (omega arith))

-- the function returns `s`, the NAL unit after the start code at index `code`
pub unit_is : (bytes : List ℕ) (code end : ℕ) (r s : Option (ℕ × ℕ)) → end ≡ end_behind bytes (code + 3)
    → r ≡ option_map (λ (last : ℕ). (code + 3, last + 1)) (last_or None (places (is_other_byte bytes) (code + 3) end)) → r ≡ s → unit_behind bytes code ≡ s
unit_is bytes code end r s ends value is =
    ap (λ (n : ℕ). option_map (λ (last : ℕ). (code + 3, last + 1)) (last_or None (places (is_other_byte bytes) (code + 3) n))) (sym ends) ∙ sym value ∙ is
