-- Units that are written after start codes are the NAL units of the byte stream.
use Rattle.std.proofs.Common.{◌≡◌, ◌≢◌, ℕ, zero, suc, ◌+◌, ◌-◌, ◌<◌, ◌≤◌, Bool, true, false, cond, eqb, inl, inr, List, [], ◌∷◌, ◌++◌, length, map, drop, get_or, Option, None, Some, refl, sym, ap, ap₂, subst, ◌∙◌, arith, length-append, length-drop}
use Rattle.std.specs.Prelude.{filter, find, flat_map, unwrap_or, All}
use Rattle.std.specs.List.{cons_option, filter_map, last_or, range_with_len, slice_range}
use Rattle.std.specs.Option.{option_map}
use Rattle.std.proofs.lemmas.Bool.{cases_lt, ne_eqb, or_right}
use Rattle.std.proofs.lemmas.List.{drop-drop, get_or-drop, get_or_append_left}
use Rattle.std.proofs.lemmas.List.Elements.{All-head, All-tail}
use Rattle.std.proofs.Math.Seq.{take-append_seam}
use Rattle.memchr.specs.Find.{OccursAt, occurs_at}
use Rattle.memchr.proofs.lemmas.MatchLemmas.{OccursAt-true, occurs_at-true}
use Rattle.sample_schedule.specs.Batches.{Presented}
use Rattle.cvf_format.specs.AnnexB.{end_behind, is_end, is_other_byte, is_start_code, start_code, three_zeros, unit_behind, units_from}
use Rattle.device_rack.specs.Laws.{IsCarried}
use Rattle.cvf_format.proofs.PlaceLemmas.{filter_skip, find_skip, NonePasses}
use Rattle.cvf_format.proofs.AnnexBLemmas.{three_read}

-- ---- numbers that fail the test are skipped

-- if the last number of a range passes a test, it is the last number that passes
last_passes : (test : ℕ → Bool) (m a : ℕ) (o : Option ℕ) → test (a + m) ≡ true → last_or o (filter test (range_with_len a (suc m))) ≡ Some (a + m)
last_passes test zero a o there = let here : a + 0 ≡ a = omega arith in let t : test a ≡ true = rw here at there in rw (here, t) refl
last_passes test (suc m) a o there =
    let next : a + suc m ≡ a + 1 + m = omega arith in
    let t : test (a + 1 + m) ≡ true = rw next at there in
    rw next (either (test a) (λ p. last_passes test m (a + 1) p t))
  where
    either : (b : Bool) → ((p : Option ℕ) → last_or p (filter test (range_with_len (a + 1) (suc m))) ≡ Some (a + 1 + m))
        → last_or o (cond b (a ∷ filter test (range_with_len (a + 1) (suc m))) (filter test (range_with_len (a + 1) (suc m)))) ≡ Some (a + 1 + m)
    either true rest = rest (Some a)
    either false rest = rest o

-- ---- a unit after its start code, in the middle of bytes

not_there : (bytes needle : List ℕ) (k : ℕ) → ¬ OccursAt bytes needle k → occurs_at bytes needle k ≡ false
not_there bytes needle k never = by (occurs_at bytes needle k) refl
  where
    by : (b : Bool) → occurs_at bytes needle k ≡ b → occurs_at bytes needle k ≡ false
    by true t = absurd (never (OccursAt-true bytes needle k t))
    by false f = f

-- Neither a start code nor a run of three zeros begins within a unit, because the unit's last byte is not zero.
module _ (bytes unit rest : List ℕ) (at : ℕ) (carried : IsCarried unit) (stands : drop at bytes ≡ unit ++ rest) where
  unit_byte : (i : ℕ) → i < length unit → get_or bytes (at + i) 0 ≡ get_or unit i 0
  unit_byte i inside = sym (get_or-drop at bytes i 0) ∙ ap (λ (xs : List ℕ). get_or xs i 0) stands ∙ get_or_append_left unit rest 0 i inside

  inside_unit : (c i : ℕ) → i + 3 ≤ length unit → OccursAt bytes (0 ∷ 0 ∷ c ∷ []) (at + i) → OccursAt unit (0 ∷ 0 ∷ c ∷ []) i
  inside_unit c i fits o = record {
    fits = fits;
    reads = λ j lt.
        let place : at + (i + j) ≡ at + i + j = omega arith in
        sym (unit_byte (i + j) (omega arith)) ∙ ap (λ (k : ℕ). get_or bytes k 0) place ∙ o.reads j lt;
  }

  zero_there : (c i j : ℕ) → OccursAt bytes (0 ∷ 0 ∷ c ∷ []) (at + i) → j < 2 → i + j < length unit → get_or unit (i + j) 0 ≡ 0
  zero_there c i zero o few inside =
      let place : at + (i + 0) ≡ at + i + 0 = omega arith in
      sym (unit_byte (i + 0) inside) ∙ ap (λ (k : ℕ). get_or bytes k 0) place ∙ o.reads 0 (omega arith)
  zero_there c i (suc zero) o few inside =
      let place : at + (i + 1) ≡ at + i + 1 = omega arith in
      sym (unit_byte (i + 1) inside) ∙ ap (λ (k : ℕ). get_or bytes k 0) place ∙ o.reads 1 (omega arith)
  zero_there c i (suc (suc j)) o few inside = absurd (omega arith)

  none_begins : (c i : ℕ) → ((k : ℕ) → ¬ OccursAt unit (0 ∷ 0 ∷ c ∷ []) k) → i < length unit → ¬ OccursAt bytes (0 ∷ 0 ∷ c ∷ []) (at + i)
  none_begins c i none inside o =
      elim (cases_lt (i + 2) (length unit)) [
        | inl fits ↦ none i (inside_unit c i (omega arith) o)
        | inr crosses ↦
            let j : ℕ = length unit - 1 - i in
            let place : i + j ≡ length unit - 1 = omega arith in
            let z = zero_there c i j o (omega arith) (omega arith) in
            carried.last (rw place at z)
      ]

  no_code_inside : (k : ℕ) → at ≤ k → k < at + length unit → is_start_code bytes k ≡ false
  no_code_inside k low high =
      let place : at + (k - at) ≡ k = omega arith in
      not_there bytes start_code k (λ o. none_begins 1 (k - at) carried.no_start_code (omega arith) (subst (OccursAt bytes start_code) (sym place) o))

  no_end_inside : NonePasses (is_end bytes) at (at + length unit)
  no_end_inside k low high =
      let place : at + (k - at) ≡ k = omega arith in
      let zeros = not_there bytes three_zeros k (λ o. none_begins 0 (k - at) carried.no_three_zeros (omega arith) (subst (OccursAt bytes three_zeros) (sym place) o)) in
      rw (no_code_inside k low high, zeros) refl

  other_there : (m : ℕ) → m + 1 ≡ length unit → is_other_byte bytes (at + m) ≡ true
  other_there m is =
      let last : length unit - 1 ≡ m = omega arith in
      let other : eqb (get_or bytes (at + m) 0) 0 ≡ false =
      ne_eqb (get_or bytes (at + m) 0) 0 (λ zero_byte. carried.last (rw last (sym (unit_byte m (omega arith)) ∙ zero_byte))) in
      rw other refl

abbrev coded : List Presented → List ℕ
coded us = flat_map (λ (unit : Presented). 0 ∷ 0 ∷ 0 ∷ 1 ∷ unit.bytes) us

-- A unit after its start code, followed by more units.
module _ (bytes unit : List ℕ) (us : List Presented) (at : ℕ) (carried : IsCarried unit) (starts : drop at bytes ≡ 0 ∷ 0 ∷ 0 ∷ 1 ∷ (unit ++ coded us)) where
  total : length bytes ≡ at + 4 + length unit + length (coded us)
  total =
      let long = ap length starts in
      omega (arith, long, length-append unit (coded us), length-drop at bytes)

  stands : drop (at + 4) bytes ≡ unit ++ coded us
  stands = sym (drop-drop 4 at bytes) ∙ ap (drop 4) starts

  behind : drop (at + 4 + length unit) bytes ≡ coded us
  behind = sym (drop-drop (length unit) (at + 4) bytes) ∙ ap (drop (length unit)) stands ∙ drop_front unit (coded us)
    where
      drop_front : (xs ys : List ℕ) → drop (length xs) (xs ++ ys) ≡ ys
      drop_front [] ys = refl
      drop_front (x ∷ xs) ys = drop_front xs ys

  header_byte : (j : ℕ) → get_or bytes (at + j) 0 ≡ get_or (0 ∷ 0 ∷ 0 ∷ 1 ∷ (unit ++ coded us)) j 0
  header_byte j = sym (get_or-drop at bytes j 0) ∙ ap (λ (xs : List ℕ). get_or xs j 0) starts

  code_there : OccursAt bytes start_code (at + 1)
  code_there = record {
    fits = omega (arith, total);
    reads =
        let second : at + 1 + 1 ≡ at + 2 = omega arith in
        let third : at + 1 + 2 ≡ at + 3 = omega arith in
        three_read bytes (at + 1) 0 0 1 (header_byte 1) (ap (λ (k : ℕ). get_or bytes k 0) second ∙ header_byte 2) (ap (λ (k : ℕ). get_or bytes k 0) third ∙ header_byte 3);
  }

  no_code_by : (k j byte : ℕ) → j < 3 → get_or bytes (k + j) 0 ≡ byte → byte ≢ get_or start_code j 0 → is_start_code bytes k ≡ false
  no_code_by k j byte few is differs = not_there bytes start_code k (λ o. differs (sym is ∙ o.reads j few))

  no_code_first : is_start_code bytes at ≡ false
  no_code_first = no_code_by at 2 0 (omega arith) (header_byte 2) (λ e. absurd (omega (arith, e)))

  no_codes : NonePasses (is_start_code bytes) (at + 2) (at + 4 + length unit)
  no_codes k low high =
      elim (cases_lt k (at + 3)) [
        | inl second ↦
            let place : k + 1 ≡ at + 3 = omega arith in
            no_code_by k 1 1 (omega arith) (ap (λ (i : ℕ). get_or bytes i 0) place ∙ header_byte 3) (λ e. absurd (omega (arith, e)))
        | inr later ↦ elim (cases_lt k (at + 4)) [
          | inl third ↦
              let place : k + 0 ≡ at + 3 = omega arith in
              no_code_by k 0 1 (omega arith) (ap (λ (i : ℕ). get_or bytes i 0) place ∙ header_byte 3) (λ e. absurd (omega (arith, e)))
          | inr inside ↦ no_code_inside bytes unit (coded us) (at + 4) carried stands k inside high
        ]
      ]

  -- the unit ends at the zero before the next start code, or at the end of the bytes
  ends : end_behind bytes (at + 4) ≡ at + 4 + length unit
  ends =
      let count : length bytes - (at + 4) ≡ length unit + length (coded us) = omega (arith, total) in
      ap (λ (n : ℕ). unwrap_or (find (is_end bytes) (range_with_len (at + 4) n)) (length bytes)) count
      ∙ ap (λ (o : Option ℕ). unwrap_or o (length bytes)) (find_skip (is_end bytes) (length unit) (length (coded us)) (at + 4) (at + 4 + length unit) refl (no_end_inside bytes unit (coded us) (at + 4) carried stands))
      ∙ at_next us total behind
    where
      at_next : (vs : List Presented) → length bytes ≡ at + 4 + length unit + length (coded vs) → drop (at + 4 + length unit) bytes ≡ coded vs
          → unwrap_or (find (is_end bytes) (range_with_len (at + 4 + length unit) (length (coded vs)))) (length bytes) ≡ at + 4 + length unit
      at_next [] all rest = omega (arith, all)
      at_next (v ∷ vs) all rest =
          let next : ℕ = at + 4 + length unit in
          let byte = λ (j : ℕ). sym (get_or-drop next bytes j 0) ∙ ap (λ (xs : List ℕ). get_or xs j 0) rest in
          let start : next + 0 ≡ next = omega arith in
          let zeros = occurs_at-true bytes three_zeros next (record {
            fits = omega (arith, all);
            reads = three_read bytes next 0 0 0 (rw start at (byte 0)) (byte 1) (byte 2);
          }) in
          let here : is_end bytes next ≡ true = or_right (occurs_at bytes start_code next) (occurs_at bytes three_zeros next) zeros in
          rw here refl

  -- the unit is found after the start code
  found : (m : ℕ) → m + 1 ≡ length unit → unit_behind bytes (at + 1) ≡ Some (at + 4, at + 4 + m + 1)
  found m is =
      let place : at + 1 + 3 ≡ at + 4 = omega arith in
      let count : at + 4 + length unit - (at + 4) ≡ suc m = omega arith in
      rw (place, ends, count)
      (ap (option_map (λ last. (at + 4, last + 1))) (last_passes (is_other_byte bytes) m (at + 4) None (other_there bytes unit (coded us) (at + 4) carried stands m is)))

  -- the units from `at` on are `unit` and the units after the end of `unit`
  one_more : (m : ℕ) → m + 1 ≡ length unit → units_from bytes at ≡ (at + 4, at + 4 + m + 1) ∷ units_from bytes (at + 4 + length unit)
  unfolding units_from
  one_more m is =
      let first : length bytes - at ≡ 1 + suc ((2 + length unit) + length (coded us)) = omega (arith, total) in
      let rest : length bytes - (at + 4 + length unit) ≡ length (coded us) = omega (arith, total) in
      let here : is_start_code bytes (at + 1) ≡ true = occurs_at-true bytes start_code (at + 1) code_there in
      let next : ℕ = at + 4 + length unit in
      let codes : filter (is_start_code bytes) (range_with_len at (1 + suc ((2 + length unit) + length (coded us)))) ≡ (at + 1) ∷ filter (is_start_code bytes) (range_with_len next (length (coded us))) =
      filter_skip (is_start_code bytes) 1 (suc ((2 + length unit) + length (coded us))) at (at + 1) refl (λ k low high. let at_first : k ≡ at = omega arith in rw at_first no_code_first)
      ∙ rw here (ap (λ (cs : List ℕ). (at + 1) ∷ cs)
      (filter_skip (is_start_code bytes) (2 + length unit) (length (coded us)) (at + 1 + 1) next (omega arith) (λ k low high. no_codes k (omega arith) high))) in
      ap (λ (n : ℕ). filter_map (unit_behind bytes) (filter (is_start_code bytes) (range_with_len at n))) first
      ∙ ap (λ (cs : List ℕ). filter_map (unit_behind bytes) cs) codes
      ∙ ap₂ (λ (o : Option (ℕ × ℕ)) (xs : List (ℕ × ℕ)). cons_option o xs) (found m is)
      (ap (λ (n : ℕ). filter_map (unit_behind bytes) (filter (is_start_code bytes) (range_with_len next n))) (sym rest))

  this_unit : (m : ℕ) → m + 1 ≡ length unit → slice_range bytes (at + 4) (at + 4 + m + 1) ≡ unit
  this_unit m is =
      let count : at + 4 + m + 1 - (at + 4) ≡ length unit = omega arith in
      rw (count, stands) (take-append_seam unit (coded us))

none_left : (bytes : List ℕ) (at : ℕ) → drop at bytes ≡ [] → map (λ (range : ℕ × ℕ). slice_range bytes range.0 range.1) (units_from bytes at) ≡ []
unfolding units_from
none_left bytes at none =
    let count : length bytes - at ≡ 0 = sym (length-drop at bytes) ∙ ap length none in
    rw count refl

pub units_stand : (bytes : List ℕ) (us : List Presented) (at : ℕ) → at ≤ length bytes → All (λ unit. IsCarried unit.bytes) us → drop at bytes ≡ coded us
    → map (λ (range : ℕ × ℕ). slice_range bytes range.0 range.1) (units_from bytes at) ≡ map (λ unit. unit.bytes) us
units_stand bytes [] at within carried stands = none_left bytes at stands
units_stand bytes (unit ∷ us) at within carried starts =
    let this = All-head (λ unit. IsCarried unit.bytes) unit us carried in
    let m : ℕ = length unit.bytes - 1 in
    let is : m + 1 ≡ length unit.bytes = omega (arith, this.some) in
    rw (one_more bytes unit.bytes us at this starts m is)
    (ap₂ (λ (x : List ℕ) (xs : List (List ℕ)). x ∷ xs) (this_unit bytes unit.bytes us at this starts m is)
    (units_stand bytes us (at + 4 + length unit.bytes) (omega (arith, total bytes unit.bytes us at this starts)) (All-tail (λ unit. IsCarried unit.bytes) unit us carried) (behind bytes unit.bytes us at this starts)))
