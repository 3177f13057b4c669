-- The options that a command line gives. Words split into options in only one way.
use Rattle.std.proofs.Common.{◌≡◌, ◌≢◌, ℕ, zero, suc, ◌<◌, ◌^◌, inl, inr, true, false, List, [], ◌∷◌, ◌++◌, flat_map, length, get_or, Option, Some, None, IsSomeAnd, arith, add-zero, sym, subst, ap, ◌∙◌, refl, append_assoc, length-append, All, AllPairs, Contains, IsTrue, option_to_list}
use Rattle.std.specs.Str.{bytes_eq}
use Rattle.std.proofs.lemmas.Bool.{cases_Bool, ltb-true, and_parts}
use Rattle.std.proofs.lemmas.List.{get_or_append_left, get_or-append-add}
use Rattle.std.proofs.lemmas.List.Elements.{All-nil, All-cons, All-head, All-tail, All-push, Contains-append_right, Contains-append_cases}
use Rattle.std.proofs.lemmas.List.Quantifiers.{all_pairs_push}
use Rattle.std.proofs.lemmas.Slice.Eq.{bytes_eq-Decides}
use Rattle.aaf_format.specs.declared.aaf.AafFormat.{AafFormat}
use Rattle.aaf_format.specs.declared.aaf.AafFormat.TheVariants.{Float32, Int32, Int24, Int16}
use Rattle.option_words.specs.declared.option.Takes.{Takes}
use Rattle.option_words.specs.declared.option.Takes.TheVariants.{Number, Signed, Id, Kind, Format, Name, Silence, OutFormat, Nothing}
use Rattle.option_words.specs.Tables.{is_sound, are_sound, begins_with_dashes}
use Rattle.option_words.specs.Word.{BeginsWithDash, IsName}
use Rattle.option_words.specs.Options.{Row, row_named, Setting, words_of, IsValue, IsTaken, stands_alone, format_name, IsSetting, AreSettings}
use Rattle.option_words.proofs.Numbers.{no_dash, one_dash, no_dashes}
use Rattle.option_words.proofs.Operands.{id_name}

-- the name of a file does not begin with a dash
pub name-dash : (word : List ℕ) → IsName word → BeginsWithDash word → ⊥
name-dash [] name dash = name
name-dash (first ∷ more) name dash = name dash

pub same-true : (xs ys : List ℕ) → bytes_eq xs ys ≡ true → xs ≡ ys
same-true xs ys e = (bytes_eq-Decides xs ys).0 e

pub same-false : (xs ys : List ℕ) → bytes_eq xs ys ≡ false → xs ≡ ys → ⊥
same-false xs ys e same = let yes = (bytes_eq-Decides xs ys).1 same in cc

plain : false ≡ true → ⊥
plain e = absurd cc

-- no value of an option begins with two dashes
pub value-dashes : (takes : Takes) (word : List ℕ) → is_sound takes ≡ true → IsValue takes word → begins_with_dashes word ≡ true → ⊥
value-dashes (Number low high) word sound (n, is) dashes =
    let bound : high < 2 ^ 64 = ltb-true high (2 ^ 64) (and_parts _ _ sound).1 in
    no_dash word n (omega (arith, is.most)) is.spelled (one_dash word dashes)
value-dashes (Signed most) word sound (z, is) dashes =
    let bound : most < 2 ^ 63 = ltb-true most (2 ^ 63) sound in
    no_dashes word z (omega (arith, is.size)) is.spelled dashes
value-dashes Id word sound (id, is) dashes = name-dash word (id_name word id is) (one_dash word dashes)
value-dashes Kind word sound (inl is) dashes = plain (subst (λ w. begins_with_dashes w ≡ true) is dashes)
value-dashes Kind word sound (inr (inr is)) dashes = plain (subst (λ w. begins_with_dashes w ≡ true) is dashes)
value-dashes Kind word sound (inr (inl is)) dashes = plain (subst (λ w. begins_with_dashes w ≡ true) is dashes)
value-dashes Format word sound (format, is) dashes = named format (subst (λ w. begins_with_dashes w ≡ true) is dashes) where
  named : (format : AafFormat) → begins_with_dashes (format_name format) ≡ true → ⊥
  named Int16 found = plain found
  named Int24 found = plain found
  named Int32 found = plain found
  named Float32 found = plain found
value-dashes Name word sound is dashes = name-dash word is (one_dash word dashes)
value-dashes Silence word sound (inl is) dashes = plain (subst (λ w. begins_with_dashes w ≡ true) is dashes)
value-dashes Silence word sound (inr is) dashes = plain (subst (λ w. begins_with_dashes w ≡ true) is dashes)
value-dashes OutFormat word sound (inl is) dashes = plain (subst (λ w. begins_with_dashes w ≡ true) is dashes)
value-dashes OutFormat word sound (inr is) dashes = plain (subst (λ w. begins_with_dashes w ≡ true) is dashes)
value-dashes Nothing word sound is dashes = is

alone : (takes : Takes) (word : List ℕ) → IsTrue (stands_alone takes) → IsValue takes word → ⊥
alone (Number low high) word stands is = absurd cc
alone (Signed most) word stands is = absurd cc
alone Id word stands is = absurd cc
alone Kind word stands is = absurd cc
alone Format word stands is = absurd cc
alone Name word stands is = absurd cc
alone Silence word stands is = absurd cc
alone OutFormat word stands is = absurd cc
alone Nothing word stands is = is

pub found-sound : (rows : List Row) (name : List ℕ) (row : Row) → are_sound rows ≡ true → row_named rows name ≡ Some row → is_sound row.takes ≡ true
found-sound [] name row sound found = cc
found-sound (r ∷ rows) name row sound found =
    elim (cases_Bool (bytes_eq r.name name)) [
      | inl here ↦ (let same : r ≡ row = (let e : Some r ≡ Some row = rw here at found in cc) in subst (λ (x : Row). is_sound x.takes ≡ true) same (and_parts _ _ (and_parts _ _ sound).0).1)
      | inr other ↦ found-sound rows name row (and_parts _ _ sound).1 (rw other at found)
    ]

pub found-dashes : (rows : List Row) (name : List ℕ) (row : Row) → are_sound rows ≡ true → row_named rows name ≡ Some row → begins_with_dashes name ≡ true
found-dashes [] name row sound found = cc
found-dashes (r ∷ rows) name row sound found =
    elim (cases_Bool (bytes_eq r.name name)) [
      | inl here ↦ subst (λ (n : List ℕ). begins_with_dashes n ≡ true) (same-true r.name name here) (and_parts _ _ (and_parts _ _ sound).0).0
      | inr other ↦ found-dashes rows name row (and_parts _ _ sound).1 (rw other at found)
    ]

-- if all rows are sound, the name of each option begins with two dashes
pub setting-dashes : (rows : List Row) (s : Setting) → are_sound rows ≡ true → IsSetting rows s → begins_with_dashes s.name ≡ true
setting-dashes rows s sound is = go (row_named rows s.name) refl is.value where
  go : (found : Option Row) → row_named rows s.name ≡ found → IsSomeAnd found (λ row. IsTaken row.takes s.value) → begins_with_dashes s.name ≡ true
  go None e taken = absurd taken
  go (Some row) e taken = found-dashes rows s.name row sound e

pub setting-value : (rows : List Row) (s : Setting) (value : List ℕ) → are_sound rows ≡ true → IsSetting rows s → s.value ≡ Some value → begins_with_dashes value ≡ true → ⊥
setting-value rows s value sound is valued = setting_value (row_named rows s.name) refl (subst (λ v. IsSomeAnd (row_named rows s.name) (λ row. IsTaken row.takes v)) valued is.value) where
  setting_value : (found : Option Row) → row_named rows s.name ≡ found → IsSomeAnd found (λ row. IsValue row.takes value) → begins_with_dashes value ≡ true → ⊥
  setting_value None e taken dashes = taken
  setting_value (Some row) e taken dashes = value-dashes row.takes value (found-sound rows s.name row sound e) taken dashes

-- if `name` is not among the words of the options, none of these options has this name
pub fresh : (gs : List Setting) (name : List ℕ) → (Contains (flat_map words_of gs) name → ⊥) → All (λ s. s.name ≢ name) gs
fresh [] name absent = All-nil (λ s. s.name ≢ name)
fresh (g ∷ gs) name absent = All-cons (λ s. s.name ≢ name) g gs (λ e. absent (0, omega arith, e)) (fresh gs name (λ within. absent (Contains-append_right (words_of g) (flat_map words_of gs) name within)))

-- a word that begins with two dashes is among the words of the options only as the name of an option
pub taken : (rows : List Row) (gs : List Setting) (name : List ℕ) → are_sound rows ≡ true → All (IsSetting rows) gs → All (λ s. s.name ≢ name) gs → begins_with_dashes name ≡ true → Contains (flat_map words_of gs) name → ⊥
taken rows [] name sound each apart dashes (k, lt, e) = absurd (omega (arith, lt))
taken rows (g ∷ gs) name sound each apart dashes within =
    elim (Contains-append_cases (words_of g) (flat_map words_of gs) name within) [ inl here ↦ here_ here | inr later ↦ taken rows gs name sound (All-tail (IsSetting rows) g gs each) (All-tail (λ s. s.name ≢ name) g gs apart) dashes later ] where
      valued : (v : Option (List ℕ)) → g.value ≡ v → Contains (option_to_list v) name → ⊥
      valued None e (k, lt, at_k) = absurd (omega (arith, lt))
      valued (Some value) e (zero, lt, same) = setting-value rows g value sound (All-head (IsSetting rows) g gs each) e (subst (λ (n : List ℕ). begins_with_dashes n ≡ true) (sym same) dashes)
      valued (Some value) e (suc k, lt, at_k) = absurd (omega (arith, lt))

      here_ : Contains (words_of g) name → ⊥
      here_ (zero, lt, e) = All-head (λ s. s.name ≢ name) g gs apart e
      here_ (suc k, lt, e) = valued g.value refl (k, omega (arith, lt), e)

-- if all options have different names, no option before `m` has the name of `m`
pub apart : (gs ms : List Setting) (m : Setting) → AllPairs (λ s t. s.name ≢ t.name) (gs ++ m ∷ ms) → All (λ s. s.name ≢ m.name) gs
apart gs ms m once k d lt =
    let here : get_or (gs ++ m ∷ ms) k d ≡ get_or gs k d = get_or_append_left gs (m ∷ ms) d k lt in
    let there : get_or (gs ++ m ∷ ms) (length gs) d ≡ m = rw add-zero at (get_or-append-add gs (m ∷ ms) 0 d) in
    let ne : (get_or (gs ++ m ∷ ms) k d).name ≢ (get_or (gs ++ m ∷ ms) (length gs) d).name = once k (length gs) d lt (omega (arith, length-append gs (m ∷ ms))) in
    λ same. ne (ap (λ (s : Setting). s.name) here ∙ same ∙ ap (λ (s : Setting). s.name) (sym there))

pub push : (rows : List Row) (gs : List Setting) (s : Setting) → AreSettings rows gs → IsSetting rows s → All (λ t. t.name ≢ s.name) gs → AreSettings rows (gs ++ s ∷ [])
push rows gs s options is new = record { each = All-push (IsSetting rows) gs s options.each is; once = all_pairs_push (λ s t. s.name ≢ t.name) gs s options.once new }

same_setting : (g h : Setting) → g.name ≡ h.name → g.value ≡ h.value → g ≡ h
same_setting g h p q = ap (λ n. let s : Setting = record { name = n; value = g.value } in s) p ∙ ap (λ v. let s : Setting = record { name = h.name; value = v } in s) q

-- If a list of words begins with the option `g` and also with the option `h`, `g` equals `h`.
pub same_first : (rows : List Row) (g h : Setting) (xs ys : List (List ℕ)) → IsSetting rows g → IsSetting rows h → words_of g ++ xs ≡ words_of h ++ ys → (g ≡ h) × (xs ≡ ys)
same_first rows g h xs ys g_is h_is e = go (row_named rows h.name) g.value h.value refl refl
    (subst (λ name. IsSomeAnd (row_named rows name) (λ row. IsTaken row.takes g.value)) names g_is.value) h_is.value (cc) where
      names : g.name ≡ h.name
      names = cc

      go : (row : Option Row) (v w : Option (List ℕ)) → g.value ≡ v → h.value ≡ w → IsSomeAnd row (λ row. IsTaken row.takes v) → IsSomeAnd row (λ row. IsTaken row.takes w) → option_to_list v ++ xs ≡ option_to_list w ++ ys → (g ≡ h) × (xs ≡ ys)
      go None v w v_is w_is v_taken w_taken e = absurd v_taken
      go (Some row) None None v_is w_is v_taken w_taken e = (same_setting g h names (v_is ∙ sym w_is), e)
      go (Some row) None (Some value) v_is w_is v_taken w_taken e = absurd (alone row.takes value v_taken w_taken)
      go (Some row) (Some value) None v_is w_is v_taken w_taken e = absurd (alone row.takes value w_taken v_taken)
      go (Some row) (Some value) (Some other) v_is w_is v_taken w_taken e =
          let values : value ≡ other = cc in
          (same_setting g h names (v_is ∙ ap Some values ∙ sym w_is), cc)

-- `hs` is `gs`, then an option that `word` names, then `more`. `rest` has three parts in this order: the value of the
-- option that `word` names, if the option has a value; the words of `more`; and `names`.
pub record Next (rows : List Row) (gs hs : List Setting) (word : List ℕ) (rest names : List (List ℕ)) : Type 0 where
  pub setting : Setting
  pub more : List Setting
  pub whole : hs ≡ gs ++ setting ∷ more
  pub name : word ≡ setting.name
  pub left : rest ≡ option_to_list setting.value ++ (flat_map words_of more ++ names)

pub next : (rows : List Row) (gs hs : List Setting) (word : List ℕ) (rest names : List (List ℕ)) → All (IsSetting rows) gs → All (IsSetting rows) hs → All IsName names → BeginsWithDash word → flat_map words_of gs ++ word ∷ rest ≡ flat_map words_of hs ++ names → Next rows gs hs word rest names
next rows [] [] word rest [] gs_each hs_each named dash e = absurd (cc)
next rows [] [] word rest (name ∷ names) gs_each hs_each named dash e = let same : word ≡ name = cc in absurd (name-dash name (All-head IsName name names named) (subst BeginsWithDash same dash))
next rows [] (h ∷ hs) word rest names gs_each hs_each named dash e =
    let split : word ∷ rest ≡ words_of h ++ (flat_map words_of hs ++ names) = e ∙ append_assoc (words_of h) (flat_map words_of hs) names in
    record { setting = h; more = hs; whole = refl; name = (cc); left = (cc) }
next rows (g ∷ gs) [] word rest [] gs_each hs_each named dash e = absurd (cc)
next rows (g ∷ gs) [] word rest (name ∷ names) gs_each hs_each named dash e = let same : g.name ≡ name = cc in absurd (name-dash name (All-head IsName name names named) (subst BeginsWithDash same (All-head (IsSetting rows) g gs gs_each).dash))
next rows (g ∷ gs) (h ∷ hs) word rest names gs_each hs_each named dash e =
    let split : words_of g ++ (flat_map words_of gs ++ word ∷ rest) ≡ words_of h ++ (flat_map words_of hs ++ names) = sym (append_assoc (words_of g) (flat_map words_of gs) (word ∷ rest)) ∙ e ∙ append_assoc (words_of h) (flat_map words_of hs) names in
    let same = same_first rows g h (flat_map words_of gs ++ word ∷ rest) (flat_map words_of hs ++ names) (All-head (IsSetting rows) g gs gs_each) (All-head (IsSetting rows) h hs hs_each) split in
    let n = next rows gs hs word rest names (All-tail (IsSetting rows) g gs gs_each) (All-tail (IsSetting rows) h hs hs_each) named dash same.1 in
    record { setting = n.setting; more = n.more; whole = ap (λ (s : Setting). s ∷ hs) (sym same.0) ∙ ap (λ (ss : List Setting). g ∷ ss) n.whole; name = n.name; left = n.left }
