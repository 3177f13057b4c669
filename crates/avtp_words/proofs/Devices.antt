-- The files that the words of a `listen` command line ask to write.
use Rattle.std.proofs.Common.{◌≡◌, ◌≢◌, ℕ, zero, suc, ◌+◌, inl, inr, true, false, List, [], ◌∷◌, ◌++◌, flat_map, get_or, Option, Some, None, slice_get, IfSome, codes, arith, sym, subst, ap, ◌∙◌, refl, All, AllPairs, Contains, Bool, option_to_list, string_bytes, String}
use Rattle.std.specs.List.{position, position_from}
use Rattle.std.specs.Str.{bytes_eq}
use Rattle.std.specs.declared.alloc.Global.{Global}
use Rattle.std.proofs.lemmas.Bool.{cases_Bool}
use Rattle.std.proofs.lemmas.List.Elements.{All-contains, All-head, All-tail, Contains-append_cases}
use Rattle.std.proofs.lemmas.Iterator.Adapters.{position_from-zero}
use Rattle.std.proofs.lemmas.Option.{get_or_from_slice_get, slice_get_within}
use Rattle.avtp_words.specs.declared.device.Silence.{Silence}
use Rattle.avtp_words.specs.declared.device.Silence.TheVariants.{Zero, Am824}
use Rattle.avtp_words.specs.Given.{IsGivenSilence}
use Rattle.avtp_words.specs.Grammar.{IsGivenFile, IsGivenRaw, IsOf, NamedFile, NamedRaw, NamesFile, listen_form}
use Rattle.option_words.specs.Options.{IsSetting, Row, Setting, words_of}
use Rattle.option_words.specs.Tables.{are_sound, begins_with_dashes}
use Rattle.option_words.specs.Values.{value_after}
use Rattle.option_words.specs.Word.{IsName, texts}
use Rattle.option_words.proofs.Numbers.{one_dash}
use Rattle.option_words.proofs.Operands.{names}
use Rattle.option_words.proofs.Settings.{name-dash, same-true, setting-value, taken}

-- ---- an option's name is at only one index

contains_at : (ws : List (List ℕ)) (k : ℕ) (word : List ℕ) → slice_get ws k ≡ Some word → Contains ws word
contains_at ws k word e = (k, slice_get_within ws k word e, get_or_from_slice_get ws k word word e)

-- If `name` begins with two dashes and no option has this name, no word of the options and operands is `name`.
not_there : (rows : List Row) (gs : List Setting) (ns : List (List ℕ)) (name : List ℕ) → are_sound rows ≡ true → All (IsSetting rows) gs → All (λ s. s.name ≢ name) gs → All IsName ns → begins_with_dashes name ≡ true → Contains (flat_map words_of gs ++ ns) name → ⊥
not_there rows gs ns name sound each apart named dashes within = elim (Contains-append_cases (flat_map words_of gs) ns name within) [
  | inl option ↦ taken rows gs name sound each apart dashes option
  | inr operand ↦ name-dash name (All-contains IsName ns name named operand) (one_dash name dashes)
]

later_once : (g : Setting) (gs : List Setting) → AllPairs (λ s t. s.name ≢ t.name) (g ∷ gs) → AllPairs (λ s t. s.name ≢ t.name) gs
later_once g gs once i j d below inside = once (suc i) (suc j) d (omega arith) (omega arith)

later_apart : (g : Setting) (gs : List Setting) (name : List ℕ) → AllPairs (λ s t. s.name ≢ t.name) (g ∷ gs) → g.name ≡ name → All (λ s. s.name ≢ name) gs
later_apart g gs name once is k d lt = λ same. once 0 (suc k) d (omega arith) (omega (arith, lt)) (is ∙ sym same)

one_place : (rows : List Row) (gs : List Setting) (ns : List (List ℕ)) (name : List ℕ) (p q : ℕ) → are_sound rows ≡ true → All (IsSetting rows) gs → AllPairs (λ s t. s.name ≢ t.name) gs → All IsName ns → begins_with_dashes name ≡ true
    → slice_get (flat_map words_of gs ++ ns) p ≡ Some name → slice_get (flat_map words_of gs ++ ns) q ≡ Some name → p ≡ q
one_place rows [] ns name p q sound each once named dashes first second = absurd (name-dash name (All-contains IsName ns name named (contains_at ns p name first)) (one_dash name dashes))
one_place rows (g ∷ gs) ns name p q sound each once named dashes first second =
    go p q first second (λ m n. one_place rows gs ns name m n sound (All-tail (IsSetting rows) g gs each) (later_once g gs once) named dashes) where
      -- if `name` is the name of the option `g`, no later word is `name`
      past : (v : Option (List ℕ)) (n : ℕ) → g.value ≡ v → g.name ≡ name → slice_get ((option_to_list v ++ flat_map words_of gs) ++ ns) n ≡ Some name → ⊥
      past None n e is there = not_there rows gs ns name sound (All-tail (IsSetting rows) g gs each) (later_apart g gs name once is) named dashes (contains_at (flat_map words_of gs ++ ns) n name there)
      past (Some word) zero e is there = setting-value rows g word sound (All-head (IsSetting rows) g gs each) e (let same : word ≡ name = cc in rw same dashes)
      past (Some word) (suc n) e is there = not_there rows gs ns name sound (All-tail (IsSetting rows) g gs each) (later_apart g gs name once is) named dashes (contains_at (flat_map words_of gs ++ ns) n name there)

      both : (v : Option (List ℕ)) (m n : ℕ) → g.value ≡ v → slice_get ((option_to_list v ++ flat_map words_of gs) ++ ns) m ≡ Some name → slice_get ((option_to_list v ++ flat_map words_of gs) ++ ns) n ≡ Some name
          → ((m n : ℕ) → slice_get (flat_map words_of gs ++ ns) m ≡ Some name → slice_get (flat_map words_of gs ++ ns) n ≡ Some name → m ≡ n) → m ≡ n
      both None m n e first second later = later m n first second
      both (Some word) zero n e first second later = absurd (setting-value rows g word sound (All-head (IsSetting rows) g gs each) e (let same : word ≡ name = cc in rw same dashes))
      both (Some word) (suc m) zero e first second later = absurd (setting-value rows g word sound (All-head (IsSetting rows) g gs each) e (let same : word ≡ name = cc in rw same dashes))
      both (Some word) (suc m) (suc n) e first second later = ap suc (later m n first second)

      go : (p q : ℕ) → slice_get (flat_map words_of (g ∷ gs) ++ ns) p ≡ Some name → slice_get (flat_map words_of (g ∷ gs) ++ ns) q ≡ Some name
          → ((m n : ℕ) → slice_get (flat_map words_of gs ++ ns) m ≡ Some name → slice_get (flat_map words_of gs ++ ns) n ≡ Some name → m ≡ n) → p ≡ q
      go zero zero first second later = refl
      go zero (suc q) first second later = let is : g.name ≡ name = cc in absurd (past g.value q refl is second)
      go (suc p) zero first second later = let is : g.name ≡ name = cc in absurd (past g.value p refl is first)
      go (suc p) (suc q) first second later = ap suc (both g.value p q refl first second later)

-- ---- words ask for only one file

no_dashes : false ≡ true → ⊥
no_dashes e = absurd cc

after_listen : (words : List (List ℕ)) (gs : List Setting) (ns : List (List ℕ)) (name : List ℕ) (p q : ℕ) → IsOf listen_form words gs ns → begins_with_dashes name ≡ true → slice_get words p ≡ Some name → slice_get words q ≡ Some name → p ≡ q
after_listen words gs ns name p q line dashes first second =
    go p q (subst (λ ws. slice_get ws p ≡ Some name) line.spelled first) (subst (λ ws. slice_get ws q ≡ Some name) line.spelled second) where
      other : Some (codes "listen") ≡ Some name → ⊥
      other e = let same : codes "listen" ≡ name = cc in no_dashes (subst (λ n. begins_with_dashes n ≡ true) (sym same) dashes)

      go : (p q : ℕ) → slice_get (codes "listen" ∷ (flat_map words_of gs ++ ns)) p ≡ Some name → slice_get (codes "listen" ∷ (flat_map words_of gs ++ ns)) q ≡ Some name → p ≡ q
      go zero q first second = absurd (other first)
      go (suc p) zero first second = absurd (other second)
      go (suc p) (suc q) first second = ap suc (one_place listen_form.rows gs ns name p q refl line.options.each line.options.once (names listen_form.operands ns line.operands) dashes first second)

same_named : (words : List (List ℕ)) (gs : List Setting) (ns : List (List ℕ)) (name : List ℕ) (a b : NamedFile) → IsOf listen_form words gs ns → begins_with_dashes name ≡ true → NamesFile words gs name a → NamesFile words gs name b → a ≡ b
same_named words gs ns name a b line dashes p q =
    let values : Some a.name ≡ Some b.name = sym p.value ∙ q.value in
    let befores : p.before ≡ q.before = after_listen words gs ns name p.before q.before line dashes p.option_at q.option_at in
    same (cc) (omega (arith, p.place, q.place, befores)) where
      same : a.name ≡ b.name → a.place ≡ b.place → a ≡ b
      same names places = rw (names, places) refl

pub same_file : (words : List (List ℕ)) (gs : List Setting) (ns : List (List ℕ)) (name : List ℕ) (a b : Option NamedFile) → IsOf listen_form words gs ns → begins_with_dashes name ≡ true → IsGivenFile words gs name a → IsGivenFile words gs name b → a ≡ b
same_file words gs ns name None None line dashes p q = refl
same_file words gs ns name None (Some b) line dashes p q = absurd (let both : None ≡ Some b.name = sym p ∙ q.value in cc)
same_file words gs ns name (Some a) None line dashes p q = absurd (let both : None ≡ Some a.name = sym q ∙ p.value in cc)
same_file words gs ns name (Some a) (Some b) line dashes p q = ap Some (same_named words gs ns name a b line dashes p q)

zero_am824 : codes "am824" ≡ codes "zero" → ⊥
zero_am824 e = let first = ap (λ (word : List ℕ). get_or word 0 0) e in absurd (omega (arith, first))

same_silence : (gs : List Setting) (a b : Silence) → IsGivenSilence gs a → IsGivenSilence gs b → a ≡ b
same_silence gs Zero Zero p q = refl
same_silence gs Zero Am824 p q = absurd (zero_am824 (subst (λ v. IfSome v (λ word. word ≡ codes "zero")) q p))
same_silence gs Am824 Zero p q = absurd (zero_am824 (subst (λ v. IfSome v (λ word. word ≡ codes "zero")) p q))
same_silence gs Am824 Am824 p q = refl

pub same_raw : (words : List (List ℕ)) (gs : List Setting) (ns : List (List ℕ)) (a b : Option NamedRaw) → IsOf listen_form words gs ns → IsGivenRaw words gs a → IsGivenRaw words gs b → a ≡ b
same_raw words gs ns None None line p q = refl
same_raw words gs ns None (Some b) line p q = absurd (let both : None ≡ Some b.file.name = sym p ∙ q.file.value in cc)
same_raw words gs ns (Some a) None line p q = absurd (let both : None ≡ Some a.file.name = sym q ∙ p.file.value in cc)
same_raw words gs ns (Some a) (Some b) line p q = same (same_named words gs ns (codes "--raw") a.file b.file line refl p.file q.file) (same_silence gs a.silence b.silence p.silence q.silence) where
  same : a.file ≡ b.file → a.silence ≡ b.silence → Some a ≡ Some b
  same files silences = rw (files, silences) refl

-- ---- the name of a file is read

abbrev is_named : List ℕ → String Global → Bool
is_named name word = bytes_eq (string_bytes word) name

none_from : (words : List (String Global)) (name : List ℕ) (i : ℕ) → position_from (is_named name) i words ≡ None → value_after name (texts words) ≡ None
none_from [] name i e = refl
none_from (w ∷ ws) name i e = elim (cases_Bool (bytes_eq (string_bytes w) name)) [
  | inl same ↦ absurd (let no : Some i ≡ None = rw same at e in cc)
  | inr other ↦ rw other (none_from ws name (i + 1) (rw other at e))
]

pub not_named : (words : List (String Global)) (name : List ℕ) → position (is_named name) words ≡ None → value_after name (texts words) ≡ None
not_named words name e = none_from words name 0 (sym (position_from-zero (is_named name) words) ∙ e)

-- The first `name` in `words` is at index `far`, and `place` is `i + far`. `value_after` returns the word at index `far
-- + 1`.
record FirstNamed (words : List (List ℕ)) (name : List ℕ) (i place : ℕ) : Type 0 where
  far : ℕ
  here : place ≡ i + far
  name_at : slice_get words far ≡ Some name
  value : value_after name words ≡ slice_get words (suc far)

first_from : (words : List (String Global)) (name : List ℕ) (i place : ℕ) → position_from (is_named name) i words ≡ Some place → FirstNamed (texts words) name i place
first_from [] name i place e = absurd (cc)
first_from (w ∷ ws) name i place e = elim (cases_Bool (bytes_eq (string_bytes w) name)) [
  | inl same ↦ (let found : Some i ≡ Some place = rw same at e in record {
    far = 0;
    here = (let is : i ≡ place = cc in omega arith);
    name_at = ap (λ (n : List ℕ). Some n) (same-true (string_bytes w) name same);
    value = rw same refl;
  })
  | inr other ↦ (let more = first_from ws name (i + 1) place (rw other at e) in record {
    far = suc more.far;
    here = omega (arith, more.here);
    name_at = more.name_at;
    value = rw other more.value;
  })
]

-- the word at index `place` is `name`, and the code reads the word at index `place + 1`
pub named_at : (words : List (String Global)) (name : List ℕ) (place : ℕ) → position (is_named name) words ≡ Some place → (slice_get (texts words) place ≡ Some name) × (value_after name (texts words) ≡ slice_get (texts words) (place + 1))
named_at words name place e =
    let f = first_from words name 0 place (sym (position_from-zero (is_named name) words) ∙ e) in (
      ap (slice_get (texts words)) {x = place} {y = f.far} (omega (arith, f.here)) ∙ f.name_at,
      f.value ∙ ap (slice_get (texts words)) {x = suc f.far} {y = place + 1} (omega (arith, f.here)),
    )
