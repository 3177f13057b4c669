-- One step through the options: to the next option, or to a word that is not accepted.
use Rattle.std.proofs.Common.{◌≡◌, ◌≢◌, ℕ, zero, suc, ◌+◌, ◌<◌, inl, inr, true, false, List, [], ◌∷◌, ◌++◌, map, flat_map, length, take, Option, Some, None, option_map, slice_get, IsSomeAnd, IfSome, option_to_list, codes, ◌≤◌, arith, add-one, sym, subst, ap, ◌∙◌, not, refl, append_assoc, length-append, All, AllPairs, Contains, Bool, IsTrue, ◌↔◌, decimal, pos, string_bytes, String}
use Rattle.std.specs.List.{find, list_any}
use Rattle.std.specs.Str.{bytes_eq}
use Rattle.std.specs.declared.alloc.Global.{Global}
use Rattle.std.proofs.lemmas.Bool.{cases_Bool, leb-true, and_parts}
use Rattle.std.proofs.lemmas.List.{append-nil, take-map, length-map}
use Rattle.std.proofs.lemmas.Grind.{flat_map-append}
use Rattle.std.proofs.lemmas.List.Elements.{All-contains, Contains-append_right, Contains-append_cases}
use Rattle.std.proofs.lemmas.Option.{slice_get_within}
use Rattle.std.proofs.Math.Seq.{take-append_seam}
use Rattle.hex.specs.Hex.{decode_pairs}
use Rattle.aaf_format.specs.declared.aaf.AafFormat.TheVariants.{Int16}
use Rattle.option_words.specs.declared.option.Takes.{Takes}
use Rattle.option_words.specs.declared.option.Takes.TheVariants.{Number, Signed, Id, Kind, Format, Name, Silence, OutFormat, Nothing}
use Rattle.option_words.specs.declared.option.OptionRow.{OptionRow}
use Rattle.option_words.specs.Tables.{row_of, rows_of, is_sound, are_sound}
use Rattle.option_words.specs.state.Steps.{IsTail, AreOptionsTo, StopsOptions, IsTakenAt, LacksValue}
use Rattle.option_words.specs.Word.{texts, BeginsWithDash}
use Rattle.option_words.specs.Options.{Row, row_named, Setting, words_of, IsValue, IsTaken, stands_alone, IsSetting, AreSettings}
use Rattle.option_words.specs.Lines.{Stops}
use Rattle.option_words.proofs.Settings.{same-true, same-false, found-sound, setting-dashes, apart, push, next, fresh, taken}

pub at : (before rest : List (List ℕ)) (word : List ℕ) → slice_get (before ++ rest) (length before) ≡ Some word → (more : List (List ℕ)) × (rest ≡ word ∷ more)
at [] [] word e = absurd (cc)
at [] (r ∷ rest) word e = (rest, cc)
at (x ∷ before) rest word e = at before rest word e

pub following : (before : List (List ℕ)) (word : List ℕ) (more : List (List ℕ)) → slice_get (before ++ word ∷ more) (suc (length before)) ≡ slice_get more 0
following [] word more = refl
following (x ∷ before) word more = following before word more

-- the code's search for a name finds the row of that name
pub found : (rows : List OptionRow) (name : List ℕ) → row_named (rows_of rows) name ≡ option_map row_of (find (λ row. bytes_eq row.name.now name) rows)
found [] name = refl
found (r ∷ rows) name = elim (cases_Bool (bytes_eq r.name.now name)) [ inl here ↦ rw here refl | inr other ↦ rw other (found rows name) ]

only : (word name : List ℕ) → Contains (word ∷ []) name → word ≡ name
only word name (zero, lt, same) = same
only word name (suc k, lt, same) = absurd (omega (arith, lt))

pub absent : (words : List (String Global)) (name : List ℕ) → list_any (λ word. bytes_eq (string_bytes word) name) words ≡ false → Contains (map string_bytes words) name → ⊥
absent [] name e (k, lt, at_k) = absurd (omega (arith, lt))
absent (w ∷ words) name e within =
    elim (cases_Bool (bytes_eq (string_bytes w) name)) [
      | inl first_is ↦ absurd (let t : true ≡ false = rw first_is at e in cc)
      | inr other ↦ elim (Contains-append_cases (string_bytes w ∷ []) (map string_bytes words) name within) [
        | inl first ↦ same-false (string_bytes w) name other (only (string_bytes w) name first)
        | inr later ↦ absent words name (rw other at e) later
      ]
    ]

pub present : (words : List (String Global)) (name : List ℕ) → list_any (λ word. bytes_eq (string_bytes word) name) words ≡ true → Contains (map string_bytes words) name
present [] name e = absurd (cc)
present (w ∷ words) name e =
    elim (cases_Bool (bytes_eq (string_bytes w) name)) [
      | inl first_is ↦ (0, omega arith, same-true (string_bytes w) name first_is)
      | inr other ↦ Contains-append_right (string_bytes w ∷ []) (map string_bytes words) name (present words name (rw other at e))
    ]

-- the test finds `name` if and only if `words` contain it
pub contained : (words : List (String Global)) (name : List ℕ) (tells : Bool) → tells ≡ list_any (λ word. bytes_eq (string_bytes word) name) words → IsTrue tells ↔ Contains (texts words) name
contained words name true e = ((λ yes. present words name (sym e)), λ within. refl)
contained words name false e = ((λ yes. absurd (cc)), λ within. absurd (absent words name (sym e) within))

-- the test does not find `name` if and only if `name` is not one of `words`
pub not_contained : (words : List (String Global)) (name : List ℕ) (tells : Bool) → tells ≡ list_any (λ word. bytes_eq (string_bytes word) name) words → IsTrue (not tells) ↔ (Contains (texts words) name → ⊥)
not_contained words name true e = ((λ no. absurd (let f : false ≡ true = no in cc)), λ none. absurd (none (present words name (sym e))))
not_contained words name false e = ((λ yes. absent words name (sym e)), λ none. refl)

-- if `first` is not `name`, putting `first` before a list does not change whether the list contains `name`
pub after_first : (first name : List ℕ) (words : List (List ℕ)) → (first ≡ name → ⊥) → Contains words name ↔ Contains (first ∷ words) name
after_first first name words other = (
  (λ within. Contains-append_right (first ∷ []) words name within),
  λ within. elim (Contains-append_cases (first ∷ []) words name within) [ inl here ↦ absurd (other (only first name here)) | inr later ↦ later ],
)

-- the words before index `place` are the words of the options
pub words_before : (rows : List Row) (words : List (String Global)) (place : ℕ) (o : AreOptionsTo rows (texts words) place) → map string_bytes (take place words) ≡ flat_map words_of o.settings
words_before rows words place o = sym (take-map string_bytes place words) ∙ ap (take place) o.split ∙ (rw o.here (take-append_seam (flat_map words_of o.settings) o.rest))

pub here : (rows : List Row) (words : List (List ℕ)) (place : ℕ) (o : AreOptionsTo rows words place) (word : List ℕ) → slice_get words place ≡ Some word → (more : List (List ℕ)) × (o.rest ≡ word ∷ more)
here rows words place o word e = at (flat_map words_of o.settings) o.rest word (sym (ap (λ ws. slice_get ws (length (flat_map words_of o.settings))) o.split) ∙ sym (ap (slice_get words) o.here) ∙ e)

-- The option `setting` can follow the options `gs`. The name of `setting` is `word`, and no option of `gs` has this
-- name. If `setting` has a value, `after` begins with that value.
pub record Follows (rows : List Row) (gs : List Setting) (word : List ℕ) (after : List (List ℕ)) : Type 0 where
  pub setting : Setting
  pub tail : List (List ℕ)
  pub is : IsSetting rows setting
  pub new : All (λ s. s.name ≢ setting.name) gs
  pub name : word ≡ setting.name
  pub left : after ≡ option_to_list setting.value ++ tail

pub follows : (rows : List Row) (gs : List Setting) (word : List ℕ) (after : List (List ℕ)) → AreSettings rows gs → BeginsWithDash word → IsTail rows (flat_map words_of gs ++ word ∷ after) → Follows rows gs word after
follows rows gs word after options dash t =
    let n = next rows gs t.settings word after t.names options.each t.options.each t.named dash t.spelled in
    let each : All (IsSetting rows) (gs ++ n.setting ∷ n.more) = subst (All (IsSetting rows)) n.whole t.options.each in
    let once : AllPairs (λ s t. s.name ≢ t.name) (gs ++ n.setting ∷ n.more) = subst (AllPairs (λ s t. s.name ≢ t.name)) n.whole t.options.once in
    record {
      setting = n.setting;
      tail = flat_map words_of n.more ++ t.names;
      is = All-contains (IsSetting rows) (gs ++ n.setting ∷ n.more) n.setting each (Contains-append_right gs (n.setting ∷ n.more) n.setting (0, omega arith, refl));
      new = apart gs n.more n.setting once;
      name = n.name;
      left = n.left;
    }

-- if a word begins with a dash, and no option with this name can follow the options before the word, the word is not
-- accepted
pub stops_here : (rows : List Row) (words : List (List ℕ)) (place : ℕ) (o : AreOptionsTo rows words place) (word : List ℕ) → slice_get words place ≡ Some word → BeginsWithDash word → ((s : Setting) → IsSetting rows s → All (λ t. t.name ≢ s.name) o.settings → word ≡ s.name → ⊥) → StopsOptions rows words place
stops_here rows words place o word e dash none =
    let h = here rows words place o word e in
    record {
      before = flat_map words_of o.settings;
      rest = word ∷ h.0;
      split = o.split ∙ ap (λ ws. flat_map words_of o.settings ++ ws) h.1;
      here = o.here;
      begins = record { more = []; whole = record { settings = o.settings; spelled = append-nil (flat_map words_of o.settings); options = o.options } };
      stops = λ b. let f = follows rows o.settings word b.more o.options dash (subst (IsTail rows) (append_assoc (flat_map words_of o.settings) (word ∷ []) b.more) b.whole) in
          none f.setting f.is f.new f.name;
    }

-- a value that an option of this type takes, or no value if the option takes none
sample : (takes : Takes) → is_sound takes ≡ true → (value : Option (List ℕ)) × IsTaken takes value
unfolding decode_pairs
sample (Number low high) sound = (Some (decimal low), (low, record { least = omega arith; most = leb-true low high (and_parts _ _ sound).0; spelled = refl }))
sample (Signed most) sound = (Some (decimal 0), (pos 0, record { size = omega arith; spelled = refl }))
sample Id sound = (Some (codes "0000000000000000"), (0, record { fits = omega arith; digits = refl }))
sample Kind sound = (Some (codes "aaf"), inl refl)
sample Format sound = (Some (codes "int16"), (Int16, refl))
sample Name sound = (Some (codes "a"), λ e. absurd (omega (arith, e)))
sample Silence sound = (Some (codes "zero"), inl refl)
sample OutFormat sound = (Some (codes "aaf"), inr refl)
sample Nothing sound = (None, refl)

abbrev setting : List ℕ → Option (List ℕ) → Setting
setting name value = record { name = name; value = value }

is_setting : (rows : List Row) (name : List ℕ) (value : Option (List ℕ)) (row : Row) → BeginsWithDash name → row_named rows name ≡ Some row → IsTaken row.takes value → IsSetting rows (setting name value)
is_setting rows name value row dash e is =
    record { dash = dash; value = subst (λ o. IsSomeAnd o (λ row. IsTaken row.takes value)) (sym e) is }

words-push : (gs : List Setting) (s : Setting) → flat_map words_of (gs ++ s ∷ []) ≡ flat_map words_of gs ++ words_of s
words-push gs s = flat_map-append words_of gs (s ∷ []) ∙ ap (λ ws. flat_map words_of gs ++ ws) (append-nil (words_of s))

value_of : (rows : List Row) (name : List ℕ) (row : Row) (s : Setting) → row_named rows name ≡ Some row → name ≡ s.name → IsSetting rows s → IsTaken row.takes s.value
value_of rows name row s e same is =
    let found : row_named rows s.name ≡ Some row = ap (row_named rows) (sym same) ∙ e in
    subst (λ o. IsSomeAnd o (λ row. IsTaken row.takes s.value)) found is.value

-- if an option's name is not followed by a value that the option takes, the first wrong word is directly after the name
stops_after : (rows : List Row) (gs : List Setting) (word : List ℕ) (row : Row) (more : List (List ℕ)) → AreSettings rows gs → BeginsWithDash word → row_named rows word ≡ Some row → stands_alone row.takes ≡ false → IfSome (slice_get more 0) (λ value. IsValue row.takes value → ⊥) → Stops (IsTail rows) (flat_map words_of gs ++ word ∷ []) more
stops_after rows gs word row more options dash e wanted bad = go more bad where
  none_follows : (after : List (List ℕ)) → IfSome (slice_get after 0) (λ value. IsValue row.takes value → ⊥) → IsTail rows (flat_map words_of gs ++ word ∷ after) → ⊥
  none_follows after bad t = valued f.setting.value after (value_of rows word row f.setting e f.name f.is) f.left bad where
    f : Follows rows gs word after
    f = follows rows gs word after options dash t

    valued : (v : Option (List ℕ)) (after : List (List ℕ)) → IsTaken row.takes v → after ≡ option_to_list v ++ f.tail → IfSome (slice_get after 0) (λ value. IsValue row.takes value → ⊥) → ⊥
    valued None after taken left bad = absurd (let no : true ≡ false = sym taken ∙ wanted in cc)
    valued (Some value) [] taken left bad = absurd (cc)
    valued (Some value) (first ∷ after) taken left bad = let same : value ≡ first = cc in bad (subst (IsValue row.takes) same taken)

  go : (more : List (List ℕ)) → IfSome (slice_get more 0) (λ value. IsValue row.takes value → ⊥) → Stops (IsTail rows) (flat_map words_of gs ++ word ∷ []) more
  go [] bad = λ t. none_follows [] bad t
  go (value ∷ more) bad = λ b. none_follows (value ∷ b.more) bad (subst (IsTail rows) (append_assoc (flat_map words_of gs ++ word ∷ []) (value ∷ []) b.more ∙ append_assoc (flat_map words_of gs) (word ∷ []) (value ∷ b.more)) b.whole)

pub after_place : (rows : List Row) (words : List (List ℕ)) (place : ℕ) (o : AreOptionsTo rows words place) (word : List ℕ) (more : List (List ℕ)) → o.rest ≡ word ∷ more → slice_get words (place + 1) ≡ slice_get more 0
after_place rows words place o word more e =
    let place_is : place + 1 ≡ suc (length (flat_map words_of o.settings)) = rw add-one (ap suc o.here) in
    let words_are : words ≡ flat_map words_of o.settings ++ word ∷ more = o.split ∙ ap (λ ws. flat_map words_of o.settings ++ ws) e in
    rw (place_is, words_are) (following (flat_map words_of o.settings) word more)

pub stops_next : (rows : List Row) (words : List (List ℕ)) (place : ℕ) (o : AreOptionsTo rows words place) (word : List ℕ) (row : Row) → are_sound rows ≡ true → slice_get words place ≡ Some word → BeginsWithDash word → row_named rows word ≡ Some row → All (λ s. s.name ≢ word) o.settings → LacksValue row.takes words (place + 1) → StopsOptions rows words (place + 1)
stops_next rows words place o word row sound e dash is_row new lacks =
    let h = here rows words place o word e in
    let some = sample row.takes (found-sound rows word row sound is_row) in
    record {
      before = flat_map words_of o.settings ++ word ∷ [];
      rest = h.0;
      split = o.split ∙ ap (λ ws. flat_map words_of o.settings ++ ws) h.1 ∙ sym (append_assoc (flat_map words_of o.settings) (word ∷ []) h.0);
      here = omega (arith, o.here, length-append (flat_map words_of o.settings) (word ∷ []));
      begins = record { more = option_to_list some.0; whole = record { settings = o.settings ++ setting word some.0 ∷ []; spelled = append_assoc (flat_map words_of o.settings) (word ∷ []) (option_to_list some.0) ∙ sym (words-push o.settings (setting word some.0)); options = push rows o.settings (setting word some.0) o.options (is_setting rows word some.0 row dash is_row some.1) new } };
      stops = stops_after rows o.settings word row h.0 o.options dash is_row lacks.wanted (subst (λ v. IfSome v (λ value. IsValue row.takes value → ⊥)) (after_place rows words place o word h.0 h.1) lacks.none);
    }

left_after : (value : Option (List ℕ)) (more : List (List ℕ)) → IfSome value (λ word. slice_get more 0 ≡ Some word) → (rest : List (List ℕ)) × (more ≡ option_to_list value ++ rest)
left_after None more here = (more, refl)
left_after (Some word) [] here = absurd (cc)
left_after (Some word) (first ∷ more) here = (more, cc)

pub goes_on : (rows : List Row) (words : List (List ℕ)) (place len : ℕ) (o : AreOptionsTo rows words place) (word : List ℕ) (row : Row) → slice_get words place ≡ Some word → BeginsWithDash word → row_named rows word ≡ Some row → All (λ s. s.name ≢ word) o.settings → IsTakenAt row.takes words (place + 1) len → AreOptionsTo rows words (place + (1 + len))
goes_on rows words place len o word row e dash is_row new t =
    let h = here rows words place o word e in
    let s : Setting = setting word t.value in
    let l = left_after t.value h.0 (subst (λ found. IfSome t.value (λ word. found ≡ Some word)) (after_place rows words place o word h.0 h.1) t.here) in
    record {
      settings = o.settings ++ s ∷ [];
      rest = l.0;
      split = o.split ∙ ap (λ ws. flat_map words_of o.settings ++ ws) (h.1 ∙ ap (λ (ws : List (List ℕ)). word ∷ ws) l.1) ∙ sym (append_assoc (flat_map words_of o.settings) (words_of s) l.0) ∙ ap (λ ws. ws ++ l.0) (sym (words-push o.settings s));
      here = omega (arith, o.here, t.size, ap length (words-push o.settings s), length-append (flat_map words_of o.settings) (words_of s));
      options = push rows o.settings s o.options (is_setting rows word t.value row dash is_row t.taken) new;
    }

-- ---- the steps in terms of what the code has tested

-- an option that has no row in the table is not accepted
pub unknown : (rows : List OptionRow) (words : List (String Global)) (place : ℕ) (o : AreOptionsTo (rows_of rows) (texts words) place) (name : List ℕ) → slice_get (texts words) place ≡ Some name → BeginsWithDash name → find (λ row. bytes_eq row.name.now name) rows ≡ None → StopsOptions (rows_of rows) (texts words) place
unknown rows words place o name e dash none = stops_here (rows_of rows) (texts words) place o name e dash (λ s is new same.
    let no_row : row_named (rows_of rows) s.name ≡ None = ap (row_named (rows_of rows)) (sym same) ∙ found rows name ∙ ap (option_map row_of) none in
    subst (λ o. IsSomeAnd o (λ row. IsTaken row.takes s.value)) no_row is.value)

-- an option that is already among the words before index `place` is not accepted
pub repeated : (rows : List OptionRow) (words : List (String Global)) (place : ℕ) (o : AreOptionsTo (rows_of rows) (texts words) place) (name : List ℕ) → are_sound (rows_of rows) ≡ true → slice_get (texts words) place ≡ Some name → BeginsWithDash name → list_any (λ word. bytes_eq (string_bytes word) name) (take place words) ≡ true → StopsOptions (rows_of rows) (texts words) place
repeated rows words place o name sound e dash given = stops_here (rows_of rows) (texts words) place o name e dash (λ s is new same.
    let within : Contains (flat_map words_of o.settings) name = subst (λ ws. Contains ws name) (words_before (rows_of rows) words place o) (present (take place words) name given) in
    let within' : Contains (flat_map words_of o.settings) s.name = subst (Contains (flat_map words_of o.settings)) same within in
    taken (rows_of rows) o.settings s.name sound o.options.each new (setting-dashes (rows_of rows) s sound is) within')

-- if a name is not among the words before index `place`, no option before that index has this name
pub first : (rows : List OptionRow) (words : List (String Global)) (place : ℕ) (o : AreOptionsTo (rows_of rows) (texts words) place) (name : List ℕ) → list_any (λ word. bytes_eq (string_bytes word) name) (take place words) ≡ false → All (λ s. s.name ≢ name) o.settings
first rows words place o name not_given = fresh o.settings name (λ within. absent (take place words) name not_given (subst (λ ws. Contains ws name) (sym (words_before (rows_of rows) words place o)) within))

pub row_is : (rows : List OptionRow) (name : List ℕ) (row : OptionRow) → find (λ row. bytes_eq row.name.now name) rows ≡ Some row → row_named (rows_of rows) name ≡ Some (row_of row)
row_is rows name row e = found rows name ∙ ap (option_map row_of) e

pub stands : (words : List (String Global)) (place : ℕ) (word : List ℕ) → slice_get (texts words) place ≡ Some word → place < length words
stands words place word e = omega (arith, slice_get_within (texts words) place word e, length-map {A = String Global} {B = List ℕ} words string_bytes)

-- neither an option nor its value extends past the last word
pub within : (takes : Takes) (words : List (String Global)) (place len : ℕ) → place < length words → IsTakenAt takes (texts words) (place + 1) len → place + (1 + len) ≤ length words
within takes words place len lt t = go t.value t.size t.here where
  go : (value : Option (List ℕ)) → len ≡ length (option_to_list value) → IfSome value (λ word. slice_get (texts words) (place + 1) ≡ Some word) → place + (1 + len) ≤ length words
  go None size here = omega (arith, lt, size)
  go (Some word) size here = omega (arith, size, slice_get_within (texts words) (place + 1) word here, length-map {A = String Global} {B = List ℕ} words string_bytes)
