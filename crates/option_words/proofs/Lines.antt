-- The words after a command, and the first wrong word.
use Rattle.std.proofs.Common.{◌≡◌, ℕ, suc, ◌+◌, ◌-◌, ◌≤◌, inl, inr, true, false, List, [], ◌∷◌, ◌++◌, flat_map, length, take, drop, Option, Some, None, slice_get, IsSomeAnd, IfSome, option_to_list, arith, sym, subst, ap, ◌∙◌, refl, append_assoc, length-append, All, string_bytes, String}
use Rattle.std.specs.Str.{bytes_eq}
use Rattle.std.specs.declared.alloc.Global.{Global}
use Rattle.std.proofs.lemmas.Bool.{cases_Bool}
use Rattle.std.proofs.lemmas.List.{length-map, length-drop, drop-map, take_all}
use Rattle.std.proofs.lemmas.List.Elements.{All-head, All-tail}
use Rattle.option_words.specs.declared.operand.Operand.{Operand}
use Rattle.option_words.specs.declared.option.Takes.TheVariants as takes
use Rattle.option_words.specs.Operands.{AreOperands}
use Rattle.option_words.specs.Tables.{are_sound, begins_with_dashes}
use Rattle.option_words.specs.Values.{value_after}
use Rattle.option_words.specs.state.Steps.{IsTail, AreOptionsTo, EndsOptions, StopsOptions}
use Rattle.option_words.specs.Lines.{IsRest, IsRestTo, Stops, StopsAt}
use Rattle.option_words.specs.Word.{texts, BeginsWithDash, IsName}
use Rattle.option_words.specs.Options.{Row, row_named, Setting, words_of, IsValue, IsTaken, stands_alone, IsSetting, value_in}
use Rattle.option_words.proofs.Settings.{name-dash, same-true, found-dashes, setting-value, same_first}
use Rattle.option_words.proofs.Operands.{names, samples, sampled}

pub value_is : (rows : List Row) (name : List ℕ) (row : Row) (gs : List Setting) → row_named rows name ≡ Some row → All (IsSetting rows) gs → IfSome (value_in name gs) (IsValue row.takes)
value_is rows name row [] is_row each = tt
value_is rows name row (g ∷ gs) is_row each =
    elim (cases_Bool (bytes_eq g.name name)) [
      | inl same ↦ (
          let takes : row_named rows g.name ≡ Some row = ap (row_named rows) (same-true g.name name same) ∙ is_row in
          rw same (valued g.value (subst (λ found. IsSomeAnd found (λ row. IsTaken row.takes g.value)) takes (All-head (IsSetting rows) g gs each).value)))
      | inr other ↦ rw other (value_is rows name row gs is_row (All-tail (IsSetting rows) g gs each))
    ] where
      valued : (value : Option (List ℕ)) → IsTaken row.takes value → IfSome value (IsValue row.takes)
      valued None taken = tt
      valued (Some word) taken = taken

-- if the option `name` takes a value, the word after `name` is the option's value
pub value-after : (rows : List Row) (gs : List Setting) (name : List ℕ) (row : Row) → are_sound rows ≡ true → All (IsSetting rows) gs → row_named rows name ≡ Some row → stands_alone row.takes ≡ false → value_after name (flat_map words_of gs) ≡ value_in name gs
value-after rows [] name row sound each is_row wanted = refl
value-after rows (g ∷ gs) name row sound each is_row wanted =
    elim (cases_Bool (bytes_eq g.name name)) [
      | inl same ↦ (
          let takes : row_named rows g.name ≡ Some row = ap (row_named rows) (same-true g.name name same) ∙ is_row in
          rw same (valued g.value (subst (λ found. IsSomeAnd found (λ row. IsTaken row.takes g.value)) takes (All-head (IsSetting rows) g gs each).value)))
      | inr other ↦ rw other (skipped g.value refl (value-after rows gs name row sound (All-tail (IsSetting rows) g gs each) is_row wanted))
    ] where
      valued : (value : Option (List ℕ)) → IsTaken row.takes value → slice_get (option_to_list value ++ flat_map words_of gs) 0 ≡ value
      valued None taken = absurd (let no : true ≡ false = sym taken ∙ wanted in cc)
      valued (Some word) taken = refl

      skipped : (value : Option (List ℕ)) → g.value ≡ value → value_after name (flat_map words_of gs) ≡ value_in name gs → value_after name (option_to_list value ++ flat_map words_of gs) ≡ value_in name gs
      skipped None e later = later
      skipped (Some word) e later = elim (cases_Bool (bytes_eq word name)) [
        | inl same ↦ absurd (setting-value rows g word sound (All-head (IsSetting rows) g gs each) e (subst (λ (n : List ℕ). begins_with_dashes n ≡ true) (sym (same-true word name same)) (found-dashes rows name row sound is_row)))
        | inr different ↦ rw different later
      ]

-- If `rest` does not begin with an option, words split into options and `rest` in only one way.
pub same_settings : (rows : List Row) (gs hs : List Setting) (rest names : List (List ℕ)) → All (IsSetting rows) gs → All (IsSetting rows) hs → All IsName names → IfSome (slice_get rest 0) (λ word. BeginsWithDash word → ⊥) → flat_map words_of gs ++ rest ≡ flat_map words_of hs ++ names → (gs ≡ hs) × (rest ≡ names)
same_settings rows [] [] rest names gs_each hs_each named ends e = (refl, e)
same_settings rows [] (h ∷ hs) [] names gs_each hs_each named ends e = absurd (cc)
same_settings rows [] (h ∷ hs) (word ∷ rest) names gs_each hs_each named ends e = let same : h.name ≡ word = cc in absurd (ends (subst BeginsWithDash same (All-head (IsSetting rows) h hs hs_each).dash))
same_settings rows (g ∷ gs) [] rest [] gs_each hs_each named ends e = absurd (cc)
same_settings rows (g ∷ gs) [] rest (name ∷ names) gs_each hs_each named ends e = let same : g.name ≡ name = cc in absurd (name-dash name (All-head IsName name names named) (subst BeginsWithDash same (All-head (IsSetting rows) g gs gs_each).dash))
same_settings rows (g ∷ gs) (h ∷ hs) rest names gs_each hs_each named ends e =
    let split : words_of g ++ (flat_map words_of gs ++ rest) ≡ words_of h ++ (flat_map words_of hs ++ names) = sym (append_assoc (words_of g) (flat_map words_of gs) rest) ∙ e ∙ append_assoc (words_of h) (flat_map words_of hs) names in
    let same = same_first rows g h (flat_map words_of gs ++ rest) (flat_map words_of hs ++ names) (All-head (IsSetting rows) g gs gs_each) (All-head (IsSetting rows) h hs hs_each) split in
    let more = same_settings rows gs hs rest names (All-tail (IsSetting rows) g gs gs_each) (All-tail (IsSetting rows) h hs hs_each) named ends same.1 in
    (ap (λ (s : Setting). s ∷ gs) same.0 ∙ ap (λ (ss : List Setting). h ∷ ss) more.0, more.1)

pub beyond : (before rest : List (List ℕ)) (k : ℕ) → slice_get (before ++ rest) (length before + k) ≡ slice_get rest k
beyond [] rest k = let none : length {A = List ℕ} [] + k ≡ k = omega arith in ap (slice_get rest) none
beyond (x ∷ before) rest k = let more : length (x ∷ before) + k ≡ suc (length before + k) = omega arith in ap (slice_get (x ∷ before ++ rest)) more ∙ beyond before rest k

start : (before rest : List (List ℕ)) → slice_get (before ++ rest) (length before) ≡ slice_get rest 0
start [] rest = refl
start (x ∷ before) rest = start before rest

-- ---- options, then operands

pub first_operand : (operands : List Operand) (ns : List (List ℕ)) → AreOperands operands ns → IfSome (slice_get ns 0) (λ word. BeginsWithDash word → ⊥)
first_operand operands [] are = tt
first_operand operands (n ∷ ns) are = λ dash. name-dash n (All-head IsName n ns (names operands (n ∷ ns) are)) dash

-- the first wrong word among the options is also the first wrong word of all words after the command
pub stops_of_options : (rows : List Row) (operands : List Operand) (words : List (List ℕ)) (place : ℕ) → StopsOptions rows words place → StopsAt (IsRest rows operands) words place
stops_of_options rows operands words place s = record {
  before = s.before;
  rest = s.rest;
  split = s.split;
  here = s.here;
  begins = record {
    more = s.begins.more ++ samples operands;
    whole = record {
      settings = s.begins.whole.settings;
      names = samples operands;
      spelled = sym (append_assoc s.before s.begins.more (samples operands)) ∙ ap (λ ws. ws ++ samples operands) s.begins.whole.spelled;
      options = s.begins.whole.options;
      named = sampled operands;
    };
  };
  stops = go s.rest s.stops;
} where
  tail : (ws : List (List ℕ)) → IsRest rows operands ws → IsTail rows ws
  tail ws r = record { settings = r.settings; names = r.names; spelled = r.spelled; options = r.options; named = names operands r.names r.named }

  go : (rest : List (List ℕ)) → Stops (IsTail rows) s.before rest → Stops (IsRest rows operands) s.before rest
  go [] never = λ line. never (tail s.before line)
  go (word ∷ rest) never = λ b. never (record { more = b.more; whole = tail ((s.before ++ word ∷ []) ++ b.more) b.whole })

at_end : (rows : List Row) (words : List (List ℕ)) (place : ℕ) (o : AreOptionsTo rows words place) → slice_get words place ≡ slice_get o.rest 0
at_end rows words place o = ap (slice_get words) o.here ∙ ap (λ ws. slice_get ws (length (flat_map words_of o.settings))) o.split ∙ start (flat_map words_of o.settings) o.rest

drop_before : (before rest : List (List ℕ)) → drop (length before) (before ++ rest) ≡ rest
drop_before [] rest = refl
drop_before (x ∷ before) rest = drop_before before rest

pub left_is : (rows : List Row) (words : List (List ℕ)) (place : ℕ) (o : AreOptionsTo rows words place) → drop place words ≡ o.rest
left_is rows words place o = ap (λ n. drop n words) o.here ∙ ap (drop (length (flat_map words_of o.settings))) o.split ∙ drop_before (flat_map words_of o.settings) o.rest

first_of : (before more : List (List ℕ)) (word : List ℕ) (rest other : List (List ℕ)) → slice_get (before ++ word ∷ rest) 0 ≡ slice_get (before ++ word ∷ other) 0
first_of [] more word rest other = refl
first_of (x ∷ before) more word rest other = refl

first_of_all : (before rest : List (List ℕ)) (P : List ℕ → Type 0) → IfSome (slice_get (before ++ rest) 0) P → IfSome (slice_get before 0) P
first_of_all [] rest P has = tt
first_of_all (x ∷ before) rest P has = has

-- the first wrong word among the operands is also the first wrong word of all words after the command
pub stops_of_operands : (rows : List Row) (operands : List Operand) (words : List (List ℕ)) (place wrong : ℕ) → EndsOptions rows words place → StopsAt (AreOperands operands) (drop place words) wrong → StopsAt (IsRest rows operands) words (place + wrong)
stops_of_operands rows operands words place wrong e s = record {
  before = flat_map words_of o.settings ++ s.before;
  rest = s.rest;
  split = o.split ∙ ap (λ ws. flat_map words_of o.settings ++ ws) is ∙ sym (append_assoc (flat_map words_of o.settings) s.before s.rest);
  here = omega (arith, o.here, s.here, length-append (flat_map words_of o.settings) s.before);
  begins = record { more = s.begins.more; whole = record { settings = o.settings; names = s.before ++ s.begins.more; spelled = append_assoc (flat_map words_of o.settings) s.before s.begins.more; options = o.options; named = s.begins.whole } };
  stops = go s.rest s.stops none;
} where
  o : AreOptionsTo rows words place
  o = e.options

  is : o.rest ≡ s.before ++ s.rest
  is = sym (left_is rows words place o) ∙ s.split

  none : IfSome (slice_get (s.before ++ s.rest) 0) (λ word. BeginsWithDash word → ⊥)
  none = subst (λ ws. IfSome (slice_get ws 0) (λ word. BeginsWithDash word → ⊥)) is (subst (λ word. IfSome word (λ word. BeginsWithDash word → ⊥)) (at_end rows words place o) e.ends)

  operands_are : (rest : List (List ℕ)) → IfSome (slice_get rest 0) (λ word. BeginsWithDash word → ⊥) → IsRest rows operands (flat_map words_of o.settings ++ rest) → AreOperands operands rest
  operands_are rest ends r =
      let same = (same_settings rows o.settings r.settings rest r.names o.options.each r.options.each (names operands r.names r.named) ends r.spelled).1 in
      subst (AreOperands operands) (sym same) r.named

  go : (rest : List (List ℕ)) → Stops (AreOperands operands) s.before rest → IfSome (slice_get (s.before ++ rest) 0) (λ word. BeginsWithDash word → ⊥) → Stops (IsRest rows operands) (flat_map words_of o.settings ++ s.before) rest
  go [] never ends = λ r. never (operands_are s.before (first_of_all s.before [] (λ word. BeginsWithDash word → ⊥) ends) r)
  go (word ∷ rest) never ends = λ b. never (record {
    more = b.more;
    whole = subst (AreOperands operands) (sym (append_assoc s.before (word ∷ []) b.more)) (operands_are (s.before ++ word ∷ b.more)
        (subst (λ first. IfSome first (λ word. BeginsWithDash word → ⊥)) (first_of s.before [] word rest b.more) ends)
        (subst (IsRest rows operands) (append_assoc (flat_map words_of o.settings ++ s.before) (word ∷ []) b.more ∙ append_assoc (flat_map words_of o.settings) s.before (word ∷ b.more)) b.whole));
  })

pub rest_to : (rows : List Row) (operands : List Operand) (words : List (List ℕ)) (place : ℕ) → EndsOptions rows words place → AreOperands operands (drop place words) → IsRestTo rows operands words place
rest_to rows operands words place e are = record {
  rest = record { settings = e.options.settings; names = e.options.rest; spelled = e.options.split; options = e.options.options; named = subst (AreOperands operands) (left_is rows words place e.options) are };
  here = e.options.here;
}

abbrev pub options_to : (rows : List Row) (operands : List Operand) (words : List (List ℕ)) (place : ℕ) → IsRestTo rows operands words place → AreOptionsTo rows words place
options_to rows operands words place r = record { settings = r.rest.settings; rest = r.rest.names; split = r.rest.spelled; here = r.here; options = r.rest.options }

pub words_after : (words : List (String Global)) (place : ℕ) → texts (take (length words - place) (drop place words)) ≡ drop place (texts words)
words_after words place = ap texts (take_all (length words - place) (drop place words) (omega (arith, length-drop place words))) ∙ sym (drop-map {X = String Global} {Y = List ℕ} string_bytes place words)

pub rest_within : (rows : List Row) (operands : List Operand) (words : List (String Global)) (place : ℕ) → IsRestTo rows operands (texts words) place → place ≤ length words
rest_within rows operands words place r = omega (arith, r.here, ap length r.rest.spelled, length-append (flat_map words_of r.rest.settings) r.rest.names, length-map {A = String Global} {B = List ℕ} words string_bytes)
