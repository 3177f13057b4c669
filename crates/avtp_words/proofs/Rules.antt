-- Rules over several words: options that are absent, and options that need another option.
use Rattle.std.proofs.Common.{◌≡◌, Bool, true, false, not, List, [], ◌∷◌, Contains, IsTrue, ◌↔◌, inl, inr, ℕ, String, string_bytes, refl, sym, ◌∙◌}
use Rattle.std.specs.List.{list_any}
use Rattle.std.specs.Str.{bytes_eq}
use Rattle.std.specs.declared.alloc.Global.{Global}
use Rattle.std.proofs.lemmas.Bool.{cases_Bool}
use Rattle.std.proofs.lemmas.List.Elements.{All-nil, All-cons, All-head, All-tail}
use Rattle.option_words.specs.declared.option.OptionRow.{OptionRow}
use Rattle.avtp_words.specs.Grammar.{Lacks, Need}
use Rattle.avtp_words.specs.state.Reading.{names_of}
use Rattle.option_words.specs.Word.{texts}
use Rattle.option_words.proofs.Steps.{absent, present}

-- whether the name of an option is among the words
abbrev has : List (String Global) → OptionRow → Bool
has words row = list_any (λ word. bytes_eq (string_bytes word) row.name.now) words

none_has : (words : List (String Global)) (options : List OptionRow) → list_any (has words) options ≡ false → Lacks (texts words) (names_of options)
none_has words [] e = All-nil (λ option. Contains (texts words) option → ⊥)
none_has words (row ∷ options) e = elim (cases_Bool (has words row)) [
  | inl here ↦ absurd (let no : true ≡ false = rw here at e in cc)
  | inr other ↦ All-cons (λ option. Contains (texts words) option → ⊥) row.name.now (names_of options) (absent words row.name.now other) (none_has words options (rw other at e))
]

all_lack : (words : List (String Global)) (options : List OptionRow) → Lacks (texts words) (names_of options) → list_any (has words) options ≡ false
all_lack words [] none = refl
all_lack words (row ∷ options) none = elim (cases_Bool (has words row)) [
  | inl here ↦ absurd (All-head (λ option. Contains (texts words) option → ⊥) row.name.now (names_of options) none (present words row.name.now here))
  | inr other ↦ rw other (all_lack words options (All-tail (λ option. Contains (texts words) option → ⊥) row.name.now (names_of options) none))
]

-- the test finds none of `options` if and only if `words` lack all of them
pub lack : (words : List (String Global)) (options : List OptionRow) (one : Bool) → one ≡ list_any (has words) options → IsTrue (not one) ↔ Lacks (texts words) (names_of options)
lack words options true e = ((λ no. absurd (let f : false ≡ true = no in cc)), λ none. absurd (let f : true ≡ false = e ∙ all_lack words options none in cc))
lack words options false e = ((λ yes. none_has words options (sym e)), λ none. refl)

pub needed_there : (words : List (List ℕ)) (needed : List ℕ) (options : List (List ℕ)) → Contains words needed → Need words needed options
needed_there words needed [] there = All-nil (λ option. Contains words option → Contains words needed)
needed_there words needed (option ∷ options) there = All-cons (λ option. Contains words option → Contains words needed) option options (λ given. there) (needed_there words needed options there)

pub none_needs : (words : List (List ℕ)) (needed : List ℕ) (options : List (List ℕ)) → Lacks words options → Need words needed options
none_needs words needed [] none = All-nil (λ option. Contains words option → Contains words needed)
none_needs words needed (option ∷ options) none = All-cons (λ option. Contains words option → Contains words needed) option options
    (λ given. absurd (All-head (λ option. Contains words option → ⊥) option options none given))
    (none_needs words needed options (All-tail (λ option. Contains words option → ⊥) option options none))

pub need_none : (words : List (List ℕ)) (needed : List ℕ) (options : List (List ℕ)) → (Contains words needed → ⊥) → Need words needed options → Lacks words options
need_none words needed [] missing need = All-nil (λ option. Contains words option → ⊥)
need_none words needed (option ∷ options) missing need = All-cons (λ option. Contains words option → ⊥) option options
    (λ given. missing (All-head (λ option. Contains words option → Contains words needed) option options need given))
    (need_none words needed options missing (All-tail (λ option. Contains words option → Contains words needed) option options need))
