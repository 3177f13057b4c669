-- If the words of a `talk` command line lack an option, the words do not ask for what the option gives.
use Rattle.std.proofs.Common.{◌≡◌, ℕ, inl, inr, List, [], ◌∷◌, drop, flat_map, Option, Some, None, MatchOption, Contains, codes, arith, ap, subst, sym, refl, Bool}
use Rattle.std.specs.Str.{bytes_eq}
use Rattle.std.proofs.lemmas.Bool.{cases_Bool}
use Rattle.std.proofs.lemmas.List.Elements.{Contains-append_left, Contains-append_right}
use Rattle.avtp_words.specs.declared.crf.Crf.{Crf}
use Rattle.avtp_words.specs.declared.talk.Kind.TheVariants.{H264}
use Rattle.avtp_words.specs.Grammar.{FitsOptions, SaysClock, SaysTalk, Talking}
use Rattle.option_words.specs.Number.{IsNumber}
use Rattle.option_words.specs.Options.{Setting, value_in, words_of}
use Rattle.option_words.proofs.Settings.{same-true}

-- if an option has a value, the option's name is among the words
has_value : (gs : List Setting) (name word : List ℕ) → value_in name gs ≡ Some word → Contains (flat_map words_of gs) name
has_value [] name word e = absurd cc
has_value (g ∷ gs) name word e = elim (cases_Bool (bytes_eq g.name name)) [
  | inl here ↦ Contains-append_left (words_of g) (flat_map words_of gs) name (0, omega arith, same-true g.name name here)
  | inr other ↦ Contains-append_right (words_of g) (flat_map words_of gs) name (has_value gs name word (rw other at e))
]

without : (words : List (List ℕ)) (asked : Talking) (says : SaysTalk words asked) (name : List ℕ) → (Contains (drop 1 words) name → ⊥) → value_in name says.settings ≡ None
without words asked says name lacks = go (value_in name says.settings) refl where
  go : (v : Option (List ℕ)) → value_in name says.settings ≡ v → v ≡ None
  go None e = refl
  go (Some word) e = absurd (lacks (subst (λ ws. Contains ws name) (sym (ap (drop 1) says.line.spelled))
      (Contains-append_left (flat_map words_of says.settings) (asked.input ∷ asked.output ∷ []) name (has_value says.settings name word e))))

-- words that ask for H.264 ask for no restarts
pub video_restart : (words : List (List ℕ)) (asked : Talking) (last_stamp : Bool) → SaysTalk words asked → FitsOptions (H264 last_stamp) (drop 1 words) → asked.restart ≡ None
video_restart words asked last_stamp says fits =
    subst (λ v. MatchOption v (asked.restart ≡ None) (λ word. (n : ℕ) × (asked.restart ≡ Some n) × IsNumber 8 1000000000 word n)) (without words asked says (codes "--restart") (fits.kind_has 4 [] (omega arith))) says.restart

no_clock : (gs : List Setting) (rate : ℕ) (crf : Option Crf) → value_in (codes "--crf") gs ≡ None → SaysClock gs rate crf → crf ≡ None
no_clock gs rate None none says = refl
no_clock gs rate (Some crf) none says = absurd (let id : Some crf.id ≡ None = rw none at says.id in cc)

-- words that ask for H.264 ask for no media clock
pub video_clock : (words : List (List ℕ)) (asked : Talking) (last_stamp : Bool) → SaysTalk words asked → FitsOptions (H264 last_stamp) (drop 1 words) → asked.crf ≡ None
video_clock words asked last_stamp says fits = no_clock says.settings asked.rate asked.crf (without words asked says (codes "--crf") (fits.kind_has 6 [] (omega arith))) says.crf
