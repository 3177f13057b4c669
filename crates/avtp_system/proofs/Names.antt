-- Names of files, copied one after another.
use Rattle.std.proofs.Common.{◌≡◌, ℕ, zero, suc, ◌+◌, ◌<◌, List, [], ◌∷◌, ◌++◌, length, take, get_or, refl, ap, arith, ◌∙◌}
use Rattle.std.specs.Prelude.{String, string_bytes}
use Rattle.std.specs.declared.alloc.Global.{Global}
use Rattle.std.proofs.lemmas.List.{map-append}
use Rattle.option_words.specs.Word.{texts}

names_more : (files : List (String Global)) (i : ℕ) (d : String Global) → i < length files → take i (texts files) ++ string_bytes (get_or files i d) ∷ [] ≡ take (i + 1) (texts files)
names_more [] i d lt = absurd (omega (arith, lt))
names_more (x ∷ files) zero d lt = refl
names_more (x ∷ files) (suc i) d lt =
    let more : suc (i + 1) ≡ suc i + 1 = omega arith in
    ap (λ (ns : List (List ℕ)). string_bytes x ∷ ns) (names_more files i d (omega (arith, lt))) ∙ ap (λ (n : ℕ). take n (texts (x ∷ files))) more

-- one more name was copied
pub copied_one : (copies files : List (String Global)) (copy d : String Global) (i : ℕ) → i < length files → string_bytes copy ≡ string_bytes (get_or files i d)
    → texts copies ≡ take i (texts files) → texts (copies ++ copy ∷ []) ≡ take (i + 1) (texts files)
copied_one copies files copy d i lt same so_far =
    map-append string_bytes copies (copy ∷ []) ∙ ap (λ (ns : List (List ℕ)). ns ++ string_bytes copy ∷ []) so_far
    ∙ ap (λ (n : List ℕ). take i (texts files) ++ n ∷ []) same ∙ names_more files i d lt
