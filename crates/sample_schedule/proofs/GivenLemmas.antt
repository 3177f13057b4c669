-- A list of shown items that is the beginning of another list.
use Rattle.std.proofs.Common.{◌≡◌, List, [], ◌∷◌, ◌++◌, length, Some, None, refl, sym, ap, ◌∙◌, append_assoc, append-nil}
use Rattle.std.specs.Prelude.{slice_get}
use mathlib.Core.List.{IsPrefix}
use Rattle.sample_schedule.specs.declared.shown.Shown.{Shown}

pub get-after : (xs t : List Shown) → slice_get (xs ++ t) (length xs) ≡ slice_get t 0
get-after [] t = refl
get-after (x ∷ xs) t = get-after xs t

pub prefix-more : (xs zs : List Shown) (x : Shown) → IsPrefix xs zs → slice_get zs (length xs) ≡ Some x → IsPrefix (xs ++ x ∷ []) zs
prefix-more xs zs x p e = of p.0 p.1
  where
    of : (t : List Shown) → xs ++ t ≡ zs → IsPrefix (xs ++ x ∷ []) zs
    of [] same = absurd (let h : None ≡ Some x = sym (get-after xs []) ∙ ap (λ (l : List Shown). slice_get l (length xs)) same ∙ e in cc)
    of (y ∷ t) same =
        let h : Some y ≡ Some x = sym (get-after xs (y ∷ t)) ∙ ap (λ (l : List Shown). slice_get l (length xs)) same ∙ e in
        let f : y ≡ x = cc in
        (t, append_assoc xs (x ∷ []) t ∙ ap (λ (z : Shown). xs ++ z ∷ t) (sym f) ∙ same)

pub prefix-all : (xs zs : List Shown) → IsPrefix xs zs → slice_get zs (length xs) ≡ None → xs ≡ zs
prefix-all xs zs p e = of p.0 p.1
  where
    of : (t : List Shown) → xs ++ t ≡ zs → xs ≡ zs
    of [] same = sym (append-nil xs) ∙ same
    of (y ∷ t) same = absurd (let h : Some y ≡ None = sym (get-after xs (y ∷ t)) ∙ ap (λ (l : List Shown). slice_get l (length xs)) same ∙ e in cc)
