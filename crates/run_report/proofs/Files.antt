-- Files that a shelf shows, before and after calls that only read.
use Rattle.std.proofs.Common.{Option, Some, None, refl, ℕ, List, sym, ◌∙◌, ◌≡◌, ap}
use Rattle.std.specs.Prelude.{IsSome}
use Rattle.avtp_base.specs.Files.{Files, KeepsFiles, IsMissing}

-- ---- files that are shown

-- if a shelf shows its files now, it showed them before
pub shown_before : (o o' : Option Files) → KeepsFiles o o' → IsSome o' → IsSome o
shown_before None None keeps some = some
shown_before None (Some new) keeps some = absurd keeps
shown_before (Some old) o' keeps some = refl

-- a file that is missing now was missing before
pub missing_before : (o o' : Option Files) (name : List ℕ) → KeepsFiles o o' → IsMissing o' name → IsMissing o name
missing_before o None name keeps missing = absurd missing
missing_before None (Some new) name keeps missing = absurd keeps
missing_before (Some old) (Some new) name keeps missing = sym (keeps name) ∙ missing

-- if the shelf still shows its files, these files are unchanged
pub shown_still : (o o' : Option Files) (files : Files) → o ≡ Some files → KeepsFiles o o' → IsSome o' → (other : Files) × (o' ≡ Some other) × ((name : List ℕ) → other name ≡ files name)
shown_still o None files told keeps some = absurd cc
shown_still None (Some new) files told keeps some = absurd keeps
shown_still (Some old) (Some new) files told keeps some = (new, refl, λ name. keeps name ∙ ap (λ (f : Files). f name) (some_is old files told)) where
  some_is : (x y : Files) → Some x ≡ Some y → x ≡ y
  some_is x y e = cc
