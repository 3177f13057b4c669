-- A test that chooses between two values.
use Rattle.std.proofs.Common.{◌≡◌, ℕ, ◌≤◌, Bool, true, false, nat_lt, if◌then◌else◌, Option, Some, arith}
use Rattle.std.proofs.lemmas.Bool.Decides.{nat_tests}
use Rattle.avtp_base.specs.declared.refusal.Refusal.{Refusal}

pub by_place : (b : Bool) (r : Refusal) (f g x : Option Refusal) → (if b then Some r else f) ≡ x → (f ≡ x → g ≡ x) → (if b then Some r else g) ≡ x
by_place true r f g x e h = e
by_place false r f g x e h = h e

pub long_enough : {X : Type 0} (n m : ℕ) (x y : X) → m ≤ n → (if nat_lt n m then x else y) ≡ y
long_enough n m x y h = grind (arith, nat_tests)
