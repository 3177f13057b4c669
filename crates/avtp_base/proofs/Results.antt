-- The branch of a `match` that is taken for a given result. An option that is not `Some` is `None`.
use Rattle.std.proofs.Common.{◌≡◌, true, false, Option, Some, None, Result, Ok, Err, refl}
use Rattle.std.specs.Prelude.{is_err, is_some, MatchResult}

pub wrong_match : {T E : Type 0} (result : Result T E) (A B : Type 0) → is_err result ≡ true → MatchResult result (λ _. A) (λ _. B) → B
wrong_match (Ok x) A B failed on = absurd cc
wrong_match (Err e) A B failed on = on

pub fine_match : {T E : Type 0} (result : Result T E) (A B : Type 0) → is_err result ≡ false → MatchResult result (λ _. A) (λ _. B) → A
fine_match (Ok x) A B fine on = on
fine_match (Err e) A B fine on = absurd cc

pub not_some : {X : Type 0} (o : Option X) → is_some o ≡ false → o ≡ None
not_some None e = refl
not_some (Some x) e = absurd cc
