-- What holds for the arguments of a program also holds for the arguments that its system shows.
use Rattle.std.proofs.Common.{◌≡◌, ℕ, List, Option, Some, None, subst, refl}
use Rattle.std.specs.Prelude.{IfSome, IsSome}
use Rattle.avtp_base.specs.States.{SinkState}
use Rattle.run_report.specs.declared.status.Status.{Status}
use Rattle.avtp_tool.specs.HasRun.{RefusesWords}

pub said_as : (P : List (List ℕ) → Type 0) (told : Option (List (List ℕ))) (words : List (List ℕ)) → IfSome told (λ said. words ≡ said) → (IsSome told → P words) → IfSome told P
said_as P None words same holds = tt
said_as P (Some said) words same holds = subst P same (holds refl)

-- `RefusesWords` still holds if `still` is weakened to `other`
pub refuses_as : {position : ℕ} {still other : Type 0} {out out' : SinkState} {ended : Status} → RefusesWords position still out out' ended → (still → other) → RefusesWords position other out out' ended
refuses_as refuses weaker = record { whole = refuses.whole; written = refuses.written; grows = refuses.grows; kept = weaker refuses.kept; write = refuses.write; not_write = refuses.not_write }
