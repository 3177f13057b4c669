use Rattle.std.proofs.Common.{arith}
use Rattle.talk_plan.proofs.BeatLemmas.{covered, covering, exact, joined, not_earlier_run, not_later_run, renewed, steady}
use Rattle.talk_plan.proofs.laws.clocks_keep_time.Goals as goal

pub returns-clause-steady : goal.returns-clause-steady
returns-clause-steady c = λ b start is. record { even = λ m. joined b start m is; steady = λ m. steady b start m is }

pub returns-clause-renewed : goal.returns-clause-renewed
returns-clause-renewed c = λ b start m next is far. omega (arith, renewed b start m next is far)

pub returns-clause-one : goal.returns-clause-one
returns-clause-one c = λ b start m e is. ((λ covers. covering b start m e is covers), (λ at. covered b start m e is at))

pub returns-clause-exact : goal.returns-clause-exact
returns-clause-exact c = λ b start m e is own covers. exact b start m e is covers own

pub returns-clause-apart : goal.returns-clause-apart
returns-clause-apart c = λ b start events next is far. record {
  no_earlier = λ m e within covers. not_earlier_run b start events next m e is far within covers;
  no_later = λ m e within covers. not_later_run b start events next m e is far within covers;
}
