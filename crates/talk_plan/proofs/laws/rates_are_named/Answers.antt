use Rattle.talk_plan.proofs.RateLemmas.{named_fdf, named_rate, stated_interval, known_fdf, known_rate}
use Rattle.talk_plan.proofs.laws.rates_are_named.Goals as goal

pub returns-clause-aaf : goal.returns-clause-aaf
returns-clause-aaf c = λ rate code. ((λ h. (known_rate rate code h).named), named_rate rate code)

pub returns-clause-iec : goal.returns-clause-iec
returns-clause-iec c = λ rate fdf. ((λ h. (known_fdf rate fdf h).named), named_fdf rate fdf)

pub returns-clause-interval : goal.returns-clause-interval
returns-clause-interval c = λ rate fdf e. stated_interval rate fdf e
