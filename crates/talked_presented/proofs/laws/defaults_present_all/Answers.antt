use Rattle.talked_presented.specs.Whole.{default_listener}
use Rattle.talked_presented.proofs.Defaults.{defaults_hear}
use Rattle.talked_presented.proofs.laws.defaults_present_all.Goals as goal

pub returns-clause-hears : goal.returns-clause-hears
returns-clause-hears c = defaults_hear

pub returns-clause-presented : goal.returns-clause-presented
returns-clause-presented c = λ plan input h. c.whole_capture_is_presented.ensures plan input (default_listener plan.id) (defaults_hear plan input h)
