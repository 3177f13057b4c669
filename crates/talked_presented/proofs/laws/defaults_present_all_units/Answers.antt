use Rattle.talked_presented.specs.Whole.{default_listener}
use Rattle.talked_presented.proofs.VideoDefaults.{defaults_hear_units}
use Rattle.talked_presented.proofs.laws.defaults_present_all_units.Goals as goal

pub returns-clause-hears : goal.returns-clause-hears
returns-clause-hears c = defaults_hear_units

pub returns-clause-presented : goal.returns-clause-presented
returns-clause-presented c = λ plan input h. c.whole_video_is_presented.ensures plan input (default_listener plan.id) (defaults_hear_units plan input h)
