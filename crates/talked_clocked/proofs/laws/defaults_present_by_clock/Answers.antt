use Rattle.talked_clocked.specs.Clocked.{clocked_listener}
use Rattle.talked_clocked.proofs.ClockedCapture.{default_hears}
use Rattle.talked_clocked.proofs.laws.defaults_present_by_clock.Goals as goal

pub returns-clause-hears : goal.returns-clause-hears
returns-clause-hears c = default_hears

pub returns-clause-presented : goal.returns-clause-presented
returns-clause-presented c = λ plan crf input h. c.clocked_capture_is_presented.ensures plan crf input (clocked_listener plan.id crf.id) (default_hears plan crf input h)
