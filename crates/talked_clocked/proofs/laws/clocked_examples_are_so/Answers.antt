use Rattle.talked_clocked.proofs.Examples.{blocking_fits, clock_fits}
use Rattle.talked_clocked.proofs.laws.clocked_examples_are_so.Goals as goal

pub returns-clause-pcm : goal.returns-clause-pcm
returns-clause-pcm c = clock_fits

pub returns-clause-am824 : goal.returns-clause-am824
returns-clause-am824 c = blocking_fits
