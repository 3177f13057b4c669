use Rattle.sample_schedule.proofs.Presentable.{presentable-clock}
use Rattle.sample_schedule.proofs.laws.clock_lines_can_be_presented.Goals as goal

pub returns : goal.returns
returns c = presentable-clock
