use Rattle.stream_report.proofs.Numbers.{started}
use Rattle.stream_report.proofs.sequence.Window.first.Goals as goal

pub returns : goal.returns
returns c = record { stands = λ first e. started first c.args.seq e }
