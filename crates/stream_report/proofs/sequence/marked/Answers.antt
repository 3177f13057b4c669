use Rattle.stream_report.proofs.Bits.{marks}
use Rattle.stream_report.proofs.sequence.marked.Goals as goal

pub returns-then-from-lt-KNOWN : goal.returns-then-from-lt-KNOWN
returns-then-from-lt-KNOWN c small = marks c.args.came c.args.behind small
