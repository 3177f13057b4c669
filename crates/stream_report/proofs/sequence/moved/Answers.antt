use Rattle.std.proofs.Common.{arith}
use Rattle.stream_report.proofs.Bits.{moves-near, moves-far}
use Rattle.stream_report.proofs.sequence.moved.Goals as goal

pub returns-then-ahead-lt-KNOWN : goal.returns-then-ahead-lt-KNOWN
returns-then-ahead-lt-KNOWN c least = moves-near c.args.came c.args.ahead least c.if-ahead-lt-KNOWN.true

pub returns-else-ahead-lt-KNOWN : goal.returns-else-ahead-lt-KNOWN
returns-else-ahead-lt-KNOWN c least = moves-far c.args.came c.args.ahead (omega (arith, c.if-ahead-lt-KNOWN.false))
