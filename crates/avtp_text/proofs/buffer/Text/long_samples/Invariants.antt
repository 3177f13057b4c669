use Rattle.std.proofs.Common.{Ok, flat_map}
use Rattle.std.specs.List.{range_with_len}
use Rattle.avtp_text.specs.Listen.{sample_line}
use Rattle.avtp_text.specs.Written.{PrintsPart}
use Rattle.avtp_text.proofs.buffer.Text.long_samples.Given as goal

abbrev pub invariant-loop-j : goal.invariant-loop-j
invariant-loop-j g l =
    PrintsPart (g.S.Sink.state l.fn.out) (g.S.Sink.state l.out) l.fn.self l.self (Ok tt) (flat_map (sample_line l.fn.batch) (range_with_len 0 l.j))
