use Rattle.std.proofs.Common.{Ok, take, flat_map}
use Rattle.avtp_text.specs.Listen.{shown_lines}
use Rattle.avtp_text.specs.Written.{PrintsPart}
use Rattle.avtp_text.proofs.buffer.Text.shown_list.Given as goal

abbrev pub invariant-loop-shown : goal.invariant-loop-shown
invariant-loop-shown g l =
    PrintsPart (g.S.Sink.state l.fn.out) (g.S.Sink.state l.out) l.fn.self l.self (Ok tt) (flat_map shown_lines (take l.shown-index l.fn.list))
